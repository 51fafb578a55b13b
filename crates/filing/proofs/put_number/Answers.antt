-- `filing::put_number` meets its contract. The low byte, then the high one.
use native.Mathlib.Omega.{arith}
use Rattle.filing.proofs.Putting.{put_none, put_two}
use Rattle.filing.proofs.put_number.Goals as goal

pub returns-then-area-at : goal.returns-then-area-at
returns-then-area-at c = put_none _ _ _ c.if-area-at.true

pub returns : goal.returns
returns c = put_two _ _ _ (omega arith) c.to_le_bytes.ensures c.put_byte.ensures c.put_byte-2.ensures
