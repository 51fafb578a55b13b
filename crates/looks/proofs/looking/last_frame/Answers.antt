-- `looks::looking::last_frame` meets its contract. It is the one before the first later frame.
use native.Mathlib.Omega.{arith}
use Rattle.looks.proofs.Seeing.{found, found_within}
use Rattle.looks.proofs.looking.last_frame.Goals as goal

pub overflow_cast-result : goal.overflow_cast-result
overflow_cast-result c = omega (arith, found_within c.args.times.now c.args.time.0 c.requires.0 c.first_above-later.ensures, c.requires.1)

pub returns : goal.returns
returns c = found c.args.times.now c.args.time.0 c.requires.0 c.first_above-later.ensures
