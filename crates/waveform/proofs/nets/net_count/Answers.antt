-- `waveform::nets::net_count` meets its contract. An accepted circuit has few nets, so the sum fits.
use native.Mathlib.Omega.{arith}
use Rattle.waveform.proofs.Answering.{nets_read_lem, nets_few, nets_none}
use Rattle.waveform.proofs.nets.net_count.Goals as goal

pub overflow_add-result : goal.overflow_add-result
overflow_add-result c = omega (arith, nets_few _ c.in-Ok.ensures)

pub returns-in-Ok : goal.returns-in-Ok
returns-in-Ok c = nets_read_lem _ c.in-Ok.ensures

pub returns-in-Err : goal.returns-in-Err
returns-in-Err c = nets_none _ c.in-Err.ensures
