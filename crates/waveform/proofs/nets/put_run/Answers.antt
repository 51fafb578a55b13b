-- `waveform::put_run` meets its contract. Run's answer is printed: its number, or the lines that its areas hold.
use mathlib.Core.Path.{ap, ◌∙◌}
use Rattle.text.specs.Text.{refusal}
use Rattle.text.proofs.Putting.{wrote_as}
use Rattle.waveform.proofs.Answering.{run_refused, run_lines}
use Rattle.waveform.proofs.nets.put_run.Goals as goal

pub returns-in-Err : goal.returns-in-Err
returns-in-Err c = wrote_as _ _ (ap refusal c.from.ensures ∙ run_refused _ _ _ c.in-Err.ensures) c.put_refused.ensures

pub returns-in-Ok : goal.returns-in-Ok
returns-in-Ok c = wrote_as _ _ (run_lines _ _ _ c.in-Ok.ensures c.net_count.ensures) c.put_nets.ensures
