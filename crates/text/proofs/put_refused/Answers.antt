-- `put_refused` meets its contract. It is its pieces one behind the other.
use Rattle.text.proofs.Spelling.{refusal_put}
use Rattle.text.proofs.put_refused.Goals as goal

pub returns : goal.returns
returns c = refusal_put _ c.put_all-a.ensures c.put_number-b.ensures c.put_newline.ensures
