-- The list is searched from place i on, and the expectation there from frame k on: what that gives is what the whole search
-- gives.
use Rattle.std.proofs.Common.{get_or, ◌≡◌}
use Rattle.method.specs.Layout.{frame_count}
use Rattle.expectations.specs.Steps.{searched}
use Rattle.expectations.proofs.Turns.{nought, from_place, from_frame}
use Rattle.expectations.proofs.search.first_unmet.Given as goal

abbrev pub invariant-loop-i : goal.invariant-loop-i
invariant-loop-i l = from_place l.directory l.times l.values l.list l.i ≡ searched l.directory l.times l.values l.list

abbrev pub invariant-loop-k : goal.invariant-loop-k
invariant-loop-k l =
    from_frame l.directory l.times l.values l.list l.i (frame_count l.directory (get_or l.list l.i nought).net.0) l.k ≡ searched l.directory l.times l.values l.list
