-- Levels hold after every accepted run, whichever call it was. Begin and end are read off the times alone.
-- Assumes nothing.
use Prim.Native.Nat.{ℕ, suc}
use mathlib.Core.Path.{◌≡◌, sym, ap, ◌∙◌}
use mathlib.Core.List.{List, map}
use lib.ListN.{get_or, drop}
use Rattle.lists.specs.Ladder.{first_no, accepted}
use Rattle.lists.proofs.Ladders.{accepted_none}
use Rattle.method.specs.Indices.{last_frame}
use Rattle.method.specs.Words.{lane}
use Rattle.looks.specs.Sight.{Sight, end_by, sight_at, sight}
use Rattle.looks.specs.Look.{look_questions, level_of}
use Rattle.demands.specs.Spans.{Spans}
use Rattle.demands.proofs.Holding.{past_run, two_alike}

module _ (times values : List ℕ) (L t : ℕ) {s : Sight} (e : level_of times values L t ≡ accepted s) where
  is_sight : sight times (map (lane L) values) t ≡ s
  unfolding level_of
  is_sight = (accepted_none (first_no (look_questions times values L)) (sight times (map (lane L) values) t) e).1

  began_is : get_or times (last_frame times t) 0 ≡ s.began
  unfolding sight sight_at
  began_is = ap (λ (x : Sight). x.began) is_sight

  end_is : end_by (drop (suc (last_frame times t)) times) ≡ s.end
  unfolding sight sight_at
  end_is = ap (λ (x : Sight). x.end) is_sight

pub spans : Spans
spans =
    record {
      holds = λ task w left r n L t h l u. (past_run task w left r).sight_holds n L t h l;
      by_number = λ task w left r. (past_run task w left r).frame_is_level;
      by_times = λ times values values' L L' t s s' e e'.
          (sym (began_is times values L t e) ∙ began_is times values' L' t e', sym (end_is times values L t e) ∙ end_is times values' L' t e');
      alike = λ L task w left task' w' left' two n t h u. (two_alike L task w left task' w' left' two).same_sight n t h;
    }
