-- A function that gives up all its parameters: at exit it has of each what its contract says of the last value, and no
-- more. So what a callee says of a parameter that was passed on is had as it was said, and of a parameter that is only
-- read nothing is had.
--     stays            that, for the parameters of a function.        go_all     the law that the logic's `walk_Meets` asks
--     all_fit          nothing is owed of the last values
-- Assumes `Logic` in `go_all`.
use Prim.Native.Nat.{ℕ}
use mathlib.Core.List.{List, [], ◌∷◌}
use seplogic.Ra.Ura.{Ura}
use types.Logic.{Logic}
use contract.Lifetimes.{Lfts}
use denote.RattleType.{Denots}
use denote.Signature.{Slot, types_at}
use denote.Exit.{Kept, left}
use denote.Triple.End.{Kepts, Fins}
use denote.Triple.Walked.{Stay, Stays, fits_of, AllGo}

module _ {n : ℕ} where
  abbrev as_said : (s : Slot n) (k : Kept) → Stay s k
  as_said s k = record { fit = λ κs x f. Unit {0}; has = λ κs x f vs. left ((s.row κs).exit k) x f }

  abbrev pub stays : (ss : List (Slot n)) (ks : Kepts ss) → Stays ss ks
  stays [] ks = tt
  stays (s ∷ ss) ks = (as_said s ks.0, stays ss ks.1)

  pub all_fit : (κs : Lfts n) (ss : List (Slot n)) (ks : Kepts ss) (a : Denots (types_at ss κs)) (ws : Fins κs ss ks a) → fits_of κs ss ks (stays ss ks) a ws
  all_fit κs [] ks a ws = tt
  all_fit κs (s ∷ ss) ks a ws = (tt, all_fit κs ss ks.1 a.1 ws.1)

pub go_all : {M : Type 1} {𝓤 : Ura M} (𝓛 : Logic 𝓤) (n : ℕ) (ss : List (Slot n)) (ks : Kepts ss) → AllGo 𝓛 n ss ks (stays ss ks)
go_all 𝓛 n [] ks = tt
go_all 𝓛 n (s ∷ ss) ks = ((λ κs x f vs fits. 𝓛.laws.⇛_intro _), go_all 𝓛 n ss ks.1)
