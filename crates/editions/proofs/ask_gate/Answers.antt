-- `editions::ask_gate` meets its contract. At each return the tests that led there pick the ladder's case.
use mathlib.Core.Path.{refl, sym, ◌∙◌, ap}
use mathlib.Core.Bool.{not}
use Rattle.method.proofs.Refused.{number_is, number_beyond}
use Rattle.editions.proofs.Kinded.{kind_is, kind_within}
use Rattle.editions.proofs.Gated.{kind_read, read_7, read_8, read_9, no_6, no_7, no_8, no_9, none_9}
use Rattle.editions.proofs.Lying.{list_lies}
use Rattle.editions.proofs.ask_gate.Goals as goal

pub returns-in_default : goal.returns-in_default
returns-in_default c = no_6 _ _ _ (kind_read _ _ c.offset_of-start.ensures refl) (number_beyond c.try_from.ensures c.in_default.is)

pub returns-then-not-delays_suit : goal.returns-then-not-delays_suit
returns-then-not-delays_suit c = no_7 _ _ _ (kind_read _ _ c.offset_of-start.ensures refl) (kind_within c.try_from.ensures c.in-Ok.is) (read_7 _ _ _ c.gate_at-gate.ensures c.delays_suit.ensures) (ap not c.if-not-delays_suit.true)

pub returns-then-not-length_suits : goal.returns-then-not-length_suits
returns-then-not-length_suits c = no_8 _ _ _ (kind_read _ _ c.offset_of-start.ensures refl) (kind_within c.try_from.ensures c.in-Ok.is) (read_7 _ _ _ c.gate_at-gate.ensures c.delays_suit.ensures) (ap not c.if-not-delays_suit.false) (read_8 _ _ _ c.gate_at-gate.ensures _ (kind_is _ _ (number_is c.try_from.ensures c.in-Ok.is)) c.length_of.ensures c.length_suits.ensures) (ap not c.if-not-length_suits.true)

pub fanins_below-requires : goal.fanins_below-requires
fanins_below-requires c = rw c.gate_at-gate.ensures (list_lies c.args.edition c.args.file.now c.args.j c.requires.1 _ (sym (read_8 _ _ _ c.gate_at-gate.ensures _ (kind_is _ _ (number_is c.try_from.ensures c.in-Ok.is)) c.length_of.ensures c.length_suits.ensures) ∙ c.if-not-length_suits.false))

pub returns-then-not-fanins_below : goal.returns-then-not-fanins_below
returns-then-not-fanins_below c = no_9 _ _ _ (kind_read _ _ c.offset_of-start.ensures refl) (kind_within c.try_from.ensures c.in-Ok.is) (read_7 _ _ _ c.gate_at-gate.ensures c.delays_suit.ensures) (ap not c.if-not-delays_suit.false) (read_8 _ _ _ c.gate_at-gate.ensures _ (kind_is _ _ (number_is c.try_from.ensures c.in-Ok.is)) c.length_of.ensures c.length_suits.ensures) (ap not c.if-not-length_suits.false) (read_9 _ _ _ c.gate_at-gate.ensures c.requires.0 c.fanins_below.ensures) (ap not c.if-not-fanins_below.true)

pub returns : goal.returns
returns c = none_9 _ _ _ (kind_read _ _ c.offset_of-start.ensures refl) (kind_within c.try_from.ensures c.in-Ok.is) (read_7 _ _ _ c.gate_at-gate.ensures c.delays_suit.ensures) (ap not c.if-not-delays_suit.false) (read_8 _ _ _ c.gate_at-gate.ensures _ (kind_is _ _ (number_is c.try_from.ensures c.in-Ok.is)) c.length_of.ensures c.length_suits.ensures) (ap not c.if-not-length_suits.false) (read_9 _ _ _ c.gate_at-gate.ensures c.requires.0 c.fanins_below.ensures) (ap not c.if-not-fanins_below.false)
