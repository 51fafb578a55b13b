-- `one_more` meets its contract.
use Rattle.charge_loads.proofs.Listed.{more_unfit, more_full, more_on}
use mathlib.Core.Path.{ap}
use mathlib.Core.Bool.{not}
use Rattle.charge_loads.proofs.listing.one_more.Goals as goal

pub returns-then-not-load_suits : goal.returns-then-not-load_suits
returns-then-not-load_suits c = more_unfit _ _ c.load_suits.ensures (ap not c.if-not-load_suits.true)

pub returns-then-nets-ge-NO_CIRCUIT : goal.returns-then-nets-ge-NO_CIRCUIT
returns-then-nets-ge-NO_CIRCUIT c = more_full _ _ c.load_suits.ensures (ap not c.if-not-load_suits.false) c.if-nets-ge-NO_CIRCUIT.true

pub returns : goal.returns
returns c = more_on _ _ c.load_suits.ensures (ap not c.if-not-load_suits.false) c.if-nets-ge-NO_CIRCUIT.false
