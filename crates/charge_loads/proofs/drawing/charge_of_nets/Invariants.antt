-- A place i in the list of loads, and a total which with what the nets from there on draw makes the whole.
use Rattle.std.proofs.Common.{◌≡◌}
use Rattle.charge_loads.specs.Charges.{drawn_by_nets}
use Rattle.charge_loads.specs.Steps.{parts_in}
use Rattle.charge_loads.proofs.Added.{total_from}
use Rattle.charge_loads.proofs.drawing.charge_of_nets.Given as goal

abbrev pub invariant-loop-i : goal.invariant-loop-i
invariant-loop-i l = drawn_by_nets (parts_in l.directory l.values l.lane) l.loads ≡ total_from (parts_in l.directory l.values l.lane) l.loads l.i l.total
