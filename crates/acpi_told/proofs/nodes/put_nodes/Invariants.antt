use Rattle.acpi_told.proofs.PlacedInTurn.{ArePlaced}
use Rattle.acpi_told.proofs.nodes.put_nodes.Given as goal

abbrev pub invariant-loop-place : goal.invariant-loop-place
invariant-loop-place g l = ArePlaced g.P.OnNode.told g.P.OnNode.placed l.entries l.fn.parts l.place l.parts
