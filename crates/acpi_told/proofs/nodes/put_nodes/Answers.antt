use Rattle.std.proofs.Common.{◌≡◌, ◌+◌, List, slice_set, subst, ap, sym, ◌∙◌}
use Rattle.acpi_told.specs.Nodes.{node_at}
use Rattle.acpi_told.proofs.PlacedInTurn.{ArePlaced, next_placed}
use Rattle.acpi_told.proofs.nodes.put_nodes.Goals as goal

pub loop-place-preserved : goal.loop-place-preserved
loop-place-preserved g c =
    let told = g.P.OnNode.told in
    let placed = g.P.OnNode.placed in
    let part = c.get.result.now in
    let now : List g.row.P.Denot = c.set.new.self in
    let next : List g.row.P.Denot = slice_set c.loop-place.parts c.loop-place.place (placed part (node_at told c.args.entries.now c.loop-place.place part)) in
    let put : now ≡ next = c.set.ensures ∙ ap (slice_set c.loop-place.parts c.loop-place.place) (c.on.ensures ∙ ap (placed part) c.node_at-node.ensures) in
    subst (ArePlaced told placed c.args.entries.now c.args.parts.now (c.loop-place.place + 1)) (sym {a = now} {b = next} put)
    (next_placed told placed c.args.entries.now c.args.parts.now c.loop-place.place c.loop-place.parts part c.get.ensures c.loop-place.invariant)
