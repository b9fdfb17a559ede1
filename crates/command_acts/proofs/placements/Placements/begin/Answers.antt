use Rattle.std.proofs.Common.{arith, ◌∙◌}
use Rattle.command_acts.proofs.Placings.{none_placed}
use Rattle.command_acts.proofs.placements.Placements.begin.Goals as goal

pub returns-clause-are : goal.returns-clause-are
returns-clause-are c =
    none_placed
    (record { infos = c.args.infos; places = c.in_ok-places.places; placed = c.in_ok-placed.placed; order = c.in_ok-order.order }) c.len.result
    c.in_ok-places.ensures (c.len.ensures ∙ c.args.infos.ok.0) c.in_ok-placed.ensures.items
    (omega (arith, c.in_ok-placed.ensures.capacity, c.len-2.ensures, c.args.infos.ok.0)) (rw c.deref.ensures.value at c.in_ok-order.ensures)
