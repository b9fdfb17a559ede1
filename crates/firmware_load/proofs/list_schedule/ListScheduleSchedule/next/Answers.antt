use Rattle.std.proofs.Common.{List, sym, ap, ◌∙◌}
use Rattle.load_states.specs.declared.event.Event.{Event}
use Rattle.firmware_load.proofs.Given.{item_left, listed_plan}
use Rattle.firmware_load.proofs.list_schedule.ListScheduleSchedule.next.Goals as goal

pub returns-clause-taken : goal.returns-clause-taken
returns-clause-taken c =
    ap listed_plan (sym c.self.view_is)
    ∙ ap (λ (left : List Event). listed_plan (record { events = c.self.inside.events; left = left }))
    (item_left c.self.inside.events c.self.inside.taken c.get-event.result.now c.get-event.ensures)
