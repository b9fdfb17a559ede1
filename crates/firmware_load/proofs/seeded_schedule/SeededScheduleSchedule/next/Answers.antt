use Rattle.std.proofs.Common.{ℕ, ◌-◌, ◌∷◌, sym, ap, ap₂, ◌∙◌}
use Rattle.rand_pcg.specs.Lcg.{Lcg}
use Rattle.load_states.specs.declared.event.Event.{Event}
use Rattle.firmware_load.specs.Drawing.{events_left}
use Rattle.firmware_load.proofs.Given.{none_left, one_left, seeded_plan}
use Rattle.firmware_load.proofs.seeded_schedule.SeededScheduleSchedule.next.Goals as goal

pub returns-then-self-eq0-clause-end : goal.returns-then-self-eq0-clause-end
returns-then-self-eq0-clause-end c =
    sym c.self.view_is ∙ ap (λ (count : ℕ). events_left c.self.inside.resets count c.self.inside.words) c.if-self-eq0.true
    ∙ none_left c.self.inside.resets c.self.inside.words

pub returns-clause-taken : goal.returns-clause-taken
returns-clause-taken c =
    let inside = c.self.inside in
    ap seeded_plan
    (sym c.self.view_is ∙ one_left inside.resets inside.to_draw inside.words c.if-self-eq0.false
    ∙ ap₂ (λ (event : Event) (words : Lcg). event ∷ events_left inside.resets (inside.to_draw - 1) words) (sym c.take_event-event.ensures.event)
    (sym c.take_event-event.ensures.words))
