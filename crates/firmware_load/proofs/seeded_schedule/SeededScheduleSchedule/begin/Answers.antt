use Rattle.std.proofs.Common.{◌≡◌, ℕ, ◌^◌, leb, ap, ◌∙◌}
use Rattle.firmware_load.specs.Drawing.{events_left}
use Rattle.firmware_load.specs.Schedules.{seeded_events}
use Rattle.firmware_load.proofs.OfSeed.{none_drawn, all_drawn}
use Rattle.firmware_load.proofs.Given.{seed_has, seeded_plan}
use Rattle.firmware_load.proofs.seeded_schedule.SeededScheduleSchedule.begin.Goals as goal
use Rattle.firmware_load.proofs.seeded_schedule.SeededScheduleSchedule.begin.Goals.{then-seed-eq0, else-seed-eq0}

pub returns-clause-plan : goal.returns-clause-plan
returns-clause-plan c =
    let resets = leb (2 ^ 63) c.args.seed in
    let left : events_left resets c.if-seed-eq0.self c.seed_from_u64-self-inside.result ≡ seeded_events c.args.seed =
    elim c.if-seed-eq0.branch [
      | then-seed-eq0 w ↦
          ap (λ (count : ℕ). events_left resets count c.seed_from_u64-self-inside.result) w.self-is
          ∙ none_drawn c.args.seed resets c.seed_from_u64-self-inside.result w.if-seed-eq0.true
      | else-seed-eq0 w ↦
          ap (λ (count : ℕ). events_left resets count c.seed_from_u64-self-inside.result) w.self-is
          ∙ all_drawn c.args.seed c.seed_from_u64-self-inside.result w.if-seed-eq0.false c.seed_from_u64-self-inside.ensures
    ] in
    ap seeded_plan (left ∙ seed_has c.args.seed (seeded_events c.args.seed) c.ranges.seed.fits)
