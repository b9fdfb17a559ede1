use Rattle.load_states.specs.LoadState.{begun_with}
use Rattle.test_events.proofs.KeptOver.{kept_over_two}
use Rattle.test_events.proofs.resets.keeps_over_two.Goals as goal

pub returns : goal.returns
returns g c =
    let A = g.A.ZoneAlloc in
    kept_over_two {A = g.row.A.Denot} A.state A.gives (A.state c.args.place.now).begun (A.state c.step.new.place).begun
    (A.state c.step-2.new.place).begun (begun_with c.args.items 0x4000000 0xA5) c.args.first c.args.second c.begin.new.self.load c.step.new.self.load
    c.step-2.new.self.load c.in_ok-begin.ensures.kept c.step.ensures.first c.step.ensures.begun c.step-2.ensures.kept c.step-2.ensures.begun
