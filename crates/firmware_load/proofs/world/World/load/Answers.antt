use Rattle.std.proofs.Common.{List, Bool}
use Rattle.command_acts.specs.Script.{IsAsked}
use Rattle.load_states.specs.LoadState.{LoadState, memory_of}
use Rattle.firmware_load.specs.World.{TouchesByPlan}
use Rattle.firmware_load.proofs.LoadStates.{of_world}
use Rattle.firmware_load.proofs.world.World.load.Goals as goal

pub returns-clause-no_room : goal.returns-clause-no_room
returns-clause-no_room g c = λ index is.
    let said = c.load.ensures.no_room index is in (
      said.0,
      of_world (λ (w : LoadState) (touched : List Bool). IsAsked w.attached.device.items index (g.A.ZoneAlloc.state c.load.new.place).refused) c.args.self.now
          c.self.inside.loading c.in-Some.loading c.self.view_is c.in-Some.is said.1,
    )

pub returns-clause-touches : goal.returns-clause-touches
returns-clause-touches g c =
    of_world (λ (w : LoadState) (touched : List Bool). TouchesByPlan (memory_of w).top (g.C.Schedule.plan c.args.plan.now).left
    (g.C.Schedule.plan c.load.new.plan).left (g.A.ZoneAlloc.state c.load.new.place).handed touched c.load.new.self.guest.memory.touched) c.args.self.now
    c.self.inside.loading c.in-Some.loading c.self.view_is c.in-Some.is c.load.ensures.touches
