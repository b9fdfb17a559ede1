use Rattle.std.proofs.Common.{sym, ◌∙◌}
use Rattle.command_acts.specs.Allocators.{MayAnswer}
use Rattle.command_acts.specs.Runs.{Answers}
use Rattle.command_acts.proofs.Goes.{answers_are_lawful}
use Rattle.load_states.specs.Runs.{StepsTo}
use Rattle.firmware_load.specs.Inside.{load_of}
use Rattle.firmware_load.proofs.Given.{left_taken, left_ended}
use Rattle.firmware_load.proofs.OnRun.{follows_more, follows_all, asks_through, step_asks}
use Rattle.firmware_load.proofs.Touching.{taken_more, taken_all}
use Rattle.firmware_load.proofs.loading.Loading.follow.Goals as goal

pub step-requires-clause-zones : goal.step-requires-clause-zones
step-requires-clause-zones g c =
    rw (c.loop-plan.invariant.begun, (c.loop-plan.invariant.asks c.requires.inside.0 c.requires.inside.1).top) c.requires.zones

pub loop-plan-preserved : goal.loop-plan-preserved
loop-plan-preserved g c =
    let state = c.loop-plan in
    let alloc = g.A.ZoneAlloc.state c.args.place.now in
    let alloc_then = g.A.ZoneAlloc.state state.place in
    let alloc_now = g.A.ZoneAlloc.state c.step.new.place in
    let May : Answers = MayAnswer g.A.ZoneAlloc.state g.A.ZoneAlloc.gives alloc.begun in
    let lawful = answers_are_lawful g.A.ZoneAlloc.state g.A.ZoneAlloc.gives alloc.begun c.args.self.now.guest.memory.memory.top c.requires.zones in
    let steps : StepsTo May c.in-Some.event (load_of state.self) (load_of c.step.new.self) =
    rw state.invariant.begun at c.step.ensures.steps in
    let running = sym c.loop-plan-test.ensures in
    let given = left_taken (g.C.Schedule.plan state.plan) (g.C.Schedule.plan c.next.new.self) c.in-Some.event c.in-Some.ensures.taken in
    record {
      inside = c.step.ensures.inside;
      begun_so = λ its inside. c.step.ensures.begun_so its (state.invariant.begun_so its inside);
      follows = follows_more May (load_of c.args.self.now) (load_of state.self) (load_of c.step.new.self) c.in-Some.event
          (g.C.Schedule.plan c.args.plan.now).left (g.C.Schedule.plan state.plan).left (g.C.Schedule.plan c.next.new.self).left lawful
          state.invariant.follows
          given.0 running steps;
      events = given.1 ∙ state.invariant.events;
      asks = λ its inside.
          let asked = state.invariant.asks its inside in
          asks_through its.items c.args.self.now state.self c.step.new.self alloc alloc_then alloc_now running asked
          (step_asks May its c.in-Some.event state.self c.step.new.self alloc_then alloc_now (rw asked.top lawful)
          (state.invariant.begun_so its inside) running steps c.step.ensures.no_room c.step.ensures.sound);
      handed = c.step.ensures.handed;
      touches = taken_more (g.C.Schedule.plan c.args.plan.now).left (g.C.Schedule.plan state.plan).left (g.C.Schedule.plan c.next.new.self).left
          c.in-Some.event c.args.self.now.guest state.self.guest c.step.new.self.guest state.invariant.touches given.0 c.step.ensures.touches;
      begun = c.step.ensures.begun ∙ state.invariant.begun;
    }

pub returns-in-None-clause-follows : goal.returns-in-None-clause-follows
returns-in-None-clause-follows g c =
    follows_all (MayAnswer g.A.ZoneAlloc.state g.A.ZoneAlloc.gives (g.A.ZoneAlloc.state c.args.place.now).begun) (load_of c.args.self.now)
    (load_of c.loop-plan.self) (g.C.Schedule.plan c.args.plan.now).left (g.C.Schedule.plan c.loop-plan.plan).left
    (g.C.Schedule.plan c.next.new.self).left c.loop-plan.invariant.follows
    c.in-None.ensures.end
    (left_ended (g.C.Schedule.plan c.loop-plan.plan) (g.C.Schedule.plan c.next.new.self) c.in-None.ensures.end c.in-None.ensures.same)

pub returns-in-None-clause-touches : goal.returns-in-None-clause-touches
returns-in-None-clause-touches g c =
    taken_all (g.C.Schedule.plan c.args.plan.now).left (g.C.Schedule.plan c.loop-plan.plan).left (g.C.Schedule.plan c.next.new.self).left
    c.args.self.now.guest c.loop-plan.self.guest c.loop-plan.invariant.touches c.in-None.ensures.end
    (left_ended (g.C.Schedule.plan c.loop-plan.plan) (g.C.Schedule.plan c.next.new.self) c.in-None.ensures.end c.in-None.ensures.same)
