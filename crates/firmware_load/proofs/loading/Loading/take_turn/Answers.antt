use Rattle.std.proofs.Common.{[], inl, inr, sym, subst}
use Rattle.command_acts.specs.Allocators.{AreLawful, MayAnswer}
use Rattle.command_acts.specs.Runs.{Answers}
use Rattle.command_acts.proofs.Goes.{answers_are_lawful}
use Rattle.load_states.specs.declared.event.Event.TheVariants.{Firmware}
use Rattle.load_states.specs.Runs.{whole_piece}
use Rattle.firmware_load.specs.Inside.{load_of}
use Rattle.firmware_load.proofs.OnRun.{asks_through, step_asks}
use Rattle.firmware_load.proofs.Touching.{touches_on, touches_alone}
use Rattle.firmware_load.proofs.loading.Loading.take_turn.Goals as goal

pub returns-else-not-has_ended-clause-asks : goal.returns-else-not-has_ended-clause-asks
returns-else-not-has_ended-clause-asks g c =
    let alloc = g.A.ZoneAlloc.state c.args.place.now in
    let May : Answers = MayAnswer g.A.ZoneAlloc.state g.A.ZoneAlloc.gives alloc.begun in
    let lawful = answers_are_lawful g.A.ZoneAlloc.state g.A.ZoneAlloc.gives alloc.begun c.args.self.now.guest.memory.memory.top c.requires.zones in
    λ its inside. step_asks May its Firmware c.args.self.now c.step.new.self alloc (g.A.ZoneAlloc.state c.step.new.place) lawful inside
    c.requires.running c.step.ensures.steps c.step.ensures.no_room c.step.ensures.sound

pub step-requires-then-not-has_ended-clause-zones : goal.step-requires-then-not-has_ended-clause-zones
step-requires-then-not-has_ended-clause-zones g c =
    let alloc = g.A.ZoneAlloc.state c.args.place.now in
    let May : Answers = MayAnswer g.A.ZoneAlloc.state g.A.ZoneAlloc.gives alloc.begun in
    let lawful = answers_are_lawful g.A.ZoneAlloc.state g.A.ZoneAlloc.gives alloc.begun c.args.self.now.guest.memory.memory.top c.requires.zones in
    let first = step_asks May c.requires.inside.0 Firmware c.args.self.now c.step.new.self alloc (g.A.ZoneAlloc.state c.step.new.place) lawful
    c.requires.inside.1 c.requires.running c.step.ensures.steps c.step.ensures.no_room c.step.ensures.sound in
    rw (c.step.ensures.begun, first.top) c.requires.zones

pub returns-then-not-has_ended-clause-turn : goal.returns-then-not-has_ended-clause-turn
returns-then-not-has_ended-clause-turn g c = record {
  middle = load_of c.step.new.self;
  first = c.step.ensures.steps;
  second = inr (sym c.if-not-has_ended.ensures, c.step-then-not-has_ended.ensures.steps);
}

pub returns-then-not-has_ended-clause-asks : goal.returns-then-not-has_ended-clause-asks
returns-then-not-has_ended-clause-asks g c =
    let alloc = g.A.ZoneAlloc.state c.args.place.now in
    let May : Answers = MayAnswer g.A.ZoneAlloc.state g.A.ZoneAlloc.gives alloc.begun in
    let lawful = answers_are_lawful g.A.ZoneAlloc.state g.A.ZoneAlloc.gives alloc.begun c.args.self.now.guest.memory.memory.top c.requires.zones in
    let alloc_then = g.A.ZoneAlloc.state c.step.new.place in
    let alloc_now = g.A.ZoneAlloc.state c.step-then-not-has_ended.new.place in
    let running = sym c.if-not-has_ended.ensures in
    λ its inside.
    let first = step_asks May its Firmware c.args.self.now c.step.new.self alloc (g.A.ZoneAlloc.state c.step.new.place) lawful inside
    c.requires.running c.step.ensures.steps c.step.ensures.no_room c.step.ensures.sound in
    asks_through its.items c.args.self.now c.step.new.self c.step-then-not-has_ended.new.self alloc alloc_then alloc_now running first
    (step_asks May its whole_piece c.step.new.self c.step-then-not-has_ended.new.self alloc_then alloc_now (subst (AreLawful May) (sym first.top) lawful)
    (c.step.ensures.begun_so its inside) running c.step-then-not-has_ended.ensures.steps c.step-then-not-has_ended.ensures.no_room
    c.step-then-not-has_ended.ensures.sound)

pub returns-else-not-has_ended-clause-touches : goal.returns-else-not-has_ended-clause-touches
returns-else-not-has_ended-clause-touches g c =
    touches_alone Firmware c.args.self.now.guest c.step.new.self.guest (λ top address by. elim by as (λ _. ⊥) [ inl by ↦ by | inr by ↦ by ])
    c.step.ensures.touches

pub returns-then-not-has_ended-clause-touches : goal.returns-then-not-has_ended-clause-touches
returns-then-not-has_ended-clause-touches g c =
    touches_on [] [] c.args.self.now.guest c.step.new.self.guest c.step-then-not-has_ended.new.self.guest
    (touches_alone Firmware c.args.self.now.guest c.step.new.self.guest (λ top address by. elim by as (λ _. ⊥) [ inl by ↦ by | inr by ↦ by ])
    c.step.ensures.touches)
    (touches_alone whole_piece c.step.new.self.guest c.step-then-not-has_ended.new.self.guest
    (λ top address by. elim by as (λ _. ⊥) [ inl by ↦ by | inr by ↦ by ]) c.step-then-not-has_ended.ensures.touches)
