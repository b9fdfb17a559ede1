use Rattle.std.proofs.Common.{[], refl, sym, ap, ◌∙◌}
use Rattle.std.proofs.lemmas.Bool.{true≢false}
use Rattle.command_acts.specs.Allocators.{MayAnswer}
use Rattle.command_acts.specs.Runs.{Answers}
use Rattle.command_acts.proofs.Goes.{answers_are_lawful}
use Rattle.load_states.specs.Runs.{has_ended}
use Rattle.firmware_load.specs.Inside.{load_of, IsTurn}
use Rattle.firmware_load.proofs.OnRun.{asks_nothing, asks_through}
use Rattle.firmware_load.proofs.Touching.{touches_still, touches_on}
use Rattle.firmware_load.proofs.Turns.{closes_none, closes_more, turn_less_inside}
use Rattle.firmware_load.proofs.loading.Loading.close.Goals as goal

pub loop-self-init : goal.loop-self-init
loop-self-init g c = record {
  inside = c.requires.inside;
  begun_so = λ its inside. inside;
  closes = closes_none (MayAnswer g.A.ZoneAlloc.state g.A.ZoneAlloc.gives (g.A.ZoneAlloc.state c.args.place.now).begun) (load_of c.args.self.now);
  asks = λ its inside. asks_nothing its.items c.args.self.now (g.A.ZoneAlloc.state c.args.place.now);
  handed = c.requires.handed;
  touches = touches_still c.args.self.now.guest;
  begun = refl;
}

pub take_turn-requires-clause-zones : goal.take_turn-requires-clause-zones
take_turn-requires-clause-zones g c =
    rw (c.loop-self.invariant.begun, (c.loop-self.invariant.asks c.requires.inside.0 c.requires.inside.1).top) c.requires.zones

pub loop-self-smaller : goal.loop-self-smaller
loop-self-smaller g c =
    let state = c.loop-self in
    turn_less_inside (MayAnswer g.A.ZoneAlloc.state g.A.ZoneAlloc.gives (g.A.ZoneAlloc.state state.place).begun) state.self c.take_turn.new.self
    (answers_are_lawful g.A.ZoneAlloc.state g.A.ZoneAlloc.gives (g.A.ZoneAlloc.state state.place).begun state.self.guest.memory.memory.top
    (rw (state.invariant.begun, (state.invariant.asks c.requires.inside.0 c.requires.inside.1).top) c.requires.zones)) state.invariant.inside
    (sym c.loop-self-test.ensures)
    c.take_turn.ensures.turn

pub loop-self-preserved : goal.loop-self-preserved
loop-self-preserved g c =
    let state = c.loop-self in
    let alloc = g.A.ZoneAlloc.state c.args.place.now in
    let May : Answers = MayAnswer g.A.ZoneAlloc.state g.A.ZoneAlloc.gives alloc.begun in
    let lawful = answers_are_lawful g.A.ZoneAlloc.state g.A.ZoneAlloc.gives alloc.begun c.args.self.now.guest.memory.memory.top c.requires.zones in
    let turn : IsTurn May (load_of state.self) (load_of c.take_turn.new.self) =
    rw state.invariant.begun at c.take_turn.ensures.turn in
    let running = sym c.loop-self-test.ensures in
    record {
      inside = c.take_turn.ensures.inside;
      begun_so = λ its inside. c.take_turn.ensures.begun_so its (state.invariant.begun_so its inside);
      closes = closes_more May (load_of c.args.self.now) (load_of state.self) (load_of c.take_turn.new.self) lawful
          (λ over. true≢false (sym (ap has_ended ((state.invariant.asks c.requires.inside.0 c.requires.inside.1).ended over).0 ∙ over) ∙ running))
          state.invariant.closes running turn;
      asks = λ its inside.
          asks_through its.items c.args.self.now state.self c.take_turn.new.self alloc (g.A.ZoneAlloc.state state.place)
          (g.A.ZoneAlloc.state c.take_turn.new.place) running (state.invariant.asks its inside)
          (c.take_turn.ensures.asks its (state.invariant.begun_so its inside));
      handed = c.take_turn.ensures.handed;
      touches = touches_on [] [] c.args.self.now.guest state.self.guest c.take_turn.new.self.guest state.invariant.touches c.take_turn.ensures.touches;
      begun = c.take_turn.ensures.begun ∙ state.invariant.begun;
    }

pub returns-clause-follows : goal.returns-clause-follows
returns-clause-follows g c = λ begun before on.
    let so = c.loop-self.invariant.closes begun before on in
    (so.0, so.1.few, so.1.ended, so.2)
