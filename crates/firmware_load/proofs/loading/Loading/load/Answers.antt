use Rattle.command_acts.specs.Allocators.{MayAnswer}
use Rattle.command_acts.specs.Runs.{Answers}
use Rattle.command_acts.proofs.Goes.{answers_are_lawful}
use Rattle.load_states.specs.LoadState.{begun_with}
use Rattle.firmware_load.specs.Inside.{load_of}
use Rattle.firmware_load.proofs.Loaded.{IsClosed, load_over, asks_in_all, without_room}
use Rattle.firmware_load.proofs.Opening.{opening_on_run, opening_inside_own}
use Rattle.firmware_load.proofs.Touching.{taken_closed}
use Rattle.firmware_load.proofs.loading.Loading.load.Goals as goal

pub close-requires-clause-zones : goal.close-requires-clause-zones
close-requires-clause-zones g c =
    rw (c.follow.ensures.begun, (c.follow.ensures.asks c.requires.inside.0 c.requires.inside.1).top) c.requires.zones

pub returns-clause-loaded : goal.returns-clause-loaded
returns-clause-loaded g c =
    let May : Answers = MayAnswer g.A.ZoneAlloc.state g.A.ZoneAlloc.gives (g.A.ZoneAlloc.state c.args.place.now).begun in
    let closed : IsClosed May (load_of c.follow.new.self) (load_of c.close.new.self) =
    rw c.follow.ensures.begun at c.close.ensures.follows in
    load_over May (load_of c.args.self.now) (load_of c.follow.new.self) (load_of c.close.new.self) (g.C.Schedule.plan c.args.plan.now).left
    (g.C.Schedule.plan c.follow.new.plan).left (g.A.ZoneAlloc.state c.close.new.place).handed c.answer.result
    (answers_are_lawful g.A.ZoneAlloc.state g.A.ZoneAlloc.gives (g.A.ZoneAlloc.state c.args.place.now).begun c.args.self.now.guest.memory.memory.top
    c.requires.zones) c.requires.fresh (opening_on_run May c.args.self.now c.requires.fresh) c.follow.ensures.follows
    c.follow.ensures.over closed c.close.ensures.over
    c.answer.ensures c.close.ensures.handed

pub returns-clause-no_room : goal.returns-clause-no_room
returns-clause-no_room g c =
    let alloc = g.A.ZoneAlloc.state c.args.place.now in
    let alloc_now = g.A.ZoneAlloc.state c.close.new.place in
    let items = c.args.self.now.guest.device.items in
    let own = opening_inside_own c.args.self.now c.requires.inside c.requires.fresh in
    let its = begun_with items own.0 own.1 in
    (without_room items c.args.self.now c.close.new.self alloc alloc_now c.answer.result
    (asks_in_all items c.args.self.now c.follow.new.self c.close.new.self alloc (g.A.ZoneAlloc.state c.follow.new.place) alloc_now
    (c.follow.ensures.asks its own.2) (c.close.ensures.asks its (c.follow.ensures.begun_so its own.2))) c.requires.fresh.stage c.answer.ensures).0

pub returns-clause-sound : goal.returns-clause-sound
returns-clause-sound g c =
    let alloc = g.A.ZoneAlloc.state c.args.place.now in
    let alloc_now = g.A.ZoneAlloc.state c.close.new.place in
    let items = c.args.self.now.guest.device.items in
    let own = opening_inside_own c.args.self.now c.requires.inside c.requires.fresh in
    let its = begun_with items own.0 own.1 in
    (without_room items c.args.self.now c.close.new.self alloc alloc_now c.answer.result
    (asks_in_all items c.args.self.now c.follow.new.self c.close.new.self alloc (g.A.ZoneAlloc.state c.follow.new.place) alloc_now
    (c.follow.ensures.asks its own.2) (c.close.ensures.asks its (c.follow.ensures.begun_so its own.2))) c.requires.fresh.stage c.answer.ensures).1

pub returns-clause-touches : goal.returns-clause-touches
returns-clause-touches g c =
    taken_closed (g.C.Schedule.plan c.args.plan.now).left (g.C.Schedule.plan c.follow.new.plan).left (g.A.ZoneAlloc.state c.close.new.place).handed
    c.args.self.now.guest c.follow.new.self.guest c.close.new.self.guest c.follow.ensures.touches c.close.ensures.touches c.close.ensures.handed
