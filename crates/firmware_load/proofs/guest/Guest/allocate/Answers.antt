use Rattle.std.proofs.Common.{Some, None, refl, ap}
use Rattle.cfg_directory.specs.Files.{files_of}
use Rattle.zone_alloc.specs.Allocators.{AllocState}
use Rattle.command_acts.specs.Allocators.{MayAnswer}
use Rattle.firmware_load.proofs.Allocating.{IsAllocating, allocating, is_listed, distinct_placements, few_handed, handed_more, may_answer}
use Rattle.firmware_load.proofs.Allocating.{asks, was_asked, same_index, goes_placed, goes_without}
use Rattle.firmware_load.proofs.guest.Guest.allocate.Given as given
use Rattle.firmware_load.proofs.guest.Guest.allocate.Goals as goal

pub listed_of-file-requires-clause-there : goal.listed_of-file-requires-clause-there
listed_of-file-requires-clause-there g c =
    is_listed c.args.self.now c.args.listed.now c.args.name.now c.args.align c.args.zone c.requires.ready c.requires.early

-- what is known of the file before a place is asked for, where one was given, and behind that
asked_for : (g : given.Over) (c : goal.After-numbered g)
    → IsAllocating c.args.self.now c.args.name.now c.args.align c.args.zone c.listed_of-file.result.now
asked_for g c = allocating _ _ _ _ _ _ c.requires.ready c.requires.early c.listed_of-file.ensures

given_place : (g : given.Over) (c : goal.After-bring-arg-1 g)
    → IsAllocating c.args.self.now c.args.name.now c.args.align c.args.zone c.listed_of-file.result.now
given_place g c = allocating _ _ _ _ _ _ c.requires.ready c.requires.early c.listed_of-file.ensures

brought : (g : given.Over) (c : goal.After-bring g)
    → IsAllocating c.args.self.now c.args.name.now c.args.align c.args.zone c.listed_of-file.result.now
brought g c = allocating _ _ _ _ _ _ c.requires.ready c.requires.early c.listed_of-file.ensures

pub numbered-requires : goal.numbered-requires
numbered-requires g c = (allocating _ _ _ _ _ _ c.requires.ready c.requires.early c.listed_of-file.ensures).known_zone

pub place-requires-clause-room : goal.place-requires-clause-room
place-requires-clause-room g c =
    few_handed c.args.self.now.device.items c.args.self.now.placements.placed.items (g.A.ZoneAlloc.state c.args.place.now).handed
    c.requires.ready.items (asked_for g c).fewer c.requires.handed

pub place-requires-clause-size : goal.place-requires-clause-size
place-requires-clause-size g c = (asked_for g c).some

pub bring-requires-clause-room : goal.bring-requires-clause-room
bring-requires-clause-room g c = c.requires.ready.room

pub bring-requires-clause-distinct : goal.bring-requires-clause-distinct
bring-requires-clause-distinct g c =
    distinct_placements c.args.self.now.placements c.args.self.now.device.items c.requires.ready.items c.requires.ready.infos

pub bring-requires-clause-there : goal.bring-requires-clause-there
bring-requires-clause-there g c = (given_place g c).there

pub bring-requires-clause-fresh : goal.bring-requires-clause-fresh
bring-requires-clause-fresh g c = (given_place g c).fresh

pub returns-in-Ok-clause-goes : goal.returns-in-Ok-clause-goes
returns-in-Ok-clause-goes g c = λ script.
    goes_placed (MayAnswer g.A.ZoneAlloc.state g.A.ZoneAlloc.gives (g.A.ZoneAlloc.state c.args.place.now).begun)
    c.args.self.now c.bring.new.self c.args.listed.now script c.args.name.now c.args.align c.args.zone c.args.index c.in-Ok.at
    c.listed_of-file.result.now (brought g c) c.listed_of-file.ensures
    (may_answer g.A.ZoneAlloc.state g.A.ZoneAlloc.gives c.args.place.now
    (files_of c.args.self.now.device.items) c.args.self.now.placements.placed.items c.args.name.now c.args.align c.args.zone
    c.listed_of-file.result.now.size (Some c.in-Ok.at) (brought g c).size c.requires.handed (rw c.numbered.ensures at c.in-Ok.ensures.gives)
    (rw c.numbered.ensures at c.in-Ok.ensures.lawful))
    c.bring.ensures.after c.bring.ensures.placed

pub returns-in-Ok-clause-handed : goal.returns-in-Ok-clause-handed
returns-in-Ok-clause-handed g c =
    handed_more _ _ _ _ (record { name = c.listed_of-file.result.now.name; place = c.in-Ok.at; size = c.listed_of-file.result.now.size })
    c.requires.handed (ap (λ (s : AllocState). s.handed) c.in-Ok.ensures.ok) c.bring.ensures.placed

pub returns-in-Ok-clause-asked : goal.returns-in-Ok-clause-asked
returns-in-Ok-clause-asked g c =
    asks c.args.self.now c.args.listed.now c.args.name.now c.args.align c.args.zone c.args.index c.listed_of-file.result.now (brought g c)

pub returns-in-Err-clause-goes : goal.returns-in-Err-clause-goes
returns-in-Err-clause-goes g c = λ script.
    let without = allocating _ _ _ _ _ _ c.requires.ready c.requires.early c.listed_of-file.ensures in
    goes_without (MayAnswer g.A.ZoneAlloc.state g.A.ZoneAlloc.gives (g.A.ZoneAlloc.state c.args.place.now).begun)
    c.args.self.now c.args.listed.now script c.args.name.now c.args.align c.args.zone c.args.index c.listed_of-file.result.now
    without
    (may_answer g.A.ZoneAlloc.state g.A.ZoneAlloc.gives c.args.place.now
    (files_of c.args.self.now.device.items) c.args.self.now.placements.placed.items c.args.name.now c.args.align c.args.zone
    c.listed_of-file.result.now.size None without.size c.requires.handed (rw c.numbered.ensures at c.in-Err.ensures.gives) tt)

pub returns-in-Err-clause-asked : goal.returns-in-Err-clause-asked
returns-in-Err-clause-asked g c =
    let without = allocating _ _ _ _ _ _ c.requires.ready c.requires.early c.listed_of-file.ensures in
    asks c.args.self.now c.args.listed.now c.args.name.now c.args.align c.args.zone c.args.index c.listed_of-file.result.now without

pub returns-in-Err-clause-no_room : goal.returns-in-Err-clause-no_room
returns-in-Err-clause-no_room g c = λ at is.
    let without = allocating _ _ _ _ _ _ c.requires.ready c.requires.early c.listed_of-file.ensures in (
      same_index c.args.index at is,
      ap (λ (s : AllocState). s.refusals) c.in-Err.ensures.err,
      was_asked c.args.self.now c.args.listed.now c.args.name.now c.args.align c.args.zone c.args.index c.listed_of-file.result.now c.numbered.result _
          without c.numbered.ensures (ap (λ (s : AllocState). s.refused) c.in-Err.ensures.err),
    )

pub returns-in-Err-clause-sound : goal.returns-in-Err-clause-sound
returns-in-Err-clause-sound g c = λ other. absurd (other c.args.index refl)
