use Rattle.std.proofs.Common.{◌≡◌, None, subst, sym}
use Rattle.loader_script.specs.Refusal.{EndLow}
use Rattle.loader_script.specs.declared.entry.Entry.{Entry}
use Rattle.cfg_directory.specs.Files.{files_of}
use Rattle.command_acts.specs.Allocators.{MayAnswer}
use Rattle.command_acts.specs.Placing.{places_in}
use Rattle.command_acts.specs.Runs.{early_cause}
use Rattle.command_acts.proofs.Placings.{distinct_infos, end_low}
use Rattle.load_states.specs.declared.stage.Stage.TheVariants.{AtCommand}
use Rattle.firmware_load.specs.Inside.{load_at, progress_now}
use Rattle.firmware_load.proofs.Allocating.{distinct_placements, dest_listed}
use Rattle.firmware_load.proofs.CommandsDone.{goes_pointing, goes_refused, goes_skipped, told_early}
use Rattle.firmware_load.proofs.guest.Guest.carry_out.Goals as goal

pub refusal-requires-clause-distinct : goal.refusal-requires-clause-distinct
refusal-requires-clause-distinct g c =
    distinct_placements c.args.self.now.placements c.args.self.now.device.items c.requires.ready.items c.requires.ready.infos

pub refusal-requires-clause-low : goal.refusal-requires-clause-low
refusal-requires-clause-low g c =
    subst (λ infos. EndLow infos (places_in c.args.self.now.placements.placed.items infos)) (sym c.requires.ready.infos)
    (end_low c.args.self.now.memory.memory.top (files_of c.args.self.now.device.items) c.args.self.now.placements.placed.items
    (distinct_infos c.args.self.now.device.items c.requires.ready.items.distinct) c.requires.ready.loading)

pub returns-in-Some-clause-goes : goal.returns-in-Some-clause-goes
returns-in-Some-clause-goes g c = λ script.
    goes_refused (MayAnswer g.A.ZoneAlloc.state g.A.ZoneAlloc.gives (g.A.ZoneAlloc.state c.args.place.now).begun)
    (load_at c.args.self.now (AtCommand c.args.index) c.args.listed.now script) c.args.index c.args.entry.now c.in-Some.cause
    (told_early c.args.self.now.memory.memory (files_of c.args.self.now.device.items) c.args.self.now.placements.infos.items
    c.args.self.now.placements.placed.items c.args.entry.now c.refusal.result _ c.requires.ready.infos c.refusal.ensures c.in-Some.is)

pub allocate-requires-clause-early : goal.allocate-requires-clause-early
allocate-requires-clause-early g c =
    subst (λ (entry : Entry). early_cause entry (progress_now c.args.self.now) ≡ None) c.in-Allocate.is
    (told_early c.args.self.now.memory.memory (files_of c.args.self.now.device.items) c.args.self.now.placements.infos.items
    c.args.self.now.placements.placed.items c.args.entry.now c.refusal.result None c.requires.ready.infos c.refusal.ensures c.in_default.is)

pub add_pointer-requires-clause-distinct : goal.add_pointer-requires-clause-distinct
add_pointer-requires-clause-distinct g c =
    distinct_placements c.args.self.now.placements c.args.self.now.device.items c.requires.ready.items c.requires.ready.infos

pub add_pointer-requires-clause-early : goal.add_pointer-requires-clause-early
add_pointer-requires-clause-early g c =
    subst (λ (entry : Entry). early_cause entry (progress_now c.args.self.now) ≡ None) c.in-AddPointer.is
    (told_early c.args.self.now.memory.memory (files_of c.args.self.now.device.items) c.args.self.now.placements.infos.items
    c.args.self.now.placements.placed.items c.args.entry.now c.refusal.result None c.requires.ready.infos c.refusal.ensures c.in_default.is)

pub add_checksum-requires-clause-distinct : goal.add_checksum-requires-clause-distinct
add_checksum-requires-clause-distinct g c =
    distinct_placements c.args.self.now.placements c.args.self.now.device.items c.requires.ready.items c.requires.ready.infos

pub add_checksum-requires-clause-early : goal.add_checksum-requires-clause-early
add_checksum-requires-clause-early g c =
    subst (λ (entry : Entry). early_cause entry (progress_now c.args.self.now) ≡ None) c.in-AddChecksum.is
    (told_early c.args.self.now.memory.memory (files_of c.args.self.now.device.items) c.args.self.now.placements.infos.items
    c.args.self.now.placements.placed.items c.args.entry.now c.refusal.result None c.requires.ready.infos c.refusal.ensures c.in_default.is)

pub returns-in-Skipped-clause-goes : goal.returns-in-Skipped-clause-goes
returns-in-Skipped-clause-goes g c = λ script.
    rw c.in-Skipped.is
    (goes_skipped (MayAnswer g.A.ZoneAlloc.state g.A.ZoneAlloc.gives (g.A.ZoneAlloc.state c.args.place.now).begun)
    (load_at c.args.self.now (AtCommand c.args.index) c.args.listed.now script) c.args.index c.in-Skipped.field-0)

pub skip_to-requires-clause-there : goal.skip_to-requires-clause-there
skip_to-requires-clause-there g c =
    let early = subst (λ (entry : Entry). early_cause entry (progress_now c.args.self.now) ≡ None) c.in-WritePointer.is
    (told_early c.args.self.now.memory.memory (files_of c.args.self.now.device.items) c.args.self.now.placements.infos.items
    c.args.self.now.placements.placed.items c.args.entry.now c.refusal.result None c.requires.ready.infos c.refusal.ensures c.in_default.is) in
    dest_listed c.args.self.now c.args.listed.now c.in-WritePointer.dest c.in-WritePointer.src
    c.in-WritePointer.dst_offset c.in-WritePointer.src_offset c.in-WritePointer.size c.requires.ready early

pub returns-in-WritePointer-clause-goes : goal.returns-in-WritePointer-clause-goes
returns-in-WritePointer-clause-goes g c = λ script.
    let early = subst (λ (entry : Entry). early_cause entry (progress_now c.args.self.now) ≡ None) c.in-WritePointer.is
    (told_early c.args.self.now.memory.memory (files_of c.args.self.now.device.items) c.args.self.now.placements.infos.items
    c.args.self.now.placements.placed.items c.args.entry.now c.refusal.result None c.requires.ready.infos c.refusal.ensures c.in_default.is) in
    rw c.in-WritePointer.is
    (goes_pointing (MayAnswer g.A.ZoneAlloc.state g.A.ZoneAlloc.gives (g.A.ZoneAlloc.state c.args.place.now).begun)
    (load_at c.args.self.now (AtCommand c.args.index) c.args.listed.now script)
    (load_at c.skip_to.new.self c.skip_to.result c.args.listed.now script) c.args.index c.in-WritePointer.dest
    c.in-WritePointer.src c.in-WritePointer.dst_offset c.in-WritePointer.src_offset c.in-WritePointer.size early
    (c.skip_to.ensures.goes script))
