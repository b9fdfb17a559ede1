use Rattle.std.proofs.Common.{inl, inr, Option, Some, sym, ap, subst, ◌∙◌}
use Rattle.loader_script.specs.declared.entry.Entry.{Entry}
use Rattle.load_states.specs.declared.stage.Stage.TheVariants.{AwaitsWrite}
use Rattle.load_states.specs.Steps.{writes}
use Rattle.firmware_load.specs.Inside.{load_of}
use Rattle.firmware_load.proofs.AtCommands.{command_found, none_found}
use Rattle.firmware_load.proofs.AtStages.{IsPointer, CanWriteNumber, asks_pointer, asks_some, can_write_number}
use Rattle.firmware_load.proofs.LoadStates.{load_moved}
use Rattle.firmware_load.proofs.loading.Loading.ask_write.Goals as goal

-- the number can be written
can : (c : goal.After-row_known-in-WritePointer-1) → CanWriteNumber c.args.self.now c.in-WritePointer.src c.in-WritePointer.src_offset c.in-WritePointer.size
can c =
    let l = c.args.self.now in
    let read = c.in-Some.ensures.lookup in
    let found = command_found c.deref.result.now l.script.items c.args.index c.in-Some.entry.now c.deref.ensures.value read.3.0 read.1 in
    can_write_number l c.args.index c.in-WritePointer.dest c.in-WritePointer.src c.in-WritePointer.dst_offset c.in-WritePointer.src_offset
    c.in-WritePointer.size c.requires.inside c.requires.stage (found ∙ ap (λ (entry : Entry). Some entry) c.in-WritePointer.is)

pub write_number-requires-clause-idle : goal.write_number-requires-clause-idle
write_number-requires-clause-idle c = (can c).idle

pub write_number-requires-clause-room : goal.write_number-requires-clause-room
write_number-requires-clause-room c = (can c).room

pub write_number-requires-clause-are : goal.write_number-requires-clause-are
write_number-requires-clause-are c = (can c).are

pub write_number-requires-clause-distinct : goal.write_number-requires-clause-distinct
write_number-requires-clause-distinct c = (can c).distinct

pub write_number-requires-clause-placed : goal.write_number-requires-clause-placed
write_number-requires-clause-placed c = (can c).placed

pub write_number-requires-clause-size : goal.write_number-requires-clause-size
write_number-requires-clause-size c = (can c).size_is

pub write_number-requires-clause-fits : goal.write_number-requires-clause-fits
write_number-requires-clause-fits c = (can c).fits

pub returns-clause-after : goal.returns-clause-after
returns-clause-after c =
    let l = c.args.self.now in
    let read = c.in-Some.ensures.lookup in
    let found = command_found c.deref.result.now l.script.items c.args.index c.in-Some.entry.now c.deref.ensures.value read.3.0 read.1 in
    load_moved l.guest c.write_number.new.self _ (AwaitsWrite c.args.index) l.listed.items l.script.items c.write_number.ensures.after
    c.write_number.ensures.placements
    ∙ sym (ap (λ (o : Option Entry). writes c.args.index o (load_of l)) (found ∙ ap (λ (entry : Entry). Some entry) c.in-WritePointer.is))

pub unreachable-requires : goal.unreachable-requires
unreachable-requires c =
    let l = c.args.self.now in
    let read = c.in-Some.ensures.lookup in
    let found = command_found c.deref.result.now l.script.items c.args.index c.in-Some.entry.now c.deref.ensures.value read.3.0 read.1 in
    let pointer : IsPointer c.in-Some.entry.now = asks_pointer l c.args.index c.in-Some.entry.now c.requires.inside c.requires.stage found in
    elim c.in-Allocate.is as (λ _. ⊥) [
      | inl is ↦ subst IsPointer is.3 pointer
      | inr others ↦ elim others as (λ _. ⊥) [
        | inl is ↦ subst IsPointer is.4 pointer
        | inr others ↦ elim others as (λ _. ⊥) [
          | inl is ↦ subst IsPointer is.4 pointer
          | inr others ↦ elim others as (λ _. ⊥) [
            | inl is ↦ subst IsPointer is.1 pointer
            | inr is ↦ subst IsPointer is.1 pointer
          ]
        ]
      ]
    ]

pub unreachable-requires-in-None : goal.unreachable-requires-in-None
unreachable-requires-in-None c =
    let l = c.args.self.now in
    asks_some l c.args.index c.requires.inside c.requires.stage
    (none_found c.deref.result.now l.script.items c.args.index c.deref.ensures.value c.in-None.ensures.lookup.3)
