use Rattle.std.proofs.Common.{[], ◌∷◌, ◌++◌, take, ap, sym, ◌∙◌, append-nil}
use Rattle.std.specs.List.{filter_map}
use Rattle.std.specs.Option.{option_to_list}
use Rattle.acpi_records.specs.declared.madt_entry.MadtEntry.TheVariants.{LocalApic}
use Rattle.acpi_told.proofs.OneMore.{one_more}
use Rattle.acpi_told.proofs.controllers.all_told.Goals.{in-Some+in_ok-push, in_default}
use Rattle.acpi_told.proofs.controllers.all_told.Goals as goal

pub loop-entry-preserved : goal.loop-entry-preserved
loop-entry-preserved g c =
    let more = one_more g.P.Told.told c.args.entries.now c.loop-entry.entry-index (LocalApic (record { uid = 0; apic = 0; flags = 0 }))
    c.loop-entry-test.true in
    let before = filter_map g.P.Told.told (take c.loop-entry.entry-index c.args.entries.now) in
    elim c.match-told.branch [
      | in-Some+in_ok-push w ↦
          w.parts-is ∙ w.in_ok-push.ensures.ok ∙ ap (λ parts. parts ++ w.in-Some.part ∷ []) c.loop-entry.invariant
          ∙ sym (more ∙ ap (λ part. before ++ option_to_list part) (sym c.told.ensures ∙ w.in-Some.is))
      | in_default w ↦
          w.parts-is ∙ c.loop-entry.invariant
          ∙ sym (more ∙ ap (λ part. before ++ option_to_list part) (sym c.told.ensures ∙ w.in_default.is) ∙ append-nil before)
    ]
