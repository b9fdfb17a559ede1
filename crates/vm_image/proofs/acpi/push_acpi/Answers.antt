use Rattle.std.proofs.Common.{◌≡◌, List, ◌++◌, OnOk, ap, subst, sym, ◌∙◌}
use Rattle.std.specs.List.{AllByRecursion}
use Rattle.machine_desc.specs.declared.machine.Acpi.{Acpi}
use Rattle.acpi_model.specs.declared.acpi.Table.{Table}
use Rattle.acpi_model.specs.Acpi.{IsWritable, tables_of}
use Rattle.blob_holes.specs.Blob.{BlobState}
use Rattle.blob_holes.specs.Grown.{IsLinkable}
use Rattle.acpi_model.proofs.AcceptedAcpi.{accepted_fits}
use Rattle.acpi_model.proofs.MachineTables.{machine_writable}
use Rattle.vm_image.specs.Image.{acpi_files, acpi_part, acpi_placed, tables_begin}
use Rattle.vm_image.specs.AcpiHeld.{AreFew, AreAcpiKnown, IsAcpiImage}
use Rattle.vm_image.proofs.Begin.{may_begin}
use Rattle.vm_image.proofs.Few.{tables_few}
use Rattle.vm_image.proofs.Pushed.{on_ok}
use Rattle.vm_image.proofs.acpi.push_acpi.Goals as goal

-- all is known of the files of tables behind what their file begins with
abbrev IsKnown : Acpi → BlobState → List Table → Type 0
IsKnown acpi begin tables = IsAcpiImage acpi begin tables (acpi_files acpi begin tables)

pub tables_of-requires-clause-fits : goal.tables_of-requires-clause-fits
tables_of-requires-clause-fits c = accepted_fits c.args.machine.now c.in-Some.acpi c.requires c.in-Some.is

pub files_of-requires-clause-fits : goal.files_of-requires-clause-fits
files_of-requires-clause-fits c = accepted_fits c.args.machine.now c.in-Some.acpi c.requires c.in-Some.is

pub files_of-requires-clause-writable : goal.files_of-requires-clause-writable
files_of-requires-clause-writable c =
    subst (AllByRecursion IsWritable) (sym (c.as_slice.ensures ∙ c.in_ok-tables-in-Some.ensures))
    (machine_writable c.args.machine.now c.in-Some.acpi c.requires)

pub files_of-requires-clause-linkable : goal.files_of-requires-clause-linkable
files_of-requires-clause-linkable c =
    subst IsLinkable (sym c.in_ok-begin-in-Some.ensures) (may_begin c.args.machine.now c.in-Some.acpi c.requires
    (accepted_fits c.args.machine.now c.in-Some.acpi c.requires c.in-Some.is)).linkable

pub files_of-requires-clause-few : goal.files_of-requires-clause-few
files_of-requires-clause-few c =
    subst (λ begin. AreFew begin c.as_slice.result.now) (sym c.in_ok-begin-in-Some.ensures)
    (subst (AreFew (tables_begin c.args.machine.now c.in-Some.acpi)) (sym (c.as_slice.ensures ∙ c.in_ok-tables-in-Some.ensures))
    (tables_few c.args.machine.now c.in-Some.acpi c.requires (accepted_fits c.args.machine.now c.in-Some.acpi c.requires c.in-Some.is)))

pub returns-in_ok-files_of-in-Some-clause-files : goal.returns-in_ok-files_of-in-Some-clause-files
returns-in_ok-files_of-in-Some-clause-files c =
    subst (λ more. OnOk c.push_placed.result (c.push_placed.new.files.items ≡ c.args.files.now.items ++ more))
    (ap acpi_placed (c.in_ok-files_of-in-Some.ensures.files
    ∙ ap (λ begin. acpi_files c.in-Some.acpi begin c.as_slice.result.now) c.in_ok-begin-in-Some.ensures
    ∙ ap (acpi_files c.in-Some.acpi (tables_begin c.args.machine.now c.in-Some.acpi)) (c.as_slice.ensures ∙ c.in_ok-tables-in-Some.ensures))
    ∙ sym (ap (acpi_part c.args.machine.now) c.in-Some.is)) c.push_placed.ensures

pub returns-in_ok-files_of-in-Some-clause-known : goal.returns-in_ok-files_of-in-Some-clause-known
returns-in_ok-files_of-in-Some-clause-known c =
    on_ok c.push_placed.result (AreAcpiKnown c.args.machine.now c.args.machine.now.acpi)
    (subst (AreAcpiKnown c.args.machine.now) (sym c.in-Some.is)
    (subst (λ begin. IsKnown c.in-Some.acpi begin (tables_of c.args.machine.now c.in-Some.acpi)) c.in_ok-begin-in-Some.ensures
    (subst (IsKnown c.in-Some.acpi c.in_ok-begin-in-Some.begin) (c.as_slice.ensures ∙ c.in_ok-tables-in-Some.ensures)
    c.in_ok-files_of-in-Some.ensures.held)))
