use Rattle.std.proofs.Common.{◌≡◌, true, false, [], Option, Some, None, IsSomeAnd, is_some, refl, ap, sym, subst, ◌∙◌}
use Rattle.machine_desc.specs.declared.machine.Machine.{Machine}
use Rattle.machine_desc.specs.declared.machine.Acpi.{Acpi}
use Rattle.machine_desc.specs.declared.acpi_parts.Power.{Power}
use Rattle.acpi_records.specs.Facs.{initial_facs}
use Rattle.acpi_records.specs.Header.{head_of}
use Rattle.acpi_append.specs.FacsPut.{with_facs}
use Rattle.blob_holes.specs.Blob.{BlobState}
use Rattle.acpi_append.specs.DsdtPut.{with_dsdt}
use Rattle.aml_devices.specs.MachineDsdt.{IsMachineDsdtPut}
use Rattle.dsdt_terms.specs.Dsdt.{dsdt_body}
use Rattle.image_files.specs.Files.{whole}
use Rattle.vm_image.specs.Image.{begin_of}
use Rattle.vm_image.proofs.acpi.begin_tables.Goals as goal
use Rattle.vm_image.proofs.acpi.begin_tables.Goals.{then-is_some+in_ok-put_facs+in_ok-append_dsdt, else-is_some}

-- the DSDT was put with the head of the machine's maker
dsdt_put : (m : Machine) (acpi : Acpi) (maker : Option Acpi) (before after : BlobState) → maker ≡ Some acpi
    → IsSomeAnd maker (λ acpi. IsMachineDsdtPut before after acpi m) → after ≡ with_dsdt before (head_of acpi 2) (dsdt_body m)
dsdt_put m acpi maker before after is put =
    let put : IsMachineDsdtPut before after acpi m = subst (λ maker. IsSomeAnd maker (λ acpi. IsMachineDsdtPut before after acpi m)) is put in
    put.appended.file_is

with_power : (m : Machine) (acpi : Acpi) (power : Option Power) → is_some power ≡ true
    → with_dsdt (with_facs (whole []) initial_facs) (head_of acpi 2) (dsdt_body m) ≡ begin_of m acpi power
with_power m acpi None is = absurd (cc)
with_power m acpi (Some power) is = refl

without_power : (m : Machine) (acpi : Acpi) (power : Option Power) → is_some power ≡ false → whole [] ≡ begin_of m acpi power
without_power m acpi None is = refl
without_power m acpi (Some power) is = absurd (cc)

pub returns : goal.returns
returns c =
    elim c.if-is_some.branch [
      | then-is_some+in_ok-put_facs+in_ok-append_dsdt w ↦
          w.file-is ∙ dsdt_put c.args.machine.now c.args.acpi.now c.args.machine.now.acpi w.put_facs.new.blob w.append_dsdt.new.blob c.requires.maker
          w.in_ok-append_dsdt.ensures.put
          ∙ ap (λ file. with_dsdt file (head_of c.args.acpi.now 2) (dsdt_body c.args.machine.now))
          (w.in_ok-put_facs.ensures.put.appended.file_is ∙ ap (λ facs. with_facs c.new-file.result facs) w.initial_facs.ensures.facs
          ∙ ap (λ file. with_facs file initial_facs) c.new-file.ensures)
          ∙ with_power c.args.machine.now c.args.acpi.now c.args.machine.now.power (sym c.is_some.ensures ∙ w.if-is_some.true)
      | else-is_some w ↦
          w.file-is ∙ c.new-file.ensures ∙ without_power c.args.machine.now c.args.acpi.now c.args.machine.now.power (sym c.is_some.ensures
          ∙ w.if-is_some.false)
    ]
