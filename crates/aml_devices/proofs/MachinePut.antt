-- A DSDT that was appended with the rows of a machine's definition block is the machine's.
use Rattle.machine_desc.specs.declared.machine.Machine.{Machine}
use Rattle.machine_desc.specs.declared.machine.Acpi.{Acpi}
use Rattle.machine_desc.specs.Rules.{IsAccepted}
use Rattle.machine_desc.specs.Fields.{HasFittingFields}
use Rattle.dsdt_terms.specs.Dsdt.{terms_at, dsdt_body, id_address}
use Rattle.dsdt_terms.proofs.WrittenId.{body_read}
use Rattle.acpi_model.specs.Header.{head_of}
use Rattle.blob_holes.specs.Blob.{BlobState}
use Rattle.acpi_append.specs.DsdtPut.{IsDsdtPut}
use Rattle.aml_devices.specs.MachineDsdt.{IsMachineDsdtPut}

pub machine_put : (before after : BlobState) (acpi : Acpi) (m : Machine) → IsAccepted m → HasFittingFields m
    → IsDsdtPut before after (head_of acpi 2) (dsdt_body m) → IsMachineDsdtPut before after acpi m
machine_put before after acpi m accepted fit put = record {
  appended = put.appended;
  shown = λ later view address place_of grown held spelled small.
      put.shown later view address place_of grown held (terms_at (id_address place_of) m) spelled (body_read m place_of accepted fit small);
}
