use Rattle.std.proofs.Common.{refl}
use Rattle.acpi_records.proofs.laws.rows_stand_at_their_offsets.Goals as goal

pub returns : goal.returns
returns c = record {
  fadt = λ t. refl;
  fadt_size = λ t. refl;
  facs_size = λ f. refl;
  madt_size = λ f. refl;
  srat_size = λ f. refl;
  slit_size = λ f. refl;
  mcfg_size = λ f. refl;
  allocation_size = λ a. refl;
}
