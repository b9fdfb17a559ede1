-- An MCFG of two allocations can be written.
use Rattle.std.specs.Prelude.{[], ◌∷◌}
use Rattle.std.proofs.Common.{arith, rules, refl}
use Rattle.acpi_records.specs.declared.mcfg.McfgFront.{McfgFront}
use Rattle.acpi_records.specs.declared.mcfg.McfgAllocation.{McfgAllocation}
use Rattle.acpi_records.specs.Mcfg.{mcfg_of}
use Rattle.acpi_model.specs.declared.acpi.Table.TheVariants.{Mcfg as McfgVariant}
use Rattle.acpi_model.specs.Acpi.{IsWritable}

pub two_written : (front : McfgFront) (a b : McfgAllocation) → IsWritable (McfgVariant (mcfg_of front (a ∷ b ∷ [])))
two_written front a b = record {
  lawful = record { shaped = λ place_of view address held. refl; typed = λ place_of. refl; few = omega arith; rows = search rules };
  lead = tt;
}
