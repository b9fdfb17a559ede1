-- The SLIT of a machine: its numbers fit its rows, and the nodes are got back from it.
use Rattle.std.proofs.Common.{◌≡◌, ℕ, ◌+◌, ◌*◌, ◌<◌, ◌≤◌, ◌^◌, length, cond, arith, refl, ap}
use Rattle.std.proofs.lemmas.Bool.{lt-ltb}
use Rattle.std.proofs.lemmas.Nat.{mul-le}
use Rattle.std.specs.List.{AllByRecursion}
use Rattle.vt_layout.specs.Rows.{size, IsRow}
use Rattle.machine_desc.specs.declared.machine.Acpi.{Acpi}
use Rattle.machine_desc.specs.declared.acpi_parts.Numa.{Numa}
use Rattle.acpi_model.specs.declared.acpi.Table.TheVariants.{Slit}
use Rattle.acpi_model.specs.Kinds.{rows_behind}
use Rattle.acpi_model.specs.SlitKind.{slit_layout}
use Rattle.acpi_model.specs.MachineSlit.{slit_of_machine, numa_in}
use Rattle.acpi_model.specs.Acpi.{IsWritable}
use Rattle.acpi_model.proofs.Slits.{size-slit, slit_writable}

-- the most nodes of an accepted machine
abbrev pub most_numa : ℕ
most_numa = 64

-- so few nodes, with a distance for each two of them
pub record IsSquare (numa : Numa) : Type 0 where
  pub few : numa.nodes ≤ most_numa
  pub square : length numa.distance ≡ numa.nodes * numa.nodes

pub slit_written : (acpi : Acpi) (numa : Numa) → IsSquare numa → IsWritable (Slit (slit_of_machine acpi numa))
slit_written acpi numa is = slit_writable (slit_of_machine acpi numa) (omega (arith, is.few)) is.square

pub slit_rows_fit : (acpi : Acpi) (numa : Numa) → IsSquare numa → AllByRecursion IsRow (rows_behind (slit_layout (slit_of_machine acpi numa)))
slit_rows_fit acpi numa is = ((omega arith, omega (arith, is.few)), (refl, tt))

pub size-slit-few : (acpi : Acpi) (numa : Numa) → IsSquare numa → size (rows_behind (slit_layout (slit_of_machine acpi numa))) ≤ 8 + most_numa * most_numa
size-slit-few acpi numa is =
    omega (arith, size-slit (slit_of_machine acpi numa), is.square, mul-le numa.nodes numa.nodes most_numa most_numa is.few is.few)

-- the nodes with so many of them
numa_with : ℕ → Numa → Numa
numa_with nodes numa = record { nodes = nodes; distance = numa.distance }

pub numa_back : (acpi : Acpi) (numa : Numa) → IsSquare numa → numa_in (slit_of_machine acpi numa) ≡ numa
unfolding numa_with
numa_back acpi numa is =
    let few : numa.nodes < 2 ^ 8 = omega (arith, is.few) in
    ap (λ test. numa_with (cond test numa.nodes 0) numa) (lt-ltb numa.nodes (2 ^ 8) few)
