-- MCFGs: as many allocations as fill them, each got back from its rows.
use Rattle.std.proofs.Common.{◌≡◌, ℕ, ◌-◌, ◌*◌, ◌/◌, ◌<◌, ◌^◌, List, [], ◌∷◌, ◌++◌, length, Bool, true, false, ◌%◌, nat_lt, Option}
use Rattle.std.proofs.Common.{Some, None, IfSome, cond, ◌==◌, arith, rules, refl, ap, ◌∙◌}
use Rattle.std.proofs.lemmas.Bool.{and_parts, ltb-true}
use Rattle.std.specs.Option.{option_map_or}
use Rattle.vt_layout.specs.declared.row.Row.{Row}
use Rattle.vt_layout.specs.declared.row.Row.TheVariants.{Reserved}
use Rattle.vt_layout.specs.Rows.{size, linked}
use Rattle.machine_desc.specs.declared.machine.Machine.{Machine}
use Rattle.machine_desc.specs.declared.machine.Acpi.{Acpi}
use Rattle.machine_desc.specs.declared.device_parts.Bridge.{Bridge}
use Rattle.machine_desc.specs.Rules.{has_lawful_ecam, IsAccepted}
use Rattle.machine_desc.specs.Fields.{IsFittingBridge, HasFittingFields}
use Rattle.machine_desc.proofs.Accepted.{kept, holds_where_kept}
use Rattle.acpi_records.specs.declared.mcfg.Mcfg.{Mcfg}
use Rattle.acpi_records.specs.declared.mcfg.McfgAllocation.{McfgAllocation}
use Rattle.acpi_records.specs.Header.{FitsHead}
use Rattle.vt_layout.specs.Fields.{field_rows}
use Rattle.acpi_records.specs.Mcfg.{mcfg_front_of, mcfg_of, allocation_fields, allocations_rows}
use Rattle.acpi_model.specs.declared.acpi.Table.TheVariants.{Mcfg as McfgVariant}
use Rattle.acpi_model.specs.Kinds.{rows_behind}
use Rattle.acpi_model.specs.McfgKind.{allocations_in, allocations_behind, mcfg_layout}
use Rattle.acpi_model.specs.MachineMcfg.{if_mapped, mapped, mcfg_of_bridge}
use Rattle.acpi_model.specs.Acpi.{IsWritable, CanBePut, linked_table}
use Rattle.acpi_model.proofs.Headers.{head_fits}

-- the rows of allocations are five each, and have no pointers
length-rows : (allocations : List McfgAllocation) → length (allocations_rows allocations) ≡ 5 * length allocations
length-rows [] = refl
length-rows (a ∷ allocations) = omega (arith, length-rows allocations)

linked-rows : (place_of : List ℕ → ℕ) (allocations : List McfgAllocation) → linked place_of (allocations_rows allocations) ≡ allocations_rows allocations
linked-rows place_of [] = refl
linked-rows place_of (a ∷ allocations) = ap (λ others. field_rows (allocation_fields a) ++ others) (linked-rows place_of allocations)

-- they are got back from their rows
rows_back : (allocations : List McfgAllocation) → allocations_in (length allocations) (allocations_rows allocations) ≡ allocations
rows_back [] = refl
rows_back (a ∷ allocations) = ap (λ others. a ∷ others) (rows_back allocations)

all_back : (allocations : List McfgAllocation) → allocations_behind (Reserved 8 ∷ allocations_rows allocations) ≡ allocations
all_back allocations =
    let rows : List Row = allocations_rows allocations in
    let count : (length (Reserved 8 ∷ rows) - 1) / 5 ≡ length allocations = omega (arith, length-rows allocations) in
    ap (λ n. allocations_in n rows) count ∙ rows_back allocations

-- wherever the file of the tables is placed
pub linked_mcfg : (place_of : List ℕ → ℕ) (t : Mcfg) → linked_table place_of (McfgVariant t) ≡ McfgVariant t
linked_mcfg place_of t =
    ap (λ rows. McfgVariant (mcfg_of (mcfg_front_of t) (allocations_behind (Reserved 8 ∷ rows)))) (linked-rows place_of t.allocations)
    ∙ ap (λ allocations. McfgVariant (mcfg_of (mcfg_front_of t) allocations)) (all_back t.allocations)

-- that of a machine, which has one allocation
pub size-mcfg : (acpi : Acpi) (b : Bridge) → size (rows_behind (mcfg_layout (mcfg_of_bridge acpi b))) ≡ 24
size-mcfg acpi b = refl

pub mcfg_written : (acpi : Acpi) (b : Bridge) → IsWritable (McfgVariant (mcfg_of_bridge acpi b))
mcfg_written acpi b = record {
  lawful = record { shaped = λ place_of view address held. refl; typed = λ place_of. refl; few = omega arith; rows = search rules };
  lead = tt;
}

-- a bridge whose numbers fit the rows of its allocation
pub record IsLawfulBridge (b : Bridge) : Type 0 where
  pub ecam : b.ecam < 2 ^ 52
  pub last_bus : b.last_bus < 2 ^ 8

pub mcfg_can : (acpi : Acpi) → FitsHead acpi → (b : Bridge) → IsLawfulBridge b → CanBePut (McfgVariant (mcfg_of_bridge acpi b))
mcfg_can acpi fits b lawful =
    let base : b.ecam < 256 ^ 8 = omega (arith, lawful.ecam) in
    record {
      writable = mcfg_written acpi b;
      head = head_fits acpi 1 fits (omega arith);
      fit = search (rules, base, lawful.last_bus);
    }

-- the bridge of an accepted machine whose numbers fit their fields
lawful_if_mapped : (b : Bridge) → IsLawfulBridge b → IfSome (if_mapped b) IsLawfulBridge
lawful_if_mapped b lawful = either (b.ecam == 0)
  where
    either : (none : Bool) → IfSome (cond none None (Some b)) IsLawfulBridge
    either true = tt
    either false = lawful

lawful_part : (part : Option Bridge) → option_map_or has_lawful_ecam part true ≡ true → IfSome part IsFittingBridge
    → IfSome (mapped part) IsLawfulBridge
lawful_part None lawful fit = tt
lawful_part (Some b) lawful fit =
    lawful_if_mapped b (record {
      ecam = ltb-true b.ecam (2 ^ 52) (and_parts (b.ecam % 0x100000 == 0) (nat_lt b.ecam (2 ^ 52)) lawful).1;
      last_bus
          = fit.last_bus;
    })

pub lawful_bridge : (m : Machine) → HasFittingFields m → IsAccepted m → IfSome (mapped m.bridge) IsLawfulBridge
lawful_bridge m fit accepted =
    lawful_part m.bridge (holds_where_kept 0 (option_map_or has_lawful_ecam m.bridge true) (kept m accepted 25)) fit.bridge
