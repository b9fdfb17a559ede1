-- What the FADT among a machine's tables leads to.
use Rattle.std.proofs.Common.{◌≡◌, ℕ, ◌+◌, ◌^◌, ◌<◌, List, map, Option, Some, None, IsSome, IfSome, option_map, option_and_then, refl, ap, sym, ◌∙◌, subst}
use Rattle.vt_bytes.specs.View.{View, bytes_in}
use Rattle.aml_terms.specs.Trees.{Trees}
use Rattle.dsdt_terms.specs.Dsdt.{kept_terms, id_address}
use Rattle.dsdt_terms.proofs.TakenId.{terms_taken}
use Rattle.machine_desc.specs.declared.machine.Machine.{Machine}
use Rattle.machine_desc.specs.declared.machine.Acpi.{Acpi}
use Rattle.machine_desc.specs.Uuids.{uuid_bytes}
use Rattle.machine_desc.specs.declared.acpi_parts.Power.{Power}
use Rattle.acpi_model.specs.declared.acpi.Table.TheVariants.{Fadt}
use Rattle.acpi_model.specs.Kinds.{tables_name}
use Rattle.acpi_model.specs.FadtKind.{fadt_kind, linked_links, links_of}
use Rattle.acpi_records.specs.Facs.{IsFacs}
use Rattle.acpi_model.specs.Found.{IsDsdt, IsIdAt, IsKeptAt, LeadTo}
use Rattle.acpi_records.specs.Facs.{initial_facs}
use Rattle.acpi_model.specs.MachineFadt.{fadt_of, fadt_links}
use Rattle.acpi_model.specs.Acpi.{linked_table, first_links, facs_place, dsdt_place, dsdt_at, dsdt_of, id_of, HasIdAt, tables_of, targets_of}
use Rattle.acpi_model.proofs.Fadts.{linked-fadt}
use Rattle.acpi_model.proofs.SameTold.{first-linked}
use Rattle.acpi_model.proofs.MachineFadts.{leads_to_targets}
use Rattle.acpi_model.proofs.MachineTables.{first_part}

-- the pointers of the machine's part, once it is placed
linked_part : (place_of : List ℕ → ℕ) (acpi : Acpi) (power : Option Power)
    → option_and_then links_of (option_map (linked_table place_of) (option_map (λ part. Fadt (fadt_of acpi part) (fadt_links facs_place dsdt_place)) power))
    ≡ option_map (λ part. linked_links place_of (fadt_links facs_place dsdt_place)) power
linked_part place_of acpi None = refl
linked_part place_of acpi (Some power) = ap links_of (linked-fadt place_of (fadt_of acpi power) (fadt_links facs_place dsdt_place))

machine-links : (place_of : List ℕ → ℕ) (m : Machine) (acpi : Acpi)
    → first_links (map (linked_table place_of) (tables_of m acpi)) ≡ option_map (λ part. linked_links place_of (fadt_links facs_place dsdt_place)) m.power
machine-links place_of m acpi =
    ap (option_and_then links_of) (first-linked place_of fadt_kind.signature (tables_of m acpi)
    ∙ ap (option_map (linked_table place_of)) (first_part m acpi fadt_kind))
    ∙ linked_part place_of acpi m.power

-- what is kept of the machine's DSDT, and the id to which it leads
id_at : (view : View) (address : ℕ) (generation : Option ℕ) → IfSome generation (λ id. (address < 2 ^ 32) × (bytes_in view address 16 ≡ Some (uuid_bytes id)))
    → IsIdAt view (option_map (λ id. address) generation) (option_map uuid_bytes generation)
id_at view address None has = refl
id_at view address (Some id) has = (uuid_bytes id, has.1, refl)

small_where_given : (address : ℕ) (generation : Option ℕ) (Has : ℕ → Type 0) → IfSome generation (λ id. (address < 2 ^ 32) × Has id)
    → IsSome generation → address < 2 ^ 32
small_where_given address None Has has some = absurd (cc)
small_where_given address (Some id) Has has some = has.0

machine_kept : (view : View) (table address : ℕ) (m : Machine) (acpi : Acpi) → IsDsdt view table (dsdt_at address m acpi) → HasIdAt view address m
    → IsKeptAt view table (dsdt_of m acpi) (id_of m)
machine_kept view table address m acpi stands has =
    let small = small_where_given address m.generation (λ id. bytes_in view address 16 ≡ Some (uuid_bytes id)) has in
    let told = terms_taken address m small in
    record {
      written = dsdt_at address m acpi;
      stands = stands;
      kept = (
        kept_terms m,
        refl,
        sym (ap (λ (t : Option ℕ × Trees). t.1) told),
        subst (λ o. IsIdAt view o (id_of m)) (sym (ap (λ (t : Option ℕ × Trees). t.0) told)) (id_at view address m.generation has),
      );
    }

no_id : (generation : Option ℕ) (power : Option Power) → (IsSome generation → IsSome power) → power ≡ None → option_map uuid_bytes generation ≡ None
no_id None power needs none = refl
no_id (Some id) power needs none = absurd (cc (needs refl, none))

pub machine_leads : (view : View) (place_of : List ℕ → ℕ) (m : Machine) (acpi : Acpi) → 0 < place_of tables_name
    → (IsSome m.power → IsFacs view (place_of tables_name + facs_place) initial_facs)
    → (IsSome m.power → IsDsdt view (place_of tables_name + dsdt_place) (dsdt_at (id_address place_of) m acpi))
    → (IsSome m.generation → IsSome m.power) → HasIdAt view (id_address place_of) m
    → LeadTo view (first_links (map (linked_table place_of) (tables_of m acpi))) (targets_of m acpi)
machine_leads view place_of m acpi placed facs dsdt needs has =
    subst (λ links. LeadTo view links (targets_of m acpi)) (sym (machine-links place_of m acpi))
    (leads_to_targets view place_of facs_place dsdt_place (dsdt_of m acpi) (id_of m) placed m.power facs
    (λ some. machine_kept view (place_of tables_name + dsdt_place) (id_address place_of) m acpi (dsdt some) has) (no_id m.generation m.power needs))
