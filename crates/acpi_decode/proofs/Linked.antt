-- The pointers of an FADT, as its rows tell them.
use Rattle.std.proofs.Common.{◌≡◌, ℕ, ◌+◌, ◌≤◌, true, List, [], ◌∙◌, Some, arith, refl, ap, sym, subst}
use Rattle.vt_bytes.specs.View.{View}
use Rattle.vt_layout.specs.declared.row.Row.{Row}
use Rattle.vt_layout.specs.Rows.{size}
use Rattle.acpi_model.specs.declared.acpi.Table.{Table}
use Rattle.acpi_decode.specs.ShortFadts.{fadt_front, fadt_at}
use Rattle.vt_layout.specs.Entries.{Entry}
use Rattle.acpi_model.specs.declared.form.Form.{Form}
use Rattle.acpi_model.specs.declared.acpi.FadtTargets.{FadtTargets}
use Rattle.acpi_model.specs.FadtKind.{fadt_kind_by, links_of}
use Rattle.acpi_model.specs.Found.{LeadTo}
use Rattle.acpi_model.specs.Acpi.{no_targets}
use Rattle.acpi_decode.specs.declared.kind.KnownKind.{KnownKind}
use Rattle.acpi_decode.specs.declared.kind.KnownKind.TheVariants.{Fadt, Madt, Srat, Slit, Mcfg, Hpet}
use Rattle.acpi_decode.specs.KnownKinds.{kind_of}
use Rattle.acpi_decode.specs.Seen.{bytes_from, total_at}
use Rattle.acpi_decode.specs.Tests.{Pass}
use Rattle.acpi_decode.specs.TableTests.{whole_tests}
use Rattle.acpi_decode.specs.KindTests.{links_at, has_room, tests_behind}
use Rattle.acpi_decode.specs.Read.{table_at}
use Rattle.acpi_decode.proofs.InRam.{ram_bytes, front_ram}
use Rattle.acpi_decode.proofs.ShortFadts.{fadt_shaped}
use Rattle.acpi_decode.proofs.FadtPointers.{pointers, four_links, pointer_told}
use Rattle.acpi_decode.proofs.TableStands.{table_shaped}
use Rattle.acpi_decode.proofs.LedTo.{targets_pass, targets_found}

-- an FADT has at least a header
pub long_fadt : (form : Form) (view : View) (address : ℕ) → has_room (fadt_kind_by form) view address ≡ true → 36 ≤ total_at view address
long_fadt form view address room = omega (arith, (fadt_shaped form view address room).enough)

-- the rows of an FADT that are pointers are shown as its bytes spell them
pub links_told : (form : Form) (view : View) (address : ℕ) (entries : List Entry) → has_room (fadt_kind_by form) view address ≡ true
    → Pass (whole_tests view address) → links_of (table_at (fadt_kind_by form) view address entries) ≡ Some (links_at view address)
unfolding pointers
links_told form view address entries room whole =
    let total : ℕ = total_at view address in
    let front : List Row = fadt_front total in
    let formed = fadt_shaped form view address room in
    let bytes : List ℕ = bytes_from view address (36 + size front) in
    let long = long_fadt form view address room in
    let there = ram_bytes view address (36 + size front) (front_ram view address total (36 + size front) whole.0 formed.enough) in
    let facs = pointer_told view address 1 0 4 refl (omega arith) refl refl long bytes there in
    let dsdt = pointer_told view address 2 1 4 refl (omega arith) refl refl long bytes there in
    let x_facs = pointer_told view address 43 46 8 refl (omega arith) refl refl long bytes there in
    let x_dsdt = pointer_told view address 44 47 8 refl (omega arith) refl refl long bytes there in
    ap links_of (table_shaped (fadt_kind_by form) view address front entries formed.shape)
    ∙ ap Some (four_links facs dsdt x_facs x_dsdt)

-- and the table at its address is what its bytes are
pub fadt_found : (form : Form) (view : View) (address length : ℕ) (t : Table) → has_room (fadt_kind_by form) view address ≡ true
    → length ≡ total_at view address → t ≡ fadt_at view address length → t ≡ table_at (fadt_kind_by form) view address []
fadt_found form view address length t room told is =
    is ∙ ap (fadt_at view address) told
    ∙ sym (table_shaped (fadt_kind_by form) view address (fadt_front (total_at view address)) [] (fadt_shaped form view address room).shape)

pub led_pass : (form : Form) (k : KnownKind) (view : View) (address : ℕ) (entries : List Entry) (targets : FadtTargets)
    → has_room (kind_of form k) view address ≡ true
    → Pass (whole_tests view address) → LeadTo view (links_of (table_at (kind_of form k) view address entries)) targets
    → Pass (tests_behind (kind_of form k).signature view address)
led_pass form Fadt view address entries targets room whole lead =
    targets_pass view (links_at view address) targets
    (subst (λ links. LeadTo view links targets) (links_told form view address entries room whole) lead)
led_pass form Madt view address entries targets room whole lead = tt
led_pass form Srat view address entries targets room whole lead = tt
led_pass form Slit view address entries targets room whole lead = tt
led_pass form Mcfg view address entries targets room whole lead = tt
led_pass form Hpet view address entries targets room whole lead = tt

pub passing_leads : (form : Form) (k : KnownKind) (view : View) (address : ℕ) (entries : List Entry) → has_room (kind_of form k) view address ≡ true
    → Pass (whole_tests view address) → Pass (tests_behind (kind_of form k).signature view address)
    → (targets : FadtTargets) × LeadTo view (links_of (table_at (kind_of form k) view address entries)) targets
passing_leads form Fadt view address entries room whole pass =
    let found = targets_found view (links_at view address) pass in
    (found.0, subst (λ links. LeadTo view links found.0) (sym (links_told form view address entries room whole)) found.1)
passing_leads form Madt view address entries room whole pass = (no_targets, (refl, refl, refl))
passing_leads form Srat view address entries room whole pass = (no_targets, (refl, refl, refl))
passing_leads form Slit view address entries room whole pass = (no_targets, (refl, refl, refl))
passing_leads form Mcfg view address entries room whole pass = (no_targets, (refl, refl, refl))
passing_leads form Hpet view address entries room whole pass = (no_targets, (refl, refl, refl))
