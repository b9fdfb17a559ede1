-- A memory is scanned in one way by each search: what it shows of both anchors, or one first fault.
use Rattle.std.proofs.Common.{◌≡◌, ℕ, List, ◌⊎◌, inl, inr, ⊎_elim, Option, Some, None, Result, Ok, Err, IfOk, IfErr, refl, ap, subst}
use Rattle.vt_bytes.specs.View.{View}
use Rattle.vt_bytes.proofs.AtMostOne.{IsOne}
use Rattle.acpi_model.specs.declared.acpi.AcpiTables.{AcpiTables}
use Rattle.acpi_model.specs.declared.form.Form.{Form}
use Rattle.acpi_model.specs.Rsdp.{HasRsdpBy}
use Rattle.acpi_model.specs.Acpi.{LeadsToAcpiBy}
use Rattle.acpi_decode.specs.declared.fault.AcpiFault.{AcpiFault}
use Rattle.acpi_decode.specs.declared.walked.Walked.{Walked}
use Rattle.acpi_decode.specs.Faults.{FirstBy}
use Rattle.acpi_decode.proofs.Meanings.{one_meaning}
use Rattle.smbios_model.specs.declared.smbios.SmbiosTable.{SmbiosTable}
use Rattle.smbios_decode.specs.declared.fault.SmbiosFault.{SmbiosFault}
use Rattle.smbios_decode.specs.declared.fault.SmbiosFault.TheVariants as smbios
use Rattle.table_model.specs.declared.inventory.Inventory.{Inventory}
use Rattle.table_model.specs.declared.search.Search.{Search}
use Rattle.table_model.specs.declared.search.RootSearch.{RootSearch}
use Rattle.table_model.specs.Inventory.{ShowsTablesBy, ShowsStructuresBy, ShowsBy}
use Rattle.table_model.proofs.OneSearch.{one_root}
use Rattle.table_model.proofs.OneInventory.{shown_root, one_inventory}
use Rattle.anchor_scan.specs.declared.fault.ScanFault.{ScanFault}
use Rattle.anchor_scan.specs.declared.fault.ScanFault.TheVariants.{Acpi, Smbios, OutOfMemory}
use Rattle.anchor_scan.specs.Scan.{of_smbios, RefusesAcpiBy, RefusesAcpiOf, RefusesSmbiosOf, ShowsSomeTables, RefusesBy, ScannedAs, OrOutOfMemory}
use Rattle.anchor_scan.specs.Gathered.{IsShown, inventory_of}
use Rattle.anchor_scan.proofs.OneSmbiosScan.{smbios_never_both, one_smbios_fault}

pub smbios_told : (search : Search) (view : View) (fault : SmbiosFault) → ShowsSomeTables search.root view
    → (fault ≡ smbios.OutOfMemory) ⊎ RefusesSmbiosOf search.anchor view fault
    → (of_smbios fault ≡ OutOfMemory) ⊎ RefusesBy search view (of_smbios fault)
smbios_told search view smbios.OutOfMemory shows is = inl refl
smbios_told search view (smbios.Truncated a) shows is =
    ⊎_elim (λ memory. absurd (cc memory)) (λ refuses. inr ((λ same. absurd (cc same)), refuses, shows)) is
smbios_told search view (smbios.ShortStructure a) shows is =
    ⊎_elim (λ memory. absurd (cc memory)) (λ refuses. inr ((λ same. absurd (cc same)), refuses, shows)) is
smbios_told search view smbios.NoEnd shows is =
    ⊎_elim (λ memory. absurd (cc memory)) (λ refuses. inr ((λ same. absurd (cc same)), refuses, shows)) is
smbios_told search view (smbios.NoSuchString a n) shows is =
    ⊎_elim (λ memory. absurd (cc memory)) (λ refuses. inr ((λ same. absurd (cc same)), refuses, shows)) is

-- an RSDP with a fault stands at its address
refused_root : (form : Form) (view : View) (fault : AcpiFault) (is : RefusesAcpiBy form view fault) → HasRsdpBy form view is.rsdp
refused_root form view fault is = (is.first.oem_id, is.first.xsdt, is.first.valid)

-- what is shown of ACPI has no fault, and there is one fault
shows_or_refuses : (form : Form) (view : View) (p q : ℕ) (t : AcpiTables) (id : Option (List ℕ)) (fault : AcpiFault) → p ≡ q
    → LeadsToAcpiBy form view p t id → FirstBy form view q fault → ⊥
shows_or_refuses form view p q t id fault place leads first =
    let walked : Walked = record { tables = t; generation = id } in
    let same = one_meaning form view q (Ok walked) (Err fault) (subst (λ a. LeadsToAcpiBy form view a t id) place leads) first in
    absurd (cc same)

shown_or_refused : (search : RootSearch) (view : View) (part : Option AcpiTables) (id : Option (List ℕ)) (fault : AcpiFault)
    → ShowsTablesBy search view part id → RefusesAcpiOf search view fault → ⊥
shown_or_refused search view None id fault none refuses =
    none.0 refuses.form refuses.sought refuses.refuses.rsdp (refused_root refuses.form view fault refuses.refuses)
shown_or_refused search view (Some t) id fault shows refuses =
    let same =
    one_root search view shows.form refuses.form shows.shown.rsdp refuses.refuses.rsdp shows.sought refuses.sought
    (shown_root shows.form view t id shows.shown) (refused_root refuses.form view fault refuses.refuses) shows.first refuses.first in
    shows_or_refuses refuses.form view shows.shown.rsdp refuses.refuses.rsdp t id fault same.0
    (subst (λ form. LeadsToAcpiBy form view shows.shown.rsdp t id) same.1 shows.shown.leads) refuses.refuses.first

one_acpi_fault : (search : RootSearch) (view : View) → IsOne (RefusesAcpiOf search view)
one_acpi_fault search view f g is also =
    let same =
    one_root search view is.form also.form is.refuses.rsdp also.refuses.rsdp is.sought also.sought (refused_root is.form view f is.refuses)
    (refused_root also.form view g also.refuses) is.first also.first in
    let there : FirstBy also.form view also.refuses.rsdp f =
    subst (λ a. FirstBy also.form view a f) same.0 (subst (λ form. FirstBy form view is.refuses.rsdp f) same.1 is.refuses.first) in
    let faults : Err f ≡ Err g = one_meaning also.form view also.refuses.rsdp (Err f) (Err g) there also.refuses.first in
    cc faults

-- what is shown of both has no fault
never_both : (search : Search) (top : ℕ) (view : View) (inventory : Inventory) (fault : ScanFault) → ShowsBy search top view inventory
    → RefusesBy search view fault → ⊥
never_both search top view inventory (Acpi fault) shows refuses =
    shown_or_refused search.root view inventory.acpi inventory.generation fault shows.acpi refuses.1
never_both search top view inventory (Smbios fault) shows refuses =
    smbios_never_both search.anchor view inventory.smbios fault shows.smbios refuses.1
never_both search top view inventory OutOfMemory shows refuses = refuses

one_fault : (search : Search) (view : View) → IsOne (RefusesBy search view)
one_fault search view (Acpi f) (Acpi g) is also = ap Acpi (one_acpi_fault search.root view f g is.1 also.1)
one_fault search view (Acpi f) (Smbios g) is also =
    absurd (shown_or_refused search.root view also.2.tables also.2.generation f also.2.shown is.1)
one_fault search view (Smbios f) (Acpi g) is also = absurd (shown_or_refused search.root view is.2.tables is.2.generation g is.2.shown also.1)
one_fault search view (Smbios f) (Smbios g) is also = ap Smbios (one_smbios_fault search.anchor view f g is.1 also.1)
one_fault search view OutOfMemory g is also = absurd is
one_fault search view (Acpi f) OutOfMemory is also = absurd also
one_fault search view (Smbios f) OutOfMemory is also = absurd also

pub one_scan : (search : Search) (top : ℕ) (view : View) → IsOne (ScannedAs search top view)
one_scan search top view (Ok s) (Ok t) is also = ap Ok (one_inventory search top view s t is also)
one_scan search top view (Ok s) (Err g) is also = absurd (never_both search top view s g is also)
one_scan search top view (Err f) (Ok t) is also = absurd (never_both search top view t f also is)
one_scan search top view (Err f) (Err g) is also = ap Err (one_fault search view f g is also)

-- what a memory is scanned as is what it means, unless memory runs out
pub as_scanned : (search : Search) (top : ℕ) (view : View) (result meant : Result Inventory ScanFault) → IfOk result (ShowsBy search top view)
    → IfErr result (λ fault. (fault ≡ OutOfMemory) ⊎ RefusesBy search view fault) → ScannedAs search top view meant → OrOutOfMemory result meant
as_scanned search top view (Ok t) meant shows refused means = inl (one_scan search top view (Ok t) meant shows means)
as_scanned search top view (Err fault) meant shows refused means =
    ⊎_elim (λ memory. inr (ap Err memory)) (λ is. inl (one_scan search top view (Err fault) meant is means)) refused

-- the inventory of what was read from both anchors
pub inventory_shows : (search : Search) (top : ℕ) (view : View) (walked : Option Walked) (found : Option SmbiosTable)
    → IsShown search.root view walked → ShowsStructuresBy search.anchor view found → ShowsBy search top view (inventory_of top walked found)
inventory_shows search top view None found tables smbios = record { its_top = refl; smbios = smbios; acpi = (tables, refl) }
inventory_shows search top view (Some w) found tables smbios = record { its_top = refl; smbios = smbios; acpi = tables }

-- what is shown of ACPI by what was walked
pub acpi_part : (search : RootSearch) (view : View) (walked : Option Walked) → IsShown search view walked → ShowsSomeTables search view
acpi_part search view None shows = record { tables = None; generation = None; shown = (shows, refl) }
acpi_part search view (Some w) shows = record { tables = Some w.tables; generation = w.generation; shown = shows }
