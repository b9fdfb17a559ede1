-- A table that was read is added to what was told before it, or is at fault behind it.
use Rattle.std.proofs.Common.{◌≡◌, ℕ, ◌≤◌, true, false, not, List, [], ◌∷◌, ◌++◌, Option, Some, None, inl, inr, refl, ap, sym, subst, ◌∙◌}
use Rattle.vt_bytes.specs.View.{View}
use Rattle.vt_layout.specs.Entries.{Entry}
use Rattle.acpi_records.specs.Header.{IsTable}
use Rattle.acpi_model.specs.declared.form.Form.{Form}
use Rattle.acpi_model.specs.Form.{xsdt_form}
use Rattle.acpi_model.proofs.KnownByForm.{none_known}
use Rattle.acpi_model.specs.declared.acpi.AcpiTables.{AcpiTables}
use Rattle.acpi_model.specs.declared.acpi.FadtTargets.{FadtTargets}
use Rattle.acpi_model.specs.declared.acpi.OtherTable.{OtherTable}
use Rattle.acpi_model.specs.declared.acpi.Table.{Table}
use Rattle.acpi_model.specs.FadtKind.{links_of}
use Rattle.acpi_model.specs.Found.{LeadTo}
use Rattle.acpi_model.specs.Acpi.{kind_by as kind_for, IsAtBy, IsOther, is_first, AreToldBy, signature_of}
use Rattle.acpi_model.proofs.FoundInTurn.{table_grows, other_grows, fadt_apart, madt_apart, srat_apart, slit_apart, mcfg_apart, hpet_apart}
use Rattle.acpi_decode.specs.declared.fault.AcpiFault.{AcpiFault}
use Rattle.acpi_decode.specs.declared.fault.AcpiFault.TheVariants.{BadLength, TwiceGiven}
use Rattle.acpi_decode.specs.declared.kind.KnownKind.{KnownKind}
use Rattle.acpi_decode.specs.declared.kind.KnownKind.TheVariants.{Fadt, Madt, Srat, Slit, Mcfg, Hpet}
use Rattle.acpi_decode.specs.declared.walked.Walked.{Walked}
use Rattle.acpi_decode.specs.KnownKinds.{kind_of}
use Rattle.acpi_decode.specs.Seen.{is_ram, bytes_from, signature_at, total_at}
use Rattle.acpi_decode.specs.Tests.{FirstFails, Pass, NoFault}
use Rattle.acpi_decode.specs.TableTests.{header_tests, whole_tests}
use Rattle.acpi_decode.specs.KindTests.{tests_behind, has_room, body_tests}
use Rattle.acpi_decode.specs.Faults.{TargetFault, BadEntryOf, IsFault}
use Rattle.acpi_decode.specs.Read.{head_in, table_at, IsRead}
use Rattle.acpi_decode.specs.Taken.{IsTaken, IsRefused, has_kind, with_found}
use Rattle.acpi_decode.proofs.Kept.{kept_with}
use Rattle.acpi_decode.proofs.Firsts.{first_own, first_back, behind_first}
use Rattle.acpi_decode.proofs.KindsListed.{is_known}
use Rattle.acpi_decode.proofs.Headed.{headed_stands}
use Rattle.acpi_decode.proofs.KnownAt.{IsKnownAt, known_stands}
use Rattle.acpi_decode.proofs.Linked.{links_told}
use Rattle.acpi_decode.proofs.TableFaults.{table_signed, known_passes}

-- another table stands where it passes its tests
other_stands : (form : Form) (view : View) (address : ℕ) (signature : List ℕ) (length : ℕ) → signature ≡ signature_at view address
    → length ≡ total_at view address
    → kind_for form signature ≡ None → 36 ≤ length → Pass (whole_tests view address) → IsOther view address (record { signature = signature; length = length })
other_stands form view address signature length signed told other long whole = record {
  unknown = none_known form xsdt_form signature other;
  head = head_in (bytes_from view address 36);
  stands = subst (λ n. IsTable view address signature (head_in (bytes_from view address 36)) n []) (sym told)
      (headed_stands view address signature (sym signed) (subst (λ n. 36 ≤ n) told long) whole);
}

pub other_taken : (form : Form) (view : View) (address : ℕ) (before : Walked) (others : List OtherTable) (signature : List ℕ) (length : ℕ)
    → signature ≡ signature_at view address → length ≡ total_at view address → kind_for form signature ≡ None → 36 ≤ length → Pass (whole_tests view address)
    → others ≡ before.tables.others ++ record { signature = signature; length = length } ∷ []
    → IsTaken form view address before (record before { tables = record before.tables { others = others } })
other_taken form view address before others signature length signed told other long whole are =
    let its = other_stands form view address signature length signed told other long whole in
    record {
      told = λ addresses is.
          subst (λ those. AreToldBy form view (addresses ++ address ∷ []) (record before.tables { others = those }) before.generation) (sym are)
          (other_grows form view addresses before.tables before.generation is address (record { signature = signature; length = length }) its).0;
      oem_id = refl;
      xsdt = refl;
    }

-- the faults of a table of a known kind
known_kind_fault : (form : Form) (k : KnownKind) (view : View) (address : ℕ) (before : List Table) (fault : AcpiFault) → is_ram view address 36 ≡ true
    → (kind_of form k).signature ≡ signature_at view address
    → FirstFails (body_tests (Some (kind_of form k)) view address before) (BadEntryOf (Some (kind_of form k)) view address) fault
    → IsFault form view address before fault
known_kind_fault form k view address before fault header signed is =
    let kind : kind_for form (signature_at view address) ≡ Some (kind_of form k) = ap (kind_for form) (sym signed) ∙ is_known form k in
    subst (λ o. FirstFails (header_tests view address ++ body_tests o view address before) (BadEntryOf o view address) fault) (sym kind)
    (first_back (header_tests view address) (body_tests (Some (kind_of form k)) view address before)
    (BadEntryOf (Some (kind_of form k)) view address) fault (header, tt) is)

-- a table of a kind is told exactly where one was found before
kind_apart : (form : Form) (k : KnownKind) (view : View) (addresses : List ℕ) (all : AcpiTables) (id : Option (List ℕ))
    (is : AreToldBy form view addresses all id)
    → is_first (kind_of form k).signature is.tables ≡ not (has_kind k all)
kind_apart form Fadt view addresses all id is = fadt_apart form view addresses all id is
kind_apart form Madt view addresses all id is = madt_apart form view addresses all id is
kind_apart form Srat view addresses all id is = srat_apart form view addresses all id is
kind_apart form Slit view addresses all id is = slit_apart form view addresses all id is
kind_apart form Mcfg view addresses all id is = mcfg_apart form view addresses all id is
kind_apart form Hpet view addresses all id is = hpet_apart form view addresses all id is

-- a table with a bad entry has no pointers
no_tests_behind : (form : Form) (k : KnownKind) (view : View) (address : ℕ) (fault : AcpiFault) → BadEntryOf (Some (kind_of form k)) view address fault
    → Pass (tests_behind (kind_of form k).signature view address)
no_tests_behind form Fadt view address fault is = absurd is
no_tests_behind form Madt view address fault is = tt
no_tests_behind form Srat view address fault is = tt
no_tests_behind form Slit view address fault is = tt
no_tests_behind form Mcfg view address fault is = tt
no_tests_behind form Hpet view address fault is = tt

-- one of a kind that was found before is refused
pub twice_refused : (form : Form) (k : KnownKind) (view : View) (address : ℕ) (before : Walked) → is_ram view address 36 ≡ true
    → (kind_of form k).signature ≡ signature_at view address → has_room (kind_of form k) view address ≡ true → Pass (whole_tests view address)
    → has_kind k before.tables ≡ true → IsRefused form view address before (TwiceGiven address)
twice_refused form k view address before header signed room whole there addresses is =
    let signature = (kind_of form k).signature in
    let second = kind_apart form k view addresses before.tables before.generation is ∙ ap not there in
    known_kind_fault form k view address is.tables (TwiceGiven address) header signed
    (inr (
      room,
      first_back (whole_tests view address) ((is_first signature is.tables, TwiceGiven address) ∷ tests_behind signature view address)
          (BadEntryOf (Some (kind_of form k)) view address) (TwiceGiven address) whole (inl (second, refl)),
    ))

-- what is tested of a table of a kind before it is read
pub record IsSound (form : Form) (k : KnownKind) (view : View) (address : ℕ) (before : Walked) : Type 0 where
  pub header : is_ram view address 36 ≡ true
  pub signed : (kind_of form k).signature ≡ signature_at view address
  pub room : has_room (kind_of form k) view address ≡ true
  pub whole : Pass (whole_tests view address)
  pub none : has_kind k before.tables ≡ false

first_of_kind : (form : Form) (k : KnownKind) (view : View) (addresses : List ℕ) (all : Walked) (is : AreToldBy form view addresses all.tables all.generation)
    → has_kind k all.tables ≡ false → is_first (kind_of form k).signature is.tables ≡ true
first_of_kind form k view addresses all is none = kind_apart form k view addresses all.tables all.generation is ∙ ap not none

pub entry_refused : (form : Form) (k : KnownKind) (view : View) (address : ℕ) (before : Walked) (fault : AcpiFault) → IsSound form k view address before
    → BadEntryOf (Some (kind_of form k)) view address fault → IsRefused form view address before fault
entry_refused form k view address before fault sound bad addresses is =
    known_kind_fault form k view address is.tables fault sound.header sound.signed
    (behind_first (body_tests (Some (kind_of form k)) view address is.tables) (BadEntryOf (Some (kind_of form k)) view address) fault
    (known_passes form k view address is.tables sound.room sound.whole (first_of_kind form k view addresses before is sound.none)
    (no_tests_behind form k view address fault bad)) bad)

-- the fault of what a table leads to is one of the tests behind it
target_told : (form : Form) (k : KnownKind) (view : View) (address : ℕ) (entries : List Entry) (fault : AcpiFault)
    → has_room (kind_of form k) view address ≡ true
    → Pass (whole_tests view address) → TargetFault view (links_of (table_at (kind_of form k) view address entries)) fault
    → FirstFails (tests_behind (kind_of form k).signature view address) NoFault fault
target_told form Fadt view address entries fault room whole is =
    subst (λ links. TargetFault view links fault) (links_told form view address entries room whole) is
target_told form Madt view address entries fault room whole is = absurd is
target_told form Srat view address entries fault room whole is = absurd is
target_told form Slit view address entries fault room whole is = absurd is
target_told form Mcfg view address entries fault room whole is = absurd is
target_told form Hpet view address entries fault room whole is = absurd is

pub target_refused : (form : Form) (k : KnownKind) (view : View) (address : ℕ) (before : Walked) (t : Table) (fault : AcpiFault)
    → IsSound form k view address before
    → IsRead (kind_of form k) view address t → TargetFault view (links_of t) fault → IsRefused form view address before fault
target_refused form k view address before t fault sound (entries, ends, is_read) faulty addresses is =
    let signature = (kind_of form k).signature in
    let first = first_of_kind form k view addresses before is sound.none in
    let behind = target_told form k view address entries fault sound.room sound.whole
    (subst (λ (x : Table). TargetFault view (links_of x) fault) is_read faulty) in
    let own : FirstFails (body_tests (Some (kind_of form k)) view address is.tables) NoFault fault =
    first_back ((has_room (kind_of form k) view address, BadLength address) ∷ [])
    (whole_tests view address ++ (is_first signature is.tables, TwiceGiven address) ∷ tests_behind signature view address) NoFault fault (sound.room, tt)
    (first_back (whole_tests view address) ((is_first signature is.tables, TwiceGiven address) ∷ tests_behind signature view address) NoFault fault sound.whole
    (first_back ((is_first signature is.tables, TwiceGiven address) ∷ []) (tests_behind signature view address) NoFault fault (first, tt) behind)) in
    known_kind_fault form k view address is.tables fault sound.header sound.signed
    (first_own (body_tests (Some (kind_of form k)) view address is.tables) (BadEntryOf (Some (kind_of form k)) view address) fault own)

pub table_taken : (form : Form) (k : KnownKind) (view : View) (address : ℕ) (before : Walked) (t : Table) (targets : FadtTargets)
    → IsSound form k view address before
    → IsRead (kind_of form k) view address t → LeadTo view (links_of t) targets → IsTaken form view address before (with_found t targets before)
table_taken form k view address before t targets sound (entries, ends, is_read) lead =
    let known : IsKnownAt form k view address entries =
    record { header = sound.header; signed = sym sound.signed; room = sound.room; whole = sound.whole; ends = ends } in
    let at = subst (IsAtBy form view address) (sym is_read) (known_stands form k view address entries known) in
    let kept = kept_with t targets before.tables in
    let signed : (kind_of form k).signature ≡ signature_of t = sym (ap signature_of is_read ∙ table_signed form k view address entries) in
    record {
      told = λ addresses is.
          (table_grows form view addresses before.tables before.generation is address t targets at
          (subst (λ s. is_first s is.tables ≡ true) signed (first_of_kind form k view addresses before is sound.none)) lead).0;
      oem_id = kept.oem_id;
      xsdt = kept.xsdt;
    }
