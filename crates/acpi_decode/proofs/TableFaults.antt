-- The table at an address has a fault, or is found, never both, and one fault.
use Rattle.std.proofs.Common.{◌≡◌, ℕ, ◌+◌, ◌-◌, ◌≤◌, ◌⊎◌, inl, inr, ⊎_elim, true, nat_le, List, [], ◌∷◌, ◌++◌}
use Rattle.std.proofs.Common.{Option, Some, None, arith, refl, ap, sym, subst, ◌∙◌}
use Rattle.std.proofs.lemmas.Bool.{le-leb, leb-true}
use Rattle.vt_bytes.specs.View.{View, bytes_in}
use Rattle.vt_bytes.proofs.AtMostOne.{IsOne}
use Rattle.vt_layout.specs.Entries.{Entry, Types}
use Rattle.vt_layout.specs.BadEntries.{AreReadable}
use Rattle.vt_layout.proofs.BadEntries.{never_both, one_bad, entries_or_bad}
use Rattle.acpi_model.specs.declared.form.Form.{Form}
use Rattle.acpi_model.specs.Form.{xsdt_form}
use Rattle.acpi_model.proofs.KnownByForm.{none_known}
use Rattle.acpi_model.specs.declared.acpi.Table.{Table}
use Rattle.acpi_model.specs.declared.acpi.OtherTable.{OtherTable}
use Rattle.acpi_model.specs.declared.acpi.FadtTargets.{FadtTargets}
use Rattle.acpi_model.specs.Kinds.{Kind, EndsWith}
use Rattle.acpi_model.specs.FadtKind.{links_of}
use Rattle.acpi_model.specs.Found.{LeadTo}
use Rattle.acpi_model.specs.Acpi.{kind_by as kind_for, signature_of, IsOther, is_first, IsFoundBehindBy}
use Rattle.acpi_decode.specs.declared.fault.AcpiFault.{AcpiFault}
use Rattle.acpi_decode.specs.declared.fault.AcpiFault.TheVariants.{BadEntry, TwiceGiven}
use Rattle.acpi_decode.specs.declared.kind.KnownKind.{KnownKind}
use Rattle.acpi_decode.specs.declared.kind.KnownKind.TheVariants.{Fadt, Madt, Srat, Slit, Mcfg, Hpet}
use Rattle.acpi_decode.specs.KnownKinds.{kind_of}
use Rattle.acpi_decode.specs.Seen.{is_ram, bytes_from, signature_at, total_at}
use Rattle.acpi_decode.specs.Tests.{Test, FirstFails, Pass, NoFault}
use Rattle.acpi_decode.specs.EntryFaults.{EntryFault}
use Rattle.acpi_decode.specs.TableTests.{header_tests, whole_tests}
use Rattle.acpi_decode.specs.KindTests.{front_of, has_room, tests_behind, body_tests, table_tests}
use Rattle.acpi_decode.specs.Faults.{BadEntryOf, IsFault}
use Rattle.acpi_decode.specs.Read.{head_in, table_at}
use Rattle.acpi_decode.proofs.InRam.{part_ram, ram_bytes}
use Rattle.acpi_decode.proofs.Firsts.{one_first, first_behind, behind_first, first_own, pass_both, pass_front, pass_back, passes_or_fails}
use Rattle.acpi_decode.proofs.KindsListed.{known_as, is_known}
use Rattle.acpi_decode.proofs.KindShapes.{readable_types}
use Rattle.acpi_decode.proofs.Headed.{headed_stands, table_tested}
use Rattle.acpi_decode.proofs.Rooms.{shape_with_room}
use Rattle.acpi_decode.proofs.KnownAt.{IsKnownAt, known_stands, at_known}
use Rattle.acpi_decode.proofs.Linked.{led_pass, passing_leads}

-- a table that is read has the signature of its kind
pub table_signed : (form : Form) (k : KnownKind) (view : View) (address : ℕ) (entries : List Entry)
    → signature_of (table_at (kind_of form k) view address entries) ≡ (kind_of form k).signature
table_signed form Fadt view address entries = refl
table_signed form Madt view address entries = refl
table_signed form Srat view address entries = refl
table_signed form Slit view address entries = refl
table_signed form Mcfg view address entries = refl
table_signed form Hpet view address entries = refl

-- the tests of a table of a kind, behind those of its header
pub known_passes : (form : Form) (k : KnownKind) (view : View) (address : ℕ) (before : List Table) → has_room (kind_of form k) view address ≡ true
    → Pass (whole_tests view address) → is_first (kind_of form k).signature before ≡ true → Pass (tests_behind (kind_of form k).signature view address)
    → Pass (body_tests (Some (kind_of form k)) view address before)
known_passes form k view address before room whole first behind = (
  room,
  pass_both (whole_tests view address) ((is_first (kind_of form k).signature before, TwiceGiven address) ∷ tests_behind
      (kind_of form k).signature view address) whole
      (first, behind),
)

-- one bad entry is the first
one_entry_fault : (types : Option Types) (view : View) (start address count : ℕ) → IsOne (EntryFault types view start address count)
one_entry_fault None view start address count f g is also = absurd is
one_entry_fault (Some types) view start address count f g (before, bad, are, told) (others, other, also, also_told) =
    told ∙ ap BadEntry (one_bad types view start address count before others bad other are also) ∙ sym also_told

one_of_kind : (kind : Option Kind) (view : View) (address : ℕ) → IsOne (BadEntryOf kind view address)
one_of_kind None view address f g is also = absurd is
one_of_kind (Some kind) view address f g is also =
    one_entry_fault kind.types view address (address + front_of kind view address) (total_at view address - front_of kind view address) f g is also

pub one_fault : (form : Form) (view : View) (address : ℕ) (before : List Table) → IsOne (IsFault form view address before)
one_fault form view address before =
    one_first (table_tests form view address before) (BadEntryOf (kind_for form (signature_at view address)) view address)
    (one_of_kind (kind_for form (signature_at view address)) view address)

-- entries that fill a table have no bad one among them
no_bad_entry : (types : Option Types) (view : View) (start address count : ℕ) (entries : List Entry) (fault : AcpiFault)
    → EndsWith types view start address count entries → EntryFault types view start address count fault → ⊥
no_bad_entry None view start address count entries fault ends is = is
no_bad_entry (Some types) view start address count entries fault ends (before, bad, are, told) =
    never_both types view start address count entries before bad ends are

-- a known table that is found has no fault
no_known_fault : (form : Form) (k : KnownKind) (view : View) (address : ℕ) (before : List Table) (entries : List Entry) (targets : FadtTargets)
    (fault : AcpiFault)
    → IsKnownAt form k view address entries → is_first (kind_of form k).signature before ≡ true
    → LeadTo view (links_of (table_at (kind_of form k) view address entries)) targets → IsFault form view address before fault → ⊥
no_known_fault form k view address before entries targets fault known first lead is =
    let kind : kind_for form (signature_at view address) ≡ Some (kind_of form k) = ap (kind_for form) known.signed ∙ is_known form k in
    let faulty = subst (λ o. FirstFails (header_tests view address ++ body_tests o view address before) (BadEntryOf o view address) fault) kind is in
    let pass = known_passes form k view address before known.room known.whole first
    (led_pass form k view address entries targets known.room known.whole lead) in
    no_bad_entry (kind_of form k).types view address (address + front_of (kind_of form k) view address)
    (total_at view address - front_of (kind_of form k) view address) entries
    fault known.ends
    (first_behind (header_tests view address ++ body_tests (Some (kind_of form k)) view address before) (BadEntryOf (Some (kind_of form k)) view address) fault
    (pass_both (header_tests view address) (body_tests (Some (kind_of form k)) view address before) (known.header, tt) pass) faulty)

-- nor has one of another signature
no_other_fault : (form : Form) (view : View) (address : ℕ) (before : List Table) (t : OtherTable) (fault : AcpiFault) → IsOther view address t
    → IsFault form view address before fault → ⊥
no_other_fault form view address before t fault other is =
    let tested = table_tested view address t.signature other.head t.length [] other.stands in
    let kind : kind_for form (signature_at view address) ≡ None = ap (kind_for form) tested.signed ∙ none_known xsdt_form form t.signature other.unknown in
    let faulty = subst (λ o. FirstFails (header_tests view address ++ body_tests o view address before) (BadEntryOf o view address) fault) kind is in
    let long : nat_le 36 (total_at view address) ≡ true = ap (nat_le 36) tested.told ∙ le-leb 36 t.length tested.long in
    first_behind (header_tests view address ++ body_tests None view address before) NoFault fault
    (pass_both (header_tests view address) (body_tests None view address before) (tested.header, tt) (long, tested.whole)) faulty

pub never_found_at_fault : (form : Form) (view : View) (address : ℕ) (before : List Table) (fault : AcpiFault) → IsFoundBehindBy form view address before
    → IsFault form view address before fault → ⊥
never_found_at_fault form view address before fault (inl (t, targets, at, first, lead)) is =
    let of_kind = at_known form view address t at in
    let signed : signature_of t ≡ (kind_of form of_kind.kind).signature = ap signature_of of_kind.is
    ∙ table_signed form of_kind.kind view address of_kind.entries in
    no_known_fault form of_kind.kind view address before of_kind.entries targets fault of_kind.known (subst (λ s. is_first s before ≡ true) signed first)
    (subst (λ (x : Table). LeadTo view (links_of x) targets) of_kind.is lead) is
never_found_at_fault form view address before fault (inr (t, other)) is = no_other_fault form view address before t fault other is

-- the entries of a table of a kind that passes its tests, or its first bad one
ends_or_bad : (types : Option Types) (view : View) (start address count : ℕ) (bytes : List ℕ) → ((those : Types) → types ≡ Some those → AreReadable those)
    → bytes_in view address count ≡ Some bytes
    → ((entries : List Entry) × EndsWith types view start address count entries) ⊎ ((fault : AcpiFault) × EntryFault types view start address count fault)
ends_or_bad None view start address count bytes readable there = inl ([], refl)
ends_or_bad (Some types) view start address count bytes readable there =
    ⊎_elim (λ shown. inl shown) (λ are. inr (BadEntry are.1, (are.0, are.1, are.2, refl)))
    (entries_or_bad types view start address count bytes (readable types refl) there)

-- a table of a kind that stands, and is the first of its kind, is found where what it leads to passes its tests
known_found : (form : Form) (k : KnownKind) (view : View) (address : ℕ) (before : List Table) (entries : List Entry) → IsKnownAt form k view address entries
    → is_first (kind_of form k).signature before ≡ true → Pass (tests_behind (kind_of form k).signature view address) → IsFoundBehindBy form view address before
known_found form k view address before entries known first behind =
    let signed = sym (table_signed form k view address entries) in
    let lead = passing_leads form k view address entries known.room known.whole behind in
    inl (
      table_at (kind_of form k) view address entries,
      lead.0,
      known_stands form k view address entries known,
      subst (λ s. is_first s before ≡ true) signed first,
      lead.1,
    )

-- where a table of a kind passes its tests it is found, or has a bad entry
known_either : (form : Form) (k : KnownKind) (view : View) (address : ℕ) (before : List Table) → is_ram view address 36 ≡ true
    → signature_at view address ≡ (kind_of form k).signature → Pass (body_tests (Some (kind_of form k)) view address before)
    → IsFoundBehindBy form view address before ⊎ ((fault : AcpiFault) × BadEntryOf (Some (kind_of form k)) view address fault)
known_either form k view address before header signed pass =
    let signature = (kind_of form k).signature in
    let behind = (is_first signature before, TwiceGiven address) ∷ tests_behind signature view address in
    let whole = pass_front (whole_tests view address) behind pass.1 in
    let others = pass_back (whole_tests view address) behind pass.1 in
    let front : ℕ = front_of (kind_of form k) view address in
    let total : ℕ = total_at view address in
    let fit = shape_with_room (kind_of form k) view address pass.0 in
    let within : front + (total - front) ≤ total = omega (arith, fit.1.front, fit.1.enough) in
    let there = ram_bytes view (address + front) (total - front) (part_ram view address total front (total - front) whole.0 within) in
    ⊎_elim
    (λ ends. inl (known_found form k view address before ends.0
    (record { header = header; signed = signed; room = pass.0; whole = whole; ends = ends.1 }) others.0 others.1))
    (λ bad. inr bad)
    (ends_or_bad (kind_of form k).types view address (address + front) (total - front) (bytes_from view (address + front) (total - front))
    (readable_types form k) there)

-- the kind of the signature decides
kind_either : (form : Form) (kind : Option Kind) (view : View) (address : ℕ) (before : List Table) → kind_for form (signature_at view address) ≡ kind
    → is_ram view address 36 ≡ true → Pass (body_tests kind view address before)
    → IsFoundBehindBy form view address before ⊎ ((fault : AcpiFault) × BadEntryOf kind view address fault)
kind_either form None view address before is header pass =
    inl (inr (
      record { signature = signature_at view address; length = total_at view address },
      record {
        unknown = none_known form xsdt_form (signature_at view address) is;
        head = head_in (bytes_from view address 36);
        stands = headed_stands view address (signature_at view address) refl (leb-true 36 (total_at view address) pass.0) pass.1;
      },
    ))
kind_either form (Some kind) view address before is header pass =
    let known = known_as form (signature_at view address) kind is in
    let of_kind = subst (λ (x : Kind). Pass (body_tests (Some x) view address before)) (sym known.1) pass in
    let signed : signature_at view address ≡ (kind_of form known.0).signature = known.2 ∙ ap (λ (x : Kind). x.signature) (sym known.1) in
    ⊎_elim (λ found. inl found) (λ bad. inr (bad.0, subst (λ (x : Kind). BadEntryOf (Some x) view address bad.0) known.1 bad.1))
    (known_either form known.0 view address before header signed of_kind)

pub found_or_at_fault : (form : Form) (view : View) (address : ℕ) (before : List Table)
    → IsFoundBehindBy form view address before ⊎ ((fault : AcpiFault) × IsFault form view address before fault)
found_or_at_fault form view address before =
    let kind = kind_for form (signature_at view address) in
    let tests : List Test = table_tests form view address before in
    ⊎_elim
    (λ pass.
    ⊎_elim (λ found. inl found) (λ bad. inr (bad.0, behind_first tests (BadEntryOf kind view address) bad.0 pass bad.1))
    (kind_either form kind view address before refl (pass_front (header_tests view address) (body_tests kind view address before) pass).0
    (pass_back (header_tests view address) (body_tests kind view address before) pass)))
    (λ fails. inr (fails.0, first_own tests (BadEntryOf kind view address) fails.0 fails.1))
    (passes_or_fails tests)
