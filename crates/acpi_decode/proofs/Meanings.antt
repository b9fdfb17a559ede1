-- A memory is read in one way: its tables are shown, or there is one first fault.
use Rattle.std.proofs.Common.{◌≡◌, ℕ, ◌⊎◌, inl, inr, ⊎_elim, List, [], ◌∷◌, ◌++◌}
use Rattle.std.proofs.Common.{Option, Result, Ok, Err, IfOk, IfErr, refl, ap, sym, subst, ◌∙◌, append_assoc, append-nil}
use Rattle.vt_bytes.specs.View.{View}
use Rattle.vt_bytes.proofs.AtMostOne.{IsOne}
use Rattle.acpi_records.specs.declared.header.Head.{Head}
use Rattle.acpi_model.specs.declared.form.Form.{Form}
use Rattle.acpi_model.specs.declared.acpi.AcpiTables.{AcpiTables}
use Rattle.acpi_model.specs.declared.acpi.FadtTargets.{FadtTargets}
use Rattle.acpi_model.specs.declared.acpi.OtherTable.{OtherTable}
use Rattle.acpi_model.specs.declared.acpi.Table.{Table}
use Rattle.acpi_model.specs.Rsdp.{IsRsdpBy, HasRsdpBy}
use Rattle.acpi_model.specs.Xsdt.{IsRoot}
use Rattle.acpi_model.specs.Acpi.{AreFoundBy, AreToldBy, IsFoundBehindBy, with_other}
use Rattle.acpi_model.proofs.OneAcpi.{one_found_all, one_led}
use Rattle.acpi_model.proofs.OneRsdp.{one_rsdp}
use Rattle.acpi_model.proofs.Xsdt.{one_root}
use Rattle.acpi_model.proofs.FoundInTurn.{nothing_found, table_grows, other_grows, found_in_turn}
use Rattle.acpi_decode.specs.declared.fault.AcpiFault.{AcpiFault}
use Rattle.acpi_decode.specs.declared.fault.AcpiFault.TheVariants.{OutOfMemory}
use Rattle.acpi_decode.specs.declared.walked.Walked.{Walked}
use Rattle.acpi_decode.specs.Seen.{bytes_from}
use Rattle.acpi_decode.specs.Tests.{FirstFails}
use Rattle.acpi_decode.specs.TableTests.{root_tests}
use Rattle.acpi_decode.specs.Faults.{IsFault, IsTableFault, FirstBy, IsWalkedBy, MeansBy, OrNoMemory}
use Rattle.acpi_decode.specs.Read.{head_in, named_at}
use Rattle.acpi_decode.specs.Taken.{with_found}
use Rattle.acpi_decode.proofs.Kept.{IsKept, kept_with}
use Rattle.acpi_decode.proofs.Firsts.{one_first, first_behind, behind_first, first_own, passes_or_fails}
use Rattle.acpi_decode.proofs.TableFaults.{one_fault, never_found_at_fault, found_or_at_fault}
use Rattle.acpi_decode.proofs.RootStands.{root_stands, root_passes}
use Rattle.acpi_decode.proofs.Walks.{begun_at}

-- A list that is parted at an item, twice: at the same one, or one front goes on behind the item of the other.
abbrev Agree : List ℕ → ℕ → List ℕ → ℕ → Type 0
Agree xs x zs z =
    ((xs ≡ zs) × (x ≡ z)) ⊎ (((mid : List ℕ) × (zs ≡ xs ++ x ∷ mid)) ⊎ ((mid : List ℕ) × (xs ≡ zs ++ z ∷ mid)))

agree_more : (a : ℕ) (xs : List ℕ) (x : ℕ) (zs : List ℕ) (z : ℕ) → Agree xs x zs z → Agree (a ∷ xs) x (a ∷ zs) z
agree_more a xs x zs z (inl (fronts, items)) = inl (ap (λ more. a ∷ more) fronts, items)
agree_more a xs x zs z (inr (inl (mid, longer))) = inr (inl (mid, ap (λ more. a ∷ more) longer))
agree_more a xs x zs z (inr (inr (mid, longer))) = inr (inr (mid, ap (λ more. a ∷ more) longer))

parts_agree : (xs : List ℕ) (x : ℕ) (ys zs : List ℕ) (z : ℕ) (ws : List ℕ) → xs ++ x ∷ ys ≡ zs ++ z ∷ ws → Agree xs x zs z
parts_agree [] x ys [] z ws same = let items : x ≡ z = cc in inl (refl, items)
parts_agree [] x ys (b ∷ zs) z ws same = let items : b ≡ x = cc in inr (inl (zs, ap (λ i. i ∷ zs) items))
parts_agree (a ∷ xs) x ys [] z ws same = let items : a ≡ z = cc in inr (inr (xs, ap (λ i. i ∷ xs) items))
parts_agree (a ∷ xs) x ys (b ∷ zs) z ws same =
    let items : a ≡ b = cc in
    let tails : xs ++ x ∷ ys ≡ zs ++ z ∷ ws = cc in
    subst (λ i. Agree (a ∷ xs) x (i ∷ zs) z) items (agree_more a xs x zs z (parts_agree xs x ys zs z ws tails))

-- where tables are found at addresses, none of them is at fault
none_at_fault : (form : Form) (view : View) (all before : List ℕ) (address : ℕ) (after : List ℕ) (tables found : List Table) (targets led : FadtTargets)
    (others rest : List OtherTable) (fault : AcpiFault) → all ≡ before ++ address ∷ after → AreFoundBy form view all found led rest
    → AreFoundBy form view before tables targets others → IsFault form view address tables fault → ⊥
none_at_fault form view all before address after tables found targets led others rest fault parts are there is =
    let turn = found_in_turn form view before address after found led rest (subst (λ those. AreFoundBy form view those found led rest) parts are) in
    let same = one_found_all form view before turn.0 tables turn.1 targets turn.2 others turn.3 there in
    never_found_at_fault form view address tables fault (subst (IsFoundBehindBy form view address) same.known turn.4) is

-- so a root names one first table at fault, and none where all are found
named_fault : (form : Form) (view : View) (root : ℕ) (head : Head) (all : List ℕ) (found : List Table) (led : FadtTargets) (rest : List OtherTable)
    (fault : AcpiFault) → IsRoot form view root head all → AreFoundBy form view all found led rest → IsTableFault form view root fault → ⊥
named_fault form view root head all found led rest fault listed are is =
    let same = one_root form view root head is.head all (is.before ++ is.address ∷ is.after) listed is.listed in
    none_at_fault form view all is.before is.address is.after is.tables found is.targets led is.others rest fault same.1 are is.found is.is

one_table_fault : (form : Form) (view : View) (root : ℕ) → IsOne (IsTableFault form view root)
one_table_fault form view root f g is also =
    let same = one_root form view root is.head also.head (is.before ++ is.address ∷ is.after)
    (also.before ++ also.address ∷ also.after) is.listed also.listed in
    ⊎_elim
    (λ here.
    let there = subst (λ those. AreFoundBy form view those is.tables is.targets is.others) here.0 is.found in
    let found = one_found_all form view also.before is.tables also.tables is.targets also.targets is.others also.others there also.found in
    one_fault form view also.address also.tables f g
    (subst (λ those. IsFault form view also.address those f) found.known (subst (λ a. IsFault form view a is.tables f) here.1 is.is)) also.is)
    (λ apart. ⊎_elim
    (λ longer. absurd (none_at_fault form view also.before is.before is.address longer.0 is.tables also.tables is.targets also.targets is.others also.others f
    longer.1 also.found is.found is.is))
    (λ longer. absurd (none_at_fault form view is.before also.before also.address longer.0 also.tables is.tables also.targets is.targets also.others is.others g
    longer.1 is.found also.found also.is)) apart)
    (parts_agree is.before is.address is.after also.before also.address also.after same.1)

-- tables that are shown have no fault
none_shown : (form : Form) (view : View) (rsdp : ℕ) (w : Walked) (fault : AcpiFault) → IsWalkedBy form view rsdp w → FirstBy form view rsdp fault → ⊥
none_shown form view rsdp w fault leads first =
    let root = one_rsdp form view rsdp w.tables.oem_id first.oem_id leads.xsdt first.xsdt leads.valid first.valid in
    let listed = subst (λ x. IsRoot form view x w.tables.xsdt leads.addresses) root.1 leads.listed in
    let faulty = first_behind (root_tests form view first.xsdt) (IsTableFault form view first.xsdt) fault
    (root_passes form view first.xsdt w.tables.xsdt leads.addresses listed) first.is in
    named_fault form view first.xsdt w.tables.xsdt leads.addresses leads.tables.tables leads.tables.targets w.tables.others fault listed
    leads.tables.found faulty

one_first_fault : (form : Form) (view : View) (rsdp : ℕ) → IsOne (FirstBy form view rsdp)
one_first_fault form view rsdp f g is also =
    let root = one_rsdp form view rsdp is.oem_id also.oem_id is.xsdt also.xsdt is.valid also.valid in
    one_first (root_tests form view also.xsdt) (IsTableFault form view also.xsdt) (one_table_fault form view also.xsdt) f g
    (subst (λ x. FirstFails (root_tests form view x) (IsTableFault form view x) f) root.1 is.is) also.is

walked_from : AcpiTables → Option (List ℕ) → Walked
walked_from t id = record { tables = t; generation = id }

one_walked : (form : Form) (view : View) (rsdp : ℕ) → IsOne (IsWalkedBy form view rsdp)
unfolding walked_from
one_walked form view rsdp a b is also =
    let same = one_led form view rsdp a.tables b.tables a.generation b.generation is also in
    ap (λ t. walked_from t a.generation) same.0 ∙ ap (walked_from b.tables) same.1

pub one_meaning : (form : Form) (view : View) (rsdp : ℕ) → IsOne (MeansBy form view rsdp)
one_meaning form view rsdp (Ok s) (Ok t) is also = ap Ok (one_walked form view rsdp s t is also)
one_meaning form view rsdp (Ok s) (Err g) is also = absurd (none_shown form view rsdp s g is also)
one_meaning form view rsdp (Err f) (Ok t) is also = absurd (none_shown form view rsdp t f also is)
one_meaning form view rsdp (Err f) (Err g) is also = ap Err (one_first_fault form view rsdp f g is also)

-- what a memory is read as is what it means, unless memory runs out
pub as_meant : (form : Form) (view : View) (rsdp : ℕ) (result meant : Result Walked AcpiFault) → IfOk result (IsWalkedBy form view rsdp)
    → IfErr result (λ fault. (fault ≡ OutOfMemory) ⊎ FirstBy form view rsdp fault) → MeansBy form view rsdp meant → OrNoMemory result meant
as_meant form view rsdp (Ok t) meant shows refused means = inl (one_meaning form view rsdp (Ok t) meant shows means)
as_meant form view rsdp (Err fault) meant shows refused means =
    ⊎_elim (λ memory. inr (ap Err memory)) (λ is. inl (one_meaning form view rsdp (Err fault) meant is means)) refused

-- Tables at the addresses from one on are all found, or one of them is at fault, behind those that were found before.
record IsStopped (form : Form) (view : View) (all : List ℕ) (fault : AcpiFault) : Type 0 where
  before : List ℕ
  address : ℕ
  after : List ℕ
  parts : all ≡ before ++ address ∷ after
  tables : List Table
  targets : FadtTargets
  others : List OtherTable
  found : AreFoundBy form view before tables targets others
  is : IsFault form view address tables fault

-- a table that is found is added to what was told
grown_by : (form : Form) (view : View) (before : List ℕ) (address : ℕ) (w : Walked) (told : AreToldBy form view before w.tables w.generation)
    → IsFoundBehindBy form view address told.tables
    → (more : Walked) × IsKept w.tables more.tables × AreToldBy form view (before ++ address ∷ []) more.tables more.generation
grown_by form view before address w told (inl (known, targets, at, first, lead)) = (
  with_found known targets w,
  kept_with known targets w.tables,
  (table_grows form view before w.tables w.generation told address known targets at first lead).0,
)
grown_by form view before address w told (inr (other, is)) = (
  record w { tables = with_other other w.tables },
  record { oem_id = refl; xsdt = refl },
  (other_grows form view before w.tables w.generation told address other is).0,
)

abbrev AllToldOrStopped : Form → View → List ℕ → Walked → Type 0
AllToldOrStopped form view all begun =
    ((w : Walked) × IsKept begun.tables w.tables × AreToldBy form view all w.tables w.generation) ⊎ ((fault : AcpiFault) × IsStopped form view all fault)

-- the first of those that are left is found, and so on
told_or_stopped : (form : Form) (view : View) (begun : Walked) (before rest : List ℕ) (w : Walked) → IsKept begun.tables w.tables
    → AreToldBy form view before w.tables w.generation → AllToldOrStopped form view (before ++ rest) begun
told_or_stopped form view begun before [] w kept told =
    inl (w, kept, subst (λ all. AreToldBy form view all w.tables w.generation) (sym (append-nil before)) told)
told_or_stopped form view begun before (address ∷ rest) w kept told =
    let onward : (before ++ address ∷ []) ++ rest ≡ before ++ address ∷ rest = append_assoc before (address ∷ []) rest in
    ⊎_elim
    (λ found.
    let grown = grown_by form view before address w told found in
    let kept_on : IsKept begun.tables grown.0.tables = record { oem_id = grown.1.oem_id ∙ kept.oem_id; xsdt = grown.1.xsdt ∙ kept.xsdt } in
    subst (λ all. AllToldOrStopped form view all begun) onward (told_or_stopped form view begun (before ++ address ∷ []) rest grown.0 kept_on grown.2))
    (λ stopped. inr (
      stopped.0,
      record {
        before = before;
        address = address;
        after = rest;
        parts = refl;
        tables = told.tables;
        targets = told.targets;
        others = w.tables.others;
        found = told.found;
        is = stopped.1;
      },
    )) (found_or_at_fault form view address told.tables)

-- a table at fault, or all that an RSDP leads to
pub shown_or_refused : (form : Form) (view : View) (rsdp : ℕ) → HasRsdpBy form view rsdp
    → ((walked : Walked) × IsWalkedBy form view rsdp walked) ⊎ ((fault : AcpiFault) × FirstBy form view rsdp fault)
shown_or_refused form view rsdp (oem_id, root, valid) =
    ⊎_elim
    (λ pass.
    let head = head_in (bytes_from view root 36) in
    let listed = root_stands form view root pass in
    let begun = begun_at oem_id head in
    ⊎_elim
    (λ all. inl (
      all.0,
      record {
        xsdt = root;
        valid = subst (λ o. IsRsdpBy form view rsdp o root) (sym all.1.oem_id) valid;
        addresses = named_at form view root;
        listed = subst (λ h. IsRoot form view root h (named_at form view root)) (sym all.1.xsdt) listed;
        tables = all.2;
      },
    ))
    (λ stopped. inr (
      stopped.0,
      record {
        oem_id = oem_id;
        xsdt = root;
        valid = valid;
        is = behind_first (root_tests form view root) (IsTableFault form view root) stopped.0 pass (record {
          head = head;
          before = stopped.1.before;
          address = stopped.1.address;
          after = stopped.1.after;
          listed = subst (IsRoot form view root head) stopped.1.parts listed;
          tables = stopped.1.tables;
          targets = stopped.1.targets;
          others = stopped.1.others;
          found = stopped.1.found;
          is = stopped.1.is;
        });
      },
    )) (told_or_stopped form view begun [] (named_at form view root) begun (record { oem_id = refl; xsdt = refl }) (nothing_found form view oem_id head)))
    (λ fails. inr (
      fails.0,
      record {
        oem_id = oem_id;
        xsdt = root;
        valid = valid;
        is = first_own (root_tests form view root) (IsTableFault form view root) fails.0 fails.1;
      },
    )) (passes_or_fails (root_tests form view root))
