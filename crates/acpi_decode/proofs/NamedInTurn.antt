-- The entries of a root that are read one after the other.
use Rattle.std.proofs.Common.{◌≡◌, ℕ, zero, suc, ◌+◌, ◌-◌, ◌*◌, ◌<◌, ◌==◌, List, [], ◌∷◌, ◌++◌, inl, inr, arith, refl, ap, sym, subst, ◌∙◌, append-nil}
use Rattle.std.proofs.lemmas.Bool.{cases_Bool, ne_eqb}
use Rattle.vt_bytes.specs.View.{View}
use Rattle.acpi_model.specs.declared.form.Form.{Form}
use Rattle.acpi_model.specs.Form.{address_size}
use Rattle.acpi_model.specs.Xsdt.{given, IsRoot}
use Rattle.acpi_model.specs.Acpi.{AreToldBy}
use Rattle.acpi_decode.specs.declared.fault.AcpiFault.{AcpiFault}
use Rattle.acpi_decode.specs.declared.walked.Walked.{Walked}
use Rattle.acpi_decode.specs.Seen.{bytes_from, number_at, total_at}
use Rattle.acpi_decode.specs.Tests.{Pass}
use Rattle.acpi_decode.specs.TableTests.{root_tests}
use Rattle.acpi_decode.specs.Read.{head_in, numbers_at, entry_count, named_at}
use Rattle.acpi_decode.specs.Taken.{IsTaken, IsRefused, AreRefused}
use Rattle.acpi_decode.proofs.RootStands.{numbers_more, root_stands}

-- the addresses that aren't zero, of two lists
given_both : (xs ys : List ℕ) → given (xs ++ ys) ≡ given xs ++ given ys
given_both [] ys = refl
given_both (x ∷ xs) ys =
    elim (cases_Bool (x == 0)) [
      | inl none ↦ rw none (given_both xs ys)
      | inr some ↦ rw some (ap (λ more. x ∷ more) (given_both xs ys))
    ]

given_one : (address : ℕ) → 0 < address → (more : List ℕ) → given (address ∷ more) ≡ address ∷ given more
given_one address some more = rw (ne_eqb address 0 (λ none. absurd (omega (arith, some, none)))) refl

given_none : (address : ℕ) → address ≡ 0 → given (address ∷ []) ≡ []
given_none address none = rw none refl

-- the numbers behind one of them
numbers_split : (width : ℕ) (view : View) (address i count : ℕ) → i < count → numbers_at width view address count
    ≡ numbers_at width view address i ++ number_at view (address + width * i) width ∷ numbers_at width view (address + width * (i + 1)) (count - (i + 1))
numbers_split width view address zero count below =
    let more : count ≡ suc (count - 1) = omega (arith, below) in
    let here : address ≡ address + width * 0 = omega arith in
    let next : address + width ≡ address + width * (0 + 1) = omega arith in
    let left : count - 1 ≡ count - (0 + 1) = omega arith in
    ap (numbers_at width view address) more ∙ ap (λ a. number_at view a width ∷ numbers_at width view (address + width) (count - 1)) here
    ∙ ap (λ a. number_at view (address + width * 0) width ∷ numbers_at width view a (count - 1)) next
    ∙ ap (λ n. number_at view (address + width * 0) width ∷ numbers_at width view (address + width * (0 + 1)) n) left
numbers_split width view address (suc i) count below =
    let more : count ≡ suc (count - 1) = omega (arith, below) in
    let here : address + width + width * i ≡ address + width * suc i = omega arith in
    let next : address + width + width * (i + 1) ≡ address + width * (suc i + 1) = omega arith in
    let left : count - 1 - (i + 1) ≡ count - (suc i + 1) = omega arith in
    ap (numbers_at width view address) more
    ∙ ap (λ those. number_at view address width ∷ those) (numbers_split width view (address + width) i (count - 1) (omega (arith, below))
    ∙ ap (λ a. numbers_at width view (address + width) i ++ number_at view a width ∷ numbers_at width view (address + width + width * (i + 1))
    (count - 1 - (i + 1))) here
    ∙ ap (λ a. numbers_at width view (address + width) i ++ number_at view (address + width * suc i) width ∷ numbers_at width view a (count - 1 - (i + 1))) next
    ∙ ap (λ n. numbers_at width view (address + width) i ++ number_at view (address + width * suc i) width ∷ numbers_at width view
    (address + width * (suc i + 1)) n) left)

-- The tables that so many entries name were added.
pub record IsReached (form : Form) (view : View) (root : ℕ) (begun now : Walked) (index : ℕ) : Type 0 where
  pub told : AreToldBy form view [] begun.tables begun.generation
      → AreToldBy form view (given (numbers_at (address_size form) view (root + 36) index)) now.tables now.generation
  pub oem_id : now.tables.oem_id ≡ begun.tables.oem_id
  pub header : now.tables.xsdt ≡ begun.tables.xsdt

-- a zero entry is passed over
pub passed_over : (form : Form) (view : View) (root : ℕ) (begun now : Walked) (index : ℕ)
    → number_at view (root + 36 + address_size form * index) (address_size form) ≡ 0
    → IsReached form view root begun now index → IsReached form view root begun now (index + 1)
passed_over form view root begun now index none reached =
    let same : given (numbers_at (address_size form) view (root + 36) (index + 1)) ≡ given (numbers_at (address_size form) view (root + 36) index) =
    ap given (numbers_more (address_size form) view (root + 36) index)
    ∙ given_both (numbers_at (address_size form) view (root + 36) index) (number_at view (root + 36 + address_size form * index) (address_size form) ∷ [])
    ∙ ap (λ more. given (numbers_at (address_size form) view (root + 36) index) ++ more)
    (given_none (number_at view (root + 36 + address_size form * index) (address_size form)) none)
    ∙ append-nil (given (numbers_at (address_size form) view (root + 36) index)) in
    record {
      told = λ begun_told. subst (λ those. AreToldBy form view those now.tables now.generation) (sym same) (reached.told begun_told);
      oem_id = reached.oem_id;
      header = reached.header;
    }

-- any other names a table
pub reached_more : (form : Form) (view : View) (root : ℕ) (begun now next : Walked) (index address : ℕ)
    → address ≡ number_at view (root + 36 + address_size form * index) (address_size form)
    → 0 < address → IsTaken form view address now next → IsReached form view root begun now index → IsReached form view root begun next (index + 1)
reached_more form view root begun now next index address is some taken reached =
    let more : given (numbers_at (address_size form) view (root + 36) (index + 1))
    ≡ given (numbers_at (address_size form) view (root + 36) index) ++ address ∷ [] =
    ap given (numbers_more (address_size form) view (root + 36) index ∙ ap (λ n. numbers_at (address_size form) view (root + 36) index ++ n ∷ []) (sym is))
    ∙ given_both (numbers_at (address_size form) view (root + 36) index) (address ∷ [])
    ∙ ap (λ those. given (numbers_at (address_size form) view (root + 36) index) ++ those) (given_one address some []) in
    record {
      told = λ begun_told.
          subst (λ those. AreToldBy form view those next.tables next.generation) (sym more)
          (taken.told (given (numbers_at (address_size form) view (root + 36) index)) (reached.told begun_told));
      oem_id = taken.oem_id ∙ reached.oem_id;
      header = taken.xsdt ∙ reached.header;
    }

-- the next table is at fault
pub next_refused : (form : Form) (view : View) (root : ℕ) (begun now : Walked) (index address : ℕ) (fault : AcpiFault) → Pass (root_tests form view root)
    → index < entry_count form (total_at view root) → address ≡ number_at view (root + 36 + address_size form * index) (address_size form) → 0 < address
    → IsReached form view root begun now index → IsRefused form view address now fault → AreRefused form view root begun fault
next_refused form view root begun now index address fault pass below is some reached refused begun_told =
    let count : ℕ = entry_count form (total_at view root) in
    let front : List ℕ = numbers_at (address_size form) view (root + 36) index in
    let behind : List ℕ = numbers_at (address_size form) view (root + 36 + address_size form * (index + 1)) (count - (index + 1)) in
    let parts : named_at form view root ≡ given front ++ address ∷ given behind =
    ap given (numbers_split (address_size form) view (root + 36) index count below ∙ ap (λ n. front ++ n ∷ behind) (sym is))
    ∙ given_both front (address ∷ behind) ∙ ap (λ those. given front ++ those) (given_one address some behind) in
    let told = reached.told begun_told in
    record {
      head = head_in (bytes_from view root 36);
      before = given front;
      address = address;
      after = given behind;
      listed = subst (IsRoot form view root (head_in (bytes_from view root 36))) parts (root_stands form view root pass);
      tables = told.tables;
      targets = told.targets;
      others = now.tables.others;
      found = told.found;
      is = refused (given front) told;
    }
