-- What holds of the kind of a type and a length: it has the length, and any bytes are rows of its shape.
use Rattle.std.proofs.Common.{◌≡◌, ℕ, Bool, true, false, cond, ◌&&◌, List, [], ◌∷◌, Some, ◌==◌, inl, inr, refl, subst}
use Rattle.std.specs.List.{find, list_all, AllByRecursion}
use Rattle.std.proofs.lemmas.Bool.{and_parts, cases_Bool, eqb-true}
use Rattle.vt_layout.specs.declared.row.Row.{Row}
use Rattle.vt_layout.specs.declared.row.Row.TheVariants.{Number, BigEndian, Bytes, Named, StringNumber, Ignored, Reserved, Pointer, Sum}
use Rattle.vt_layout.specs.Rows.{size}
use Rattle.vt_layout.specs.Reading.{IsReadable}
use Rattle.smbios_model.specs.StructureKinds.{StructureKind}
use Rattle.smbios_model.specs.Structures.{kinds, kind_for}

-- the test of rows that any bytes can be
is_readable : Row → Bool
is_readable (Named name) = false
is_readable (Pointer width target offset) = false
is_readable (Sum covers) = false
is_readable row = true

readable_row : (row : Row) → is_readable row ≡ true → IsReadable row
unfolding is_readable
readable_row (Number width value) is = tt
readable_row (BigEndian width value) is = tt
readable_row (Bytes width bytes) is = tt
readable_row (StringNumber number) is = tt
readable_row (Ignored width value) is = tt
readable_row (Reserved width) is = tt
readable_row (Named name) is = absurd (cc)
readable_row (Pointer width target offset) is = absurd (cc)
readable_row (Sum covers) is = absurd (cc)

readable_rows : (rows : List Row) → list_all is_readable rows ≡ true → AllByRecursion IsReadable rows
readable_rows [] are = tt
readable_rows (row ∷ rows) are =
    let parts = and_parts (is_readable row) (list_all is_readable rows) are in
    (readable_row row parts.0, readable_rows rows parts.1)

-- what is found passes each test that all pass
found_among : {X : Type 0} (is found : X → Bool) (x y : X) (xs : List X) (test : Bool) → test ≡ is x → list_all found (x ∷ xs) ≡ true
    → (find is xs ≡ Some y → found y ≡ true) → cond test (Some x) (find is xs) ≡ Some y → found y ≡ true
found_among is found x y xs true same all other here =
    let one : x ≡ y = cc in
    subst (λ z. found z ≡ true) one (and_parts (found x) (list_all found xs) all).0
found_among is found x y xs false same all other here = other here

found_passes : {X : Type 0} (is found : X → Bool) (xs : List X) (y : X) → list_all found xs ≡ true → find is xs ≡ Some y → found y ≡ true
found_passes is found [] y all here = absurd (cc)
found_passes is found (x ∷ xs) y all here =
    found_among is found x y xs (is x) refl all (found_passes is found xs y (and_parts (found x) (list_all found xs) all).1) here

-- the rows of each known kind
pub known_readable : (number size_of_area : ℕ) (kind : StructureKind) → kind_for number size_of_area ≡ Some kind
    → AllByRecursion IsReadable kind.shape
unfolding is_readable
known_readable number size_of_area kind known =
    readable_rows kind.shape
    (found_passes (λ (k : StructureKind). number == k.number && size k.shape == size_of_area)
    (λ (k : StructureKind). list_all is_readable k.shape) kinds kind refl known)

-- what is found passes the test
found_tested : {A : Type 0} (test : A → Bool) (items : List A) (item : A) → find test items ≡ Some item → test item ≡ true
found_tested test [] item found = absurd (cc found)
found_tested test (first ∷ items) item found =
    elim (cases_Bool (test first)) [
      | inl passes ↦ cc (passes, found)
      | inr fails ↦ found_tested test items item (cc (fails, found))
    ]

-- an area of a known kind has its size
pub known_sized : (kind : StructureKind) (number size_of_area : ℕ) → kind_for number size_of_area ≡ Some kind → size kind.shape ≡ size_of_area
known_sized kind number size_of_area known =
    let parts = and_parts (number == kind.number) (size kind.shape == size_of_area)
    (found_tested (λ k. number == k.number && size k.shape == size_of_area) kinds kind known) in
    eqb-true (size kind.shape) size_of_area parts.1
