-- Bytes that are written into a file, piece by piece.
use Rattle.std.proofs.Common.{◌≡◌, ℕ, ◌+◌, ◌≤◌, ◌==◌, Bool, true, false, cond, List, [], ◌∷◌, ◌++◌, length, Option, Some, None}
use Rattle.std.proofs.Common.{inl, inr, arith, sym, refl, ap, ap₂, subst, ◌∙◌}
use Rattle.std.specs.Prelude.{IsSomeAnd}
use Rattle.std.specs.Option.{option_map_or}
use Rattle.std.specs.List.{flat_map, AllByRecursion, position_or_len}
use Rattle.std.proofs.lemmas.Bool.{cases_Bool, cond-true, cond-false, cond_both, eqb-true, false≢true}
use Rattle.std.proofs.lemmas.List.{places, same_lists, length-map}
use Rattle.std.proofs.lemmas.List.Folds.{find_at}
use Rattle.std.proofs.lemmas.List.Sums.{passes_at_first}
use Rattle.std.proofs.lemmas.Option.{slice_get_cases}
use Rattle.vt_bytes.proofs.PutAt.{length-put_at, put_at-none}
use Rattle.vt_bytes.specs.Numbers.{be_bytes}
use Rattle.vt_bytes.specs.Parts.{put_at}
use Rattle.vt_bytes.proofs.Each.{each_weaker}
use Rattle.vt_layout.specs.Rows.{spelled}
use Rattle.cfg_directory.specs.declared.item.Item.{Item}
use Rattle.cfg_directory.specs.Items.{IsItems, AreDistinct, HasNoSelect, selected, with_bytes_at, directory_of, entry_rows, entry_bytes}
use Rattle.cfg_directory.proofs.BytesPut.{IsFound, one_put, fits_in, IsItems-put}
use Rattle.cfg_dma.specs.Device.{contents, bytes_of, signature, features, FitsIn, IsWritable}
use Rattle.cfg_dma.proofs.Holds.{bytes_small, contents-file}

-- whether an item has a selector; an item with bytes put into its own; and the same, only where it has the selector
abbrev pub has : ℕ → Item → Bool
has select item = item.select == select

abbrev pub put_in : ℕ → List ℕ → Item → Item
put_in offset piece item = record item { bytes = put_at item.bytes offset piece }

abbrev pub put_if : ℕ → ℕ → List ℕ → Item → Item
put_if select offset piece item = cond (has select item) (put_in offset piece item) item

-- ---- the file of a selector

-- what holds of the file of a selector holds of each item with that selector, since no other has it
abbrev pub EachWith : ℕ → (Item → Type 0) → List Item → Type 0
EachWith select P items = AllByRecursion (λ (item : Item). has select item ≡ true → P item) items

none_with : (P : Item → Type 0) (items : List Item) (select : ℕ) → HasNoSelect items select → EachWith select P items
none_with P [] select none = tt
none_with P (item ∷ items) select none = (λ its. absurd (false≢true (sym none.0 ∙ its)), none_with P items select none.1)

found_here : (P : Item → Type 0) (first : Item) (items : List Item) (select : ℕ) → has select first ≡ true
    → IsSomeAnd (selected (first ∷ items) select) P → P first
found_here P first items select its some =
    subst (λ (o : Option Item). IsSomeAnd o P) (cond-true (has select first) (Some first) (selected items select) its) some

found_later : (P : Item → Type 0) (first : Item) (items : List Item) (select : ℕ) → has select first ≡ false
    → IsSomeAnd (selected (first ∷ items) select) P → IsSomeAnd (selected items select) P
found_later P first items select other some =
    subst (λ (o : Option Item). IsSomeAnd o P) (cond-false (has select first) (Some first) (selected items select) other) some

each_with : (P : Item → Type 0) (items : List Item) (select : ℕ) → AreDistinct items → IsSomeAnd (selected items select) P → EachWith select P items
each_with P [] select distinct some = tt
each_with P (first ∷ items) select distinct some =
    elim (cases_Bool (has select first)) as (λ _. EachWith select P (first ∷ items)) [
      | inl its ↦ (
        λ _. found_here P first items select its some,
        none_with P items select (subst (HasNoSelect items) (eqb-true first.select select its) distinct.1),
      )
      | inr other ↦ (
        λ its. absurd (false≢true (sym other ∙ its)),
        each_with P items select distinct.3 (found_later P first items select other some),
      )
    ]

-- a file's selector is none of the other items'
pub file_select : (items : List Item) (select : ℕ) (P : Item → Type 0) → AreDistinct items → IsSomeAnd (selected items select) P → 0x20 ≤ select
file_select [] select P distinct some = absurd some
file_select (first ∷ items) select P distinct some = elim (cases_Bool (has select first)) as (λ _. 0x20 ≤ select) [
  | inl its ↦ omega (arith, distinct.2, eqb-true first.select select its)
  | inr other ↦ file_select items select P distinct.3 (found_later P first items select other some)
]

fits_found : (o : Option Item) (count : ℕ) → IsSomeAnd o (λ (item : Item). count ≤ length item.bytes)
    → count ≤ length (option_map_or (λ (item : Item). item.bytes) o [])
fits_found None count fits = absurd fits
fits_found (Some item) count fits = fits

found_less : (o : Option Item) (less count : ℕ) → less ≤ count → IsSomeAnd o (λ (item : Item). count ≤ length item.bytes)
    → IsSomeAnd o (λ (item : Item). less ≤ length item.bytes)
found_less None less count below fits = fits
found_less (Some item) less count below fits = omega (arith, fits)

fits_bytes : (items : List Item) (select count : ℕ) → FitsIn items select count → count ≤ length (bytes_of items select)
fits_bytes items select count fits = fits_found (selected items select) count fits

-- it fits where more fits, and is no more than all files
pub fits_less : (items : List Item) (select less count : ℕ) → less ≤ count → FitsIn items select count → FitsIn items select less
fits_less items select less count below fits = found_less (selected items select) less count below fits

pub fits_small : (items : List Item) (select count : ℕ) → IsItems items → FitsIn items select count → count ≤ 67108864
fits_small items select count lawful fits = omega (arith, fits_bytes items select count fits, bytes_small items select, lawful.small)

-- ---- one item

put_twice : (bytes front back : List ℕ) (offset : ℕ)
    → put_at (put_at bytes offset front) (offset + length front) back ≡ put_at bytes offset (front ++ back)
put_twice bytes front back offset = same_lists _ _ (grind (arith, places)) (λ k d h. grind (arith, places))

-- an item with a selector is changed, and no other
changed : (select offset : ℕ) (piece : List ℕ) (item : Item) → has select item ≡ true → put_if select offset piece item ≡ put_in offset piece item
changed select offset piece item its = cond-true (has select item) (put_in offset piece item) item its

kept : (select offset : ℕ) (piece : List ℕ) (item : Item) → has select item ≡ false → put_if select offset piece item ≡ item
kept select offset piece item other = cond-false (has select item) (put_in offset piece item) item other

item_twice : (select offset : ℕ) (front back : List ℕ) (item : Item)
    → put_if select (offset + length front) back (put_if select offset front item) ≡ put_if select offset (front ++ back) item
item_twice select offset front back item =
    let again = put_if select (offset + length front) back in
    elim (cases_Bool (has select item)) as (λ _. again (put_if select offset front item) ≡ put_if select offset (front ++ back) item) [
      | inl its ↦
          ap again (changed select offset front item its) ∙ changed select (offset + length front) back (put_in offset front item) its
          ∙ ap (λ (bytes : List ℕ). record item { bytes = bytes }) (put_twice item.bytes front back offset)
          ∙ sym (changed select offset (front ++ back) item its)
      | inr other ↦
          ap again (kept select offset front item other) ∙ kept select (offset + length front) back item other
          ∙ sym (kept select offset (front ++ back) item other)
    ]

item_none : (select offset : ℕ) (item : Item) → put_if select offset [] item ≡ item
item_none select offset item =
    elim (cases_Bool (has select item)) as (λ _. put_if select offset [] item ≡ item) [
      | inl its ↦ changed select offset [] item its ∙ ap (λ (bytes : List ℕ). record item { bytes = bytes }) (put_at-none item.bytes offset)
      | inr other ↦ kept select offset [] item other
    ]

-- it keeps its selector, how many bytes it has, and its entry in the directory
item_select : (select offset : ℕ) (piece : List ℕ) (item : Item) → (put_if select offset piece item).select ≡ item.select
item_select select offset piece item =
    cond_both (has select item) (put_in offset piece item) item (λ (i : Item). i.select ≡ item.select) (λ _. refl) (λ _. refl)

item_length : (select offset : ℕ) (piece : List ℕ) (item : Item) → (has select item ≡ true → offset + length piece ≤ length item.bytes)
    → length (put_if select offset piece item).bytes ≡ length item.bytes
item_length select offset piece item within =
    cond_both (has select item) (put_in offset piece item) item (λ (i : Item). length i.bytes ≡ length item.bytes)
    (λ its. length-put_at item.bytes offset piece (within its)) (λ _. refl)

item_entry : (select offset : ℕ) (piece : List ℕ) (item : Item) → (has select item ≡ true → offset + length piece ≤ length item.bytes)
    → entry_bytes (put_if select offset piece item) ≡ entry_bytes item
item_entry select offset piece item within =
    cond_both (has select item) (put_in offset piece item) item (λ (i : Item). entry_bytes i ≡ entry_bytes item)
    (λ its. ap (λ size. spelled (entry_rows size item.select item.name)) (length-put_at item.bytes offset piece (within its))) (λ _. refl)

-- ---- all items

abbrev pub Fit : List Item → ℕ → ℕ → List ℕ → Type 0
Fit items select offset piece = EachWith select (λ (item : Item). offset + length piece ≤ length item.bytes) items

-- bytes fit where as many or more do
pub fit_from : (items : List Item) (select offset count : ℕ) (piece : List ℕ) → AreDistinct items → FitsIn items select (offset + count)
    → length piece ≤ count → Fit items select offset piece
fit_from items select offset count piece distinct fits below =
    each_weaker (λ (item : Item). has select item ≡ true → offset + count ≤ length item.bytes)
    (λ (item : Item). has select item ≡ true → offset + length piece ≤ length item.bytes) (λ item fit its. omega (arith, fit its)) items
    (each_with (λ (item : Item). offset + count ≤ length item.bytes) items select distinct fits)

pub written_twice : (items : List Item) (select offset : ℕ) (front back : List ℕ)
    → with_bytes_at (with_bytes_at items select offset front) select (offset + length front) back ≡ with_bytes_at items select offset (front ++ back)
written_twice [] select offset front back = refl
written_twice (item ∷ items) select offset front back =
    ap₂ (λ (i : Item) (is : List Item). i ∷ is) (item_twice select offset front back item) (written_twice items select offset front back)

pub written_none : (items : List Item) (select offset : ℕ) → with_bytes_at items select offset [] ≡ items
written_none [] select offset = refl
written_none (item ∷ items) select offset =
    ap₂ (λ (i : Item) (is : List Item). i ∷ is) (item_none select offset item) (written_none items select offset)

entries_written : (items : List Item) (select offset : ℕ) (piece : List ℕ) → Fit items select offset piece
    → flat_map entry_bytes (with_bytes_at items select offset piece) ≡ flat_map entry_bytes items
entries_written [] select offset piece fit = refl
entries_written (item ∷ items) select offset piece fit =
    ap₂ (λ (entry rest : List ℕ). entry ++ rest) (item_entry select offset piece item fit.0) (entries_written items select offset piece fit.1)

pub directory_written : (items : List Item) (select offset : ℕ) (piece : List ℕ) → Fit items select offset piece
    → directory_of (with_bytes_at items select offset piece) ≡ directory_of items
directory_written items select offset piece fit =
    ap₂ (λ (count : ℕ) (entries : List ℕ). be_bytes 4 count ++ entries) (length-map items (put_if select offset piece))
    (entries_written items select offset piece fit)

-- items stay lawful
pub put_lawful : (items : List Item) (select offset : ℕ) (piece : List ℕ) → IsItems items → FitsIn items select (offset + length piece)
    → IsItems (with_bytes_at items select offset piece)
put_lawful items select offset piece lawful fits =
    let place = position_or_len (has select) items in
    elim (slice_get_cases items place).1 as (λ _. IsItems (with_bytes_at items select offset piece)) [
      | inl there ↦
          let item = there.0 in
          let found : IsFound items select place item = record {
            at = there.2;
            passes = eqb-true item.select select (ap (has select) (sym there.3) ∙ passes_at_first (has select) items item there.1);
            found = find_at (has select) items ∙ there.2;
          } in
          subst IsItems (one_put items select offset piece place item lawful.distinct there.2 found.passes)
          (IsItems-put items select place item offset piece lawful found (fits_in items select place item offset piece found fits))
      | inr none ↦
          absurd (subst (λ (o : Option Item). IsSomeAnd o (λ (item : Item). offset + length piece ≤ length item.bytes))
          (find_at (has select) items ∙ none.1) fits)
    ]

-- each file keeps how many bytes it has
pub length-bytes_of : (items : List Item) (select offset other : ℕ) (piece : List ℕ) → Fit items select offset piece
    → length (bytes_of (with_bytes_at items select offset piece) other) ≡ length (bytes_of items other)
length-bytes_of [] select offset other piece fit = refl
length-bytes_of (item ∷ items) select offset other piece fit =
    let now = put_if select offset piece item in
    let rest = with_bytes_at items select offset piece in
    let named : has other now ≡ has other item = ap (λ s. s == other) (item_select select offset piece item) in
    let bytes : Item → List ℕ = λ (i : Item). i.bytes in
    elim (cases_Bool (has other item)) as (λ _. length (bytes_of (now ∷ rest) other) ≡ length (bytes_of (item ∷ items) other)) [
      | inl its ↦
          ap (λ (o : Option Item). length (option_map_or bytes o [])) (cond-true (has other now) (Some now) (selected rest other) (named ∙ its))
          ∙ item_length select offset piece item fit.0
          ∙ sym (ap (λ (o : Option Item). length (option_map_or bytes o [])) (cond-true (has other item) (Some item) (selected items other) its))
      | inr not ↦
          ap (λ (o : Option Item). length (option_map_or bytes o [])) (cond-false (has other now) (Some now) (selected rest other) (named ∙ not))
          ∙ length-bytes_of items select offset other piece fit.1
          ∙ sym (ap (λ (o : Option Item). length (option_map_or bytes o [])) (cond-false (has other item) (Some item) (selected items other) not))
    ]

-- so what fits in a file fits in it still
pub fits_written : (items : List Item) (select offset count : ℕ) (piece : List ℕ) → Fit items select offset piece → FitsIn items select count
    → FitsIn (with_bytes_at items select offset piece) select count
fits_written [] select offset count piece fit fits = fits
fits_written (item ∷ items) select offset count piece fit fits =
    let now = put_if select offset piece item in
    let rest = with_bytes_at items select offset piece in
    let named : has select now ≡ has select item = ap (λ s. s == select) (item_select select offset piece item) in
    let P : Item → Type 0 = λ (i : Item). count ≤ length i.bytes in
    elim (cases_Bool (has select item)) as (λ _. FitsIn (now ∷ rest) select count) [
      | inl its ↦
          let here = found_here P item items select its fits in
          let still : count ≤ length now.bytes = omega (arith, item_length select offset piece item fit.0, here) in
          subst (λ (o : Option Item). IsSomeAnd o P) (sym (cond-true (has select now) (Some now) (selected rest select) (named ∙ its))) still
      | inr not ↦
          let later = fits_written items select offset count piece fit.1 (found_later P item items select not fits) in
          subst (λ (o : Option Item). IsSomeAnd o P) (sym (cond-false (has select now) (Some now) (selected rest select) (named ∙ not))) later
    ]

-- a file that may be written stays one
pub writable_written : (items : List Item) (select offset : ℕ) (piece : List ℕ) → IsWritable items select
    → IsWritable (with_bytes_at items select offset piece) select
writable_written [] select offset piece may = may
writable_written (item ∷ items) select offset piece may =
    let now = put_if select offset piece item in
    let rest = with_bytes_at items select offset piece in
    let named : has select now ≡ has select item = ap (λ s. s == select) (item_select select offset piece item) in
    let same : now.writable ≡ item.writable =
    cond_both (has select item) (put_in offset piece item) item (λ (i : Item). i.writable ≡ item.writable) (λ _. refl) (λ _. refl) in
    let P : Item → Type 0 = λ (i : Item). i.writable ≡ true in
    elim (cases_Bool (has select item)) as (λ _. IsWritable (now ∷ rest) select) [
      | inl its ↦
          subst (λ (o : Option Item). IsSomeAnd o P) (sym (cond-true (has select now) (Some now) (selected rest select) (named ∙ its)))
          (same ∙ found_here P item items select its may)
      | inr not ↦
          let later = writable_written items select offset piece (found_later P item items select not may) in
          subst (λ (o : Option Item). IsSomeAnd o P) (sym (cond-false (has select now) (Some now) (selected rest select) (named ∙ not))) later
    ]

length-cond : (b : Bool) (x y x' y' : List ℕ) → length x ≡ length x' → length y ≡ length y' → length (cond b x y) ≡ length (cond b x' y')
length-cond true x y x' y' first second = first
length-cond false x y x' y' first second = second

pub length-contents : (items : List Item) (select offset other : ℕ) (piece : List ℕ) → Fit items select offset piece
    → length (contents (with_bytes_at items select offset piece) other) ≡ length (contents items other)
unfolding contents
length-contents items select offset other piece fit =
    length-cond (other == 0x0000) signature _ signature _ refl
    (length-cond (other == 0x0001) features _ features _ refl
    (length-cond (other == 0x0019) (directory_of (with_bytes_at items select offset piece)) (bytes_of (with_bytes_at items select offset piece) other)
    (directory_of items) (bytes_of items other) (ap length (directory_written items select offset piece fit))
    (length-bytes_of items select offset other piece fit)))

-- what fits in a file fits in what its selector names
pub fits_held : (items : List Item) (select count : ℕ) → AreDistinct items → FitsIn items select count → count ≤ length (contents items select)
fits_held items select count distinct fits =
    let file = file_select items select (λ (item : Item). count ≤ length item.bytes) distinct fits in
    let same : bytes_of items select ≡ contents items select =
    contents-file items select (λ is. absurd (omega (arith, is, file))) (λ is. absurd (omega (arith, is, file))) (λ is. absurd (omega (arith, is, file))) in
    omega (arith, ap length same, fits_bytes items select count fits)
