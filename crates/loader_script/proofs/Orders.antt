-- A search in the order of the files' names.
use Rattle.std.proofs.Common.{◌≡◌, ◌≢◌, ℕ, suc, ◌+◌, ◌<◌, inl, inr, false, List, [], ◌∷◌, ◌++◌, length, take, get_or}
use Rattle.std.proofs.Common.{Option, Some, None, Result, Ok, Err, Ordering, Less, Equal, Greater, arith, refl, ap, ap₂, subst, sym, ◌∙◌}
use Rattle.std.specs.List.{All, AllByRecursion, position, position_from}
use Rattle.std.specs.List.Sorted.{IsPartitionPoint, IsBinarySearchResult, IsSearchInRange}
use Rattle.std.specs.Result.{result_ok}
use Rattle.std.specs.Cmp.{nat_cmp_is}
use Rattle.std.specs.Cmp.Lexicographic.{slice_cmp}
use Rattle.std.specs.Ordering.{nat_cmp, ordering_then}
use Rattle.std.specs.Str.{bytes_eq}
use Rattle.std.proofs.lemmas.Bool.{cases_Bool, cases_lt, cond-true, cond-false}
use Rattle.std.proofs.lemmas.Cmp.{ranked, nat_cmp_total, lists_total}
use Rattle.std.proofs.lemmas.Iterator.Adapters.{position_from-zero}
use Rattle.std.proofs.lemmas.List.{take_more, length-take-le}
use Rattle.std.proofs.lemmas.List.Elements.{All-nil, All-cons, All-head, All-tail, All-weaker, All-more, All-from_recursion, recursion_from_All}
use Rattle.std.proofs.lemmas.List.Sorted.{All-permutation, IsPermutation-sym, searchable_from_sorted}
use Rattle.std.proofs.lemmas.Option.{none-some, same_Some}
use Rattle.std.proofs.lemmas.Slice.Eq.{bytes_eq-Decides}
use Rattle.vt_outside.specs.Name.{name_of, before_nul, in_field, IsName}
use Rattle.vt_outside.proofs.Names.{name-in_field}
use Rattle.vt_outside.proofs.Texts.{same_text}
use Rattle.loader_script.specs.declared.refusing.FileInfo.{FileInfo}
use Rattle.loader_script.specs.declared.order.NameOrder.{NameOrder}
use Rattle.loader_script.specs.declared.order.NameRow.{NameRow}
use Rattle.loader_script.specs.Refusal.{AreDistinct}
use Rattle.loader_script.specs.Order.{rows_from, IsOrderOf}

-- the row of a file at an index
abbrev pub row_of : FileInfo → ℕ → NameRow
row_of file at = record { field = in_field file.name; index = at }

-- the rows of some files, and of one more
rows-more : (first : ℕ) (files : List FileInfo) (file : FileInfo)
    → rows_from first (files ++ file ∷ []) ≡ rows_from first files ++ row_of file (first + length files) ∷ []
rows-more first [] file = ap (λ at. row_of file at ∷ []) {x = first} {y = first + 0} (omega arith)
rows-more first (other ∷ files) file =
    ap (λ rows. row_of other first ∷ rows)
    (rows-more (suc first) files file
    ∙ ap (λ at. rows_from (suc first) files ++ row_of file at ∷ []) {x = suc first + length files} {y = first + suc (length files)} (omega arith))

pub one_row_more : (files : List FileInfo) (at : ℕ) (file : FileInfo) (rows : List NameRow) (row : NameRow) → at < length files
    → file ≡ get_or files at file → rows ≡ rows_from 0 (take at files) → row.field ≡ in_field file.name → row.index ≡ at
    → rows ++ row ∷ [] ≡ rows_from 0 (take (at + 1) files)
one_row_more files at file rows row within is before field index =
    let long : length (take at files) ≡ at = length-take-le at files (omega (arith, within)) in
    let one : row ≡ row_of file (0 + length (take at files)) = ap₂ (λ (f : List ℕ) (i : ℕ). record { field = f; index = i }) field
    (omega (arith, index, long)) in
    ap₂ (λ (xs : List NameRow) (x : NameRow). xs ++ x ∷ []) before one ∙ sym (rows-more 0 (take at files) file)
    ∙ ap (λ x. rows_from 0 (take at files ++ x ∷ [])) is ∙ ap (rows_from 0) (sym (take_more files at file within))

pub one_name_more : (files : List FileInfo) (at : ℕ) (file : FileInfo) → at < length files → file ≡ get_or files at file
    → AllByRecursion (λ (f : FileInfo). IsName f.name) (take at files) → IsName file.name
    → AllByRecursion (λ (f : FileInfo). IsName f.name) (take (at + 1) files)
one_name_more files at file within is before one =
    let Named : FileInfo → Type 0 = λ f. IsName f.name in
    recursion_from_All Named (take (at + 1) files)
    (All-more Named files at file within (All-from_recursion Named (take at files) before) (subst Named is one))

-- a list compares as equal with itself alone
pub itself_equal : (a : List ℕ) → slice_cmp nat_cmp a a ≡ Equal
itself_equal [] = refl
itself_equal (x ∷ a) = ap (λ o. ordering_then o (slice_cmp nat_cmp a a)) (sym (nat_cmp_is x x Equal refl)) ∙ itself_equal a

-- the first numbers' comparison
equal_first : (o : Ordering) (x y : ℕ) (a b : List ℕ) → o ≡ nat_cmp x y → (slice_cmp nat_cmp a b ≡ Equal → a ≡ b)
    → ordering_then o (slice_cmp nat_cmp a b) ≡ Equal → x ∷ a ≡ y ∷ b
equal_first Less x y a b is rest equal = absurd (cc)
equal_first Equal x y a b is rest equal = ap₂ (λ z c. z ∷ c) (ranked x y Equal is) (rest equal)
equal_first Greater x y a b is rest equal = absurd (cc)

pub equal_is_same : (a b : List ℕ) → slice_cmp nat_cmp a b ≡ Equal → a ≡ b
equal_is_same [] [] equal = refl
equal_is_same [] (y ∷ b) equal = absurd (cc)
equal_is_same (x ∷ a) [] equal = absurd (cc)
equal_is_same (x ∷ a) (y ∷ b) equal = equal_first (nat_cmp x y) x y a b refl (equal_is_same a b) equal

-- names of one field are one
same_field : (a b : List ℕ) → IsName a → IsName b → in_field a ≡ in_field b → a ≡ b
same_field a b first second is =
    let read = sym (name-in_field a first) ∙ ap (λ field. name_of (before_nul field)) is ∙ name-in_field b second in
    cc

-- the index of the file of a name, where the first file has this index
abbrev index_from : ℕ → List FileInfo → List ℕ → Option ℕ
index_from at files name = position_from (λ (file : FileInfo). bytes_eq file.name name) at files

-- where no file has the name there is none
none-indexed : (name : List ℕ) (at : ℕ) (files : List FileInfo) → AllByRecursion (λ (file : FileInfo). bytes_eq file.name name ≡ false) files
    → index_from at files name ≡ None
none-indexed name at [] differ = refl
none-indexed name at (file ∷ files) differ = cond-false _ _ _ differ.0 ∙ none-indexed name (at + 1) files differ.1

-- A row's file is the one of the name, if its field is the name's.
abbrev IsRowOf : ℕ → List FileInfo → List ℕ → NameRow → Type 0
IsRowOf at files name row = row.field ≡ in_field name → index_from at files name ≡ Some row.index

row_first : (at : ℕ) (file : FileInfo) (files : List FileInfo) (name : List ℕ) → IsName file.name → IsName name
    → IsRowOf at (file ∷ files) name (row_of file at)
row_first at file files name first its is =
    cond-true _ _ _ ((bytes_eq-Decides file.name name).1 (same_field file.name name first its is))

row_later : (at : ℕ) (file : FileInfo) (files : List FileInfo) (name : List ℕ) (row : NameRow)
    → AllByRecursion (λ (other : FileInfo). bytes_eq other.name file.name ≡ false) files
    → IsRowOf (at + 1) files name row → IsRowOf at (file ∷ files) name row
row_later at file files name row differ later is =
    elim (cases_Bool (bytes_eq file.name name)) as (λ _. index_from at (file ∷ files) name ≡ Some row.index) [
      | inl same ↦
          let others = subst (λ n. AllByRecursion (λ (other : FileInfo). bytes_eq other.name n ≡ false) files) (same_text file.name name same) differ in
          absurd (none-some row.index (sym (none-indexed name (at + 1) files others) ∙ later is))
      | inr other ↦ cond-false _ _ _ other ∙ later is
    ]

each_row : (at : ℕ) (files : List FileInfo) (name : List ℕ) → AreDistinct files → AllByRecursion (λ (file : FileInfo). IsName file.name) files
    → IsName name → All (IsRowOf at files name) (rows_from at files)
each_row at [] name distinct names its = All-nil (IsRowOf at [] name)
each_row at (file ∷ files) name distinct names its =
    let next : suc at ≡ at + 1 = omega arith in
    let later : All (IsRowOf (at + 1) files name) (rows_from (suc at) files) =
    subst (λ k. All (IsRowOf k files name) (rows_from (suc at) files)) next (each_row (suc at) files name distinct.1 names.1 its) in
    All-cons (IsRowOf at (file ∷ files) name) (row_of file at) (rows_from (suc at) files) (row_first at file files name names.0 its)
    (All-weaker (IsRowOf (at + 1) files name) (IsRowOf at (file ∷ files) name) (λ row. row_later at file files name row distinct.0)
    (rows_from (suc at) files) later)

-- where no row has the name's field no file has the name
no_row : (at : ℕ) (files : List FileInfo) (name : List ℕ) → All (λ (row : NameRow). row.field ≢ in_field name) (rows_from at files)
    → AllByRecursion (λ (file : FileInfo). bytes_eq file.name name ≡ false) files
no_row at [] name differ = tt
no_row at (file ∷ files) name differ =
    let rest = rows_from (suc at) files in
    let Differs : NameRow → Type 0 = λ row. row.field ≢ in_field name in
    let first : bytes_eq file.name name ≡ false = elim (cases_Bool (bytes_eq file.name name)) as (λ _. bytes_eq file.name name ≡ false) [
      | inl same ↦ absurd (All-head Differs (row_of file at) rest differ (ap in_field (same_text file.name name same)))
      | inr other ↦ other
    ] in
    (first, no_row (suc at) files name (All-tail Differs (row_of file at) rest differ))

-- the first index of a name, in two forms
index_is : (files : List FileInfo) (name : List ℕ) → position (λ (file : FileInfo). bytes_eq file.name name) files ≡ index_from 0 files name
index_is files name = position_from-zero (λ (file : FileInfo). bytes_eq file.name name) files

-- a row of the order whose field is the name's has the index of its file
pub found_index : (files : List FileInfo) (order : NameOrder) (name : List ℕ) (at : ℕ) (row : NameRow) → IsOrderOf files order → AreDistinct files
    → IsName name → at < length order.rows.items → row ≡ get_or order.rows.items at row → row.field ≡ in_field name
    → Some row.index ≡ position (λ (file : FileInfo). bytes_eq file.name name) files
found_index files order name at row of distinct its within is same =
    let all = All-permutation (IsRowOf 0 files name) (rows_from 0 files) order.rows.items of.rows (each_row 0 files name distinct of.names its) in
    let indexed : IsRowOf 0 files name row = subst (IsRowOf 0 files name) (sym is) (all at row within) in
    sym (indexed same) ∙ sym (index_is files name)

-- where each row is before the name or behind it there is no such file
pub none_index : (files : List FileInfo) (order : NameOrder) (name : List ℕ) (at : ℕ) → IsOrderOf files order
    → IsPartitionPoint (λ (row : NameRow). slice_cmp nat_cmp row.field (in_field name) ≡ Less)
    (λ (row : NameRow). slice_cmp nat_cmp row.field (in_field name) ≡ Greater) order.rows.items at
    → None ≡ position (λ (file : FileInfo). bytes_eq file.name name) files
none_index files order name at of parted =
    let Differs : NameRow → Type 0 = λ row. row.field ≢ in_field name in
    let equal : (row : NameRow) → row.field ≡ in_field name → slice_cmp nat_cmp row.field (in_field name) ≡ Equal =
    λ row same. ap (λ field. slice_cmp nat_cmp field (in_field name)) same ∙ itself_equal (in_field name) in
    let each : All Differs order.rows.items = λ k d within same.
    elim (cases_lt k at) as (λ _. ⊥) [
      | inl before ↦ let less = parted.0 k d (omega arith) before in let level = equal (get_or order.rows.items k d) same in cc
      | inr behind ↦ let more = parted.1 k d behind within in let level = equal (get_or order.rows.items k d) same in cc
    ] in
    let differ = All-permutation Differs order.rows.items (rows_from 0 files) (IsPermutation-sym (rows_from 0 files) order.rows.items of.rows) each in
    sym (none-indexed name 0 files (no_row 0 files name differ)) ∙ sym (index_is files name)

-- how a row's field compares with the name's
abbrev compares : List ℕ → NameRow → Ordering
compares name row = slice_cmp nat_cmp row.field (in_field name)

-- what a search gives that found nothing
pub index_of_none : (files : List FileInfo) (order : NameOrder) (name : List ℕ) (search : Result ℕ ℕ) (at answer : Option ℕ) → IsOrderOf files order
    → IsBinarySearchResult (compares name) order.rows.items search → at ≡ result_ok search → at ≡ None → answer ≡ None
    → answer ≡ position (λ (file : FileInfo). bytes_eq file.name name) files
index_of_none files order name (Ok k) at answer of found is none answers = absurd (none-some k (sym none ∙ is))
index_of_none files order name (Err k) at answer of parted is none answers =
    answers ∙ none_index files order name k of
    (parted (searchable_from_sorted (lists_total nat_cmp_total) (λ (row : NameRow). row.field) order.rows.items (in_field name) of.sorted))

-- and one that found a row
pub index_of_row : (files : List FileInfo) (order : NameOrder) (name : List ℕ) (search : Result ℕ ℕ) (found : Option ℕ) (at : ℕ) (row : NameRow)
    → IsOrderOf files order → AreDistinct files → IsName name → IsBinarySearchResult (compares name) order.rows.items search
    → IsSearchInRange search (length order.rows.items) → found ≡ result_ok search → found ≡ Some at → row ≡ get_or order.rows.items at row
    → Some row.index ≡ position (λ (file : FileInfo). bytes_eq file.name name) files
index_of_row files order name (Ok k) found at row of distinct its equal within is some there =
    let same : k ≡ at = same_Some k at (sym is ∙ some) in
    let level : slice_cmp nat_cmp row.field (in_field name) ≡ Equal =
    subst (λ (r : NameRow). compares name r ≡ Equal) (ap (λ i. get_or order.rows.items i row) same ∙ sym there) (equal row) in
    found_index files order name at row of distinct its (omega (arith, within, same)) there (equal_is_same row.field (in_field name) level)
index_of_row files order name (Err k) found at row of distinct its parted within is some there = absurd (none-some at (sym is ∙ some))
