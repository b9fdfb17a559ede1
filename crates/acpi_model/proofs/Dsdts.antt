-- At most one DSDT stands at an address, and one that a view holds as it was written stands there.
use Rattle.std.proofs.Common.{◌≡◌, ℕ, zero, suc, ◌+◌, ◌-◌, ◌*◌, ◌/◌, ◌%◌, ◌<◌, inl, inr, List, [], ◌∷◌, ◌++◌, codes, Option, Some, None}
use Rattle.std.proofs.Common.{option_map, option_and_then, arith, refl, ap, sym, subst, ◌∙◌}
use Rattle.std.specs.List.{AllByRecursion}
use Rattle.std.proofs.lemmas.Option.{same_Some}
use Rattle.vt_bytes.specs.Numbers.{le, le_bytes}
use Rattle.vt_bytes.specs.View.{View, bytes_in, number_in}
use Rattle.vt_bytes.proofs.AtMostOne.{IsOne}
use Rattle.vt_bytes.proofs.Each.{each_weaker}
use Rattle.vt_layout.specs.declared.row.Row.{Row}
use Rattle.vt_layout.specs.declared.row.Row.TheVariants.{Pointer, Sum}
use Rattle.vt_layout.specs.Rows.{IsRow, IsPlain, width_of, bytes_of, size, spelled, linked_row, linked}
use Rattle.vt_layout.specs.Shown.{RowHeld, Held, LayoutShown, LayoutHeld}
use Rattle.vt_layout.proofs.Shows.{shown_rows, shown_front, held_back}
use Rattle.aml_terms.specs.declared.term.Term.{Term}
use Rattle.aml_terms.specs.Trees.{view, views}
use Rattle.aml_terms.specs.Grammar.{Aml}
use Rattle.aml_terms.proofs.OneList.{one_list_of_terms}
use Rattle.aml_terms.proofs.FromTrees.{from_trees}
use Rattle.acpi_records.specs.declared.header.Head.{Head}
use Rattle.acpi_records.specs.Header.{header_rows}
use Rattle.acpi_model.specs.declared.dsdt.Dsdt.TheVariants.{Terms, Foreign}
use Rattle.acpi_model.specs.Found.{IsBlock, IsBlockRow, ShowsBytes, IsSpelledIn, IsDsdt, dsdt_rows}
use Rattle.acpi_model.proofs.OneTable.{one_table}

-- terms with the same trees are the same
pub same_terms : (terms others : List Term) → views terms ≡ views others → terms ≡ others
same_terms [] [] same = refl
same_terms [] (b ∷ others) same = absurd (cc)
same_terms (a ∷ terms) [] same = absurd (cc)
same_terms (a ∷ terms) (b ∷ others) same =
    let first : view a ≡ view b = cc in
    let behind : views terms ≡ views others = cc in
    ap (λ (term : Term). term ∷ terms) (from_trees a b first) ∙ ap (λ those. b ∷ those) (same_terms terms others behind)

-- what two DSDTs have in common
record AreSame (h g : Head) (n k : ℕ) (block other : List ℕ) : Type 0 where
  headers : h ≡ g
  totals : n ≡ k
  blocks : block ≡ other

-- one header, one length and one definition block stand at an address
one_block : (seen : View) (address : ℕ) (h g : Head) (n k : ℕ) (block other : List ℕ) → IsBlock seen address h n block
    → IsBlock seen address g k other → AreSame h g n k block other
one_block seen address h g n k block other is also =
    let same = one_table seen address (codes "DSDT") (codes "DSDT") n k h g [] [] is.stands also.stands (λ totals. refl) in
    let there = subst (λ total. bytes_in seen (address + 36) (total - 36) ≡ Some block) same.totals is.there in
    record { headers = same.headers; totals = same.totals; blocks = same_Some block other (sym there ∙ also.there) }

pub one_dsdt : (seen : View) (address : ℕ) → IsOne (IsDsdt seen address)
one_dsdt seen address (Terms h terms) (Terms g others) is also =
    let same = one_block seen address h g is.total also.total is.block also.block is.stands also.stands in
    let here = subst (Aml (views terms)) same.blocks is.spelled in
    let trees = one_list_of_terms also.block (views terms) (views others) here also.spelled in
    ap (λ head. Terms head terms) same.headers ∙ ap (Terms g) (same_terms terms others trees)
one_dsdt seen address (Terms h terms) (Foreign g k) is also =
    let same = one_block seen address h g is.total k is.block also.block is.stands also.stands in
    absurd (also.foreign (views terms) (subst (Aml (views terms)) same.blocks is.spelled))
one_dsdt seen address (Foreign h n) (Terms g others) is also =
    let same = one_block seen address h g n also.total is.block also.block is.stands also.stands in
    absurd (is.foreign (views others) (subst (Aml (views others)) (sym same.blocks) also.spelled))
one_dsdt seen address (Foreign h n) (Foreign g k) is also =
    let same = one_block seen address h g n k is.block also.block is.stands also.stands in
    ap (λ head. Foreign head n) same.headers ∙ ap (Foreign g) same.totals

-- a byte, where there is one, and the bytes behind it
abbrev with_first : Option ℕ → Option (List ℕ) → Option (List ℕ)
with_first byte rest = option_and_then (λ first. option_map (λ more. first ∷ more) rest) byte

first_digit : (byte : Option ℕ) (rest : Option (List ℕ)) (width n : ℕ) → ((first : ℕ) → byte ≡ Some first → first < 256)
    → ((m : ℕ) → option_map le rest ≡ Some m → rest ≡ Some (le_bytes width m)) → option_map le (with_first byte rest) ≡ Some n
    → with_first byte rest ≡ Some (le_bytes (suc width) n)
first_digit None rest width n small others is = absurd (cc)
first_digit (Some first) None width n small others is = absurd (cc)
first_digit (Some first) (Some more) width n small others is =
    let number : first + 256 * le more ≡ n = same_Some (first + 256 * le more) n is in
    let below = small first refl in
    let low : first ≡ n % 256 = omega (arith, number, below) in
    let high : le more ≡ n / 256 = omega (arith, number, below) in
    let behind : more ≡ le_bytes width (n / 256) =
    same_Some more (le_bytes width (n / 256)) (others (le more) refl ∙ ap (λ m. Some (le_bytes width m)) high) in
    ap (λ digit. Some (digit ∷ more)) low ∙ ap (λ digits. Some (n % 256 ∷ digits)) behind

-- bytes that spell a number are those that it is written as
number_bytes : (seen : View) → ShowsBytes seen → (address width n : ℕ) → number_in seen address width ≡ Some n
    → bytes_in seen address width ≡ Some (le_bytes width n)
unfolding bytes_in
number_bytes seen bytes address zero n is = refl
number_bytes seen bytes address (suc width) n is =
    first_digit (seen address) (bytes_in seen (address + 1) width) width n (bytes address) (number_bytes seen bytes (address + 1) width) is

-- a row that is held has the bytes that it is written as, once its target's place is added
abbrev IsSpelled : View → Row → Type 0
IsSpelled seen (Pointer width target offset) = ShowsBytes seen
IsSpelled seen (Sum covers) = ⊥
IsSpelled seen row = Unit {0}

spelled_plain : (seen : View) (row : Row) → IsPlain row → IsSpelled seen row
spelled_plain seen (Pointer width target offset) plain = absurd plain
spelled_plain seen (Sum covers) plain = absurd plain
spelled_plain seen row plain = tt

spelled_body : (seen : View) → ShowsBytes seen → (row : Row) → IsBlockRow row → IsSpelled seen row
spelled_body seen bytes (Pointer width target offset) body = bytes
spelled_body seen bytes (Sum covers) body = absurd body
spelled_body seen bytes row body = tt

row_bytes : (seen : View) (place_of : List ℕ → ℕ) (start address : ℕ) (row : Row) → IsSpelled seen row → RowHeld seen place_of start address row
    → bytes_in seen address (width_of row) ≡ Some (bytes_of (linked_row place_of row))
row_bytes seen place_of start address (Pointer width target offset) bytes held =
    number_bytes seen bytes address width (offset + place_of target) held
row_bytes seen place_of start address (Sum covers) spelled held = absurd spelled
row_bytes seen place_of start address row spelled held = held

-- bytes, and those behind them
more_bytes : (byte : Option ℕ) (rest whole : Option (List ℕ)) (bytes others : List ℕ)
    → ((more : List ℕ) → rest ≡ Some more → whole ≡ Some (more ++ others)) → with_first byte rest ≡ Some bytes
    → with_first byte whole ≡ Some (bytes ++ others)
more_bytes None rest whole bytes others joined is = absurd (cc)
more_bytes (Some first) None whole bytes others joined is = absurd (cc)
more_bytes (Some first) (Some more) whole bytes others joined is =
    ap (option_map (λ those. first ∷ those)) (joined more refl) ∙ ap (λ those. Some (those ++ others)) (same_Some (first ∷ more) bytes is)

bytes_joined : (seen : View) (address front back : ℕ) (bytes others : List ℕ) → bytes_in seen address front ≡ Some bytes
    → bytes_in seen (address + front) back ≡ Some others → bytes_in seen address (front + back) ≡ Some (bytes ++ others)
unfolding bytes_in
bytes_joined seen address zero back bytes others first second =
    let place : address ≡ address + 0 = omega arith in
    let count : zero + back ≡ back = omega arith in
    ap (bytes_in seen address) count ∙ ap (λ a. bytes_in seen a back) place ∙ second
    ∙ ap (λ those. Some (those ++ others)) (same_Some [] bytes first)
bytes_joined seen address (suc front) back bytes others first second =
    let place : address + suc front ≡ address + 1 + front = omega arith in
    let count : suc front + back ≡ suc (front + back) = omega arith in
    ap (bytes_in seen address) count
    ∙ more_bytes (seen address) (bytes_in seen (address + 1) front) (bytes_in seen (address + 1) (front + back)) bytes others
    (λ more is. bytes_joined seen (address + 1) front back more others is (subst (λ a. bytes_in seen a back ≡ Some others) place second)) first

rows_bytes : (seen : View) (place_of : List ℕ → ℕ) (start address : ℕ) (rows : List Row) → AllByRecursion (IsSpelled seen) rows
    → Held seen place_of start address rows → bytes_in seen address (size rows) ≡ Some (spelled (linked place_of rows))
unfolding bytes_in
rows_bytes seen place_of start address [] are held = refl
rows_bytes seen place_of start address (row ∷ rows) are held =
    bytes_joined seen address (width_of row) (size rows) (bytes_of (linked_row place_of row)) (spelled (linked place_of rows))
    (row_bytes seen place_of start address row are.0 held.0) (rows_bytes seen place_of start (address + width_of row) rows are.1 held.1)

-- the rows of a definition block are spelled by what a view holds where it shows bytes alone, or they have no pointers
all_spelled : (seen : View) (block : List Row) → AllByRecursion IsBlockRow block → IsSpelledIn seen block
    → AllByRecursion (IsSpelled seen) block
all_spelled seen block body (inl plain) = each_weaker IsPlain (IsSpelled seen) (spelled_plain seen) block plain
all_spelled seen block body (inr bytes) = each_weaker IsBlockRow (IsSpelled seen) (spelled_body seen bytes) block body

pub held_dsdt : (seen : View) (place_of : List ℕ → ℕ) (address : ℕ) (head : Head) (block : List Row) (terms : List Term)
    → AllByRecursion IsRow (dsdt_rows head block) → AllByRecursion IsBlockRow block → LayoutHeld seen place_of address (dsdt_rows head block)
    → IsSpelledIn seen block → Aml (views terms) (spelled (linked place_of block)) → IsDsdt seen address (Terms head terms)
held_dsdt seen place_of address head block terms are body held either terms_are =
    let total : ℕ = 36 + size block in
    let header : List Row = header_rows (codes "DSDT") total head in
    let all : LayoutShown seen address (header ++ linked place_of block) = shown_rows seen place_of address address (header ++ block) are held in
    let back = held_back seen place_of address address header block held in
    let count : size block ≡ total - 36 = omega arith in
    record {
      total = total;
      block = spelled (linked place_of block);
      stands = record {
        stands = record { long_enough = omega arith; shown = shown_front seen address address header (linked place_of block) all };
        there = subst (λ n. bytes_in seen (address + 36) n ≡ Some (spelled (linked place_of block))) count
            (rows_bytes seen place_of address (address + 36) block (all_spelled seen block body either) back);
      };
      spelled = terms_are;
    }
