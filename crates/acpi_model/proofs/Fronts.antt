-- The front of a layout that lies wholly inside its bytes.
use Rattle.std.proofs.Common.{◌≡◌, ℕ, zero, suc, ◌+◌, ◌-◌, ◌≤◌, Bool, true, false, cond, nat_le, List, [], ◌∷◌, take, drop, arith, refl, ap, sym, subst, ◌∙◌}
use Rattle.std.proofs.lemmas.Bool.{leb-true, le-leb}
use Rattle.std.proofs.Math.Seq.{take-add}
use Rattle.vt_layout.specs.declared.row.Row.{Row}
use Rattle.vt_layout.specs.Rows.{size}
use Rattle.vt_layout.proofs.Sizes.{size-append}
use Rattle.acpi_model.specs.Fronts.{rows_inside}

-- how many rows fields have
abbrev pub all_of : List ℕ → ℕ
all_of [] = 0
all_of (count ∷ counts) = count + all_of counts

-- the bytes of some rows, and of others behind them
pub size-both : (count more : ℕ) (rows : List Row) → size (take (count + more) rows) ≡ size (take count rows) + size (take more (drop count rows))
size-both count more rows = ap size (take-add count more rows) ∙ size-append (take count rows) (take more (drop count rows))

-- fewer rows have no more bytes
pub size-fewer : (few many : ℕ) (rows : List Row) → few ≤ many → size (take few rows) ≤ size (take many rows)
size-fewer few many rows fewer =
    let whole : few + (many - few) ≡ many = omega (arith, fewer) in
    omega (arith, size-both few (many - few) rows, ap (λ n. size (take n rows)) whole)

-- with one field more, where it lies inside
fitted : (within : Bool) (place total count more : ℕ) (rows : List Row) → place ≤ total
    → (within ≡ true → place + size (take count rows) + size (take more (drop count rows)) ≤ total)
    → place + size (take (cond within (count + more) 0) rows) ≤ total
fitted true place total count more rows long inside = omega (arith, inside refl, size-both count more rows)
fitted false place total count more rows long inside = omega (arith, long)

-- the front ends inside the bytes
pub inside_within : (counts : List ℕ) (place total : ℕ) (rows : List Row) → place ≤ total
    → place + size (take (rows_inside counts place total rows) rows) ≤ total
inside_within [] place total rows long = omega (arith, long)
inside_within (count ∷ counts) place total rows long =
    let end : ℕ = place + size (take count rows) in
    fitted (nat_le end total) place total count (rows_inside counts end total (drop count rows)) rows long (λ inside.
    inside_within counts end total (drop count rows) (leb-true end total inside))

-- and holds the rows of the first fields where they do
pub inside_holds : (fields : ℕ) (counts : List ℕ) (place total : ℕ) (rows : List Row) → place + size (take (all_of (take fields counts)) rows) ≤ total
    → all_of (take fields counts) ≤ rows_inside counts place total rows
inside_holds zero counts place total rows fits = omega arith
inside_holds (suc fields) [] place total rows fits = omega arith
inside_holds (suc fields) (count ∷ counts) place total rows fits =
    let more : ℕ = all_of (take fields counts) in
    let end : ℕ = place + size (take count rows) in
    let both = size-both count more rows in
    let held = inside_holds fields counts end total (drop count rows) (omega (arith, fits, both)) in
    let inside : nat_le end total ≡ true = le-leb end total (omega (arith, fits, both)) in
    subst (λ n. count + more ≤ n) (sym (ap (λ b. cond b (count + rows_inside counts end total (drop count rows)) 0) inside)) (omega (arith, held))
