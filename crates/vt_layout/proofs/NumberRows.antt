-- Rows of numbers of one width.
use Rattle.std.proofs.Common.{◌≡◌, ℕ, suc, ◌+◌, ◌*◌, ◌<◌, ◌^◌, List, [], ◌∷◌, length, map, get_or, inr, arith, refl, ap}
use Rattle.std.specs.List.{AllByRecursion}
use Rattle.vt_layout.specs.declared.row.Row.TheVariants.{Number, Pointer}
use Rattle.vt_layout.specs.Rows.{size, shape, linked, IsRow}

pub size-numbers : (width : ℕ) (values : List ℕ) → size (map (Number width) values) ≡ length values * width
size-numbers width [] = omega arith
size-numbers width (value ∷ values) = omega (arith, size-numbers width values)

-- as many have one shape
pub shape-numbers : (width : ℕ) (values others : List ℕ) → length values ≡ length others
    → shape (map (Number width) values) ≡ shape (map (Number width) others)
shape-numbers width [] [] same = refl
shape-numbers width [] (other ∷ others) same = absurd (omega arith)
shape-numbers width (value ∷ values) [] same = absurd (omega arith)
shape-numbers width (value ∷ values) (other ∷ others) same =
    ap (λ rows. Number width 0 ∷ rows) (shape-numbers width values others (omega arith))

-- the same rows have the same numbers
pub same_numbers : (width : ℕ) (values others : List ℕ) → map (Number width) values ≡ map (Number width) others → values ≡ others
same_numbers width [] [] same = refl
same_numbers width [] (other ∷ others) same = absurd (cc)
same_numbers width (value ∷ values) [] same = absurd (cc)
same_numbers width (value ∷ values) (other ∷ others) same =
    let rest : values ≡ others = same_numbers width values others (cc) in
    cc

-- rows of pointers into one file: each fits any place below 3 GiB
pub are_pointers : (name offsets : List ℕ) → ((i : ℕ) → get_or offsets i 0 < 2 ^ 32) → AllByRecursion IsRow (map (Pointer 8 name) offsets)
are_pointers name [] fit = tt
are_pointers name (offset ∷ offsets) fit =
    let first = fit 0 in
    ((inr (inr (inr refl)), omega arith), are_pointers name offsets (λ i. fit (suc i)))

pub size-pointers : (width : ℕ) (name offsets : List ℕ) → size (map (Pointer width name) offsets) ≡ length offsets * width
size-pointers width name [] = omega arith
size-pointers width name (offset ∷ offsets) = omega (arith, size-pointers width name offsets)

-- pointers into one file are the numbers of its places
pub linked-pointers : (place_of : List ℕ → ℕ) (width : ℕ) (name offsets : List ℕ)
    → linked place_of (map (Pointer width name) offsets) ≡ map (Number width) (map (λ offset. offset + place_of name) offsets)
linked-pointers place_of width name [] = refl
linked-pointers place_of width name (offset ∷ offsets) =
    ap (λ rows. Number width (offset + place_of name) ∷ rows) (linked-pointers place_of width name offsets)
