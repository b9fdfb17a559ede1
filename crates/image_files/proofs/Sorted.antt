-- Files that are put in the order of their names, one after the other.
use Rattle.std.proofs.Common.{◌≡◌, ℕ, zero, suc, ◌+◌, ◌-◌, ◌≤◌, true, false, cond, not, List, [], ◌∷◌, ◌++◌, length, replicate, refl, ap}
use Rattle.std.proofs.Common.{sym, ◌∙◌, arith, nat_le, Ordering, Less, Equal, Greater}
use Rattle.std.proofs.lemmas.Bool.{and_parts, leb-true}
use Rattle.std.specs.List.{insert, list_all, position_or_len}
use Rattle.std.specs.Cmp.{nat_cmp_is}
use Rattle.std.specs.Cmp.Lexicographic.{slice_cmp}
use Rattle.std.specs.Ordering.{nat_cmp, ordering_then}
use Rattle.vt_outside.specs.Name.{in_field, is_printable, IsName}
use Rattle.vt_outside.proofs.Names.{Printable, Printable-from}
use Rattle.image_files.specs.Files.{ImageFile, is_not_behind, among, by_name}

-- files put among others, the last of them first
abbrev pub sorted_onto : List ImageFile → List ImageFile → List ImageFile
sorted_onto [] sorted = sorted
sorted_onto (file ∷ files) sorted = among file (sorted_onto files sorted)

-- onto no others they are sorted
pub onto_none : (files : List ImageFile) → sorted_onto files [] ≡ by_name files
onto_none [] = refl
onto_none (file ∷ files) = ap (among file) (onto_none files)

-- the last file is put among them first
pub onto_last : (files : List ImageFile) (file : ImageFile) (sorted : List ImageFile)
    → sorted_onto (files ++ file ∷ []) sorted ≡ sorted_onto files (among file sorted)
onto_last [] file sorted = refl
onto_last (first ∷ files) file sorted = ap (among first) (onto_last files file sorted)

-- a file is put in front of the first one whose name it isn't behind
pub among_is : (file : ImageFile) (files : List ImageFile)
    → insert files (position_or_len (λ (other : ImageFile). is_not_behind file.name other.name) files) file ≡ among file files
among_is file [] = refl
among_is file (first ∷ files) =
    elim (is_not_behind file.name first.name) as (λ before.
    insert (first ∷ files) (cond (not before) (1 + position_or_len (λ (other : ImageFile). is_not_behind file.name other.name) files) 0) file
    ≡ cond before (file ∷ first ∷ files) (first ∷ among file files)) [
      | true ↦ refl
      | false ↦
          let place : ℕ = position_or_len (λ (other : ImageFile). is_not_behind file.name other.name) files in
          let next : 1 + place ≡ suc place = omega arith in
          ap (λ (k : ℕ). insert (first ∷ files) k file) next ∙ ap (λ (fs : List ImageFile). first ∷ fs) (among_is file files)
    ]

-- a list compares as equal with itself
same_padding : (n m : ℕ) → n ≡ m → slice_cmp nat_cmp (replicate n 0) (replicate m 0) ≡ Equal
same_padding zero zero is = refl
same_padding zero (suc m) is = absurd (omega (arith, is))
same_padding (suc n) zero is = absurd (omega (arith, is))
same_padding (suc n) (suc m) is = same_padding n m (omega (arith, is))

-- zeros behind printable bytes change nothing of the order of two names in fields of one size
padded_order : (a b : List ℕ) (n m : ℕ) → list_all is_printable a ≡ true → list_all is_printable b ≡ true → length a + n ≡ length b + m
    → slice_cmp nat_cmp (a ++ replicate n 0) (b ++ replicate m 0) ≡ slice_cmp nat_cmp a b
padded_order [] [] n m first second size = same_padding n m (omega (arith, size))
padded_order [] (y ∷ b) zero m first second size = absurd (omega (arith, size))
padded_order [] (y ∷ b) (suc n) m first second size =
    let low : 0x20 ≤ y = leb-true 0x20 y (and_parts (nat_le 0x20 y) (nat_le y 0x7E) (and_parts (is_printable y) (list_all is_printable b) second).0).0 in
    ap (λ (o : Ordering). ordering_then o (slice_cmp nat_cmp (replicate n 0) (b ++ replicate m 0))) (sym (nat_cmp_is 0 y Less (omega arith)))
padded_order (x ∷ a) [] n zero first second size = absurd (omega (arith, size))
padded_order (x ∷ a) [] n (suc m) first second size =
    let low : 0x20 ≤ x = leb-true 0x20 x (and_parts (nat_le 0x20 x) (nat_le x 0x7E) (and_parts (is_printable x) (list_all is_printable a) first).0).0 in
    ap (λ (o : Ordering). ordering_then o (slice_cmp nat_cmp (a ++ replicate n 0) (replicate m 0))) (sym (nat_cmp_is x 0 Greater (omega arith)))
padded_order (x ∷ a) (y ∷ b) n m first second size =
    ap (ordering_then (nat_cmp x y))
    (padded_order a b n m (and_parts (is_printable x) (list_all is_printable a) first).1 (and_parts (is_printable y) (list_all is_printable b) second).1
    (omega (arith, size)))

-- names compare as their fields do
pub fields_order : (a b : List ℕ) → IsName a → IsName b → slice_cmp nat_cmp (in_field a) (in_field b) ≡ slice_cmp nat_cmp a b
fields_order a b first second =
    let one : Printable a = Printable-from a first in
    let two : Printable b = Printable-from b second in
    padded_order a b (56 - length a) (56 - length b) one.each two.each (omega (arith, one.short, two.short))
