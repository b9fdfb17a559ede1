-- The file that has a name, and where it is placed.
use Rattle.std.proofs.Common.{◌≡◌, ℕ, suc, ◌+◌, ◌^◌, ◌<◌, ◌≤◌, inl, inr, true, false, cond, ltb, not, List, [], ◌∷◌, length, get_or, Option, Some, None, arith}
use Rattle.std.proofs.Common.{refl, ap, sym, ◌∙◌}
use Rattle.std.specs.List.{position_or_len}
use Rattle.std.specs.Str.{bytes_eq}
use Rattle.std.proofs.lemmas.Bool.{cases_Bool, cond-true, cond-false, ltb-true, ltb-false}
use Rattle.std.proofs.lemmas.List.Folds.{find_at}
use Rattle.std.proofs.lemmas.Option.{same_Some, none-some, slice_get_past, slice_get_read}
use Rattle.loader_script.specs.declared.refusing.FileInfo.{FileInfo}
use Rattle.loader_script.specs.Refusal.{info_of, placed_at, EndLow, IsFound}

-- the index of the first file of a name, or the number of files
abbrev pub index_of : List FileInfo → List ℕ → ℕ
index_of files name = position_or_len (λ (file : FileInfo). bytes_eq file.name name) files

-- the place at that index is the file's
pub place_at : (files : List FileInfo) (places : List (Option ℕ)) (name : List ℕ) → length places ≡ length files
    → placed_at files places name ≡ get_or places (index_of files name) None
place_at [] [] name as_many = refl
place_at [] (place ∷ places) name as_many = absurd (omega arith)
place_at (file ∷ files) [] name as_many = absurd (omega arith)
place_at (file ∷ files) (place ∷ places) name as_many =
    elim (bytes_eq file.name name) as
    (λ same. cond same place (placed_at files places name) ≡ get_or (place ∷ places) (cond (not same) (1 + index_of files name) 0) None) [
      | true ↦ refl
      | false ↦
          let next : suc (index_of files name) ≡ 1 + index_of files name = omega arith in
          place_at files places name (omega arith) ∙ ap (λ index. get_or (place ∷ places) index None) next
    ]

-- where a search gave no index there is no such file
pub none-from_position : (files : List FileInfo) (name : List ℕ) (found : Option ℕ)
    → found ≡ cond (ltb (index_of files name) (length files)) (Some (index_of files name)) None → found ≡ None → info_of files name ≡ None
none-from_position files name found is none =
    elim (cases_Bool (ltb (index_of files name) (length files))) as (λ _. info_of files name ≡ None) [
      | inl within ↦ absurd (none-some (index_of files name) (sym none ∙ is ∙ cond-true _ _ _ within))
      | inr past ↦ find_at (λ (file : FileInfo). bytes_eq file.name name) files ∙ slice_get_past files (index_of files name) (ltb-false _ _ past)
    ]

-- where it gave one it is an index of the files
pub position_within : (files : List FileInfo) (name : List ℕ) (found : Option ℕ)
    → found ≡ cond (ltb (index_of files name) (length files)) (Some (index_of files name)) None → (index : ℕ) → found ≡ Some index → index < length files
position_within files name found is index some =
    elim (cases_Bool (ltb (index_of files name) (length files))) as (λ _. index < length files) [
      | inl within ↦
          let same : index_of files name ≡ index = same_Some _ _ (sym (cond-true _ _ _ within) ∙ sym is ∙ some) in
          omega (arith, ltb-true _ _ within, same)
      | inr past ↦ absurd (none-some index (sym (cond-false _ _ _ past) ∙ sym is ∙ some))
    ]

-- and the file there has the name
pub found-from_position : (files : List FileInfo) (places : List (Option ℕ)) (name : List ℕ) (found : Option ℕ) (index : ℕ) (file : FileInfo)
    → length places ≡ length files → found ≡ cond (ltb (index_of files name) (length files)) (Some (index_of files name)) None → found ≡ Some index
    → file ≡ get_or files index file → IsFound files places name file (get_or places index None)
found-from_position files places name found index file as_many is some at =
    elim (cases_Bool (ltb (index_of files name) (length files))) as (λ _. IsFound files places name file (get_or places index None)) [
      | inl within ↦
          let same : index_of files name ≡ index = same_Some _ _ (sym (cond-true _ _ _ within) ∙ sym is ∙ some) in
          let at_first : file ≡ get_or files (index_of files name) file = at ∙ ap (λ i. get_or files i file) (sym same) in
          record {
            named = find_at (λ (other : FileInfo). bytes_eq other.name name) files
                ∙ slice_get_read files (length files) (index_of files name) file refl (ltb-true _ _ within) at_first;
            placed = place_at files places name as_many ∙ ap (λ i. get_or places i None) same;
          }
      | inr past ↦ absurd (none-some index (sym (cond-false _ _ _ past) ∙ sym is ∙ some))
    ]

-- the files after the first end low
ends_low_rest : (first : FileInfo) (files : List FileInfo) (at : Option ℕ) (places : List (Option ℕ)) → EndLow (first ∷ files) (at ∷ places)
    → EndLow files places
ends_low_rest first files None places low = low
ends_low_rest first files (Some place) places low = low.1

-- and the first, where it is placed
ends_low_first : (first : FileInfo) (files : List FileInfo) (at : Option ℕ) (places : List (Option ℕ)) (file : FileInfo) (place : ℕ) → first ≡ file
    → at ≡ Some place → EndLow (first ∷ files) (at ∷ places) → place + file.size ≤ 2 ^ 32
ends_low_first first files None places file place is there low = absurd (none-some place there)
ends_low_first first files (Some other) places file place is there low =
    let same : other ≡ place = same_Some other place there in
    let size : first.size ≡ file.size = ap (λ (f : FileInfo). f.size) is in
    omega (arith, low.0)

-- a file that is found at a place ends low
pub found_ends_low : (files : List FileInfo) (places : List (Option ℕ)) (name : List ℕ) (file : FileInfo) (place : ℕ) → EndLow files places
    → IsFound files places name file (Some place) → place + file.size ≤ 2 ^ 32
found_ends_low [] places name file place low found = absurd (none-some file found.named)
found_ends_low (first ∷ files) [] name file place low found = absurd (none-some place found.placed)
found_ends_low (first ∷ files) (at ∷ places) name file place low found =
    elim (cases_Bool (bytes_eq first.name name)) as (λ _. place + file.size ≤ 2 ^ 32) [
      | inl same ↦
          let is : first ≡ file = same_Some first file (sym (cond-true _ _ _ same) ∙ found.named) in
          let there : at ≡ Some place = sym (cond-true _ _ _ same) ∙ found.placed in
          ends_low_first first files at places file place is there low
      | inr other ↦
          found_ends_low files places name file place (ends_low_rest first files at places low)
          (record { named = sym (cond-false _ _ _ other) ∙ found.named; placed = sym (cond-false _ _ _ other) ∙ found.placed })
    ]
