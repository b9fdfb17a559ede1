-- How many bytes structures have.
use Rattle.std.proofs.Common.{◌≡◌, ℕ, ◌+◌, ◌<◌, min, max, List, [], ◌∷◌, ◌++◌, length, take, get_or}
use Rattle.std.proofs.Common.{arith, refl, ap, ◌∙◌, length-append}
use Rattle.std.specs.List.{AllByRecursion}
use Rattle.std.proofs.lemmas.List.{take_more, append-nil}
use Rattle.std.proofs.lemmas.Grind.{flat_map-append}
use Rattle.vt_bytes.specs.Numbers.{le_bytes}
use Rattle.vt_layout.specs.Fields.{Field, field_rows, field_texts, field_bytes, field_strings}
use Rattle.smbios_model.specs.declared.smbios.Structure.{Structure}
use Rattle.vt_layout.specs.Strings.{HasNoNul, IsString, with_nuls, string_set}
use Rattle.smbios_model.specs.Smbios.{formatted}
use Rattle.smbios_build.specs.Spelling.{layout_bytes, structure_bytes, structures_bytes}
use Rattle.vt_layout.proofs.NamedTexts.{each_string}

-- a structure has its header, its area, and its strings
pub length-structure : (number handle : ℕ) (area : List ℕ) (strings : List (List ℕ))
    → length (formatted number handle area ++ string_set strings) ≡ 4 + length area + length (string_set strings)
length-structure number handle area strings =
    let header : List ℕ = number ∷ (4 + length area) ∷ le_bytes 2 handle in
    length-append (header ++ area) (string_set strings) ∙ ap (λ n. n + length (string_set strings)) (length-append header area)

-- strings that aren't empty, with their NULs and one more, or two NULs
pub length-string_set : (strings : List (List ℕ)) → AllByRecursion IsString strings
    → length (string_set strings) ≡ max 2 (length (with_nuls strings) + 1)
length-string_set [] each = refl
length-string_set (text ∷ texts) each =
    let last = length-append (with_nuls (text ∷ texts)) (0 ∷ []) in
    let first = length-append (text ++ 0 ∷ []) (with_nuls texts) in
    omega (arith, each.0.0, last, first, length-append text (0 ∷ []))

-- a structure is counted by its area and its strings
counted : (number handle : ℕ) (bytes : List ℕ) (texts : List (List ℕ)) (area strings total most : ℕ) → AllByRecursion IsString texts
    → area ≡ min (length bytes) most → strings ≡ min (length (with_nuls texts)) most → total ≡ min (4 + area + max 2 (strings + 1)) most
    → total ≡ min (length (formatted number handle bytes ++ string_set texts)) most
counted number handle bytes texts area strings total most each area_is strings_are is =
    omega (arith, length-structure number handle bytes texts, length-string_set texts each)

pub record_counted : (number handle : ℕ) (fields : List Field) (area strings total most : ℕ) → AllByRecursion HasNoNul (field_texts fields)
    → area ≡ min (length (field_bytes fields)) most → strings ≡ min (length (with_nuls (field_strings fields))) most
    → total ≡ min (4 + area + max 2 (strings + 1)) most
    → total ≡ min (length (layout_bytes number handle (field_rows fields) (field_texts fields))) most
record_counted number handle fields area strings total most none =
    counted number handle (field_bytes fields) (field_strings fields) area strings total most (each_string (field_texts fields) none)

-- one structure more
length-structures_bytes-more : (structures : List Structure) (k : ℕ) (other : Structure) → k < length structures
    → length (structures_bytes (take (k + 1) structures))
    ≡ length (structures_bytes (take k structures)) + length (structure_bytes (get_or structures k other))
length-structures_bytes-more structures k other within =
    ap (λ front. length (structures_bytes front)) (take_more structures k other within)
    ∙ ap length (flat_map-append structure_bytes (take k structures) (get_or structures k other ∷ []))
    ∙ length-append (structures_bytes (take k structures)) (structures_bytes (get_or structures k other ∷ []))
    ∙ ap (λ bytes. length (structures_bytes (take k structures)) + length bytes) (append-nil (structure_bytes (get_or structures k other)))

pub one_structure_counted : (structures : List Structure) (k : ℕ) (other : Structure) (total one after most : ℕ) → k < length structures
    → other ≡ get_or structures k other → total ≡ min (length (structures_bytes (take k structures))) most
    → one ≡ min (length (structure_bytes other)) most → after ≡ min (total + one) most
    → after ≡ min (length (structures_bytes (take (k + 1) structures))) most
one_structure_counted structures k other total one after most within item was one_is is =
    omega (arith, length-structures_bytes-more structures k other within, ap (λ s. length (structure_bytes s)) item)
