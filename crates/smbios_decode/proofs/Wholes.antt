-- Whole structures at the front of bytes.
use Rattle.std.proofs.Common.{◌≡◌, ℕ, ◌+◌, List, ◌++◌, length, arith, refl, ap, sym, ◌∙◌}
use Rattle.smbios_model.specs.declared.smbios.Structure.{Structure}
use Rattle.vt_layout.specs.Strings.{string_set}
use Rattle.smbios_model.specs.Smbios.{formatted, IsStructure}
use Rattle.smbios_model.proofs.OneStructure.{SameParts, same_spelling}
use Rattle.smbios_decode.specs.Faults.{IsWhole, IsShort}

-- bytes begin with the parts of one whole structure
pub same_whole : (bytes : List ℕ) (k l h g : ℕ) (a b : List ℕ) (u v : List (List ℕ)) (is : IsWhole bytes k h a u) (also : IsWhole bytes l g b v)
    → SameParts k l h g a b is.rest also.rest u v
same_whole bytes k l h g a b u v is also =
    same_spelling k l h g a b (formatted k h a ++ string_set u) (formatted l g b ++ string_set v) is.rest also.rest u v refl refl is.are_strings
    also.are_strings (sym is.spelled ∙ also.spelled)

-- and the length of a whole structure is no shorter than its header
pub no_short_whole : (bytes : List ℕ) (k h : ℕ) (a : List ℕ) (u : List (List ℕ)) → IsShort bytes → IsWhole bytes k h a u → ⊥
no_short_whole bytes k h a u short is =
    let told : short.told ≡ 4 + length a = cc in
    omega (arith, short.too_short)

-- a structure is a whole one
pub structure_whole : (bytes first rest : List ℕ) (kind : ℕ) (s : Structure) → bytes ≡ first ++ rest → (is : IsStructure first kind s)
    → IsWhole bytes kind s.handle is.area is.strings
structure_whole bytes first rest kind s split is = record {
  are_strings = is.are_strings;
  rest = rest;
  spelled = split ∙ ap (λ b. b ++ rest) is.spelled;
}
