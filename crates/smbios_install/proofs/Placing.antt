-- The first command of a script that places one of the two files.
use Rattle.std.proofs.Common.{◌≡◌, ℕ, ◌+◌, Bool, cond, not, ltb, List, [], ◌∷◌, map, Some, None, refl, ap, ap₂, sym, ◌∙◌}
use Rattle.std.specs.List.{position, position_or_len}
use Rattle.std.specs.Simd.{first_chunks}
use Rattle.std.proofs.lemmas.List.{length-map}
use Rattle.loader_script.specs.Spelling.{entry_of, entries_of}
use Rattle.loader_script.proofs.Scripts.{entries_of-chunks}
use Rattle.smbios_install.specs.Commands.{places_either, placing}

-- the first element whose image passes is that whose place the first image that passes has
position_or_len-map : {A B : Type 0} (test : B → Bool) (f : A → B) (xs : List A) → position_or_len test (map f xs) ≡ position_or_len (λ x. test (f x)) xs
position_or_len-map test f [] = refl
position_or_len-map test f (x ∷ xs) = ap (λ n. cond (not (test (f x))) (1 + n) 0) (position_or_len-map test f xs)

position-map : {A B : Type 0} (test : B → Bool) (f : A → B) (xs : List A) → position test (map f xs) ≡ position (λ x. test (f x)) xs
position-map test f xs =
    ap₂ (λ place size. cond (ltb place size) (Some place) None) (position_or_len-map test f xs) (length-map xs f)

pub placing_of : (script : List ℕ) (count : ℕ) (parts : List (List ℕ)) → parts ≡ first_chunks 128 count script
    → position (λ (part : List ℕ). places_either (entry_of part)) parts ≡ placing (entries_of count script)
placing_of script count parts are =
    ap (position (λ (part : List ℕ). places_either (entry_of part))) are
    ∙ sym (position-map places_either entry_of (first_chunks 128 count script)) ∙ ap placing (entries_of-chunks count script)
