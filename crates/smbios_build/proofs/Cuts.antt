-- Strings with their NULs, cut at the NULs.
use Rattle.std.proofs.Common.{◌≡◌, ℕ, ◌+◌, Bool, true, false, not, cond, ◌&&◌, List, [], ◌∷◌, ◌++◌, length, ◌==◌, arith, refl, ap, sym, ◌∙◌}
use Rattle.std.proofs.Common.{append_assoc, length-append}
use Rattle.std.specs.List.{list_all, AllByRecursion}
use Rattle.std.proofs.lemmas.Bool.{and_parts, cond-false, not-true, not_from_false}
use Rattle.std.proofs.lemmas.Bool.Decides.{nat_tests}
use Rattle.std.proofs.lemmas.List.{flat_map_more}
use Rattle.vt_bytes.proofs.Each.{each_push}
use Rattle.vt_layout.specs.Strings.{HasNoNul, with_nuls, strings_of}
use Rattle.smbios_build.specs.Cut.{with_first, cut_at_nuls, AreStringsIn}

-- a string is cut off the front of bytes
cut-string : (text bytes : List ℕ) → HasNoNul text → cut_at_nuls ((text ++ 0 ∷ []) ++ bytes) ≡ text ∷ cut_at_nuls bytes
unfolding cut_at_nuls
cut-string [] bytes none = refl
cut-string (byte ∷ text) bytes none =
    let parts = and_parts (not (byte == 0)) (list_all (λ b. not (b == 0)) text) none in
    let some : (byte == 0) ≡ false = not-true (byte == 0) parts.0 in
    cond-false _ ([] ∷ cut_at_nuls ((text ++ 0 ∷ []) ++ bytes)) (with_first byte (cut_at_nuls ((text ++ 0 ∷ []) ++ bytes))) some
    ∙ ap (with_first byte) (cut-string text bytes parts.1)

-- strings are cut out of their bytes again
cut-with_nuls : (strings : List (List ℕ)) → AllByRecursion HasNoNul strings → cut_at_nuls (with_nuls strings) ≡ strings
unfolding cut_at_nuls
cut-with_nuls [] none = refl
cut-with_nuls (text ∷ texts) none =
    cut-string text (with_nuls texts) none.0 ∙ ap (λ others. text ∷ others) (cut-with_nuls texts none.1)

-- a byte that is no NUL in front of strings without NULs
first_no_nul : (byte : ℕ) (strings : List (List ℕ)) → (byte == 0) ≡ false → AllByRecursion HasNoNul strings
    → AllByRecursion HasNoNul (with_first byte strings)
first_no_nul byte [] some none = (ap (λ test. test && true) (not_from_false (byte == 0) some), tt)
first_no_nul byte (text ∷ texts) some none =
    (ap (λ test. test && list_all (λ b. not (b == 0)) text) (not_from_false (byte == 0) some) ∙ none.0, none.1)

-- a byte in front of them, whether it is one or not
by_first : (byte : ℕ) (strings : List (List ℕ)) (nul : Bool) → (byte == 0) ≡ nul → AllByRecursion HasNoNul strings
    → AllByRecursion HasNoNul (cond nul ([] ∷ strings) (with_first byte strings))
by_first byte strings true nul none = (refl, none)
by_first byte strings false some none = first_no_nul byte strings some none

-- no string that is cut out holds a NUL
cut_no_nuls : (bytes : List ℕ) → AllByRecursion HasNoNul (cut_at_nuls bytes)
unfolding cut_at_nuls
cut_no_nuls [] = tt
cut_no_nuls (byte ∷ bytes) = by_first byte (cut_at_nuls bytes) (byte == 0) refl (cut_no_nuls bytes)

-- strings in bytes, and one more string behind them
pub record OneMore (bytes text : List ℕ) (count : ℕ) : Type 0 where
  pub strings : cut_at_nuls (bytes ++ text ++ 0 ∷ []) ≡ cut_at_nuls bytes ++ text ∷ []
  pub kept : AreStringsIn (bytes ++ text ++ 0 ∷ []) (count + 1)

pub one_more : (bytes text : List ℕ) (count : ℕ) → AreStringsIn bytes count → HasNoNul text → OneMore bytes text count
one_more bytes text count are none =
    let strings : List (List ℕ) = cut_at_nuls bytes in
    let spelled : bytes ++ text ++ 0 ∷ [] ≡ with_nuls (cut_at_nuls bytes ++ text ∷ []) =
    append_assoc bytes text (0 ∷ []) ∙ ap (λ front. front ++ (text ++ 0 ∷ [])) are.spelled
    ∙ flat_map_more (λ (string : List ℕ). string ++ 0 ∷ []) [] strings text in
    let each : AllByRecursion HasNoNul (cut_at_nuls bytes ++ text ∷ []) = each_push HasNoNul strings text (cut_no_nuls bytes) none in
    let cut : cut_at_nuls (bytes ++ text ++ 0 ∷ []) ≡ cut_at_nuls bytes ++ text ∷ [] =
    ap cut_at_nuls spelled ∙ cut-with_nuls (strings ++ text ∷ []) each in
    record {
      strings = cut;
      kept = record {
        spelled = spelled ∙ ap with_nuls (sym cut);
        counted = omega (arith, are.counted, ap length cut, length-append strings (text ∷ []));
      };
    }

-- no bytes hold no strings
pub none_in : AreStringsIn [] 0
unfolding cut_at_nuls
none_in = record { spelled = refl; counted = refl }

pub cut-none : cut_at_nuls [] ≡ []
unfolding cut_at_nuls
cut-none = refl

-- a text that isn't empty is a string
pub strings_of-one : (text : List ℕ) → (length text ≡ 0 → ⊥) → strings_of (text ∷ []) ≡ text ∷ []
strings_of-one text some =
    let test : (length text == 0) ≡ false = grind (arith, nat_tests) in
    ap (λ empty. cond (not empty) (text ∷ []) []) test
