-- The commands that parts of a script are.
use Rattle.std.proofs.Common.{◌≡◌, ℕ, zero, suc, ◌+◌, ◌*◌, ◌/◌, ◌%◌, ◌≤◌, Bool, true, false, List, ◌∷◌, ◌++◌, length, take, drop, Result, Ok, Err}
use Rattle.std.proofs.Common.{arith, refl, sym, ap, ap₂, ◌∙◌}
use Rattle.std.specs.Prelude.{nat_le, ◌==◌}
use Rattle.std.proofs.lemmas.Bool.{cond-true, cond-false, and_parts, eqb-true}
use Rattle.std.proofs.lemmas.List.{take-take, drop-take, drop-drop}
use Rattle.vt_bytes.specs.Parts.{part}
use Rattle.loader_script.specs.declared.entry.Entry.{Entry}
use Rattle.loader_script.specs.Spelling.{entry_of, entries_of, is_script_length}
use Rattle.command_acts.specs.declared.fault.LoadFault.{LoadFault}
use Rattle.command_acts.specs.Script.{script_of}

-- so many commands are those of so many times 128 bytes
front_decoded : (n : ℕ) (bytes : List ℕ) → entries_of n (take (128 * n) bytes) ≡ entries_of n bytes
front_decoded zero bytes = refl
front_decoded (suc n) bytes =
    let most : 128 * suc n ≡ 128 + 128 * n = omega arith in
    let front : take 128 (take (128 * suc n) bytes) ≡ take 128 bytes = take-take 128 (128 * suc n) bytes (omega arith) in
    let back : drop 128 (take (128 * suc n) bytes) ≡ take (128 * n) (drop 128 bytes) =
    ap (λ k. drop 128 (take k bytes)) most ∙ drop-take 128 (128 * n) bytes in
    ap₂ (λ (e : Entry) (es : List Entry). e ∷ es) (ap entry_of front) (ap (entries_of n) back ∙ front_decoded n (drop 128 bytes))

-- commands, and so many more, are the first ones
decoded_on : (k n : ℕ) (bytes : List ℕ) → entries_of k bytes ++ entries_of n (part bytes (128 * k) (128 * n)) ≡ entries_of (k + n) bytes
decoded_on zero n bytes = let none : 0 + n ≡ n = omega arith in front_decoded n bytes ∙ sym (ap (λ m. entries_of m bytes) none)
decoded_on (suc k) n bytes =
    let more : suc k + n ≡ suc (k + n) = omega arith in
    let place : 128 * suc k ≡ 128 + 128 * k = omega arith in
    let later : part bytes (128 * suc k) (128 * n) ≡ part (drop 128 bytes) (128 * k) (128 * n) =
    ap (take (128 * n)) (ap (λ m. drop m bytes) place ∙ sym (drop-drop (128 * k) 128 bytes)) in
    ap (λ es. entry_of (take 128 bytes) ∷ es)
    (ap (λ (b : List ℕ). entries_of k (drop 128 bytes) ++ entries_of n b) later ∙ decoded_on k n (drop 128 bytes))
    ∙ sym (ap (λ m. entries_of m bytes) more)

-- the first so many of a script's commands
front_of : (k m : ℕ) (bytes : List ℕ) → k ≤ m → take k (entries_of m bytes) ≡ entries_of k bytes
front_of zero zero bytes within = refl
front_of zero (suc m) bytes within = refl
front_of (suc k) zero bytes within = absurd (omega arith)
front_of (suc k) (suc m) bytes within = ap (λ es. entry_of (take 128 bytes) ∷ es) (front_of k m (drop 128 bytes) (omega arith))

-- The commands that were decoded so far, and those of so many more bytes, are the first ones.
pub decoded_more : (k n m : ℕ) (bytes : List ℕ) → k + n ≤ m
    → take k (entries_of m bytes) ++ entries_of n (part bytes (128 * k) (128 * n)) ≡ take (k + n) (entries_of m bytes)
decoded_more k n m bytes within =
    ap (λ (es : List Entry). es ++ entries_of n (part bytes (128 * k) (128 * n))) (front_of k m bytes (omega arith))
    ∙ decoded_on k n bytes ∙ sym (front_of (k + n) m bytes within)

-- all commands
pub all_decoded : (m : ℕ) (bytes : List ℕ) → take m (entries_of m bytes) ≡ entries_of m bytes
all_decoded m bytes = front_of m m bytes (omega arith)

-- what bytes are that are decoded: they have a script's length, and are its commands
pub record IsScript (bytes : List ℕ) (whole : List Entry) : Type 0 where
  pub lawful : is_script_length (length bytes) ≡ true
  pub are : entries_of (length bytes / 128) bytes ≡ whole

-- bytes that are a script
abbrev pub decoding : List Entry → Result (List Entry) LoadFault
decoding whole = Ok whole

-- one script, and no fault, is what bytes are
same_script : (a b : List Entry) → decoding a ≡ decoding b → a ≡ b
same_script a b is = cc

no_script : (why : LoadFault) (whole : List Entry) → Err why ≡ decoding whole → ⊥
no_script why whole is = cc

-- by whether they have a script's length
script_so : (bytes : List ℕ) (lawful : Bool) (whole : List Entry) → is_script_length (length bytes) ≡ lawful → script_of bytes ≡ Ok whole
    → IsScript bytes whole
script_so bytes true whole is decoded = record { lawful = is; are = same_script _ _ (sym (cond-true _ _ _ is) ∙ decoded) }
script_so bytes false whole is decoded = absurd (no_script _ whole (sym (cond-false _ _ _ is) ∙ decoded))

-- Bytes that are decoded have a script's length, and are its commands.
pub script_is : (bytes : List ℕ) (whole : List Entry) → script_of bytes ≡ Ok whole → IsScript bytes whole
script_is bytes whole decoded = script_so bytes (is_script_length (length bytes)) whole refl decoded

-- its length is so many times 128
pub script_whole : (size : ℕ) → is_script_length size ≡ true → size % 128 ≡ 0
script_whole size lawful = eqb-true (size % 128) 0 (and_parts (size % 128 == 0) (nat_le size 1048576) lawful).0
