-- What an area and strings of a known kind are read as.
use Rattle.std.proofs.Common.{◌≡◌, ◌⊎◌, ℕ, List, [], ◌∷◌, length, get_or, take, Some, Result, Ok, Err, arith, inl, inr, sym, subst}
use Rattle.std.specs.Prelude.{IfOk, IfErr}
use Rattle.vt_bytes.specs.Numbers.{le}
use Rattle.vt_layout.specs.declared.record_reader.RecordFault.{RecordFault}
use Rattle.vt_layout.specs.declared.record_reader.RecordFault.TheVariants.{TooShort, NoSuchString, OutOfMemory}
use Rattle.smbios_model.specs.declared.smbios.Body.{Body}
use Rattle.smbios_model.specs.Structures.{kind_for, IsBodyOf}
use Rattle.smbios_model.proofs.KnownKinds.{known_sized}
use Rattle.smbios_decode.specs.declared.kind.Kind.{Kind}
use Rattle.smbios_decode.specs.declared.kind.Kind.TheVariants.{OemStrings}
use Rattle.smbios_decode.specs.Kinds.{kind_of, counted_in, body_in, IsTypedOr, IsBodyOr}
use Rattle.smbios_decode.proofs.Typed.{typed}

-- an area of a known kind says what it says of the kind
pub known_body : (kind : Kind) (number : ℕ) (area : List ℕ) (strings : List (List ℕ)) (result : Result Body RecordFault)
    → kind_for number (length area) ≡ Some (kind_of kind) → IfOk result (λ body. body_in kind area strings ≡ Ok body)
    → IfErr result (λ fault. (fault ≡ OutOfMemory) ⊎ (body_in kind area strings ≡ Err fault)) → IsBodyOr number area strings result
known_body kind number area strings result known ok err =
    by_result result ok err (typed kind area strings (sym (known_sized (kind_of kind) number (length area) known)))
  where
    by_result : (result : Result Body RecordFault) → IfOk result (λ body. body_in kind area strings ≡ Ok body)
        → IfErr result (λ fault. (fault ≡ OutOfMemory) ⊎ (body_in kind area strings ≡ Err fault))
        → IsTypedOr (kind_of kind) area strings (body_in kind area strings) → IsBodyOr number area strings result
    by_result (Ok body) ok err is =
        subst (λ k. IsBodyOf k number area strings body) (sym known) (subst (IsTypedOr (kind_of kind) area strings) ok is)
    by_result (Err (NoSuchString missing)) ok (inl none) is = absurd (cc none)
    by_result (Err (NoSuchString missing)) ok (inr told) is = (kind_of kind, known, subst (IsTypedOr (kind_of kind) area strings) told is)
    by_result (Err TooShort) ok (inl none) is = absurd (cc none)
    by_result (Err TooShort) ok (inr told) is = subst (IsTypedOr (kind_of kind) area strings) told is
    by_result (Err OutOfMemory) ok err is = tt

-- the one byte of the area of OEM Strings
one_byte : (area : List ℕ) → length area ≡ 1 → get_or area 0 0 ≡ le (take 1 area)
one_byte [] one = absurd (omega (arith, one))
one_byte (byte ∷ []) one = omega arith
one_byte (byte ∷ next ∷ bytes) one = absurd (omega (arith, one))

-- want of memory aside
or_memory : {A : Type 0} (result : Result A RecordFault) (Is : RecordFault → Type 0) → IfErr result Is
    → IfErr result (λ fault. (fault ≡ OutOfMemory) ⊎ Is fault)
or_memory (Ok a) Is err = tt
or_memory (Err fault) Is err = inr err

pub counted_body : (number : ℕ) (area : List ℕ) (strings : List (List ℕ)) (result : Result Body RecordFault)
    → kind_for number (length area) ≡ Some (kind_of OemStrings) → IfOk result (λ body. counted_in (get_or area 0 0) strings ≡ Ok body)
    → IfErr result (λ fault. counted_in (get_or area 0 0) strings ≡ Err fault) → IsBodyOr number area strings result
counted_body number area strings result known ok err =
    let count = one_byte area (sym (known_sized (kind_of OemStrings) number (length area) known)) in
    known_body OemStrings number area strings result known (subst (λ n. IfOk result (λ body. counted_in n strings ≡ Ok body)) count ok)
    (or_memory result (λ fault. counted_in (le (take 1 area)) strings ≡ Err fault)
    (subst (λ n. IfErr result (λ fault. counted_in n strings ≡ Err fault)) count err))
