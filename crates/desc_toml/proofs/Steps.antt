-- A reading, step by step.
use Rattle.std.proofs.Common.{◌≡◌, ℕ, false, List, Result, Err, refl, ⊎_elim}
use Rattle.std.proofs.lemmas.Bool.{cases_Bool}
use Rattle.std.proofs.lemmas.Str.{IsUtf8-from_is_utf8, is_utf8-from_IsUtf8}
use Rattle.std.specs.Str.{IsUtf8, is_utf8}
use Rattle.vt_outside.specs.Readings.{◌into◌, IsFaultOf}
use Rattle.desc_schema.specs.declared.fault.WalkFault.{WalkFault}
use Rattle.desc_schema.specs.declared.fault.WalkFault.TheVariants as walk
use Rattle.desc_schema.specs.declared.fault.WalkError.{WalkError}
use Rattle.desc_schema.specs.declared.fault.WalkError.TheVariants as errors
use Rattle.desc_schema.specs.declared.value.Value.{Value}
use Rattle.desc_schema.specs.Faults.{reported as walk_reported}
use Rattle.desc_toml.specs.declared.fault.DescFault.{DescFault}
use Rattle.desc_toml.specs.declared.fault.DescFault.TheVariants.{NotToml, UnknownKey, MissingKey, WrongKind, OutOfRange}
use Rattle.desc_toml.specs.Reading.{told, values_found, machine_in, accepted, read_of, reported}

-- a fault of a walk is the fault that is told
pub told_fails : {V : Type 0} (fault : WalkFault) (read : Result V DescFault) → read ≡ Err (told fault) → IsFaultOf (reported (told fault)) read
told_fails (walk.UnknownKey place key) read is = is
told_fails (walk.MissingKey at) read is = is
told_fails (walk.WrongKind at) read is = is
told_fails (walk.OutOfRange at) read is = is

pub walk_fails : (error : WalkError) (fault : WalkFault) (given : Result (List Value) WalkFault) → error ≡ errors.Fault fault
    → IsFaultOf (walk_reported error) given → IsFaultOf (reported (told fault)) (values_found given)
walk_fails error fault given is fails =
    let same : given ≡ Err fault = rw is at fails in
    told_fails fault (values_found given) (rw same refl)

-- bytes that are a text are read as what it describes, and others aren't read
pub read_of_text : (bytes : List ℕ) → IsUtf8 bytes → read_of bytes ≡ (machine_in bytes into accepted)
read_of_text bytes text = rw (is_utf8-from_IsUtf8 bytes text) refl

not_text : (bytes : List ℕ) → (IsUtf8 bytes → ⊥) → is_utf8 bytes ≡ false
not_text bytes none = ⊎_elim (λ is. absurd (none (IsUtf8-from_is_utf8 bytes is))) (λ isnt. isnt) (cases_Bool (is_utf8 bytes))

pub read_of_no_text : (bytes : List ℕ) → (IsUtf8 bytes → ⊥) → read_of bytes ≡ Err NotToml
read_of_no_text bytes none = rw (not_text bytes none) refl
