-- What a part of a reading says of the whole.
use Rattle.std.proofs.Common.{◌≡◌, Bool, true, false, cond, Option, Some, None, Result, Ok, Err, ap, refl}
use Rattle.vt_outside.specs.Readings.{◌into◌, IsFaultOf}

-- a fault of a part is the fault of the whole, where the whole fails with the part's
pub fault_of_whole : {A B Fault : Type 0} (told : Option Fault) (part : Result A Fault) (whole : Result B Fault)
    → ((fault : Fault) → part ≡ Err fault → whole ≡ Err fault) → IsFaultOf told part → IsFaultOf told whole
fault_of_whole None part whole fails is = tt
fault_of_whole (Some fault) part whole fails is = fails fault is

-- so it is where the next part would have been read with the part's value
pub fault_bound : {A B Fault : Type 0} (told : Option Fault) (part : Result A Fault) (next : A → Result B Fault) → IsFaultOf told part
    → IsFaultOf told (part into next)
fault_bound told part next = fault_of_whole told part (part into next) (λ fault is. ap (λ reading. reading into next) is)

-- where the whole gave a value, the part gave one, and the next part the whole's
pub part_read : {A B Fault : Type 0} (part : Result A Fault) (next : A → Result B Fault) (whole : B) → (part into next) ≡ Ok whole
    → (value : A) × (part ≡ Ok value) × (next value ≡ Ok whole)
part_read (Ok value) next whole read = (value, refl, read)
part_read (Err fault) next whole read = absurd (cc)

-- where a value was read behind a test for a fault, there was none
pub past_test : {A Fault : Type 0} (fails : Bool) (fault : Fault) (rest : Result A Fault) (value : A) → cond fails (Err fault) rest ≡ Ok value
    → (fails ≡ false) × (rest ≡ Ok value)
past_test true fault rest value read = absurd (cc)
past_test false fault rest value read = (refl, read)
