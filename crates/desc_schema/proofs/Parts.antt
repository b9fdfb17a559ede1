-- Parts of a walk, one after the other.
use Rattle.std.proofs.Common.{◌≡◌, ℕ, List, [], ◌++◌, Result, Ok, Err, refl, sym, ap, ◌∙◌, append_assoc}
use Rattle.std.proofs.lemmas.List.{append-nil}
use Rattle.vt_outside.specs.Readings.{◌into◌, IsFaultOf}
use Rattle.desc_schema.specs.Faults.{reported}
use Rattle.desc_schema.specs.declared.value.Value.{Value}
use Rattle.desc_schema.specs.declared.fault.WalkFault.{WalkFault}
use Rattle.desc_schema.specs.declared.fault.WalkError.{WalkError}
use Rattle.desc_schema.specs.declared.fault.WalkError.TheVariants as errors
use Rattle.desc_schema.specs.Walk.{Part, Walk, after, joined}

pub after_after : (front here : List Value) (given : Part) → after front (after here given) ≡ after (front ++ here) given
after_after front here (Ok more) = ap (λ (is : List Value). Ok (is, more.1)) (simp append_assoc)
after_after front here (Err fault) = refl

after_joined : (front : List Value) (given : Part) (others : Walk) → after front (joined given others) ≡ joined (after front given) others
after_joined front (Ok here) others = after_after front here.0 (others here.1)
after_joined front (Err fault) others = refl

-- after a part comes the next one
pub goes_on : (front new : List Value) (given : Part) (others : Walk) (positions : List ℕ) (total : Part) → after front given ≡ Ok (new, positions)
    → after front (joined given others) ≡ total → after new (others positions) ≡ total
goes_on front new given others positions total is so_far =
    let here : after front (joined given others) ≡ after new (others positions) = after_joined front given others ∙ rw is refl in
    sym here ∙ so_far

-- a part that fails ends the walk
pub stops : (error : WalkError) (front : List Value) (given : Part) (others : Walk) (total : Part) → IsFaultOf (reported error) (after front given)
    → after front (joined given others) ≡ total → IsFaultOf (reported error) total
stops errors.OutOfMemory front given others total fails so_far = tt
stops (errors.Fault fault) front given others total fails so_far =
    let here : after front (joined given others) ≡ Err fault = after_joined front given others ∙ rw fails refl in
    sym so_far ∙ here

-- no part is left
pub is_done : (front : List Value) (positions : List ℕ) (total : Part) → after front (Ok ([], positions)) ≡ total → total ≡ Ok (front, positions)
is_done front positions total so_far = sym so_far ∙ ap (λ (is : List Value). Ok (is, positions)) (append-nil front)

pub fails_bound : {A : Type 0} (error : WalkError) (front : List Value) (given : Result A WalkFault) (next : A → Part) → IsFaultOf (reported error) given
    → IsFaultOf (reported error) (after front (given into next))
fails_bound errors.OutOfMemory front given next fails = tt
fails_bound (errors.Fault fault) front given next fails = rw fails refl
