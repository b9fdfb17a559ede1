-- The first cause to refuse a command: one that is told early, or that the sum of a pointer doesn't fit.
use Rattle.std.proofs.Common.{◌≡◌, ℕ, ◌^◌, ◌<◌, ◌≤◌, List, Bool, Some, None, not, refl, ap, ◌∙◌}
use Rattle.std.proofs.lemmas.Bool.{cond-true, cond-false, lt-ltb, le-ltb}
use Rattle.loader_script.specs.declared.entry.Entry.{Entry}
use Rattle.loader_script.specs.declared.entry.Entry.TheVariants.{Allocate, AddPointer, AddChecksum, WritePointer, Misnamed, Skipped}
use Rattle.loader_script.specs.declared.refusing.Cause.{Cause}
use Rattle.loader_script.specs.declared.refusing.Cause.TheVariants.{TooFar}
use Rattle.loader_script.specs.Refusal.{causes_of, first_cause}
use Rattle.loader_script.specs.Run.{Progress, infos_of, places_of, pointer_sum, late_causes, cause_of}
use Rattle.loader_script.proofs.Conditions.{earlier, later}
use Rattle.command_acts.specs.Runs.{early_cause, with_places}

-- the causes that are told early
abbrev early : Entry → Progress → List (Cause × Bool)
early entry p = causes_of entry (infos_of p.files) (places_of p.placed p.files)

pub cause_early : (entry : Entry) (p : Progress) (cause : Cause) → early_cause entry p ≡ Some cause → cause_of entry p ≡ Some cause
unfolding cause_of
cause_early entry p cause is = earlier (early entry p) (late_causes entry p) cause is

pub cause_late : (entry : Entry) (p : Progress) → early_cause entry p ≡ None → cause_of entry p ≡ first_cause (late_causes entry p)
unfolding cause_of
cause_late entry p none = later (early entry p) (late_causes entry p) none

-- the sum of a pointer fits, or it doesn't
pub pointer_goes : (dest src : List ℕ) (offset size : ℕ) (p : Progress) → early_cause (AddPointer dest src offset size) p ≡ None
    → pointer_sum p.placed dest src offset size < 256 ^ size → cause_of (AddPointer dest src offset size) p ≡ None
pointer_goes dest src offset size p none fits =
    cause_late (AddPointer dest src offset size) p none
    ∙ cond-false _ _ _ (ap not (lt-ltb (pointer_sum p.placed dest src offset size) (256 ^ size) fits))

pub pointer_stops : (dest src : List ℕ) (offset size : ℕ) (p : Progress) → early_cause (AddPointer dest src offset size) p ≡ None
    → 256 ^ size ≤ pointer_sum p.placed dest src offset size → cause_of (AddPointer dest src offset size) p ≡ Some TooFar
pointer_stops dest src offset size p none far =
    cause_late (AddPointer dest src offset size) p none
    ∙ cond-true _ _ _ (ap not (le-ltb (pointer_sum p.placed dest src offset size) (256 ^ size) far))

-- which cause it is doesn't depend on the places that are still to be given
pub cause_any : (entry : Entry) (p : Progress) (places : List ℕ) → cause_of entry (with_places p places) ≡ cause_of entry p
unfolding cause_of
cause_any (Allocate name align zone) p places = refl
cause_any (AddPointer dest src offset size) p places = refl
cause_any (AddChecksum name offset start count) p places = refl
cause_any (WritePointer dest src dst_offset src_offset size) p places = refl
cause_any (Misnamed command) p places = refl
cause_any (Skipped command) p places = refl
