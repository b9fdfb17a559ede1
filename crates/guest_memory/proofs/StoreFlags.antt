-- Flags of frames.
use Rattle.std.proofs.Common.{◌≡◌, ℕ, zero, suc, ◌<◌, List, [], ◌∷◌, Bool, true, false, map, length, set, get_or, replicate, Option, Some, None}
use Rattle.std.proofs.Common.{refl, sym, ap, ◌∙◌, arith, length-set}
use Rattle.raw_frames.specs.Block.{AreFrames}
use Rattle.raw_frames.specs.Places.{IsFilled}
use Rattle.guest_memory.specs.Store.{is_filled}
use Rattle.raw_frames.proofs.FrameLemmas.{each-set}

flag_at : (frames : List (Option (List ℕ))) (i : ℕ) (d : Bool) → i < length frames → get_or (map is_filled frames) i d ≡ is_filled (get_or frames i None)
flag_at [] i d l = absurd (omega arith)
flag_at (f ∷ fs) zero d l = refl
flag_at (f ∷ fs) (suc i) d l = flag_at fs i d (omega arith)

-- the flag at an index, as it is read
pub told : (frames : List (Option (List ℕ))) (flags : List Bool) (i : ℕ) (now : Bool) → flags ≡ map is_filled frames → i < length frames
    → now ≡ get_or flags i now → is_filled (get_or frames i None) ≡ now
told frames flags i now all inside read = sym (read ∙ ap (λ l. get_or l i now) all ∙ flag_at frames i now inside)

pub filled_at : (frames : List (Option (List ℕ))) (i : ℕ) → is_filled (get_or frames i None) ≡ true → IsFilled frames i
filled_at [] i e = cc
filled_at (None ∷ fs) zero e = cc
filled_at (Some bytes ∷ fs) zero e = (bytes, refl)
filled_at (f ∷ fs) (suc i) e = filled_at fs i e

pub empty_at : (frames : List (Option (List ℕ))) (i : ℕ) → is_filled (get_or frames i None) ≡ false → get_or frames i None ≡ None
empty_at [] i e = refl
empty_at (None ∷ fs) zero e = refl
empty_at (Some bytes ∷ fs) zero e = cc
empty_at (f ∷ fs) (suc i) e = empty_at fs i e

pub flags-set : (frames : List (Option (List ℕ))) (i : ℕ) (bytes : List ℕ) → set (map is_filled frames) i true ≡ map is_filled (set frames i (Some bytes))
flags-set [] i bytes = refl
flags-set (f ∷ fs) zero bytes = refl
flags-set (f ∷ fs) (suc i) bytes = ap (λ l. is_filled f ∷ l) (flags-set fs i bytes)

-- a frame that is written over stays filled
pub flags_stay : (frames : List (Option (List ℕ))) (i : ℕ) (x bytes : List ℕ) → get_or frames i None ≡ Some x
    → map is_filled frames ≡ map is_filled (set frames i (Some bytes))
flags_stay [] i x bytes e = refl
flags_stay (None ∷ fs) zero x bytes e = cc
flags_stay (Some y ∷ fs) zero x bytes e = refl
flags_stay (f ∷ fs) (suc i) x bytes e = ap (λ l. is_filled f ∷ l) (flags_stay fs i x bytes e)

pub frames-set : (frames : List (Option (List ℕ))) (i : ℕ) (bytes : List ℕ) → AreFrames frames → length bytes ≡ 4096 → AreFrames (set frames i (Some bytes))
frames-set frames i bytes h e = record { count = length-set frames i (Some bytes) ∙ h.count; each = each-set frames i bytes h.each e }

pub set_twice : (frames : List (Option (List ℕ))) (i : ℕ) (a b : Option (List ℕ)) → set (set frames i a) i b ≡ set frames i b
set_twice [] i a b = refl
set_twice (f ∷ fs) zero a b = refl
set_twice (f ∷ fs) (suc i) a b = ap (λ l. f ∷ l) (set_twice fs i a b)

pub get_set : (frames : List (Option (List ℕ))) (i : ℕ) (a : Option (List ℕ)) → i < length frames → get_or (set frames i a) i None ≡ a
get_set [] i a l = absurd (omega arith)
get_set (f ∷ fs) zero a l = refl
get_set (f ∷ fs) (suc i) a l = get_set fs i a (omega arith)

pub no_flags : (n : ℕ) → replicate n false ≡ map is_filled (replicate n None)
no_flags zero = refl
no_flags (suc n) = ap (λ l. false ∷ l) (no_flags n)
