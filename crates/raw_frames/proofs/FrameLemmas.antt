-- Each frame that is filled has 4,096 bytes: at the start, after a frame is set, and in a window of it. The last three are for callers.
use Rattle.std.proofs.Common.{◌≡◌, ℕ, zero, suc, ◌+◌, ◌≤◌, List, [], ◌∷◌, ◌++◌, length, take, drop, replicate, set, get_or, Option, Some, None, sym}
use Rattle.std.proofs.Common.{arith, length-take, length-drop, length-append}
use Rattle.std.specs.List.{AllByRecursion, refill, length_refill}
use Rattle.vt_bytes.specs.Parts.{part, put_at}
use Rattle.raw_frames.specs.Block.{IsFrame}
use Rattle.raw_frames.specs.Windows.{frame_at}

-- before any is filled
pub each-empty : (n : ℕ) → AllByRecursion IsFrame (replicate n None)
each-empty zero = tt
each-empty (suc n) = (tt, each-empty n)

-- after one is set
pub each-set : (frames : List (Option (List ℕ))) (i : ℕ) (bytes : List ℕ) → AllByRecursion IsFrame frames → length bytes ≡ 4096
    → AllByRecursion IsFrame (set frames i (Some bytes))
each-set [] i bytes h e = tt
each-set (f ∷ fs) zero bytes h e = (e, h.1)
each-set (f ∷ fs) (suc i) bytes h e = (h.0, each-set fs i bytes h.1 e)

-- a frame that is filled has all bytes
pub frame_size : (frames : List (Option (List ℕ))) (i : ℕ) (x : List ℕ) → AllByRecursion IsFrame frames → get_or frames i None ≡ Some x
    → length (frame_at frames i) ≡ 4096
frame_size [] i x h e = cc
frame_size (None ∷ fs) zero x h e = cc
frame_size (Some y ∷ fs) zero x h e = h.0
frame_size (f ∷ fs) (suc i) x h e = frame_size fs i x h.1 e

-- a window that is set leaves a frame as long as it was
pub length-window : (whole : List ℕ) (place len : ℕ) (ws : List ℕ) → place + len ≤ length whole
    → length (put_at whole place (refill len (part whole place len) ws)) ≡ length whole
length-window whole place len ws within =
    let middle : length (part whole place len) ≡ len = let a = length-take len (drop place whole) in let b = length-drop place whole in omega arith in
    let piece = refill len (part whole place len) ws in
    let size : len ≡ length piece = length_refill len (part whole place len) ws (sym middle) in
    let a = length-append (take place whole ++ piece) (drop (place + length piece) whole) in
    let b = length-append (take place whole) piece in
    let c = length-take place whole in
    let d = length-drop (place + length piece) whole in
    omega arith
