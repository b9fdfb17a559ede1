-- Frames one after the other: what a part of them is, and what they hold once one of them was changed.
use Rattle.std.proofs.Common.{◌≡◌, ℕ, zero, suc, ◌+◌, ◌-◌, ◌*◌, ◌/◌, ◌%◌, ◌<◌, ◌≤◌, inl, inr, List, [], ◌∷◌, ◌++◌, length, replicate, Option, Some}
use Rattle.std.proofs.Common.{None, rules, arith, refl, ap, sym, ◌∙◌}
use Rattle.std.proofs.Common.{get_or, slice_index, slice_set}
use Rattle.std.proofs.lemmas.Bool.{cases_lt}
use Rattle.std.proofs.lemmas.List.{places, same_lists, take_all, length-replicate, get_or-replicate}
use Rattle.std.specs.List.{AllByRecursion}
use Rattle.vt_bytes.specs.Parts.{part, put_at}
use Rattle.raw_frames.specs.Block.{IsFrame, AreFrames}
use Rattle.guest_memory.specs.Store.{or_blank, bytes_of}

-- a frame holds 4,096 bytes
pub length-or_blank : (fill : ℕ) (f : Option (List ℕ)) → IsFrame f → length (or_blank fill f) ≡ 4096
length-or_blank fill None is = length-replicate 4096 fill
length-or_blank fill (Some bytes) is = is

-- as many bytes as the frames have
pub length-bytes_of : (fill : ℕ) (frames : List (Option (List ℕ))) → AllByRecursion IsFrame frames → length (bytes_of fill frames) ≡ 4096 * length frames
unfolding bytes_of
length-bytes_of fill [] each = refl
length-bytes_of fill (f ∷ fs) each =
    let first = length-or_blank fill f each.0 in let rest = length-bytes_of fill fs each.1 in grind (arith, places)

pub length-all_bytes : (fill : ℕ) (frames : List (Option (List ℕ))) → AreFrames frames → length (bytes_of fill frames) ≡ 0x2100000
length-all_bytes fill frames are = omega (arith, length-bytes_of fill frames are.each, are.count)

-- a part behind a first list, and a part of the first
part_later : (first rest : List ℕ) (size place n : ℕ) → length first ≡ size → part (first ++ rest) (size + place) n ≡ part rest place n
part_later first rest size place n is = same_lists _ _ (search (rules, places)) (λ k d h. grind (arith, places))

part_first : (first rest : List ℕ) (place n : ℕ) → place + n ≤ length first → part (first ++ rest) place n ≡ part first place n
part_first first rest place n within = same_lists _ _ (search (rules, places)) (λ k d h. grind (arith, places))

-- bytes put into the first, and into what follows it
put_later : (first rest bytes : List ℕ) (size place : ℕ) → length first ≡ size → first ++ put_at rest place bytes ≡ put_at (first ++ rest) (size + place) bytes
put_later first rest bytes size place is = same_lists _ _ (search (rules, places)) (λ k d h. grind (arith, places))

put_first : (first rest bytes : List ℕ) (place : ℕ) → place + length bytes ≤ length first
    → put_at first place bytes ++ rest ≡ put_at (first ++ rest) place bytes
put_first first rest bytes place within = same_lists _ _ (search (rules, places)) (λ k d h. grind (arith, places))

-- a byte of a first list, and of what follows it
first_byte : (first rest : List ℕ) (place : ℕ) → place < length first → slice_index (first ++ rest) place ≡ slice_index first place
first_byte first rest place within = grind (arith, places)

later_byte : (first rest : List ℕ) (size place : ℕ) → length first ≡ size → size ≤ place
    → slice_index (first ++ rest) place ≡ slice_index rest (place - size)
later_byte first rest size place is past = grind (arith, places)

-- the first byte of a part
pub part_byte : (bytes : List ℕ) (place n : ℕ) → 0 < n → slice_index (part bytes place n) 0 ≡ slice_index bytes place
part_byte bytes place n some = grind (arith, places)

-- a part of one frame
pub part-bytes_of : (fill : ℕ) (frames : List (Option (List ℕ))) (k place n : ℕ) → AllByRecursion IsFrame frames → k < length frames → place + n ≤ 4096
    → part (bytes_of fill frames) (4096 * k + place) n ≡ part (or_blank fill (get_or frames k None)) place n
unfolding bytes_of
part-bytes_of fill [] k place n each below within = absurd (omega arith)
part-bytes_of fill (f ∷ fs) zero place n each below within =
    let here : 4096 * zero + place ≡ place = omega arith in
    ap (λ at. part (or_blank fill f ++ bytes_of fill fs) at n) here
    ∙ part_first (or_blank fill f) (bytes_of fill fs) place n (omega (arith, length-or_blank fill f each.0))
part-bytes_of fill (f ∷ fs) (suc k) place n each below within =
    let next : 4096 * suc k + place ≡ 4096 + (4096 * k + place) = omega arith in
    ap (λ at. part (or_blank fill f ++ bytes_of fill fs) at n) next
    ∙ part_later (or_blank fill f) (bytes_of fill fs) 4096 (4096 * k + place) n (length-or_blank fill f each.0)
    ∙ part-bytes_of fill fs k place n each.1 (omega arith) within

-- the frame and the place in it of a place among all bytes
pub part_in_frame : (fill : ℕ) (frames : List (Option (List ℕ))) (place n : ℕ) → AreFrames frames → place < 0x2100000 → place % 4096 + n ≤ 4096
    → part (or_blank fill (get_or frames (place / 4096) None)) (place % 4096) n ≡ part (bytes_of fill frames) place n
part_in_frame fill frames place n are inside within =
    let at : 4096 * (place / 4096) + place % 4096 ≡ place = omega arith in
    sym (part-bytes_of fill frames (place / 4096) (place % 4096) n are.each (omega (arith, are.count)) within) ∙ ap (λ p. part (bytes_of fill frames) p n) at

-- a byte of one frame
pub byte_in_frame : (fill : ℕ) (frames : List (Option (List ℕ))) (k i : ℕ) → AreFrames frames → k < 8448 → i < 4096
    → slice_index (bytes_of fill frames) (4096 * k + i) ≡ slice_index (or_blank fill (get_or frames k None)) i
byte_in_frame fill frames k i are below within =
    sym (part_byte (bytes_of fill frames) (4096 * k + i) 1 (omega arith))
    ∙ ap (λ bytes. slice_index bytes 0) (part-bytes_of fill frames k i 1 are.each (omega (arith, are.count)) (omega arith))
    ∙ part_byte (or_blank fill (get_or frames k None)) i 1 (omega arith)

-- one of a frame that isn't filled
pub blank_byte : (fill : ℕ) (frames : List (Option (List ℕ))) (k i : ℕ) → AreFrames frames → k < 8448 → i < 4096 → get_or frames k None ≡ None
    → slice_index (bytes_of fill frames) (4096 * k + i) ≡ fill
blank_byte fill frames k i are below within empty =
    byte_in_frame fill frames k i are below within ∙ ap (λ f. slice_index (or_blank fill f) i) empty ∙ get_or-replicate 4096 i fill 0 within

-- all bytes of a frame that isn't filled
pub blank_part : (fill : ℕ) (frames : List (Option (List ℕ))) (place n : ℕ) → get_or frames (place / 4096) None ≡ None → place % 4096 ≡ 0 → n ≡ 4096
    → part (or_blank fill (get_or frames (place / 4096) None)) (place % 4096) n ≡ replicate 4096 fill
blank_part fill frames place n empty begins whole =
    ap (λ f. part (or_blank fill f) (place % 4096) n) empty ∙ ap (λ at. part (replicate 4096 fill) at n) begins ∙ ap (λ m. part (replicate 4096 fill) 0 m) whole
    ∙ take_all 4096 (replicate 4096 fill) (omega (arith, length-replicate 4096 fill))

-- a frame with bytes put into it
pub put-bytes_of : (fill : ℕ) (frames : List (Option (List ℕ))) (k place : ℕ) (bytes : List ℕ) → AllByRecursion IsFrame frames → k < length frames
    → place + length bytes ≤ 4096
    → bytes_of fill (slice_set frames k (Some (put_at (or_blank fill (get_or frames k None)) place bytes))) ≡ put_at (bytes_of fill frames)
    (4096 * k + place) bytes
unfolding bytes_of
put-bytes_of fill [] k place bytes each inside within = absurd (omega arith)
put-bytes_of fill (f ∷ fs) zero place bytes each inside within =
    let here : place ≡ 4096 * zero + place = omega arith in
    put_first (or_blank fill f) (bytes_of fill fs) bytes place (omega (arith, length-or_blank fill f each.0))
    ∙ ap (λ at. put_at (or_blank fill f ++ bytes_of fill fs) at bytes) here
put-bytes_of fill (f ∷ fs) (suc k) place bytes each inside within =
    let next : 4096 + (4096 * k + place) ≡ 4096 * suc k + place = omega arith in
    ap (λ l. or_blank fill f ++ l) (put-bytes_of fill fs k place bytes each.1 (omega arith) within)
    ∙ put_later (or_blank fill f) (bytes_of fill fs) bytes 4096 (4096 * k + place) (length-or_blank fill f each.0)
    ∙ ap (λ at. put_at (or_blank fill f ++ bytes_of fill fs) at bytes) next

pub put_in_frame : (fill : ℕ) (frames : List (Option (List ℕ))) (place : ℕ) (bytes : List ℕ) → AreFrames frames → place < 0x2100000
    → place % 4096 + length bytes ≤ 4096
    → bytes_of fill (slice_set frames (place / 4096) (Some (put_at (or_blank fill (get_or frames (place / 4096) None)) (place % 4096) bytes)))
    ≡ put_at (bytes_of fill frames) place bytes
put_in_frame fill frames place bytes are inside within =
    let at : 4096 * (place / 4096) + place % 4096 ≡ place = omega arith in
    put-bytes_of fill frames (place / 4096) (place % 4096) bytes are.each (omega (arith, are.count)) within ∙ ap (λ p. put_at (bytes_of fill frames) p bytes) at

-- frames of which none is filled hold the fill byte alone
pub all_blank : (fill n place : ℕ) → place < 4096 * n → slice_index (bytes_of fill (replicate n None)) place ≡ fill
unfolding bytes_of
all_blank fill zero place below = absurd (omega arith)
all_blank fill (suc n) place below =
    let size = length-replicate 4096 fill in
    elim (cases_lt place 4096) as (λ _. slice_index (replicate 4096 fill ++ bytes_of fill (replicate n None)) place ≡ fill) [
      | inl here ↦ first_byte (replicate 4096 fill) (bytes_of fill (replicate n None)) place (omega (arith, size)) ∙ get_or-replicate 4096 place fill 0 here
      | inr later ↦ later_byte (replicate 4096 fill) (bytes_of fill (replicate n None)) 4096 place size later ∙ all_blank fill n (place - 4096) (omega arith)
    ]
