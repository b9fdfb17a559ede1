-- The row of places, apart and together again.
--     slot_out, slot_in       one place is taken out of the row, and put back with other contents
--     slot_seen               what a shared loan of the row lends of one place
--     empty_row               room for frames is a row of empty places
--     row_room                a row, whatever lies in it, is room for as many frames: the bytes of a filled place are let go
use mathlib.Core.Path.{◌≡◌, refl, sym, ap, subst, ◌∙◌}
use Prim.Native.Nat.{ℕ, zero, suc, ◌+◌, ◌*◌, ◌<◌}
use native.Mathlib.Omega.{arith}
use mathlib.Core.List.{List, [], ◌∷◌, ◌++◌}
use lib.ListN.{length, take, drop, set, get_or, replicate, take-append-drop, length-take}
use lib.Seq.{drop-cons, set_split}
use seplogic.Ra.Ura.{Ura}
use mir.Syntax.{Ty, ty_array}
use base.Logic.{ent, sep, id⊢, via, snd∗}
use base.Fml.{Fml, Lft, ftrue, fsep, froom}
use types.Logic.{Logic, sem}
use types.Kit.{‵, ◌⊛◌, ◌$◌, ◌∵◌, !, qed, by, move, keep, drop as skip, use1, use2, split, frame, fsplit, fjoin, rewrite, done}
use denote.Memory.{lone}
use denote.Steps.{nothing}
use borrow.Rule.Array.Init.{part_room}
use Rattle.std.specs.Prelude.{Option, Some, None}
use Rattle.raw_frames.specs.Ownership.{Frame, place_owns, row_owns, place_lends, row_lends}

abbrev pub Slots : Type 0
Slots = List (Option (List ℕ))

-- the type of a frame in memory
abbrev pub frame_ty : Ty
frame_ty = lone Frame.mir

-- a filled place lies within the row
pub filled_within : (slots : Slots) (index : ℕ) (bytes : List ℕ) → get_or slots index None ≡ Some bytes → index < length slots
filled_within [] index bytes e = cc
filled_within (slot ∷ slots) zero bytes e = omega arith
filled_within (slot ∷ slots) (suc index) bytes e = omega (arith, filled_within slots index bytes e)

-- a row is what lies before an index, the place there, and what lies behind it
parted : (slots : Slots) (index : ℕ) → index < length slots → slots ≡ take index slots ++ (get_or slots index None ∷ drop (suc index) slots)
parted slots index within = sym (take-append-drop index slots) ∙ ap (λ rest. take index slots ++ rest) (drop-cons slots index None within)

module _ {M : Type 1} {𝓤 : Ura M} (𝓛 : Logic 𝓤) (block : ℕ) where
  open 𝓛 use {H}

  row_cut : (front back : Slots) (from to : ℕ) → to ≡ length front * 4096 + from
      → ent 𝓤 (sem 𝓛 (row_owns block from (front ++ back))) (sep 𝓤 (sem 𝓛 (row_owns block from front)) (sem 𝓛 (row_owns block to back)))
  row_cut [] back from to e = qed 𝓛 (‵ (row_owns block from back) ∷ []) ∵ rewrite ! 0 (λ (k : ℕ). ‵ (row_owns block k back)) {x = to} (omega arith)
      refl $ nothing ! $ done !
  row_cut (slot ∷ front) back from to e =
      qed 𝓛 (‵ (row_owns block from (slot ∷ front ++ back)) ∷ []) ∵ fsplit ! $ move ! (1 ∷ []) $
      use1 𝓛 (‵ (row_owns block (from + 4096) front) ⊛ ‵ (row_owns block to back)) (row_cut front back (from + 4096) to (omega arith)) $ split ! $
      move ! (2 ∷ 0 ∷ []) $ fjoin ! $ done !

  row_glue : (front back : Slots) (from to : ℕ) → to ≡ length front * 4096 + from
      → ent 𝓤 (sep 𝓤 (sem 𝓛 (row_owns block from front)) (sem 𝓛 (row_owns block to back))) (sem 𝓛 (row_owns block from (front ++ back)))
  row_glue [] back from to e =
      qed 𝓛 (‵ ftrue ∷ ‵ (row_owns block to back) ∷ []) ∵ skip ! $ rewrite ! 0 (λ (k : ℕ). ‵ (row_owns block k back)) {x = from} (omega arith) refl $ done !
  row_glue (slot ∷ front) back from to e =
      qed 𝓛 (‵ (row_owns block from (slot ∷ front)) ∷ ‵ (row_owns block to back) ∷ []) ∵ fsplit ! $ move ! (1 ∷ 2 ∷ []) $
      use2 𝓛 (‵ (row_owns block (from + 4096) (front ++ back))) (row_glue front back (from + 4096) to (omega arith)) $ move ! (1 ∷ 0 ∷ []) $ fjoin ! $ done !

  module _ (from : ℕ) (slots : Slots) (index : ℕ) where
    -- all places but the one at the index
    abbrev pub Besides : Fml
    Besides = fsep (row_owns block from (take index slots)) (row_owns block (index * 4096 + from + 4096) (drop (suc index) slots))

    starts : index < length slots → index * 4096 + from ≡ length (take index slots) * 4096 + from
    starts within = let long : length (take index slots) ≡ index = omega (arith, length-take index slots) in ap (λ (k : ℕ). k * 4096 + from) (sym long)

    pub slot_out : index < length slots
        → ent 𝓤 (sem 𝓛 (row_owns block from slots)) (sep 𝓤 (sem 𝓛 (place_owns block (index * 4096 + from) (get_or slots index None))) (sem 𝓛 Besides))
    slot_out within =
        let rest : Slots = get_or slots index None ∷ drop (suc index) slots in
        qed 𝓛 (‵ (row_owns block from slots) ∷ []) ∵ rewrite ! 0 (λ (l : Slots). ‵ (row_owns block from l)) (parted slots index within) refl $
        use1 𝓛 (‵ (row_owns block from (take index slots)) ⊛ ‵ (row_owns block (index * 4096 + from) rest))
        (row_cut (take index slots) rest from (index * 4096 + from) (starts within)) $
        split ! $ move ! (1 ∷ []) $ fsplit ! $ move ! (2 ∷ 1 ∷ []) $ fjoin ! $ move ! (1 ∷ []) $ done !

    pub slot_in : index < length slots → (slot : Option (List ℕ))
        → ent 𝓤 (sep 𝓤 (sem 𝓛 (place_owns block (index * 4096 + from) slot)) (sem 𝓛 Besides)) (sem 𝓛 (row_owns block from (set slots index slot)))
    slot_in within slot =
        let rest : Slots = slot ∷ drop (suc index) slots in
        qed 𝓛 (‵ (place_owns block (index * 4096 + from) slot) ∷ ‵ Besides ∷ []) ∵ move ! (1 ∷ []) $ fsplit ! $ move ! (2 ∷ 1 ∷ []) $ fjoin ! $
        move ! (1 ∷ 0 ∷ []) $
        use2 𝓛 (‵ (row_owns block from (take index slots ++ rest))) (row_glue (take index slots) rest from (index * 4096 + from) (starts within)) $
        rewrite ! 0 (λ (l : Slots). ‵ (row_owns block from l)) (sym (set_split slots index slot within)) refl $ done !

  module _ (κ : Lft) where
    lent_behind : (front back : Slots) (from to : ℕ) → to ≡ length front * 4096 + from
        → ent 𝓤 (sem 𝓛 (row_lends block from (front ++ back) κ)) (sem 𝓛 (row_lends block to back κ))
    lent_behind [] back from to e = let same : from ≡ to = omega arith in
        subst (λ (k : ℕ). ent 𝓤 (sem 𝓛 (row_lends block from back κ)) (sem 𝓛 (row_lends block k back κ))) same (id⊢ 𝓤 _)
    lent_behind (slot ∷ front) back from to e =
        let rest = sem 𝓛 (row_lends block (from + 4096) (front ++ back) κ) in
        via 𝓤 rest (snd∗ 𝓤 (sem 𝓛 (place_lends block from slot κ)) rest) (lent_behind front back (from + 4096) to (omega arith))

    pub slot_seen : (from : ℕ) (slots : Slots) (index : ℕ) → index < length slots
        → ent 𝓤 (sem 𝓛 (row_lends block from slots κ)) (sem 𝓛 (place_lends block (index * 4096 + from) (get_or slots index None) κ))
    slot_seen from slots index within =
        let rest : Slots = get_or slots index None ∷ drop (suc index) slots in
        qed 𝓛 (‵ (row_lends block from slots κ) ∷ []) ∵ rewrite ! 0 (λ (l : Slots). ‵ (row_lends block from l κ)) (parted slots index within) refl $
        use1 𝓛 (‵ (row_lends block (index * 4096 + from) rest κ)) (lent_behind (take index slots) rest from (index * 4096 + from)
        (starts from slots index within)) $ fsplit ! $ keep ! (0 ∷ []) $ done !

  pub empty_row : (count from : ℕ) → ent 𝓤 (H.room (ty_array frame_ty count) block from) (sem 𝓛 (row_owns block from (replicate count None)))
  empty_row zero from = qed 𝓛 (‵ (froom (ty_array frame_ty 0) block from) ∷ []) ∵ keep ! [] $ done !
  empty_row (suc count) from =
      qed 𝓛 (‵ (froom (ty_array frame_ty (suc count)) block from) ∷ []) ∵
      use1 𝓛 (‵ (froom frame_ty block from) ⊛ ‵ (froom (ty_array frame_ty count) block (from + 4096))) (𝓛.laws.room_uncons frame_ty count block from)
      $ split ! $
      use1 𝓛 (‵ (place_owns block from None)) (𝓛.laws.room-raw frame_ty block from) $ frame ! $ by ! (empty_row count (from + 4096))

  place_room : (slot : Option (List ℕ)) (at : ℕ) → ent 𝓤 (sem 𝓛 (place_owns block at slot)) (H.room frame_ty block at)
  place_room None at = 𝓛.laws.raw-room frame_ty block at
  place_room (Some bytes) at = part_room 𝓛 Frame bytes block at

  pub row_room : (slots : Slots) (from : ℕ) → ent 𝓤 (sem 𝓛 (row_owns block from slots)) (H.room (ty_array frame_ty (length slots)) block from)
  row_room [] from = 𝓛.laws.room_nil frame_ty block from
  row_room (slot ∷ slots) from =
      qed 𝓛 (‵ (place_owns block from slot) ∷ ‵ (row_owns block (from + 4096) slots) ∷ []) ∵ use1 𝓛 (‵ (froom frame_ty block from))
      (place_room slot from) $ move ! (1 ∷ []) $
      use1 𝓛 (‵ (froom (ty_array frame_ty (length slots)) block (from + 4096))) (row_room slots (from + 4096)) $ move ! (1 ∷ []) $
      by ! (𝓛.laws.room_cons frame_ty (length slots) block from)
