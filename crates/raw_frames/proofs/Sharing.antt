-- Shared loans of the block: one can be copied and cut short, and is made of a borrow of the places. Both go along the row, place
-- by place: an empty place lends nothing, and a filled one what an array of bytes lends.
use Prim.Native.Nat.{ℕ, ◌+◌}
use Rattle.std.specs.Prelude.{List, [], ◌∷◌, Option, Some, None}
use seplogic.Ra.Ura.{Ura}
use base.Fml.{Lft, Incl, ftrue, ffalse}
use types.Logic.{Logic}
use denote.Param.Laws.{Laws}
use denote.RawPtr.{Ptr, block_ptr, null_ptr}
use denote.Sharing.{ShrLaws, said}
use denote.SharingLaws.{beside_shr_laws, nothing_shr_laws, said_shr_laws}
use denote.Shares.{Shares-less}
use denote.Struct.Lending.{Lends, Lends-both, Lends-nothing, Lends-said, Lends-false}
use Rattle.raw_frames.specs.Ownership.{Frame, place_owns, row_owns, place_lends, row_lends, is_short, block_owns, block_lends}

module _ (laws : Laws Frame) where
  place-keeps : (block at : ℕ) (slot : Option (List ℕ)) → ShrLaws (place_lends block at slot)
  place-keeps block at None = nothing_shr_laws
  place-keeps block at (Some bytes) = laws.shr_laws bytes block at

  row-keeps : (block at : ℕ) (slots : List (Option (List ℕ))) → ShrLaws (row_lends block at slots)
  row-keeps block at [] = nothing_shr_laws
  row-keeps block at (slot ∷ slots) = beside_shr_laws _ _ (place-keeps block at slot) (row-keeps block (at + 4096) slots)

  pub block-keeps : (first : Ptr) (slots : List (Option (List ℕ))) → ShrLaws (block_lends first slots)
  block-keeps null_ptr slots = said_shr_laws ffalse tt
  block-keeps (block_ptr block at) slots = beside_shr_laws _ _ (said_shr_laws (is_short slots) tt) (row-keeps block at slots)

  module _ {M : Type 1} {𝓤 : Ura M} (𝓛 : Logic 𝓤) (span : Lft) (within : Incl span Frame.lives) where
    place-made : (block at : ℕ) (slot : Option (List ℕ)) → Lends 𝓛 (place_owns block at slot) (place_lends block at slot) span
    place-made block at None = Lends-nothing 𝓛 (place_owns block at None) span
    place-made block at (Some bytes) = λ κ tokens. Shares-less 𝓛 Frame Frame.lives span within (laws.shares 𝓛) bytes κ tokens block at

    row-made : (block at : ℕ) (slots : List (Option (List ℕ))) → Lends 𝓛 (row_owns block at slots) (row_lends block at slots) span
    row-made block at [] = Lends-nothing 𝓛 ftrue span
    row-made block at (slot ∷ slots) =
        Lends-both 𝓛 (place_owns block at slot) (row_owns block (at + 4096) slots) (place_lends block at slot) (row_lends block (at + 4096) slots) span
        (place-made block at slot) (row-made block (at + 4096) slots)

    pub block-made : (first : Ptr) (slots : List (Option (List ℕ))) → Lends 𝓛 (block_owns first slots) (block_lends first slots) span
    block-made null_ptr slots = Lends-false 𝓛 (said ffalse) span
    block-made (block_ptr block at) slots =
        Lends-both 𝓛 (is_short slots) (row_owns block at slots) (said (is_short slots)) (row_lends block at slots) span
        (Lends-said 𝓛 (is_short slots) tt span) (row-made block at slots)
