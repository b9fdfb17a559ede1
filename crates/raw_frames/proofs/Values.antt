-- The machine values of what the walks are passed and make. A pointer is one word, and the owners take no bytes.
--     _vals, _val, _tells      the values of a pointer, of an owner and of a frame, and that there are no others
--     _made                    what stands in memory for a pointer or for an owner is had for nothing. What an owner owns is another matter
use Prim.Native.Nat.{ℕ}
use mathlib.Core.Path.{refl, ap, ◌∙◌}
use mathlib.Core.List.{List, [], ◌∷◌, ◌++◌, map}
use seplogic.Ra.Ura.{Ura}
use base.Logic.{ent, emp}
use mir.Syntax.{w8}
use mir.Val.{Val, vint, vstruct, vcons, vnil, of_list}
use types.Logic.{Logic, sem}
use denote.Array.{array_val}
use denote.Laws.{Is, Tells}
use denote.RattleType.{RattleType}
use denote.RawPtr.{Ptr, RawPtr, ptr_val}
use denote.Struct.Declared as Declared
use denote.Struct.Field.{u8-field}
use denote.Struct.Laws.{u8-laws, array_laws, RawPtr-laws, RawPtr-plain, field_plain, tells}
use denote.Struct.Owning.{shape}
use denote.Struct.OwningLaws.{tells as tells_owner}
use denote.Struct.Struct.{Struct, Struct-Makes}
use Rattle.std.proofs.RcSteps.{word}
use Rattle.std.specs.contracts.marker.PhantomData as marker
use Rattle.std.specs.declared.alloc.Allocator.{Ghosts}
use Rattle.raw_frames.specs.Ownership.{Frame}
use Rattle.raw_frames.specs.declared.places.Start.{Start}
use Rattle.raw_frames.specs.contracts.places.Start as S-type
use Rattle.raw_frames.specs.contracts.places.Places as P-type
use Rattle.raw_frames.specs.contracts.places.Claim as C-type

abbrev pub start_vals : Start → List Val
start_vals start = word start.first ∷ []

pub start_tells : Tells S-type.the_row (Is S-type.the_row) start_vals
start_tells = tells S-type.the_type (RawPtr-laws, tt)

abbrev pub places_val : Val
places_val = vstruct vnil

pub places_tells : Tells P-type.the_row (Is P-type.the_row) (λ places. places_val ∷ [])
places_tells = tells_owner P-type.the_type tt

abbrev pub claim_val : Val
claim_val = vstruct (vcons (vstruct vnil) vnil)

pub claim_tells : (A : RattleType) (g : Ghosts A.Denot) → Tells (C-type.the_row A g) (Is (C-type.the_row A g)) (λ claim. claim_val ∷ [])
claim_tells A g claim vs is = is.0.1.0 ∙ ap (λ (us : List Val). vstruct (of_list (us ++ [])) ∷ []) is.0.1.1.0.1.0

abbrev pub frame_val : List ℕ → Val
frame_val bytes = array_val (map (vint w8) bytes)

pub frame_tells : Tells Frame (Is Frame) (λ bytes. frame_val bytes ∷ [])
frame_tells = (array_laws u8-field u8-laws 4096).tells

-- the fields of the owners
abbrev pub PlacesFields : RattleType
PlacesFields = Struct (shape P-type.the_type)

abbrev pub ClaimFields : (A : RattleType) → Ghosts A.Denot → RattleType
ClaimFields A g = Struct (shape (C-type.the_type A g))

module _ {M : Type 1} {𝓤 : Ura M} (𝓛 : Logic 𝓤) where
  pub start_made : (first : Ptr) → ent 𝓤 (emp 𝓤) (sem 𝓛 (S-type.the_row.own_val (record { first = first }) (word first ∷ [])))
  start_made first = Struct-Makes 𝓛 (Declared.shape S-type.the_type) (RawPtr-plain, tt) (first, tt) (word first ∷ [])
      ((ptr_val first ∷ [], tt), (refl, (refl, tt)))

  pub places_made : ent 𝓤 (emp 𝓤) (sem 𝓛 (PlacesFields.own_val tt (places_val ∷ [])))
  places_made = Struct-Makes 𝓛 (shape P-type.the_type) tt tt (places_val ∷ []) (tt, (refl, tt))

  pub claim_made : (A : RattleType) (g : Ghosts A.Denot) → ent 𝓤 (emp 𝓤) (sem 𝓛 ((ClaimFields A g).own_val (tt, tt) (claim_val ∷ [])))
  claim_made A g = Struct-Makes 𝓛 (shape (C-type.the_type A g)) (field_plain (marker.the_type RawPtr) tt, tt) (tt, tt) (claim_val ∷ [])
      ((vstruct vnil ∷ [], tt), (refl, ((tt, (refl, tt)), tt)))
