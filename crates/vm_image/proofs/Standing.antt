-- Files that a load has left in memory: each stands at the place of its name, in its zone, with its holes filled.
use Rattle.std.proofs.Common.{◌≡◌, ℕ, ◌+◌, ◌*◌, ◌<◌, ◌≤◌, ◌⊎◌, inl, inr, List, [], ◌∷◌, ◌++◌, length, Some, None, arith, subst, sym}
use Rattle.std.specs.Prelude.{MatchOption, IfSome}
use Rattle.std.specs.List.{AllByRecursion}
use Rattle.std.specs.Option.{option_map_or}
use Rattle.vt_outside.specs.Placement.{Range}
use Rattle.vt_bytes.specs.Memory.{Memory, IsRamRange, bytes_at, seen}
use Rattle.vt_bytes.proofs.Seen.{holds-seen}
use Rattle.loader_script.specs.Run.{Placed}
use Rattle.loader_script.specs.Left.{Holds, IsOutside}
use Rattle.blob_holes.specs.Held.{HoldsFilled}
use Rattle.image_files.specs.declared.file.Placing.{Placing}
use Rattle.zone_alloc.specs.declared.zone.Zone.{Zone}
use Rattle.zone_alloc.specs.declared.zone.Zone.TheVariants.{High, Fseg}
use Rattle.image_files.specs.Files.{ImageFile}
use Rattle.zone_alloc.specs.Zones.{zone_range}
use Rattle.image_files.specs.Places.{range_at, MayStand, ArePlaces}
use Rattle.image_files.specs.Linked.{IsLinked, AreLinked}
use Rattle.vm_image.proofs.Named.{places_by, StandsFirst}

-- a range of a zone is RAM
zone_ram : (top : ℕ) (zone : Zone) (place size : ℕ) → (zone_range top zone).start ≤ place → place + size ≤ (zone_range top zone).end
    → IsRamRange top place size
zone_ram top High place size from within = λ i below. inr (inr (inl (omega arith, omega arith)))
zone_ram top Fseg place size from within = λ i below. inr (inl (omega arith, omega arith))

-- a file stands in a memory at the place of its name: at a multiple of its align, in its zone, with its holes filled
pub record StandsAt (m : Memory) (place_of : List ℕ → ℕ) (file : ImageFile) (placing : Placing) : Type 0 where
  pub aligned : (factor : ℕ) × (place_of file.name ≡ factor * placing.align)
  pub from : (zone_range m.top placing.zone).start ≤ place_of file.name
  pub within : place_of file.name + length file.blob.bytes ≤ (zone_range m.top placing.zone).end
  pub held : HoldsFilled (seen m) (place_of file.name) file.blob place_of

-- the same of a file that is placed
abbrev pub Stands : Memory → (List ℕ → ℕ) → ImageFile → Type 0
Stands m place_of file = IfSome file.placing (StandsAt m place_of file)

-- a linked file that is left at a lawful place
stands_at : (m : Memory) (place_of : List ℕ → ℕ) (handed : List Range) (file : ImageFile) (placing : Placing) (p : Placed)
    → MayStand m.top handed file placing (place_of file.name) → IsLinked place_of file (place_of file.name) p
    → bytes_at m (place_of file.name) (length p.bytes) ≡ p.bytes → StandsAt m place_of file placing
stands_at m place_of handed file placing p free linked left =
    let size : length p.bytes ≡ length file.blob.bytes = linked.filled.size in
    let within : place_of file.name + length file.blob.bytes ≤ (zone_range m.top placing.zone).end = free.within in
    record {
      aligned = free.aligned;
      from = free.from;
      within = within;
      held = record {
        bytes = p.bytes;
        held = holds-seen m (place_of file.name) p.bytes
            (zone_ram m.top placing.zone (place_of file.name) (length p.bytes) free.from (omega arith)) left;
        filled = linked.filled;
      };
    }

-- a file that is placed gets a place, and the others are placed behind it
abbrev IsPlacedFirst : ℕ → List Range → ImageFile → List ImageFile → List ℕ → Placing → Type 0
IsPlacedFirst top handed file files places placing =
    (place : ℕ) × (others : List ℕ) × (places ≡ place ∷ others) × MayStand top handed file placing place
    × ArePlaces top (handed ++ range_at file place ∷ []) files others

-- a file that is placed may stand at the place of its name, where some ranges are handed out
abbrev pub MayStandSomewhere : ℕ → (List ℕ → ℕ) → ImageFile → Type 0
MayStandSomewhere top place_of file = IfSome file.placing (λ placing. (handed : List Range) × MayStand top handed file placing (place_of file.name))

-- so may all files at lawful places
pub all_may_stand : (top : ℕ) (place_of : List ℕ → ℕ) (handed : List Range) (files : List ImageFile) (places : List ℕ) → ArePlaces top handed files places
    → places ≡ places_by place_of files → AllByRecursion (MayStandSomewhere top place_of) files
all_may_stand top place_of handed [] places lawful named = tt
all_may_stand top place_of handed (file ∷ files) places lawful named =
    elim file.placing as (λ placing. MatchOption placing (ArePlaces top handed files places) (IsPlacedFirst top handed file files places)
    → places ≡ option_map_or (λ (p : Placing). place_of file.name ∷ places_by place_of files) placing (places_by place_of files)
    → IfSome placing (λ placing. (handed : List Range) × MayStand top handed file placing (place_of file.name))
    × AllByRecursion (MayStandSomewhere top place_of) files) [
      | None ↦ λ lawful named. (tt, all_may_stand top place_of handed files places lawful named)
      | Some q ↦ λ lawful named.
          let here : lawful.0 ≡ place_of file.name = cc (lawful.2, named) in
          let others : lawful.1 ≡ places_by place_of files = cc (lawful.2, named) in (
            (handed, subst (MayStand top handed file q) here lawful.3),
            all_may_stand top place_of (handed ++ range_at file lawful.0 ∷ []) files lawful.1 lawful.4 others,
          )
    ] lawful named

-- so do all files that are linked at lawful places and left in memory
pub all_stand : (m : Memory) (place_of : List ℕ → ℕ) (handed : List Range) (files : List ImageFile) (places : List ℕ) (placed : List Placed)
    → ArePlaces m.top handed files places → AreLinked place_of files places placed → Holds m placed → places ≡ places_by place_of files
    → AllByRecursion (Stands m place_of) files
all_stand m place_of handed [] places placed lawful linked left named = tt
all_stand m place_of handed (file ∷ files) places placed lawful linked left named =
    elim file.placing as (λ placing. MatchOption placing (ArePlaces m.top handed files places) (IsPlacedFirst m.top handed file files places)
    → MatchOption placing (AreLinked place_of files places placed) (λ (p : Placing). StandsFirst place_of file files places placed)
    → places ≡ option_map_or (λ (p : Placing). place_of file.name ∷ places_by place_of files) placing (places_by place_of files)
    → IfSome placing (StandsAt m place_of file) × AllByRecursion (Stands m place_of) files) [
      | None ↦ λ lawful linked named. (tt, all_stand m place_of handed files places placed lawful linked left named)
      | Some q ↦ λ lawful linked named.
          let p : Placed = linked.2 in
          let left_first = subst (Holds m) linked.5 left in
          let placed_here : lawful.0 ≡ place_of file.name = cc (lawful.2, named) in
          let linked_here : linked.0 ≡ place_of file.name = cc (linked.4, named) in
          let others : linked.1 ≡ lawful.1 = cc (linked.4, lawful.2) in
          let others_named : lawful.1 ≡ places_by place_of files = cc (lawful.2, named) in
          let is : IsLinked place_of file (place_of file.name) p = subst (λ at. IsLinked place_of file at p) linked_here linked.6 in (
            stands_at m place_of handed file q p (subst (MayStand m.top handed file q) placed_here lawful.3) is
                (subst (λ at. bytes_at m at (length p.bytes) ≡ p.bytes) is.place_is left_first.0),
            all_stand m place_of (handed ++ range_at file lawful.0 ∷ []) files lawful.1 linked.3 lawful.4
                (subst (λ those. AreLinked place_of files those linked.3) others linked.7) left_first.1 others_named,
          )
    ] lawful linked named

-- an address is in front of a file that is placed or behind it
abbrev pub IsBeside : (List ℕ → ℕ) → ℕ → ImageFile → Type 0
IsBeside place_of address file =
    IfSome file.placing (λ (placing : Placing). (address < place_of file.name) ⊎ (place_of file.name + length file.blob.bytes ≤ address))

-- an address beside each of the files is in none of them
pub outside : (place_of : List ℕ → ℕ) (files : List ImageFile) (places : List ℕ) (placed : List Placed) (address : ℕ)
    → AreLinked place_of files places placed → places ≡ places_by place_of files → AllByRecursion (IsBeside place_of address) files
    → IsOutside placed address
outside place_of [] places placed address linked named beside = subst (λ those. IsOutside those address) (sym linked.1) tt
outside place_of (file ∷ files) places placed address linked named beside =
    elim file.placing as (λ placing. MatchOption placing (AreLinked place_of files places placed)
    (λ (p : Placing). StandsFirst place_of file files places placed)
    → places ≡ option_map_or (λ (p : Placing). place_of file.name ∷ places_by place_of files) placing (places_by place_of files)
    → IfSome placing (λ (p : Placing). (address < place_of file.name) ⊎ (place_of file.name + length file.blob.bytes ≤ address))
    → IsOutside placed address) [
      | None ↦ λ linked named first. outside place_of files places placed address linked named beside.1
      | Some q ↦ λ linked named first.
          let p : Placed = linked.2 in
          let linked_here : linked.0 ≡ place_of file.name = cc (linked.4, named) in
          let here : p.place ≡ place_of file.name = cc (linked.6.place_is, linked_here) in
          let size : length p.bytes ≡ length file.blob.bytes = linked.6.filled.size in
          let others_named : linked.1 ≡ places_by place_of files = cc (linked.4, named) in
          let not_in : (address < p.place) ⊎ (p.place + length p.bytes ≤ address) = elim first as (λ _. (address < p.place)
          ⊎ (p.place + length p.bytes ≤ address)) [ inl before ↦ inl (omega arith) | inr behind ↦ inr (omega arith) ] in
          subst (λ those. IsOutside those address) (sym linked.5)
          (not_in, outside place_of files linked.1 linked.3 address linked.7 others_named beside.1)
    ] linked named beside.0
