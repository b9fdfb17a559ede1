-- Lawful places of files, and of more files.
use Rattle.std.proofs.Common.{◌≡◌, ℕ, ◌⊎◌, inl, inr, List, [], ◌∷◌, ◌++◌, Option, Some, None, MatchOption, refl, ap, sym, subst, ◌∙◌}
use Rattle.std.proofs.Common.{append_assoc, append-nil}
use Rattle.vt_outside.specs.Placement.{Range}
use Rattle.image_files.specs.declared.file.Placing.{Placing}
use Rattle.image_files.specs.Files.{ImageFile}
use Rattle.image_files.specs.Places.{range_at, MayStand, ArePlaces, ranges_at}
use Rattle.image_files.specs.Room.{HaveRoom}

-- the places that a file and those after it are given, by how it is placed
abbrev pub AfterPlacing : ℕ → List Range → ImageFile → List ImageFile → List ℕ → Option Placing → Type 0
AfterPlacing top handed file files places placing =
    MatchOption placing (ArePlaces top handed files places)
    (λ p. (place : ℕ) × (others : List ℕ) × (places ≡ place ∷ others) × MayStand top handed file p place
    × ArePlaces top (handed ++ range_at file place ∷ []) files others)

-- an option is none, or some
pub known : {A : Type 0} (o : Option A) → (o ≡ None) ⊎ ((a : A) × (o ≡ Some a))
known None = inl refl
known (Some a) = inr (a, refl)

-- no ranges without places
no_places : (files : List ImageFile) → ranges_at files [] ≡ []
no_places [] = refl
no_places (file ∷ files) = refl

-- the ranges of files where the first isn't placed, and where it is
ranges_past : (file : ImageFile) (files : List ImageFile) (places : List ℕ) → file.placing ≡ None
    → ranges_at (file ∷ files) places ≡ ranges_at files places
ranges_past file files [] is = sym (no_places files)
ranges_past file files (place ∷ places) is = rw is refl

ranges_here : (file : ImageFile) (files : List ImageFile) (place : ℕ) (places : List ℕ) (placing : Placing) → file.placing ≡ Some placing
    → ranges_at (file ∷ files) (place ∷ places) ≡ range_at file place ∷ ranges_at files places
ranges_here file files place places placing is = rw is refl

-- lawful places of files, and then of more files
module _ (top : ℕ) (after : List ImageFile) (rest : List ℕ) where
  pub places_more : (handed : List Range) (before : List ImageFile) (done : List ℕ) → ArePlaces top handed before done
      → ArePlaces top (handed ++ ranges_at before done) after rest → ArePlaces top handed (before ++ after) (done ++ rest)
  places_more handed [] done is more =
      subst (λ places. ArePlaces top handed after (places ++ rest)) (sym is)
      (subst (λ ranges. ArePlaces top ranges after rest) (append-nil handed) more)
  places_more handed (file ∷ before) done are more =
      elim (known file.placing) as (λ _. ArePlaces top handed ((file ∷ before) ++ after) (done ++ rest)) [
        | inl is ↦
            let these : ArePlaces top handed before done = subst (AfterPlacing top handed file before done) is are in
            let others = subst (λ ranges. ArePlaces top (handed ++ ranges) after rest) (ranges_past file before done is) more in
            subst (AfterPlacing top handed file (before ++ after) (done ++ rest)) (sym is) (places_more handed before done these others)
        | inr (placing, is) ↦
            let (place, others, split, may, these) = subst (AfterPlacing top handed file before done) is are in
            let ranges : ranges_at (file ∷ before) done ≡ range_at file place ∷ ranges_at before others =
            ap (ranges_at (file ∷ before)) split ∙ ranges_here file before place others placing is in
            let handed_on : handed ++ ranges_at (file ∷ before) done ≡ (handed ++ range_at file place ∷ []) ++ ranges_at before others =
            ap (λ r. handed ++ r) ranges ∙ sym (append_assoc handed (range_at file place ∷ []) (ranges_at before others)) in
            subst (AfterPlacing top handed file (before ++ after) (done ++ rest)) (sym is) (
              place,
              others ++ rest,
              ap (λ places. places ++ rest) split,
              may,
              places_more (handed ++ range_at file place ∷ []) before others these (subst (λ r. ArePlaces top r after rest) handed_on more),
            )
      ]

  -- and their ranges
  pub ranges_more : (handed : List Range) (before : List ImageFile) (done : List ℕ) → ArePlaces top handed before done
      → ranges_at (before ++ after) (done ++ rest) ≡ ranges_at before done ++ ranges_at after rest
  ranges_more handed [] done is = ap (λ places. ranges_at after (places ++ rest)) is
  ranges_more handed (file ∷ before) done are =
      elim (known file.placing) as
      (λ _. ranges_at ((file ∷ before) ++ after) (done ++ rest) ≡ ranges_at (file ∷ before) done ++ ranges_at after rest) [
        | inl is ↦
            ranges_past file (before ++ after) (done ++ rest) is
            ∙ ranges_more handed before done (subst (AfterPlacing top handed file before done) is are)
            ∙ ap (λ r. r ++ ranges_at after rest) (sym (ranges_past file before done is))
        | inr (placing, is) ↦
            let (place, others, split, may, these) = subst (AfterPlacing top handed file before done) is are in
            ap (λ places. ranges_at ((file ∷ before) ++ after) (places ++ rest)) split
            ∙ ranges_here file (before ++ after) place (others ++ rest) placing is
            ∙ ap (λ r. range_at file place ∷ r) (ranges_more (handed ++ range_at file place ∷ []) before others these)
            ∙ ap (λ r. r ++ ranges_at after rest) (sym (ap (ranges_at (file ∷ before)) split ∙ ranges_here file before place others placing is))
      ]

-- There is room for a file and those after it, whatever lawful places they are given.
abbrev pub RoomFrom : ℕ → List Range → List ImageFile → Type 0
RoomFrom top handed [] = Unit {0}
RoomFrom top handed (file ∷ files) =
    MatchOption file.placing (RoomFrom top handed files)
    (λ placing. ((place : ℕ) × MayStand top handed file placing place)
    × ((place : ℕ) → MayStand top handed file placing place → RoomFrom top (handed ++ range_at file place ∷ []) files))

-- what room there is for a file and those after it, by how it is placed
abbrev pub RoomBy : ℕ → List Range → ImageFile → List ImageFile → Option Placing → Type 0
RoomBy top handed file files placing =
    MatchOption placing (RoomFrom top handed files)
    (λ p. ((place : ℕ) × MayStand top handed file p place)
    × ((place : ℕ) → MayStand top handed file p place → RoomFrom top (handed ++ range_at file place ∷ []) files))

pub room_behind : (top : ℕ) (before after : List ImageFile) (done : List ℕ) → HaveRoom top (before ++ after) → ArePlaces top [] before done
    → RoomFrom top (ranges_at before done) after
room_behind top before [] done room are = tt
room_behind top before (file ∷ after) done room are =
    let joined : (before ++ file ∷ []) ++ after ≡ before ++ file ∷ after = append_assoc before (file ∷ []) after in
    let still : HaveRoom top ((before ++ file ∷ []) ++ after) = subst (HaveRoom top) (sym joined) room in
    elim (known file.placing) as (λ _. RoomFrom top (ranges_at before done) (file ∷ after)) [
      | inl is ↦
          let alone : ArePlaces top (ranges_at before done) (file ∷ []) [] =
          subst (AfterPlacing top (ranges_at before done) file [] []) (sym is) refl in
          let ranges : ranges_at (before ++ file ∷ []) (done ++ []) ≡ ranges_at before done =
          ranges_more top (file ∷ []) [] [] before done are ∙ append-nil (ranges_at before done) in
          subst (RoomBy top (ranges_at before done) file after) (sym is)
          (subst (λ r. RoomFrom top r after) ranges
          (room_behind top (before ++ file ∷ []) after (done ++ []) still (places_more top (file ∷ []) [] [] before done are alone)))
      | inr (placing, is) ↦
          subst (RoomBy top (ranges_at before done) file after) (sym is) (
            room before file after placing done refl is are,
            λ place may.
                let alone : ArePlaces top (ranges_at before done) (file ∷ []) (place ∷ []) =
                subst (AfterPlacing top (ranges_at before done) file [] (place ∷ [])) (sym is) (place, [], refl, may, refl) in
                let ranges : ranges_at (before ++ file ∷ []) (done ++ place ∷ []) ≡ ranges_at before done ++ range_at file place ∷ [] =
                ranges_more top (file ∷ []) (place ∷ []) [] before done are
                ∙ ap (λ r. ranges_at before done ++ r) (ranges_here file [] place [] placing is) in
                subst (λ r. RoomFrom top r after) ranges
                (room_behind top (before ++ file ∷ []) after (done ++ place ∷ []) still
                (places_more top (file ∷ []) (place ∷ []) [] before done are alone)),
          )
    ]

pub room_from : (top : ℕ) (files : List ImageFile) → HaveRoom top files → RoomFrom top [] files
room_from top files room = room_behind top [] files [] room refl

-- where there is room there are lawful places
pub some_places : (top : ℕ) (handed : List Range) (files : List ImageFile) → RoomFrom top handed files
    → (places : List ℕ) × ArePlaces top handed files places
some_places top handed [] room = ([], refl)
some_places top handed (file ∷ files) room =
    elim (known file.placing) as (λ _. (places : List ℕ) × ArePlaces top handed (file ∷ files) places) [
      | inl is ↦
          let rest = some_places top handed files (subst (RoomBy top handed file files) is room) in
          (rest.0, subst (AfterPlacing top handed file files rest.0) (sym is) rest.1)
      | inr (placing, is) ↦
          let (free, others) = subst (RoomBy top handed file files) is room in
          let rest = some_places top (handed ++ range_at file free.0 ∷ []) files (others free.0 free.1) in
          (free.0 ∷ rest.0, subst (AfterPlacing top handed file files (free.0 ∷ rest.0)) (sym is) (free.0, rest.0, refl, free.1, rest.1))
    ]
