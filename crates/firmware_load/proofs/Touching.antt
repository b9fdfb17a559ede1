-- Which frames of its memory a guest leaves touched, by one change and by one after another.
use Rattle.std.proofs.Common.{◌≡◌, ℕ, ◌⊎◌, inl, inr, true, List, [], ◌∷◌, ◌++◌, ◌&&◌, not, arith, refl, sym, ap, subst, ◌∙◌, append_assoc}
use Rattle.std.proofs.lemmas.List.{append-nil}
use Rattle.vt_outside.specs.Placement.{Range}
use Rattle.vt_bytes.specs.Memory.{is_ram}
use Rattle.guest_memory.specs.Touched.{HeldMemory, TouchesOnly, touched_at}
use Rattle.guest_memory.proofs.Touches.{touches_none, touches_weaker}
use Rattle.guest_memory.proofs.Touching.{touches_put, touches_more}
use Rattle.command_acts.specs.declared.placed.PlacedFile.{PlacedFile}
use Rattle.command_acts.specs.declared.placements.Placements.{Placements}
use Rattle.command_acts.specs.FilesInMemory.{placed_ranges}
use Rattle.command_acts.specs.Touching.{IsInOne}
use Rattle.command_acts.proofs.Touching.{in_more}
use Rattle.load_states.specs.declared.event.Event.{Event}
use Rattle.load_states.specs.declared.event.Event.TheVariants.{Other, Reset}
use Rattle.load_states.specs.Kept.{IsInZone}
use Rattle.firmware_load.specs.Inside.{Nowhere}
use Rattle.std.specs.List.{AllByRecursion}
use Rattle.load_states.specs.Guarded.{is_guarded}
use Rattle.load_states.specs.Touching.{IsOwn, MayLeaveTouched, OneMayLeaveTouched, MayTouchOver}
use Rattle.load_states.proofs.Touching.{by_first, by_later, over_more}
use Rattle.firmware_load.specs.declared.guest.Guest.{Guest}
use Rattle.firmware_load.specs.World.{TouchesByPlan}
use Rattle.firmware_load.specs.Inside.{TouchesOver, TouchesTaken}

-- ---- one change

-- none
pub touches_still : (guest : Guest) → TouchesOver [] guest guest
touches_still guest = record {
  top = refl;
  placed = λ address there. inl there;
  touches = touches_none (MayTouchOver guest.memory.memory.top [] (placed_ranges guest.placements.placed.items)) guest.memory.memory.top
      guest.memory.touched;
}

-- placed files stay placed where the placements stay
still_placed : (before after : Guest) (address : ℕ) → after.placements ≡ before.placements
    → IsInOne (placed_ranges before.placements.placed.items) address → IsInOne (placed_ranges after.placements.placed.items) address
still_placed before after address same there =
    subst (λ (p : Placements). IsInOne (placed_ranges p.placed.items) address) (sym same) there

-- one that touches what is the load's own alone
pub own_touched : (Has : ℕ → Type 0) (before after : Guest) → after.placements ≡ before.placements
    → after.memory.memory.top ≡ before.memory.memory.top
    → ((address : ℕ) → Has address → IsOwn (placed_ranges before.placements.placed.items) address)
    → TouchesOnly Has before.memory.memory.top before.memory.touched after.memory.touched → TouchesOver [] before after
own_touched Has before after same top own touches = record {
  top = top;
  placed = λ address there. inl (still_placed before after address same there);
  touches = touches_weaker Has (MayTouchOver before.memory.memory.top [] (placed_ranges after.placements.placed.items)) before.memory.memory.top
      before.memory.touched after.memory.touched
      (λ address has.
      inl (subst (λ (p : Placements). IsOwn (placed_ranges p.placed.items) address) (sym same) (own address has))) touches;
}

-- a byte that another processor writes
pub written_touched : (before after : Guest) (address byte : ℕ) → after.placements ≡ before.placements
    → after.memory.memory.top ≡ before.memory.memory.top
    → (is_ram before.memory.memory.top address && not (is_guarded before.memory.memory.top address)) ≡ true
    → after.memory.touched ≡ touched_at before.memory.memory.top address 1 before.memory.touched → TouchesOver (Other address byte ∷ []) before after
written_touched before after address byte same top effect touched = record {
  top = top;
  placed = λ place there. inl (still_placed before after place same there);
  touches = touches_put (MayTouchOver before.memory.memory.top (Other address byte ∷ []) (placed_ranges after.placements.placed.items))
      before.memory.memory.top address 1 before.memory.touched after.memory.touched touched
      (λ place its. let here : place ≡ address = omega (arith, its.0, its.1) in inr (inl (here, effect)));
}

-- ---- one change after another

-- what is placed or written may be touched
may_touch : (top : ℕ) (events : List Event) (own : List Range) (address : ℕ) → IsInOne own address ⊎ OneMayLeaveTouched top events address
    → MayTouchOver top events own address
may_touch top events own address its = elim its as (λ _. MayTouchOver top events own address) [ inl file ↦ inl (inr file) | inr by ↦ inr by ]

pub touches_on : (first later : List Event) (a b c : Guest) → TouchesOver first a b → TouchesOver later b c → TouchesOver (first ++ later) a c
touches_on first later a b c one two =
    let top = a.memory.memory.top in
    let between = placed_ranges b.placements.placed.items in
    let own = placed_ranges c.placements.placed.items in
    let on : (address : ℕ) → IsInOne between address → IsInOne own address ⊎ OneMayLeaveTouched top (first ++ later) address = λ address there.
    elim (two.placed address there) as (λ _. IsInOne own address ⊎ OneMayLeaveTouched top (first ++ later) address) [
      | inl still ↦ inl still
      | inr by ↦ inr (by_later top first later address (subst (λ t. OneMayLeaveTouched t later address) one.top by))
    ] in
    record {
      top = two.top ∙ one.top;
      placed = λ address there. elim (one.placed address there) as (λ _. IsInOne own address ⊎ OneMayLeaveTouched top (first ++ later) address) [
        | inl still ↦ on address still
        | inr by ↦ inr (by_first top first later address by)
      ];
      touches = touches_more (MayTouchOver top (first ++ later) own) (MayTouchOver top later own) top top a.memory.touched b.memory.touched
          c.memory.touched
          (touches_weaker (MayTouchOver top first between) (MayTouchOver top (first ++ later) own) top a.memory.touched b.memory.touched
          (λ address. over_more top first (first ++ later) between own address (λ there. may_touch top (first ++ later) own address (on address there))
          (by_first top first later address)) one.touches)
          refl
          (λ address. over_more top later (first ++ later) own own address (λ there. inl (inr there)) (by_later top first later address))
          (subst (λ (t : ℕ). TouchesOnly (MayTouchOver t later own) t b.memory.touched c.memory.touched) one.top two.touches);
    }

-- the same over other events, where these write as much
pub touches_over : (events more : List Event) (before after : Guest)
    → ((top address : ℕ) → OneMayLeaveTouched top events address → OneMayLeaveTouched top more address) → TouchesOver events before after
    → TouchesOver more before after
touches_over events more before after wider over =
    let top = before.memory.memory.top in
    let own = placed_ranges after.placements.placed.items in
    record {
      top = over.top;
      placed = λ address there. elim (over.placed address there) as (λ _. IsInOne own address ⊎ OneMayLeaveTouched top more address) [
        | inl still ↦ inl still
        | inr by ↦ inr (wider top address by)
      ];
      touches = touches_weaker (MayTouchOver top events own) (MayTouchOver top more own) top before.memory.touched after.memory.touched
          (λ address. over_more top events more own own address (λ there. inl (inr there)) (wider top address)) over.touches;
    }

-- so for an event by which nothing else is touched
pub touches_event : (event : Event) (before after : Guest) → TouchesOver [] before after → TouchesOver (event ∷ []) before after
touches_event event before after over = touches_over [] (event ∷ []) before after (λ top address none. absurd none) over

-- and for one that no other processor has
pub touches_alone : (event : Event) (before after : Guest) → ((top address : ℕ) → OneMayLeaveTouched top (event ∷ []) address → ⊥)
    → TouchesOver (event ∷ []) before after → TouchesOver [] before after
touches_alone event before after never over = touches_over (event ∷ []) [] before after (λ top address by. absurd (never top address by)) over

-- a file is placed behind a change
pub touches_placed : (before between after : Guest) (p : PlacedFile) → TouchesOver [] before between → after.memory ≡ between.memory
    → after.placements.placed.items ≡ between.placements.placed.items ++ p ∷ [] → TouchesOver [] before after
touches_placed before between after p first same placed =
    touches_on [] [] before between after first (record {
      top = ap (λ (m : HeldMemory). m.memory.top) same;
      placed = λ address there. inl (subst (λ (files : List PlacedFile). IsInOne (placed_ranges files) address) (sym placed)
          (in_more between.placements.placed.items (p ∷ []) address there));
      touches = subst (λ (m : HeldMemory). TouchesOnly
          (MayTouchOver between.memory.memory.top [] (placed_ranges after.placements.placed.items)) between.memory.memory.top between.memory.touched m.touched)
          (sym same)
          (touches_none (MayTouchOver between.memory.memory.top [] (placed_ranges after.placements.placed.items)) between.memory.memory.top
          between.memory.touched);
    })

-- ---- a reset

-- what was placed lies in a zone
zoned_before : (top : ℕ) (placed : List PlacedFile) (address : ℕ) → AllByRecursion (IsInZone top) placed → IsInOne (placed_ranges placed) address
    → MayLeaveTouched top Reset address
zoned_before top [] address zones there = absurd there
zoned_before top (p ∷ placed) address zones there = elim there as (λ _. MayLeaveTouched top Reset address) [
  | inl here ↦ elim zones.0 as (λ _. MayLeaveTouched top Reset address) [
    | inl high ↦ inl (omega (arith, high.0, here.0), omega (arith, high.1, here.1))
    | inr low ↦ inr (inl (omega (arith, low.0, here.0), omega (arith, low.1, here.1)))
  ]
  | inr later ↦ zoned_before top placed address zones.1 later
]

-- a reset touches no frame, and what was placed before it was in a zone
pub touches_reset : (before after : Guest) → AllByRecursion (IsInZone before.memory.memory.top) before.placements.placed.items
    → after.memory.memory.top ≡ before.memory.memory.top
    → TouchesOnly Nowhere before.memory.memory.top before.memory.touched after.memory.touched → TouchesOver (Reset ∷ []) before after
touches_reset before after zones top touches = record {
  top = top;
  placed = λ address there. inr (inl (zoned_before before.memory.memory.top before.placements.placed.items address zones there));
  touches = touches_weaker Nowhere (MayTouchOver before.memory.memory.top (Reset ∷ []) (placed_ranges after.placements.placed.items))
      before.memory.memory.top before.memory.touched after.memory.touched (λ address none. absurd none) touches;
}

-- ---- plans

-- one more event was
pub taken_more : (left_first left left_now : List Event) (event : Event) (a b c : Guest) → TouchesTaken left_first left a b → left ≡ event ∷ left_now
    → TouchesOver (event ∷ []) b c → TouchesTaken left_first left_now a c
taken_more left_first left left_now event a b c first is later = record {
  taken = first.taken ++ event ∷ [];
  plan = first.plan ∙ ap (λ (es : List Event). first.taken ++ es) is ∙ sym (append_assoc first.taken (event ∷ []) left_now);
  touches = touches_on first.taken (event ∷ []) a b c first.touches later;
}

-- the plan has no more
pub taken_all : (left_first left left_now : List Event) (a b : Guest) → TouchesTaken left_first left a b → left ≡ [] → left_now ≡ []
    → TouchesTaken left_first left_now a b
taken_all left_first left left_now a b first none none_now =
    subst (λ (es : List Event). TouchesTaken left_first es a b) (none ∙ sym none_now) first

-- A load that has followed its plan and was closed has touched no more than the events of the plan let it.
pub taken_closed : (left_first left : List Event) (handed : List Range) (a b c : Guest) → TouchesTaken left_first left a b → TouchesOver [] b c
    → handed ≡ placed_ranges c.placements.placed.items
    → TouchesByPlan a.memory.memory.top left_first left handed a.memory.touched c.memory.touched
taken_closed left_first left handed a b c first closing placed =
    let over : TouchesOver (first.taken ++ []) a c = touches_on first.taken [] a b c first.touches closing in
    let exact : TouchesOver first.taken a c = subst (λ (es : List Event). TouchesOver es a c) (append-nil first.taken) over in
    record {
      taken = first.taken;
      plan = first.plan;
      touches = subst (λ (ranges : List Range). TouchesOnly (MayTouchOver a.memory.memory.top first.taken ranges) a.memory.memory.top a.memory.touched
          c.memory.touched) (sym placed) exact.touches;
    }
