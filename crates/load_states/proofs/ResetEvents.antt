-- A reset keeps what the load keeps.
use Rattle.std.proofs.Common.{◌≡◌, ℕ, ◌+◌, ◌-◌, ◌<◌, ◌≤◌, ◌⊎◌, inl, inr, false, List, [], ◌∷◌, ◌++◌, map, arith, refl, sym, ap, subst, ◌∙◌}
use Rattle.std.specs.List.{AllByRecursion}
use Rattle.std.proofs.lemmas.Bool.{cases_lt, true≢false}
use Rattle.std.proofs.lemmas.Bool.Decides.{nat_tests}
use Rattle.vt_bytes.specs.Memory.{Memory, IsMemory, IsTop, at}
use Rattle.vt_bytes.proofs.Memories.{lawful_with}
use Rattle.cfg_directory.specs.Items.{IsItems}
use Rattle.cfg_directory.specs.Files.{files_of}
use Rattle.cfg_directory.specs.Shapes.{shape_of}
use Rattle.loader_script.specs.Run.{infos_of}
use Rattle.command_acts.specs.declared.placed.PlacedFile.{PlacedFile}
use Rattle.command_acts.specs.FilesInMemory.{IsBeside}
use Rattle.command_acts.specs.Runs.{Answers}
use Rattle.load_states.specs.declared.event.Event.{Event}
use Rattle.load_states.specs.declared.event.Event.TheVariants.{Reset}
use Rattle.load_states.specs.Guarded.{is_high}
use Rattle.load_states.specs.LoadState.{LoadState, Opening, memory_of}
use Rattle.load_states.specs.Kept.{IsInZone, IsKept, KeepsNow, IsTold}
use Rattle.load_states.specs.Runs.{left_by_others}
use Rattle.load_states.specs.Steps.{refilled, restarted}
use Rattle.load_states.proofs.CommandCloses.{filled_other, filled_there}
use Rattle.load_states.proofs.Zoned.{bios_guarded, bios_ram}
use Rattle.load_states.proofs.LeftByOthers.{guarded_stays, left_more, reset_last}
use Rattle.load_states.proofs.Opening.{nothing_placed}

-- ---- the memory

refilled_there : (m : Memory) (address : ℕ) → IsMemory m → 0xF0000 ≤ address → address < 0x100000 → at (refilled m) address ≡ m.fill
unfolding refilled
refilled_there m address lawful from below =
    filled_there m 0xF0000 0x10000 m.fill address lawful (λ i within. bios_ram m.top (0xF0000 + i) (omega arith) (omega arith)) from (omega arith)

refilled_other : (m : Memory) (address : ℕ) → IsMemory m → (address < 0xF0000) ⊎ (0x100000 ≤ address) → at (refilled m) address ≡ at m address
unfolding refilled
refilled_other m address lawful other = filled_other m 0xF0000 0x10000 m.fill address lawful other

refilled_lawful : (m : Memory) → IsMemory m → IsMemory (refilled m)
unfolding refilled
refilled_lawful m lawful = lawful_with m 0xF0000 _ lawful

pub refilled_top : (m : Memory) → (refilled m).top ≡ m.top
unfolding refilled
refilled_top m = refl

refilled_fill : (m : Memory) → (refilled m).fill ≡ m.fill
unfolding refilled
refilled_fill m = refl

-- ---- what the other processors left

-- an address that isn't high is outside of high memory
not_high : (top address : ℕ) → is_high top address ≡ false → (address < top - 0x1000000) ⊎ (top ≤ address)
not_high top address is = grind (arith, nat_tests)

-- the BIOS area is
bios_not_high : (top address : ℕ) → IsTop top → address < 0x100000 → is_high top address ≡ false
bios_not_high top address lawful below = grind (arith, nat_tests)

-- what is beside both zones is beside each file
beside_zones : (top address : ℕ) (placed : List PlacedFile) → is_high top address ≡ false → (address < 0xF0000) ⊎ (0x100000 ≤ address)
    → AllByRecursion (IsInZone top) placed → AllByRecursion (IsBeside address) placed
beside_zones top address [] high segment zones = tt
beside_zones top address (p ∷ placed) high segment zones = (
  elim zones.0 as (λ _. IsBeside address p) [
    | inl lies ↦ elim (not_high top address high) as (λ _. IsBeside address p) [
      | inl l ↦ inl (omega (arith, l, lies.0))
      | inr l ↦ inr (omega (arith, l, lies.1))
    ]
    | inr lies ↦ elim segment as (λ _. IsBeside address p) [ inl l ↦ inl (omega (arith, l, lies.0)) | inr l ↦ inr (omega (arith, l, lies.1)) ]
  ],
  beside_zones top address placed high segment zones.1,
)

-- of high memory nothing is told behind a reset
told_beside : (top : ℕ) (events : List Event) (address : ℕ) → IsTold top (events ++ Reset ∷ []) address → is_high top address ≡ false
told_beside top events address told = elim told as (λ _. is_high top address ≡ false) [
  | inl none ↦ absurd (true≢false (sym (reset_last events) ∙ none))
  | inr beside ↦ beside
]

-- The memory behind a reset holds at an address what it should, if it did where it isn't filled, and where it is the its.fill byte should stand there.
reset_holds : (May : Answers) (its : Opening) (w : LoadState) (address held : ℕ) → KeepsNow May its w →
    ((address < 0xF0000) ⊎ (0x100000 ≤ address) → at (memory_of w) address ≡ held) → (0xF0000 ≤ address → address < 0x100000 → its.fill ≡ held) → at
    (refilled (memory_of w)) address ≡ held
reset_holds May its w address held kept outside inside =
    let m = memory_of w in
    let beside : (address < 0xF0000) ⊎ (0x100000 ≤ address) → at (refilled m) address ≡ held = λ segment.
    refilled_other m address kept.memory segment ∙ outside segment in
    elim (cases_lt address 0xF0000) as (λ _. at (refilled m) address ≡ held) [
      | inl below ↦ beside (inl below)
      | inr from ↦ elim (cases_lt address 0x100000) as (λ _. at (refilled m) address ≡ held) [
        | inl within ↦ refilled_there m address kept.memory from within ∙ kept.fill ∙ inside from within
        | inr above ↦ beside (inr above)
      ]
    ]

-- ---- all that is kept

-- at each moment
pub reset_keeps_now : (May : Answers) (its : Opening) (w : LoadState) → KeepsNow May its w → KeepsNow May its (restarted w)
reset_keeps_now May its w kept = record {
  lawful = kept.lawful;
  names = kept.names;
  opening = kept.opening;
  shape = ap (map shape_of) kept.opening;
  device = record { items = subst IsItems (sym kept.opening) kept.lawful; offset = omega arith; flight = tt };
  room = omega (arith, kept.room);
  stands = record { address = refl; moving = tt; idle = (refl, refl) };
  memory = refilled_lawful (memory_of w) kept.memory;
  top = refilled_top (memory_of w) ∙ kept.top;
  fill = refilled_fill (memory_of w) ∙ kept.fill;
  loading = record { apart = tt; sizes = tt };
  zones = tt;
  count = nothing_placed (infos_of (files_of w.attached.device.opening));
  bios = λ address from below beside.
      reset_holds May its w address its.fill kept
      (λ segment. kept.bios address from below
      (beside_zones its.top address w.placed (bios_not_high its.top address (subst IsTop kept.top kept.memory.top) below) segment kept.zones))
      (λ above within. refl);
  stage = (
    tt,
    (
      record { begun = kept.opening; listed = refl; script = refl; placed = refl },
      record { idle = record { idle = refl; finished = refl }; asks = inl (refl, omega arith, refl) },
    ),
  );
}

-- and over events
pub reset_keeps : (May : Answers) (its : Opening) (events : List Event) (w : LoadState) → IsKept May its events w → IsKept May its
    (events ++ Reset ∷ []) (restarted w)
reset_keeps May its events w kept = record {
  now = reset_keeps_now May its w kept.now;
  others = λ address ram other beside told.
      let high = told_beside its.top events address told in
      reset_holds May its w address (left_by_others its.top its.fill events address) kept.now
      (λ segment. kept.others address ram other (beside_zones its.top address w.placed high segment kept.now.zones) (inr high))
      (λ from within. sym (guarded_stays its.top its.fill events address (bios_guarded its.top address (omega arith) within)))
      ∙ sym (left_more its.top its.fill events (Reset ∷ []) address);
}
