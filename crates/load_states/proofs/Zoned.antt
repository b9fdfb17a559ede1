-- A placed file lies in a zone, so it is guarded, and beside the work range.
use Rattle.std.proofs.Common.{◌≡◌, ℕ, ◌+◌, ◌-◌, ◌<◌, ◌≤◌, true, false, List, [], ◌∷◌, inl, inr, arith, subst}
use Rattle.std.specs.List.{AllByRecursion}
use Rattle.std.proofs.lemmas.Bool.Decides.{nat_tests}
use Rattle.vt_bytes.specs.Memory.{IsRam, IsTop}
use Rattle.zone_alloc.specs.declared.zone.Zone.{Zone}
use Rattle.zone_alloc.specs.declared.zone.Zone.TheVariants.{High, Fseg}
use Rattle.zone_alloc.specs.Zones.{zone_range}
use Rattle.command_acts.specs.declared.placed.PlacedFile.{PlacedFile}
use Rattle.command_acts.specs.Runs.{Answers}
use Rattle.load_states.specs.Guarded.{is_work, is_guarded}
use Rattle.load_states.specs.LoadState.{LoadState, Opening}
use Rattle.load_states.specs.Kept.{KeepsNow, IsInZone}

-- a placed file lies in guarded places, and beside the work range
abbrev pub IsZoned : ℕ → PlacedFile → Type 0
IsZoned top p = (i : ℕ) → i < p.size → (is_guarded top (p.place + i) ≡ true) × (is_work (p.place + i) ≡ false)

-- high memory is guarded
high_guarded : (top address : ℕ) → top - 0x1000000 ≤ address → address < top → is_guarded top address ≡ true
high_guarded top address from below = grind (arith, nat_tests)

-- and the BIOS area, which is RAM
pub bios_guarded : (top address : ℕ) → 0xE0000 ≤ address → address < 0x100000 → is_guarded top address ≡ true
bios_guarded top address from below = grind (arith, nat_tests)

pub bios_ram : (top address : ℕ) → 0xE0000 ≤ address → address < 0x100000 → IsRam top address
bios_ram top address from below = inr (inl (from, below))

-- the work range ends below both
pub above_work : (address : ℕ) → 0x9000 ≤ address → is_work address ≡ false
above_work address above = grind (arith, nat_tests)

-- a file in a zone
pub zoned_in : (top : ℕ) (p : PlacedFile) → IsTop top → IsInZone top p → IsZoned top p
zoned_in top p lawful (inl lies) i below =
    (high_guarded top (p.place + i) (omega (arith, lies.0)) (omega (arith, lies.1)), above_work (p.place + i) (omega (arith, lies.0)))
zoned_in top p lawful (inr lies) i below =
    (bios_guarded top (p.place + i) (omega (arith, lies.0)) (omega (arith, lies.1)), above_work (p.place + i) (omega (arith, lies.0)))

-- and in which zone it is
pub in_zone : (top : ℕ) (name : List ℕ) (place size : ℕ) → (zone : Zone) → (zone_range top zone).start ≤ place
    → place + size ≤ (zone_range top zone).end → IsInZone top (record { name = name; place = place; size = size })
in_zone top name place size High from within = inl (from, within)
in_zone top name place size Fseg from within = inr (from, within)

-- each file that a load has placed
each_zoned : (top : ℕ) (placed : List PlacedFile) → IsTop top → AllByRecursion (IsInZone top) placed → AllByRecursion (IsZoned top) placed
each_zoned top [] lawful zones = tt
each_zoned top (p ∷ placed) lawful zones = (zoned_in top p lawful zones.0, each_zoned top placed lawful zones.1)

pub zoned_files : {May : Answers} {its : Opening} {w : LoadState} → KeepsNow May its w → AllByRecursion (IsZoned its.top) w.placed
zoned_files {its = its} {w = w} kept = each_zoned its.top w.placed (subst IsTop kept.top kept.memory.top) kept.zones
