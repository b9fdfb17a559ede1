-- Ranges of zones and of placed files.
use Rattle.std.proofs.Common.{◌≡◌, ℕ, ◌+◌, ◌≤◌, ◌^◌, inl, inr, List, [], ◌∷◌, map, arith, refl, ap, ap₂}
use Rattle.vt_outside.specs.Placement.{Range}
use Rattle.vt_bytes.specs.Memory.{Memory, IsTop, IsRamRange}
use Rattle.vt_bytes.proofs.Bytes.{length-bytes_at}
use Rattle.loader_script.specs.Left.{range_of}
use Rattle.zone_alloc.specs.declared.zone.Zone.{Zone}
use Rattle.zone_alloc.specs.declared.zone.Zone.TheVariants.{High, Fseg}
use Rattle.zone_alloc.specs.Zones.{zone_range}
use Rattle.command_acts.specs.declared.placed.PlacedFile.{PlacedFile}
use Rattle.command_acts.specs.FilesInMemory.{placed_ranges, files_in}

-- a range in a zone is RAM and ends low
pub in_zone : (top place size : ℕ) → IsTop top → (zone : Zone) → (zone_range top zone).start ≤ place → place + size ≤ (zone_range top zone).end
    → IsRamRange top place size × (place + size ≤ 2 ^ 32)
in_zone top place size lawful High from within = (λ i l. inr (inr (inl (omega arith, omega arith))), omega arith)
in_zone top place size lawful Fseg from within = (λ i l. inr (inl (omega arith, omega arith)), omega arith)

-- files have the same ranges with their bytes and without them
pub ranges_in : (m : Memory) (placed : List PlacedFile) → map range_of (files_in m placed) ≡ placed_ranges placed
ranges_in m [] = refl
ranges_in m (p ∷ files) =
    ap₂ (λ (r : Range) (rs : List Range). r ∷ rs) (ap (λ size. record { start = p.place; end = p.place + size }) (length-bytes_at m p.place p.size))
    (ranges_in m files)
