-- How an allocator may answer a load.
use Rattle.std.specs.Prelude.{◌≡◌, ℕ, List, Option, Some, IfSome}
use Rattle.vt_outside.specs.Placement.{Range, IsFree}
use Rattle.zone_alloc.specs.declared.alloc.Request.{Request}
use Rattle.zone_alloc.specs.declared.zone.Zone.{Zone}
use Rattle.zone_alloc.specs.declared.zones.Zones.{Zones}
use Rattle.zone_alloc.specs.Allocators.{AllocState, Begun}
use Rattle.zone_alloc.specs.Places.{range_in}
use Rattle.zone_alloc.specs.Zones.{zone_range}
use Rattle.command_acts.specs.Runs.{Answers}

-- zones are those of memory below a top
abbrev pub AreZonesOf : ℕ → Zones → Type 0
AreZonesOf top zones = (zone : Zone) → range_in zones zone ≡ zone_range top zone

-- Answers that an allocator of memory below a top may give: each place is free in its zone.
abbrev pub AreLawful : Answers → ℕ → Type 0
AreLawful May top = (handed : List Range) (request : Request) (place : ℕ) → May handed request (Some place)
    → IsFree (zone_range top request.zone) handed request.size request.align place

-- An answer that an allocator may give that was begun so, where it has handed these ranges out: it gives it in a state in which it has
-- these, and a place that it gives is free. An allocator is seen by its state and by what it gives.
pub record MayAnswer {A : Type 0} (state_of : A → AllocState) (gives : A → Request → Option ℕ → Type 0) (begun : Begun)
    (handed : List Range) (request : Request) (answer : Option ℕ) : Type 0 where
  pub allocator : A
  pub begun_is : (state_of allocator).begun ≡ begun
  pub handed_is : (state_of allocator).handed ≡ handed
  pub given : gives allocator request answer
  pub lawful : IfSome answer (λ place. IsFree (range_in begun.zones request.zone) handed request.size request.align place)
