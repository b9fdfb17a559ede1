-- Allocators as a caller sees them.
use Rattle.std.specs.Prelude.{◌≡◌, ℕ, ◌+◌, Bool, false, List, [], ◌∷◌, ◌++◌, Option, Some, None, Contains}
use Rattle.vt_outside.specs.Placement.{Range}
use Rattle.vt_outside.specs.Stream.{next_count}
use Rattle.zone_alloc.specs.declared.zones.Zones.{Zones}
use Rattle.zone_alloc.specs.declared.policy.Policy.{Policy}
use Rattle.zone_alloc.specs.declared.policy.Policy.TheVariants.{Low}
use Rattle.zone_alloc.specs.declared.alloc.Request.{Request}
use Rattle.zone_alloc.specs.Places.{range_in}
use Rattle.zone_alloc.specs.Policies.{IsShelfPlace}

-- What the last `begin` of an allocator took, the zones and the policy, and whether it had memory.
pub record Begun : Type 0 where
  pub zones : Zones
  pub policy : Policy
  pub ready : Bool

-- An allocator: what the last `begin` took, the ranges that are handed out since, in their order, how many places were refused (a count
-- that is kept in a u64 stays at its last value), and the last request if it was refused.
pub record AllocState : Type 0 where
  pub begun : Begun
  pub handed : List Range
  pub refusals : ℕ
  pub refused : Option Request

-- an allocator before its first `begin`, which has no zones and has refused nothing
abbrev pub before_begin : AllocState
before_begin = record {
  begun = record {
    zones = record { high_start = 0; high_end = 0; fseg_start = 0; fseg_end = 0 };
    policy = Low;
    ready = false;
  };
  handed = [];
  refusals = 0;
  refused = None;
}

-- the allocator as a `begin` leaves it: nothing is handed out any more, no request was refused since, and the count stays
abbrev pub begun_as : Zones → Policy → Bool → AllocState → AllocState
begun_as zones policy ready s = record s {
  begun = record { zones = zones; policy = policy; ready = ready };
  handed = [];
  refused = None;
}

-- the allocator as a `reset` leaves it: nothing is handed out any more, and no request was refused since; what it was begun with, and the count
-- stay
abbrev pub reset_as : AllocState → AllocState
reset_as s = record s { handed = []; refused = None }

-- the allocator behind a request for which it gave a place: the range there is handed out, behind the others
abbrev pub with_range : Request → ℕ → AllocState → AllocState
with_range request place s = record s {
  handed = s.handed ++ record { start = place; end = place + request.size } ∷ [];
  refused = None;
}

-- the allocator behind a request that it refused: the refusal is counted, and the request kept
abbrev pub with_refusal : Request → AllocState → AllocState
with_refusal request s = record s { refusals = next_count s.refusals; refused = Some request }

-- what a shelf gives: the place that its policy chooses, or None where none is free
abbrev pub shelf_gives : AllocState → Request → Option ℕ → Type 0
shelf_gives s request place = IsShelfPlace s.begun.policy (range_in s.begun.zones request.zone) s.handed request.size request.align place

-- A shelf that refuses some calls: the numbers of these, and how many calls there were.
pub record FailingState : Type 0 where
  pub shelf : AllocState
  pub fails : List ℕ
  pub calls : ℕ

-- the next call is one that is to be refused
abbrev pub IsListed : FailingState → Type 0
IsListed f = Contains f.fails f.calls

-- what a shelf that refuses some calls gives: None at these, and at others what a shelf gives
abbrev pub failing_gives : FailingState → Request → Option ℕ → Type 0
failing_gives f request place = (IsListed f → place ≡ None) × (¬ IsListed f → shelf_gives f.shelf request place)
