-- Which of the free places a policy chooses.
use Rattle.std.specs.Prelude.{ℕ, ◌+◌, ◌-◌, ◌%◌, ◌⊎◌, List, length, Option, MatchOption}
use Rattle.rand_core.specs.Pcg32Seed.{pcg32_seed}
use Rattle.rand_pcg.specs.Lcg.{Lcg, advance}
use Rattle.rand_pcg.specs.Pcg.{multiplier_64, pcg32, pcg32_of_seed}
use Rattle.vt_outside.specs.Placement.{Range}
use Rattle.zone_alloc.specs.declared.policy.Policy.{Policy}
use Rattle.zone_alloc.specs.declared.policy.Policy.TheVariants.{Low, Top, Scatter}
use Rattle.zone_alloc.specs.Places.{IsLeastFree, IsGreatestFree, IsLeastFrom, HasNoPlace, HasNoPlaceFrom}

-- the generator `Pcg32::seed_from_u64` of a seed, after so many words (O'Neill, PCG: XSH RR 64/32)
unfoldable pub generator_after : ℕ → ℕ → Lcg
generator_after seed words = advance 64 multiplier_64 words (pcg32_of_seed (pcg32_seed 16 seed))

-- word number k of a seed, counted from 0: the 32-bit output of its generator after k words
unfoldable pub word_of : ℕ → ℕ → ℕ
word_of seed k = (pcg32 (generator_after seed k)).0

-- the goal of a word in a zone: the zone's start plus the remainder of the word by the zone's length
abbrev pub goal_in : Range → ℕ → ℕ
goal_in zone word = zone.start + word % (zone.end - zone.start)

-- the least place that is free at or above a goal, or where none is free there, the least that is free
abbrev pub IsFirstFrom : ℕ → Range → List Range → ℕ → ℕ → ℕ → Type 0
IsFirstFrom goal zone handed size align place =
    IsLeastFrom goal zone handed size align place
    ⊎ (HasNoPlaceFrom goal zone handed size align × IsLeastFree zone handed size align place)

-- the place that a policy chooses: the least, the greatest, or the first from the goal of the next word on, of which each range that is
-- handed out has taken one
abbrev pub IsChosen : Policy → Range → List Range → ℕ → ℕ → ℕ → Type 0
IsChosen Low zone handed size align place = IsLeastFree zone handed size align place
IsChosen Top zone handed size align place = IsGreatestFree zone handed size align place
IsChosen (Scatter seed) zone handed size align place = IsFirstFrom (goal_in zone (word_of seed (length handed))) zone handed size align place

-- the place that a policy chooses, or none where none is free
abbrev pub IsShelfPlace : Policy → Range → List Range → ℕ → ℕ → Option ℕ → Type 0
IsShelfPlace policy zone handed size align place =
    MatchOption place (HasNoPlace zone handed size align) (IsChosen policy zone handed size align)
