-- How many events a seed has, and which they may be.
use Rattle.std.proofs.Common.{◌≡◌, ℕ, zero, suc, ◌/◌, ◌%◌, ◌^◌, ◌<◌, true, false, List, [], ◌∷◌, length, set, ltb, if◌then◌else◌, arith, refl, ap, ◌∙◌}
use Rattle.std.specs.List.{AllByRecursion}
use Rattle.std.proofs.lemmas.List.{length-set}
use Rattle.std.proofs.Math.Nat.{mod-lt}
use Rattle.load_states.specs.declared.event.Event.{Event}
use Rattle.load_states.specs.declared.event.Event.TheVariants.{Reset}
use Rattle.firmware_load.specs.Schedules.{event_as, word_behind, events_from, seeded_events, IsSeeded, with_resets}
use Rattle.firmware_load.proofs.Resets.{two_resets}
use Rattle.zone_alloc.specs.Policies.{word_of}

so_many : (seed k count : ℕ) → length (events_from seed k count) ≡ count
unfolding events_from
so_many seed k zero = refl
so_many seed k (suc count) = ap suc (so_many seed (word_behind seed k) count)

-- resets stand in the place of others, so that there are no more and no fewer
so_many_with : (seed : ℕ) (events : List Event) → length (with_resets seed events) ≡ length events
so_many_with seed events = elim (ltb seed (2 ^ 63)) as (λ few. length (if few then events else two_resets events) ≡ length events) [
  | true ↦ refl
  | false ↦ length-set (set events 16 Reset) 48 Reset ∙ length-set events 16 Reset
]

pub none_of_zero : length (seeded_events 0) ≡ 0
unfolding seeded_events
none_of_zero = refl

pub so_many_of_seed : (seed : ℕ) → 0 < seed → length (seeded_events seed) ≡ 4096
unfolding seeded_events
so_many_of_seed zero some = absurd (omega (arith, some))
so_many_of_seed (suc n) some = so_many_with (suc n) (events_from (suc n) 0 4096) ∙ so_many (suc n) 0 4096

-- an event of any words may be one of a seed
seeded_as : (kind word second third : ℕ) → IsSeeded (event_as kind word second third)
seeded_as zero word second third = tt
seeded_as (suc zero) word second third = let below : word / 4 % 4096 < 4096 = mod-lt (word / 4) (omega arith) in (omega arith, omega (arith, below))
seeded_as (suc (suc zero)) word second third = let below : word / 4 % 4096 < 4096 = mod-lt (word / 4) (omega arith) in (omega arith, omega (arith, below))
seeded_as (suc (suc (suc _))) word second third = (mod-lt second (omega arith), mod-lt third (omega arith))

each_seeded : (seed k count : ℕ) → AllByRecursion IsSeeded (events_from seed k count)
unfolding events_from
each_seeded seed k zero = tt
each_seeded seed k (suc count) = (seeded_as (word_of seed k % 4) _ _ _, each_seeded seed (word_behind seed k) count)

-- a reset in the place of an event may be one of a seed too
seeded_set : (events : List Event) (place : ℕ) → AllByRecursion IsSeeded events → AllByRecursion IsSeeded (set events place Reset)
seeded_set [] place all = tt
seeded_set (event ∷ events) zero all = (tt, all.1)
seeded_set (event ∷ events) (suc place) all = (all.0, seeded_set events place all.1)

seeded_with : (seed : ℕ) (events : List Event) → AllByRecursion IsSeeded events → AllByRecursion IsSeeded (with_resets seed events)
seeded_with seed events all =
    elim (ltb seed (2 ^ 63)) as (λ few. AllByRecursion IsSeeded (if few then events else two_resets events)) [
      | true ↦ all
      | false ↦ seeded_set (set events 16 Reset) 48 (seeded_set events 16 all)
    ]

pub all_seeded : (seed : ℕ) → AllByRecursion IsSeeded (seeded_events seed)
unfolding seeded_events
all_seeded zero = tt
all_seeded (suc n) = seeded_with (suc n) (events_from (suc n) 0 4096) (each_seeded (suc n) 0 4096)
