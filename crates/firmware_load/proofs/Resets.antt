-- The resets of a seed among the events that are drawn.
use Rattle.std.proofs.Common.{◌≡◌, ◌≢◌, ℕ, zero, suc, ◌+◌, ◌^◌, ◌<◌, Bool, true, false, leb, ltb, set, inl, inr, List, ◌∷◌, arith, refl, sym, ap, ap₂, ◌∙◌}
use Rattle.std.proofs.lemmas.Bool.{cases_lt, cond-true, cond-false, lt-ltb, le-ltb, lt-leb, le-leb}
use Rattle.std.proofs.lemmas.Bool.Decides.{nat_tests}
use Rattle.rand_pcg.specs.Lcg.{Lcg}
use Rattle.load_states.specs.declared.event.Event.{Event}
use Rattle.load_states.specs.declared.event.Event.TheVariants.{Reset}
use Rattle.firmware_load.specs.Schedules.{with_resets}
use Rattle.firmware_load.specs.Drawing.{event_left, drawn_event, behind_event, drawn_events, events_left}

-- events with both resets of a seed
abbrev pub two_resets : List Event → List Event
two_resets events = set (set events 16 Reset) 48 Reset

-- one more event before others
one_more : {first drawn : Event} {left events : List Event} → first ≡ drawn → left ≡ events → first ∷ left ≡ drawn ∷ events
one_more is are = ap₂ (λ (event : Event) (behind : List Event). event ∷ behind) is are

-- which event is next of a seed that resets the guest
is_drawn : (left : ℕ) (drawn : Event) → left ≢ 4080 → left ≢ 4048 → event_left true left drawn ≡ drawn
is_drawn left drawn not_first not_second = grind (arith, nat_tests)

first_reset : (left : ℕ) (drawn : Event) → left ≡ 4080 → event_left true left drawn ≡ Reset
first_reset left drawn is = grind (arith, nat_tests)

second_reset : (left : ℕ) (drawn : Event) → left ≡ 4048 → event_left true left drawn ≡ Reset
second_reset left drawn is = grind (arith, nat_tests)

-- the events of a seed with no resets are those that are drawn
without_resets : (count : ℕ) (g : Lcg) → events_left false count g ≡ drawn_events count g
unfolding drawn_events events_left
without_resets zero g = refl
without_resets (suc count) g = ap (λ (events : List Event). drawn_event g ∷ events) (without_resets count (behind_event g))

-- behind the second reset there are none
none_ahead : (count : ℕ) (g : Lcg) → count < 4048 → events_left true count g ≡ drawn_events count g
unfolding drawn_events events_left
none_ahead zero g few = refl
none_ahead (suc count) g few =
    one_more (is_drawn (suc count) (drawn_event g) (omega arith) (omega arith)) (none_ahead count (behind_event g) (omega arith))

-- behind the first reset there is the second one, at this place
second_ahead : (place count : ℕ) (g : Lcg) → place + 4048 ≡ count → count < 4080 → events_left true count g ≡ set (drawn_events count g) place Reset
unfolding drawn_events events_left
second_ahead place zero g at few = absurd (omega arith)
second_ahead zero (suc count) g at few =
    one_more (second_reset (suc count) (drawn_event g) (omega arith)) (none_ahead count (behind_event g) (omega arith))
second_ahead (suc place) (suc count) g at few =
    one_more (is_drawn (suc count) (drawn_event g) (omega arith) (omega arith))
    (second_ahead place count (behind_event g) (omega arith) (omega arith))

-- before the first reset there are both, at these places
both_ahead : (first second count : ℕ) (g : Lcg) → first + 4080 ≡ count → second + 4048 ≡ count
    → events_left true count g ≡ set (set (drawn_events count g) first Reset) second Reset
unfolding drawn_events events_left
both_ahead first second zero g at then_at = absurd (omega arith)
both_ahead first zero (suc count) g at then_at = absurd (omega arith)
both_ahead zero (suc second) (suc count) g at then_at =
    one_more (first_reset (suc count) (drawn_event g) (omega arith))
    (second_ahead second count (behind_event g) (omega arith) (omega arith))
both_ahead (suc first) (suc second) (suc count) g at then_at =
    one_more (is_drawn (suc count) (drawn_event g) (omega arith) (omega arith))
    (both_ahead first second count (behind_event g) (omega arith) (omega arith))

-- the events of a seed are those that are drawn, with its resets in their place
pub of_seed : (seed : ℕ) (g : Lcg) → events_left (leb (2 ^ 63) seed) 4096 g ≡ with_resets seed (drawn_events 4096 g)
of_seed seed g = elim (cases_lt seed (2 ^ 63)) as (λ _. events_left (leb (2 ^ 63) seed) 4096 g ≡ with_resets seed (drawn_events 4096 g)) [
  | inl less ↦
      ap (λ (resets : Bool). events_left resets 4096 g) (lt-leb (2 ^ 63) seed less) ∙ without_resets 4096 g
      ∙ sym (cond-true (ltb seed (2 ^ 63)) (drawn_events 4096 g) (two_resets (drawn_events 4096 g)) (lt-ltb seed (2 ^ 63) less))
  | inr least ↦
      ap (λ (resets : Bool). events_left resets 4096 g) (le-leb (2 ^ 63) seed least) ∙ both_ahead 16 48 4096 g refl refl
      ∙ sym (cond-false (ltb seed (2 ^ 63)) (drawn_events 4096 g) (two_resets (drawn_events 4096 g)) (le-ltb seed (2 ^ 63) least))
]
