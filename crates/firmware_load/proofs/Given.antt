-- The events that are left, when one is given.
use Rattle.std.proofs.Common.{◌≡◌, ℕ, zero, suc, ◌+◌, ◌-◌, ◌^◌, ◌<◌, Bool, List, [], ◌∷◌, drop, Some, slice_get, ltb, arith, refl, sym, ap, ◌∙◌}
use Rattle.std.proofs.lemmas.Bool.{cond-true, lt-ltb}
use Rattle.std.proofs.lemmas.List.{drop_more}
use Rattle.std.proofs.lemmas.Option.{slice_get_within, get_or_from_slice_get}
use Rattle.rand_pcg.specs.Lcg.{Lcg}
use Rattle.load_states.specs.declared.event.Event.{Event}
use Rattle.firmware_load.specs.Schedules.{ListedState, Plan, for_seed, seeded_events}
use Rattle.firmware_load.specs.Drawing.{event_left, drawn_event, behind_event, events_left}

-- none are left where the count is 0
pub none_left : (resets : Bool) (g : Lcg) → events_left resets 0 g ≡ []
unfolding events_left
none_left resets g = refl

-- else the next one is the first, by the event that is drawn
pub one_left : (resets : Bool) (count : ℕ) (g : Lcg) → ¬ (count ≡ 0)
    → events_left resets count g ≡ event_left resets count (drawn_event g) ∷ events_left resets (count - 1) (behind_event g)
unfolding events_left
one_left resets zero g some = absurd (some refl)
one_left resets (suc count) g some =
    ap (λ (n : ℕ). event_left resets (suc count) (drawn_event g) ∷ events_left resets n (behind_event g)) (omega arith)

-- an item of a list, and those behind it
pub item_left : (events : List Event) (k : ℕ) (event : Event) → slice_get events k ≡ Some event → drop k events ≡ event ∷ drop (k + 1) events
item_left events k event is =
    drop_more events k event (slice_get_within events k event is) ∙ ap (λ (e : Event). e ∷ drop (k + 1) events) (get_or_from_slice_get events k event event is)

-- the plans that a list and a seed are, where these events are left
abbrev pub listed_plan : ListedState → Plan
listed_plan s = record { events = λ number. for_seed number s.events; left = s.left }

abbrev pub seeded_plan : List Event → Plan
seeded_plan events = record { events = λ number. for_seed number (seeded_events number); left = events }

-- what is left of a plan that gave an event, and of one that gave none
pub left_taken : (before after : Plan) (event : Event) → before ≡ record after { left = event ∷ after.left }
    → (before.left ≡ event ∷ after.left) × (after.events ≡ before.events)
left_taken before after event is = (ap (λ (p : Plan). p.left) is, sym (ap (λ (p : Plan). p.events) is))

pub left_ended : (before after : Plan) → before.left ≡ [] → after ≡ before → after.left ≡ []
left_ended before after none same = ap (λ (p : Plan). p.left) same ∙ none

-- a seed has its events
pub seed_has : (seed : ℕ) (events : List Event) → seed < 2 ^ 64 → events ≡ for_seed seed events
seed_has seed events fits = sym (cond-true (ltb seed (2 ^ 64)) events [] (lt-ltb seed (2 ^ 64) fits))
