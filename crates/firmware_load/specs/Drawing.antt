-- Events as a generator draws them, inside a schedule.
use Rattle.std.specs.Prelude.{ℕ, zero, suc, ◌%◌, ◌==◌, ◌&&◌, ◌||◌, Bool, if◌then◌else◌, List, [], ◌∷◌}
use Rattle.rand_pcg.specs.Lcg.{Lcg}
use Rattle.rand_pcg.specs.Pcg.{pcg32}
use Rattle.load_states.specs.declared.event.Event.{Event}
use Rattle.load_states.specs.declared.event.Event.TheVariants.{Reset}
use Rattle.firmware_load.specs.Schedules.{event_as}

-- the generator behind an event of a kind, from the one behind its first word on
abbrev pub behind_as : ℕ → Lcg → Lcg
behind_as zero g = g
behind_as (suc zero) g = g
behind_as (suc (suc zero)) g = g
behind_as (suc (suc (suc _))) g = (pcg32 (pcg32 g).1).1

-- the next event of a generator
unfoldable pub drawn_event : Lcg → Event
drawn_event g = event_as ((pcg32 g).0 % 4) (pcg32 g).0 (pcg32 (pcg32 g).1).0 (pcg32 (pcg32 (pcg32 g).1).1).0

-- the generator behind it
unfoldable pub behind_event : Lcg → Lcg
behind_event g = behind_as ((pcg32 g).0 % 4) (pcg32 g).1

-- the next so many events of a generator
unfoldable pub drawn_events : ℕ → Lcg → List Event
drawn_events zero g = []
drawn_events (suc count) g = drawn_event g ∷ drawn_events count (behind_event g)

-- whether the next event of a seed that resets the guest is a reset, where so many are left: whether it is event 16 or 48 of 4,096
abbrev pub is_reset_left : ℕ → Bool
is_reset_left left = left == 4080 || left == 4048

-- the next event of a seed where so many are left, by whether the seed resets the guest: the event that is drawn, or a reset in its place
abbrev pub event_left : Bool → ℕ → Event → Event
event_left resets left drawn = if resets && is_reset_left left then Reset else drawn

-- the next so many events of a seed, the last that it has, by whether it resets the guest, as a generator draws them
unfoldable pub events_left : Bool → ℕ → Lcg → List Event
events_left resets zero g = []
events_left resets (suc count) g = event_left resets (suc count) (drawn_event g) ∷ events_left resets count (behind_event g)
