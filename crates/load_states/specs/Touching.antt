-- Which addresses of memory a load touches.
use Rattle.std.specs.Prelude.{◌≡◌, ℕ, ◌⊎◌, true, ◌&&◌, not, List, [], ◌∷◌}
use Rattle.vt_outside.specs.Placement.{Range, high_zone, f_segment}
use Rattle.vt_bytes.specs.Memory.{is_ram}
use Rattle.command_acts.specs.Touching.{IsInOne}
use Rattle.load_states.specs.declared.event.Event.{Event}
use Rattle.load_states.specs.declared.event.Event.TheVariants.{Device, Firmware, Other, Reset}
use Rattle.load_states.specs.Guarded.{is_work, is_guarded}

-- an address that is a load's own: it lies in the work range, or in one of the ranges that were handed out for its files
abbrev pub IsOwn : List Range → ℕ → Type 0
IsOwn handed address = (is_work address ≡ true) ⊎ IsInOne handed address

-- The addresses that an event may leave touched beside what is the load's own: the one that another processor writes, where that has effect, so
-- that it is RAM and isn't guarded; and behind a reset those of both zones, in which files were placed before it.
abbrev pub MayLeaveTouched : ℕ → Event → ℕ → Type 0
MayLeaveTouched top (Other written byte) address = (address ≡ written) × ((is_ram top written && not (is_guarded top written)) ≡ true)
MayLeaveTouched top (Device bytes) address = ⊥
MayLeaveTouched top Firmware address = ⊥
MayLeaveTouched top Reset address = IsInOne (high_zone top ∷ f_segment ∷ []) address

-- and that one of these events may
abbrev pub OneMayLeaveTouched : ℕ → List Event → ℕ → Type 0
OneMayLeaveTouched top [] address = ⊥
OneMayLeaveTouched top (event ∷ events) address = MayLeaveTouched top event address ⊎ OneMayLeaveTouched top events address

-- what may be touched over these events: what is the load's own, and what they may leave touched
abbrev pub MayTouchOver : ℕ → List Event → List Range → ℕ → Type 0
MayTouchOver top events handed address = IsOwn handed address ⊎ OneMayLeaveTouched top events address
