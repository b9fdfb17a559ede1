-- What the other processors leave over events, and of which addresses it is told.
use Rattle.std.proofs.Common.{◌≡◌, ℕ, inl, inr, Bool, true, false, List, [], ◌∷◌, ◌++◌, ◌==◌, ◌&&◌, not, if◌then◌else◌, refl, sym, ap, ◌∙◌}
use Rattle.load_states.specs.declared.event.Event.{Event}
use Rattle.load_states.specs.declared.event.Event.TheVariants.{Device, Firmware, Other, Reset}
use Rattle.load_states.specs.Guarded.{is_guarded}
use Rattle.load_states.specs.Runs.{left_by_others, has_reset}
use Rattle.load_states.specs.Kept.{IsTold}

-- over some events and more
pub left_more : (top held : ℕ) (events more : List Event) (address : ℕ)
    → left_by_others top held (events ++ more) address ≡ left_by_others top (left_by_others top held events address) more address
left_more top held [] more address = refl
left_more top held (Other written byte ∷ events) more address =
    left_more top (if written == address && not (is_guarded top address) then byte else held) events more address
left_more top held (Device bytes ∷ events) more address = left_more top held events more address
left_more top held (Firmware ∷ events) more address = left_more top held events more address
left_more top held (Reset ∷ events) more address = left_more top held events more address

-- a guarded place holds what it held, whatever the other processors write
untaken : (same guarded : Bool) (byte held : ℕ) → guarded ≡ true → (if same && not guarded then byte else held) ≡ held
untaken true guarded byte held is = rw is refl
untaken false guarded byte held is = refl

pub guarded_stays : (top held : ℕ) (events : List Event) (address : ℕ) → is_guarded top address ≡ true
    → left_by_others top held events address ≡ held
guarded_stays top held [] address guarded = refl
guarded_stays top held (Other written byte ∷ events) address guarded =
    ap (λ now. left_by_others top now events address) (untaken (written == address) (is_guarded top address) byte held guarded)
    ∙ guarded_stays top held events address guarded
guarded_stays top held (Device bytes ∷ events) address guarded = guarded_stays top held events address guarded
guarded_stays top held (Firmware ∷ events) address guarded = guarded_stays top held events address guarded
guarded_stays top held (Reset ∷ events) address guarded = guarded_stays top held events address guarded

-- ---- resets among events

reset_before : (events more : List Event) → has_reset more ≡ false → has_reset (events ++ more) ≡ has_reset events
reset_before [] more none = none
reset_before (Other written byte ∷ events) more none = reset_before events more none
reset_before (Device bytes ∷ events) more none = reset_before events more none
reset_before (Firmware ∷ events) more none = reset_before events more none
reset_before (Reset ∷ events) more none = refl

pub reset_last : (events : List Event) → has_reset (events ++ Reset ∷ []) ≡ true
reset_last [] = refl
reset_last (Other written byte ∷ events) = reset_last events
reset_last (Device bytes ∷ events) = reset_last events
reset_last (Firmware ∷ events) = reset_last events
reset_last (Reset ∷ events) = refl

-- what is told over events, and over these and more that aren't resets
pub told_before : (top : ℕ) (events more : List Event) (address : ℕ) → has_reset more ≡ false → IsTold top (events ++ more) address
    → IsTold top events address
told_before top events more address none told = elim told as (λ _. IsTold top events address) [
  | inl no_reset ↦ inl (sym (reset_before events more none) ∙ no_reset)
  | inr beside ↦ inr beside
]

pub told_behind : (top : ℕ) (events more : List Event) (address : ℕ) → has_reset more ≡ false → IsTold top events address
    → IsTold top (events ++ more) address
told_behind top events more address none told = elim told as (λ _. IsTold top (events ++ more) address) [
  | inl no_reset ↦ inl (reset_before events more none ∙ no_reset)
  | inr beside ↦ inr beside
]
