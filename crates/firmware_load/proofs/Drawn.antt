-- What a generator draws, and that it is what the words of a seed draw.
use Rattle.std.proofs.Common.{◌≡◌, ℕ, ◌%◌, ◌<◌, ◌⊎◌, inl, inr, arith, sym, ap, ◌∙◌}
use Rattle.std.proofs.lemmas.Bool.{cases_lt}
use Rattle.std.proofs.Math.Nat.{mod-lt}
use Rattle.rand_pcg.specs.Lcg.{Lcg}
use Rattle.rand_pcg.specs.Pcg.{pcg32}
use Rattle.load_states.specs.declared.event.Event.{Event}
use Rattle.load_states.specs.declared.event.Event.TheVariants.{Firmware}
use Rattle.firmware_load.specs.Schedules.{piece_by, write_by, event_as}
use Rattle.firmware_load.specs.Drawing.{behind_as, drawn_event, behind_event}

-- the event of a generator by its kind
by_kind : (g : Lcg) (kind : ℕ) → (pcg32 g).0 % 4 ≡ kind
    → event_as kind (pcg32 g).0 (pcg32 (pcg32 g).1).0 (pcg32 (pcg32 (pcg32 g).1).1).0 ≡ drawn_event g
unfolding drawn_event
by_kind g kind is = ap (λ (k : ℕ). event_as k (pcg32 g).0 (pcg32 (pcg32 g).1).0 (pcg32 (pcg32 (pcg32 g).1).1).0) (sym is)

behind_kind : (g : Lcg) (kind : ℕ) → (pcg32 g).0 % 4 ≡ kind → behind_as kind (pcg32 g).1 ≡ behind_event g
unfolding behind_event
behind_kind g kind is = ap (λ (k : ℕ). behind_as k (pcg32 g).1) (sym is)

-- a word and the generator behind it
word_is : (g after : Lcg) (word : ℕ) → (word, after) ≡ pcg32 g → word ≡ (pcg32 g).0
word_is g after word step = ap (λ (p : ℕ × Lcg). p.0) step

after_is : (g after : Lcg) (word : ℕ) → (word, after) ≡ pcg32 g → after ≡ (pcg32 g).1
after_is g after word step = ap (λ (p : ℕ × Lcg). p.1) step

kind_is : (g after : Lcg) (word kind : ℕ) → (word, after) ≡ pcg32 g → word % 4 ≡ kind → (pcg32 g).0 % 4 ≡ kind
kind_is g after word kind step is = ap (λ (w : ℕ). w % 4) (sym (word_is g after word step)) ∙ is

pub drawn_step : (g after : Lcg) (word : ℕ) → (word, after) ≡ pcg32 g → word % 4 ≡ 0 → Firmware ≡ drawn_event g
drawn_step g after word step is = by_kind g 0 (kind_is g after word 0 step is)

pub behind_step : (g after : Lcg) (word : ℕ) → (word, after) ≡ pcg32 g → word % 4 ≡ 0 → after ≡ behind_event g
behind_step g after word step is = after_is g after word step ∙ behind_kind g 0 (kind_is g after word 0 step is)

-- a kind of 1 or 2
piece_kind : (kind : ℕ) → 0 < kind → kind < 3 → (kind ≡ 1) ⊎ (kind ≡ 2)
piece_kind kind above below = elim (cases_lt kind 2) as (λ _. (kind ≡ 1) ⊎ (kind ≡ 2)) [
  | inl small ↦ inl (omega (arith, above, small))
  | inr large ↦ inr (omega (arith, below, large))
]

pub drawn_piece : (g after : Lcg) (word : ℕ) → (word, after) ≡ pcg32 g → 0 < word % 4 → word % 4 < 3 → piece_by word ≡ drawn_event g
drawn_piece g after word step above below = ap piece_by (word_is g after word step) ∙
    elim (piece_kind (word % 4) above below) as (λ _. piece_by (pcg32 g).0 ≡ drawn_event g) [
      | inl one ↦ by_kind g 1 (kind_is g after word 1 step one)
      | inr two ↦ by_kind g 2 (kind_is g after word 2 step two)
    ]

pub behind_piece : (g after : Lcg) (word : ℕ) → (word, after) ≡ pcg32 g → 0 < word % 4 → word % 4 < 3 → after ≡ behind_event g
behind_piece g after word step above below = after_is g after word step ∙
    elim (piece_kind (word % 4) above below) as (λ _. (pcg32 g).1 ≡ behind_event g) [
      | inl one ↦ behind_kind g 1 (kind_is g after word 1 step one)
      | inr two ↦ behind_kind g 2 (kind_is g after word 2 step two)
    ]

-- a remainder by 4 that isn't below 3
write_kind : (word : ℕ) → ¬ (word % 4 < 3) → word % 4 ≡ 3
write_kind word above = let below : word % 4 < 4 = mod-lt word (omega arith) in omega (arith, below, above)

pub drawn_write : (g after : Lcg) (word : ℕ) (event : Event) → (word, after) ≡ pcg32 g → ¬ (word % 4 < 3)
    → event ≡ write_by (pcg32 after).0 (pcg32 (pcg32 after).1).0 → event ≡ drawn_event g
drawn_write g after word event step above is = is
    ∙ ap (λ (behind : Lcg). write_by (pcg32 behind).0 (pcg32 (pcg32 behind).1).0) (after_is g after word step)
    ∙ by_kind g 3 (kind_is g after word 3 step (write_kind word above))

pub behind_write : (g after behind : Lcg) (word : ℕ) → (word, after) ≡ pcg32 g → ¬ (word % 4 < 3)
    → behind ≡ (pcg32 (pcg32 after).1).1 → behind ≡ behind_event g
behind_write g after behind word step above is = is
    ∙ ap (λ (next : Lcg). (pcg32 (pcg32 next).1).1) (after_is g after word step)
    ∙ behind_kind g 3 (kind_is g after word 3 step (write_kind word above))
