-- The events that the generator of a seed draws are those of the seed.
use Rattle.std.proofs.Common.{◌≡◌, ℕ, zero, suc, ◌+◌, ◌%◌, ◌^◌, Bool, leb, List, ◌∷◌, arith, refl, ap, ap₂, ◌∙◌}
use Rattle.rand_core.specs.Pcg32Seed.{pcg32_seed}
use Rattle.rand_pcg.specs.Lcg.{Lcg, next_state, state_after}
use Rattle.rand_pcg.specs.Pcg.{multiplier_64, pcg32, pcg32_of_seed}
use Rattle.zone_alloc.specs.Policies.{generator_after, word_of}
use Rattle.load_states.specs.declared.event.Event.{Event}
use Rattle.firmware_load.specs.Schedules.{event_as, words_as, event_at, word_behind, events_from, with_resets, seeded_events}
use Rattle.firmware_load.specs.Drawing.{behind_as, drawn_event, behind_event, drawn_events, events_left}
use Rattle.firmware_load.proofs.Resets.{of_seed}

-- one step behind others is one step more
step_behind : (w m p k s : ℕ) → next_state w m p (state_after w m p k s) ≡ state_after w m p (suc k) s
unfolding state_after
step_behind w m p zero s = refl
step_behind w m p (suc k) s = step_behind w m p k (next_state w m p s)

-- a generator before its first word
first_generator : (seed : ℕ) → pcg32_of_seed (pcg32_seed 16 seed) ≡ generator_after seed 0
unfolding generator_after state_after
first_generator seed = refl

-- a generator after k words gives word number k, and is then the one after k + 1
word_next : (seed k : ℕ) → (pcg32 (generator_after seed k)).0 ≡ word_of seed k
unfolding word_of
word_next seed k = refl

generator_next : (seed k : ℕ) → (pcg32 (generator_after seed k)).1 ≡ generator_after seed (suc k)
unfolding generator_after
generator_next seed k =
    let first : Lcg = pcg32_of_seed (pcg32_seed 16 seed) in
    ap (λ (s : ℕ). record first { state = s }) (step_behind 64 multiplier_64 first.increment k first.state)

-- a word of a generator that is the one after k words
word_at : (seed k : ℕ) (g : Lcg) → g ≡ generator_after seed k → (pcg32 g).0 ≡ word_of seed k
word_at seed k g at = ap (λ (g : Lcg). (pcg32 g).0) at ∙ word_next seed k

behind_word : (seed k : ℕ) (g : Lcg) → g ≡ generator_after seed k → (pcg32 g).1 ≡ generator_after seed (suc k)
behind_word seed k g at = ap (λ (g : Lcg). (pcg32 g).1) at ∙ generator_next seed k

-- the next event is that of the words from number k on
event_next : (seed k : ℕ) (g : Lcg) → g ≡ generator_after seed k → drawn_event g ≡ event_at seed k
unfolding drawn_event
event_next seed k g at =
    let second : (pcg32 g).1 ≡ generator_after seed (suc k) = behind_word seed k g at in
    let third : (pcg32 (pcg32 g).1).1 ≡ generator_after seed (suc (suc k)) = behind_word seed (suc k) (pcg32 g).1 second in
    ap (λ (w : ℕ). event_as (w % 4) w (pcg32 (pcg32 g).1).0 (pcg32 (pcg32 (pcg32 g).1).1).0) (word_at seed k g at)
    ∙ ap (λ (w : ℕ). event_as (word_of seed k % 4) (word_of seed k) w (pcg32 (pcg32 (pcg32 g).1).1).0) (word_at seed (suc k) (pcg32 g).1 second)
    ∙ ap (event_as (word_of seed k % 4) (word_of seed k) (word_of seed (suc k))) (word_at seed (suc (suc k)) (pcg32 (pcg32 g).1).1 third)
    ∙ ap₂ (λ (i j : ℕ). event_as (word_of seed k % 4) (word_of seed k) (word_of seed i) (word_of seed j)) (omega arith) (omega arith)

-- a generator behind an event of a kind, from the one after k + 1 words on
behind_kind : (seed k kind : ℕ) (g : Lcg) → g ≡ generator_after seed (suc k) → behind_as kind g ≡ generator_after seed (k + words_as kind)
behind_kind seed k zero g at = at ∙ ap (generator_after seed) (omega arith)
behind_kind seed k (suc zero) g at = at ∙ ap (generator_after seed) (omega arith)
behind_kind seed k (suc (suc zero)) g at = at ∙ ap (generator_after seed) (omega arith)
behind_kind seed k (suc (suc (suc _))) g at =
    behind_word seed (suc (suc k)) (pcg32 g).1 (behind_word seed (suc k) g at) ∙ ap (generator_after seed) (omega arith)

behind_next : (seed k : ℕ) (g : Lcg) → g ≡ generator_after seed k → behind_event g ≡ generator_after seed (word_behind seed k)
unfolding behind_event
behind_next seed k g at =
    ap (λ (w : ℕ). behind_as (w % 4) (pcg32 g).1) (word_at seed k g at) ∙ behind_kind seed k (word_of seed k % 4) (pcg32 g).1 (behind_word seed k g at)

-- so are all events
events_next : (seed k count : ℕ) (g : Lcg) → g ≡ generator_after seed k → drawn_events count g ≡ events_from seed k count
unfolding drawn_events events_from
events_next seed k zero g at = refl
events_next seed k (suc count) g at =
    ap₂ (λ (event : Event) (events : List Event). event ∷ events) (event_next seed k g at)
    (events_next seed (word_behind seed k) count (behind_event g) (behind_next seed k g at))

-- seed 0 has none
pub none_drawn : (seed : ℕ) (resets : Bool) (g : Lcg) → seed ≡ 0 → events_left resets 0 g ≡ seeded_events seed
unfolding events_left seeded_events
none_drawn zero resets g none = refl
none_drawn (suc n) resets g none = absurd (omega (arith, none))

-- another seed has 4,096, its resets among them
pub all_drawn : (seed : ℕ) (g : Lcg) → ¬ (seed ≡ 0) → g ≡ pcg32_of_seed (pcg32_seed 16 seed)
    → events_left (leb (2 ^ 63) seed) 4096 g ≡ seeded_events seed
unfolding seeded_events
all_drawn zero g some is = absurd (some refl)
all_drawn (suc n) g some is = of_seed (suc n) g ∙ ap (with_resets (suc n)) (events_next (suc n) 0 4096 g (is ∙ first_generator (suc n)))
