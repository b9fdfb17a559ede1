-- The words of a seed, one after the other.
use Rattle.std.proofs.Common.{◌≡◌, ℕ, ◌+◌, ◌<◌, get_or, arith, zero, suc, refl, sym, ap, ◌∙◌, add-one}
use Rattle.rand_core.specs.Pcg32Seed.{pcg32_seed}
use Rattle.rand_core.specs.Steps.{first_words}
use Rattle.rand_pcg.specs.Lcg.{Lcg, next_state, advance, state_after}
use Rattle.rand_pcg.specs.Pcg.{multiplier_64, pcg32, pcg32_of_seed}
use Rattle.zone_alloc.specs.Policies.{generator_after, word_of}

-- one step behind others is one step more
step_behind : (w m p k s : ℕ) → next_state w m p (state_after w m p k s) ≡ state_after w m p (suc k) s
unfolding state_after
step_behind w m p zero s = refl
step_behind w m p (suc k) s = step_behind w m p k (next_state w m p s)

-- a generator before its first word
pub first_generator : (seed : ℕ) → pcg32_of_seed (pcg32_seed 16 seed) ≡ generator_after seed 0
unfolding generator_after state_after
first_generator seed = refl

word_drawn : (seed k : ℕ) → (pcg32 (generator_after seed k)).0 ≡ word_of seed k
unfolding word_of
word_drawn seed k = refl

generator_drawn : (seed k : ℕ) → (pcg32 (generator_after seed k)).1 ≡ generator_after seed (suc k)
unfolding generator_after
generator_drawn seed k =
    let first : Lcg = pcg32_of_seed (pcg32_seed 16 seed) in
    ap (λ (s : ℕ). record first { state = s }) (step_behind 64 multiplier_64 first.increment k first.state)

-- a generator after k words gives word number k, and is then the one after k + 1
pub drawn : (seed k word : ℕ) (before after : Lcg) → (word, after) ≡ pcg32 before → before ≡ generator_after seed k
    → (word ≡ word_of seed k) × (after ≡ generator_after seed (k + 1))
drawn seed k word before after step at = (
  ap (λ (p : ℕ × Lcg). p.0) step ∙ ap (λ (g : Lcg). (pcg32 g).0) at ∙ word_drawn seed k,
  ap (λ (p : ℕ × Lcg). p.1) step ∙ ap (λ (g : Lcg). (pcg32 g).1) at ∙ generator_drawn seed k ∙ ap (generator_after seed) (sym (add-one k)),
)

-- words one after the other
words_from : (count k : ℕ) (g : Lcg) → k < count → get_or (first_words pcg32 count g) k 0 ≡ (pcg32 (advance 64 multiplier_64 k g)).0
unfolding first_words state_after
words_from zero k g below = absurd (omega arith)
words_from (suc count) zero g below = refl
words_from (suc count) (suc k) g below = words_from count k (pcg32 g).1 (omega arith)

pub words_in_order : (seed count k : ℕ) → k < count → get_or (first_words pcg32 count (pcg32_of_seed (pcg32_seed 16 seed))) k 0 ≡ word_of seed k
unfolding word_of generator_after
words_in_order seed count k below = words_from count k (pcg32_of_seed (pcg32_seed 16 seed)) below
