-- The words of a scatter, and the choosing of places, inside an allocator.
use Rattle.std.specs.Prelude.{◌≡◌, ⊤, ℕ, ◌+◌}
use Rattle.zone_alloc.specs.declared.words.Words.{Words}
use Rattle.zone_alloc.specs.declared.chooser.Chooser.{Chooser}
use Rattle.zone_alloc.specs.declared.chooser.Chooser.TheVariants as choosers
use Rattle.zone_alloc.specs.declared.policy.Policy.{Policy}
use Rattle.zone_alloc.specs.declared.policy.Policy.TheVariants.{Low, Top, Scatter}
use Rattle.zone_alloc.specs.Policies.{generator_after, word_of}

-- word number k of a seed is the next one
abbrev pub IsNextWord : ℕ → ℕ → Words → Type 0
IsNextWord seed k words = (words.next ≡ word_of seed k) × (words.rest ≡ generator_after seed (k + 1))

-- the policy by which places are chosen
abbrev pub policy_of : Chooser → Policy
policy_of choosers.Low = Low
policy_of choosers.Top = Top
policy_of (choosers.Scatter seed words) = Scatter seed

-- of a scatter word number k is the next one
abbrev pub IsAtWord : ℕ → Chooser → Type 0
IsAtWord k choosers.Low = ⊤
IsAtWord k choosers.Top = ⊤
IsAtWord k (choosers.Scatter seed words) = IsNextWord seed k words
