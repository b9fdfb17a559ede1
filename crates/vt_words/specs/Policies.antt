-- Policies as the words of a command line have them. A word is the list of its bytes.
use Rattle.std.specs.Prelude.{◌≡◌, ⊤, ℕ, zero, suc, List, Option, codes, option_map}
use Rattle.zone_alloc.specs.declared.policy.Policy.{Policy}
use Rattle.zone_alloc.specs.declared.policy.Policy.TheVariants.{Low, Top, Scatter}
use Rattle.word_schema.specs.Given.{place_of}
use Rattle.vt_words.specs.Rows.{policy_names}

-- the name of a policy, and the place of this name among the names of policies
abbrev pub word_of : Policy → List ℕ
word_of Low = codes "low"
word_of Top = codes "top"
word_of (Scatter seed) = codes "scatter"

abbrev pub place_for : Policy → ℕ
place_for Low = 0
place_for Top = 1
place_for (Scatter seed) = 2

-- the policy whose name stands at a place, where the words have this seed
abbrev pub policy_at : ℕ → ℕ → Policy
policy_at seed zero = Low
policy_at seed (suc zero) = Top
policy_at seed (suc (suc place)) = Scatter seed

-- the policy of which a word is the name, where the words have this seed
abbrev pub policy_named : ℕ → List ℕ → Option Policy
policy_named seed word = option_map (policy_at seed) (place_of word policy_names)

-- a policy that has a seed has this one
abbrev pub HasSeed : ℕ → Policy → Type 0
HasSeed seed Low = ⊤
HasSeed seed Top = ⊤
HasSeed seed (Scatter own) = own ≡ seed
