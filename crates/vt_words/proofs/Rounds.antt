-- A lawful command is what its words are.
use Rattle.std.proofs.Common.{◌≡◌, ℕ, ◌<◌, true, false, List, length, drop, Some, option_map, arith, refl, ap, sym, ◌∙◌}
use Rattle.std.proofs.lemmas.Bool.Decides.{nat_tests}
use Rattle.word_schema.specs.Fits.{fits, is_sound}
use Rattle.word_schema.specs.Given.{Given, values_of, are_compatible, have_what_they_need}
use Rattle.word_schema.specs.Written.{written, given_for}
use Rattle.word_schema.proofs.Writing.{written_is_read}
use Rattle.zone_alloc.specs.declared.policy.Policy.{Policy}
use Rattle.zone_alloc.specs.declared.policy.Policy.TheVariants.{Low, Top, Scatter}
use Rattle.vt_words.specs.declared.command.Command.{Command}
use Rattle.vt_words.specs.declared.command.Command.TheVariants.{Boot, Decode, List as Listing}
use Rattle.vt_words.specs.declared.command.Sought.TheVariants.{Any, One}
use Rattle.vt_words.specs.Command.{IsLawful, command_of}
use Rattle.vt_words.specs.Policies.{policy_at, place_for, HasSeed}
use Rattle.vt_words.specs.Written.{row_of, values_for, words_of}

place_small : (policy : Policy) → place_for policy < 3
place_small Low = omega arith
place_small Top = omega arith
place_small (Scatter seed) = omega arith

same_policy : (seed : ℕ) (policy : Policy) → HasSeed seed policy → policy_at seed (place_for policy) ≡ policy
same_policy seed Low has = refl
same_policy seed Top has = refl
same_policy seed (Scatter chosen) has = ap (λ (n : ℕ). Scatter n) (sym has)

-- the values of a lawful command fit its rows
fit : (command : Command) → IsLawful command → fits (row_of command).schema (values_for command) ≡ true
fit (Boot setting) lawful = grind (arith, nat_tests, place_small)
fit command lawful = grind (arith, nat_tests, place_small)

-- and they make it
made : (command : Command) → IsLawful command → (row_of command).make (values_for command) ≡ command
made (Boot setting) lawful = grind (arith, nat_tests, same_policy)
made command lawful = grind (arith, nat_tests, same_policy)

-- the options that words of a command give
abbrev given_of : Command → List Given
given_of command =
    let schema = (row_of command).schema in
    given_for schema.options (drop (length schema.operands) (values_for command))

-- no two of them exclude each other, and each has what it needs
KeepsPairs : Command → Type 0
KeepsPairs command =
    let schema = (row_of command).schema in
    (are_compatible schema.exclusive (given_of command) ≡ true) × (have_what_they_need schema.needs (given_of command) ≡ true)

keeps_pairs : (command : Command) → KeepsPairs command
unfolding KeepsPairs
keeps_pairs (Decode true) = (refl, refl)
keeps_pairs (Decode false) = (refl, refl)
keeps_pairs (Listing Any) = (refl, refl)
keeps_pairs (Listing (One true true)) = (refl, refl)
keeps_pairs (Listing (One true false)) = (refl, refl)
keeps_pairs (Listing (One false true)) = (refl, refl)
keeps_pairs (Listing (One false false)) = (refl, refl)
keeps_pairs command = (refl, refl)

-- the words of a command whose row is sound
read_row : (command : Command) → IsLawful command → is_sound (row_of command).schema ≡ true → KeepsPairs command
    → option_map (row_of command).make (values_of (row_of command).schema (written (row_of command).schema (values_for command))) ≡ Some command
unfolding KeepsPairs
read_row command lawful sound pairs =
    ap (option_map (row_of command).make) (written_is_read (row_of command).schema (values_for command) sound (fit command lawful) pairs.0 pairs.1)
    ∙ ap (λ (c : Command). Some c) (made command lawful)

pub read_command : (command : Command) → IsLawful command → command_of (words_of command) ≡ Some command
read_command (Boot setting) lawful = read_row (Boot setting) lawful refl (keeps_pairs (Boot setting))
read_command command lawful = read_row command lawful refl (keeps_pairs command)
