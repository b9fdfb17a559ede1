-- The values of a command are in range.
use Rattle.std.proofs.Common.{◌≡◌, ℕ, zero, suc, ◌^◌, ◌-◌, Bool, true, false, cond, List, [], ◌∷◌, Option, Some, None, IfSome, option_map, arith}
use Rattle.std.proofs.Common.{refl, nat_le, ◌&&◌, if◌then◌else◌}
use Rattle.std.proofs.lemmas.Bool.{and_parts}
use Rattle.std.specs.List.{AllByRecursion, find}
use Rattle.std.specs.Option.{option_and_then}
use Rattle.std.specs.Str.{bytes_eq}
use Rattle.word_schema.specs.declared.value.Value.{Value}
use Rattle.word_schema.specs.declared.value.Value.TheVariants as values
use Rattle.word_schema.specs.Forms as forms
use Rattle.word_schema.specs.Fits.{fits, fits_form, fits_row, fit_behind, is_sound}
use Rattle.word_schema.specs.Given.{values_of}
use Rattle.word_schema.specs.Taken.{first, rest, value_at, flag_of, number_to, place_in}
use Rattle.word_schema.proofs.Fitting.{values_fit}
use Rattle.word_schema.proofs.Places.{row_fits, number_kept, byte_kept}
use Rattle.vt_words.specs.declared.command.Command.TheVariants.{Decode, List as Listing}
use Rattle.vt_words.specs.Command.{CommandRow, IsLawful, boot_of, build_of, decode_of, gen_of, load_of, sought_of, command_named, command_of, commands}
use Rattle.vt_words.specs.Policies.{policy_at, HasSeed}
use Rattle.vt_words.specs.Rows.{top_row, seed_row, boot, build, decode, generate, load}
use Rattle.vt_words.specs.Settings.{IsSetting, setting_of}

has_seed : (seed place : ℕ) → HasSeed seed (policy_at seed place)
has_seed seed zero = tt
has_seed seed (suc zero) = tt
has_seed seed (suc (suc place)) = refl

lawful_setting : (values : List Value) → fits_row seed_row (value_at 2 values) ≡ true → IsSetting (setting_of values)
lawful_setting values fit =
    let seed = number_kept 0 (2 ^ 64 - 1) (value_at 2 values) fit in
    record {
      fill = byte_kept (value_at 0 values);
      seed = omega arith;
      policy = has_seed (number_to (2 ^ 64 - 1) (value_at 2 values)) (place_in (value_at 1 values));
    }

-- What each command makes of values that fit is lawful.

lawful_build : (values : List Value) → fits build values ≡ true → IsLawful (build_of values)
lawful_build values fit = tt

lawful_decode : (values : List Value) → fits decode values ≡ true → IsLawful (decode_of values)
lawful_decode values fit =
    let legacy = flag_of (value_at 1 values) in
    let sought = sought_of legacy (flag_of (value_at 2 values)) (flag_of (value_at 3 values)) in
    elim (flag_of (first values)) as (λ listed. IsLawful (if listed then Listing sought else Decode legacy)) [ true ↦ tt | false ↦ tt ]

lawful_gen : (values : List Value) → fits generate values ≡ true → IsLawful (gen_of values)
lawful_gen [] fit = absurd (cc)
lawful_gen (value ∷ values) fit = number_kept 1 4096 value (and_parts (fits_form (forms.Number 1 4096) value) (fit_behind [] [] values) fit).0

lawful_boot : (values : List Value) → fits boot values ≡ true → IsLawful (boot_of values)
lawful_boot values fit = lawful_setting values (row_fits boot.options values 2 seed_row fit refl)

lawful_load : (values : List Value) → fits load values ≡ true → IsLawful (load_of values)
lawful_load values fit =
    let top = number_kept 64 3072 (value_at 0 values) (row_fits load.options values 0 top_row fit refl) in
    (top.0, top.1, lawful_setting (rest (rest values)) (row_fits load.options values 4 seed_row fit refl))

MakesLawful : CommandRow → Type 0
MakesLawful command = (is_sound command.schema ≡ true) × ((values : List Value) → fits command.schema values ≡ true → IsLawful (command.make values))

each_lawful : AllByRecursion MakesLawful commands
unfolding MakesLawful
each_lawful = ((refl, lawful_build), ((refl, lawful_boot), ((refl, lawful_load), ((refl, lawful_decode), ((refl, lawful_gen), tt)))))

-- What holds of all is so of one that is found.
pub of_found : {A : Type 0} (P : A → Type 0) (test : A → Bool) (xs : List A) → AllByRecursion P xs → IfSome (find test xs) P
of_found P test [] each = tt
of_found P test (x ∷ xs) each =
    elim (test x) as (λ is. IfSome (cond is (Some x) (find test xs)) P) [ true ↦ each.0 | false ↦ of_found P test xs each.1 ]

lawful_words : (command : CommandRow) (words : List (List ℕ)) → MakesLawful command
    → IfSome (option_map command.make (values_of command.schema words)) IsLawful
unfolding MakesLawful
lawful_words command words makes =
    elim (values_of command.schema words)
    as (λ found. (values_of command.schema words ≡ found) → IfSome (option_map command.make found) IsLawful)
    [ None ↦ λ is. tt | Some values ↦ λ is. makes.1 values (values_fit command.schema words values makes.0 is) ] refl

lawful_named : (found : Option CommandRow) (words : List (List ℕ)) → IfSome found MakesLawful
    → IfSome (option_and_then (λ command. option_map command.make (values_of command.schema words)) found) IsLawful
lawful_named None words makes = tt
lawful_named (Some command) words makes = lawful_words command words makes

pub lawful : (words : List (List ℕ)) → IfSome (command_of words) IsLawful
lawful [] = tt
lawful (name ∷ words) =
    lawful_named (command_named name) words (of_found MakesLawful (λ (command : CommandRow). bytes_eq name command.schema.name) commands each_lawful)
