-- Values and options that loops add one after the other.
use Rattle.std.proofs.Common.{◌≡◌, ℕ, ◌+◌, ◌<◌, ◌≤◌, List, [], ◌∷◌, ◌++◌, length, get_or, drop, take, map, string_bytes, String, Global}
use Rattle.std.proofs.Common.{Option, Some, None, option_map, refl, ap, sym, ◌∙◌, arith, append_assoc, append-nil}
use Rattle.std.proofs.lemmas.List.{drop_more, length-map, drop_all}
use Rattle.word_schema.specs.declared.value.Value.{Value}
use Rattle.word_schema.specs.declared.given.Given.{Given as CodeGiven}
use Rattle.word_schema.specs.declared.schema.OperandSchema.{OperandSchema}
use Rattle.word_schema.specs.declared.schema.OptionSchema.{OptionSchema}
use Rattle.word_schema.specs.declared.schema.CommandSchema.{CommandSchema}
use Rattle.word_schema.specs.Forms.{Form, Row, form_of, forms_of, row_of, rows_of, schema_of}
use Rattle.word_schema.specs.Given.{Given, value_of, with_value, given_by, option_value, option_values, operand_values, given_from, values_of}
use Rattle.word_schema.specs.Steps.{options_given}

-- so many behind a front
abbrev pub behind : {X : Type 0} → List X → Option (List X) → Option (List X)
behind {X} front more = option_map (λ (more : List X). front ++ more) more

-- one more in front
pub behind_one : {X : Type 0} (front : List X) (x : X) (more : Option (List X))
    → behind front (option_map (λ (more : List X). x ∷ more) more) ≡ behind (front ++ x ∷ []) more
behind_one front x None = refl
behind_one front x (Some more) = ap Some (sym (append_assoc front (x ∷ []) more))

-- options

pub given_done : (rows : List Row) (front : List CodeGiven) (words : List (List ℕ)) (total : Option (List Given)) → words ≡ []
    → total ≡ behind (options_given front) (given_by rows words) → total ≡ Some (options_given front)
unfolding given_from
given_done rows front words total none so_far =
    so_far ∙ (ap (λ (words : List (List ℕ)). behind (options_given front) (given_by rows words)) none ∙ ap Some (append-nil (options_given front)))

-- values

-- the value in front of others, or none
pub values_go_on : (front new : List Value) (value : Value) (said : Option Value) (now more total : Option (List Value)) → new ≡ front ++ value ∷ []
    → Some value ≡ said → now ≡ with_value said more → behind front now ≡ total → behind new more ≡ total
values_go_on front new value said now more total is some step so_far =
    ap (λ (front : List Value). behind front more) is
    ∙ (sym (behind_one front value more) ∙ (ap (λ said. behind front (with_value said more)) some ∙ (sym (ap (behind front) step) ∙ so_far)))

pub values_stop : (front : List Value) (said : Option Value) (now more total : Option (List Value)) → None ≡ said → now ≡ with_value said more
    → behind front now ≡ total → None ≡ total
values_stop front said now more total none step so_far = ap (λ said. behind front (with_value said more)) none ∙ (sym (ap (behind front) step) ∙ so_far)

pub operands_step : (operands : List OperandSchema) (words : List (String Global)) (i : ℕ) (operand : OperandSchema) (word : String Global) (said : List ℕ)
    → i < length operands → i < length words → word ≡ get_or words i word → said ≡ string_bytes word
    → operand_values (forms_of (drop i operands)) (map string_bytes (drop i words))
    ≡ with_value (value_of (form_of (get_or operands i operand).form) said)
    (operand_values (forms_of (drop (i + 1) operands)) (map string_bytes (drop (i + 1) words)))
unfolding operand_values
operands_step operands words i operand word said within within_too is same =
    rw (drop_more operands i operand within, drop_more words i word within_too, same ∙ ap string_bytes is) refl

pub operands_done : (operands : List OperandSchema) (words : List (String Global)) (i : ℕ) (front : List Value) (total : Option (List Value))
    → length operands ≤ i
    → length words ≤ i → behind front (operand_values (forms_of (drop i operands)) (map string_bytes (drop i words))) ≡ total → Some front ≡ total
unfolding operand_values
operands_done operands words i front total past past_too so_far =
    sym (ap Some (append-nil front)) ∙ (rw (drop_all i operands past, drop_all i words past_too) at so_far)

pub options_step : (options : List OptionSchema) (given : List Given) (i : ℕ) (option : OptionSchema) → i < length options
    → option_values (rows_of (drop i options)) given
    ≡ with_value (option_value (row_of (get_or options i option)) given) (option_values (rows_of (drop (i + 1) options)) given)
unfolding option_values
options_step options given i option within = rw (drop_more options i option within) refl

pub options_done : (options : List OptionSchema) (given : List Given) (i : ℕ) (front : List Value) (total : Option (List Value)) → length options ≤ i
    → behind front (option_values (rows_of (drop i options)) given) ≡ total → Some front ≡ total
unfolding option_values
options_done options given i front total past so_far = sym (ap Some (append-nil front)) ∙ (rw (drop_all i options past) at so_far)

with_none : (value : Option Value) → with_value value None ≡ None
with_none None = refl
with_none (Some value) = refl

-- too few words
few_operands : (forms : List Form) (words : List (List ℕ)) → length words < length forms → operand_values forms (take (length forms) words) ≡ None
unfolding operand_values
few_operands [] words few = absurd (omega arith)
few_operands (form ∷ forms) [] few = refl
few_operands (form ∷ forms) (word ∷ words) few =
    ap (with_value (value_of form word)) (few_operands forms words (omega arith)) ∙ with_none (value_of form word)

pub too_few : (command : CommandSchema) (words : List (String Global)) → length words < length command.operands.now
    → values_of (schema_of command) (map string_bytes words) ≡ None
too_few command words few =
    rw (few_operands (forms_of command.operands.now) (map string_bytes words)
    (omega (arith, length-map words string_bytes, length-map command.operands.now (λ (operand : OperandSchema). form_of operand.form)))) refl
