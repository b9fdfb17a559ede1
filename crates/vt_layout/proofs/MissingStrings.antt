-- The first string that is missing is the fault of reading.
use Rattle.std.proofs.Common.{◌≡◌, ◌≢◌, ℕ, ◌<◌, ◌≤◌, Bool, true, false, cond, List, [], ◌∷◌, ◌++◌, length, take, drop, Option, Some, None, Result, Ok, Err}
use Rattle.std.proofs.Common.{nat_lt, refl, ap, subst, sym, ◌∙◌, arith}
use Rattle.std.specs.List.{AllByRecursion}
use Rattle.std.proofs.lemmas.Bool.Decides.{nat_tests}
use Rattle.vt_bytes.specs.Numbers.{le, be}
use Rattle.vt_layout.specs.declared.row.Row.{Row}
use Rattle.vt_layout.specs.declared.row.Row.TheVariants.{Number, BigEndian, Bytes, StringNumber}
use Rattle.vt_layout.specs.declared.value.Value.{Value}
use Rattle.vt_layout.specs.declared.value.Value.TheVariants as values
use Rattle.vt_layout.specs.declared.record_reader.RecordFault.{RecordFault}
use Rattle.vt_layout.specs.declared.record_reader.RecordFault.TheVariants.{TooShort, NoSuchString}
use Rattle.vt_layout.specs.Rows.{width_of, size, string_numbers}
use Rattle.vt_layout.specs.Strings.{string_of, IsFirstMissing}
use Rattle.vt_layout.specs.Reading.{row_in, rows_in}
use Rattle.vt_layout.specs.Values.{value_of}
use Rattle.vt_layout.specs.Fields.{Field}
use Rattle.vt_layout.specs.Records.{kinds_of, text_said, value_said, joined, values_said, made_of, record_in}
use Rattle.vt_layout.proofs.ReadRecords.{short_area, whole_area}

-- the fault tells the first of some numbers that is no string's
record TellsMissing (strings : List (List ℕ)) (numbers : List ℕ) (fault : RecordFault) : Type 0 where
  number : ℕ
  told : fault ≡ NoSuchString number
  first : IsFirstMissing strings numbers number

-- one more number in front, whose string is there
told_behind : (strings : List (List ℕ)) (number : ℕ) (text : List ℕ) (numbers : List ℕ) (fault : RecordFault) → string_of strings number ≡ Some text
    → TellsMissing strings numbers fault → TellsMissing strings (number ∷ numbers) fault
told_behind strings number text numbers fault found tells = record {
  number = tells.number;
  told = tells.told;
  first = record {
    before = number ∷ tells.first.before;
    after = tells.first.after;
    asked = ap (λ others. number ∷ others) tells.first.asked;
    there = (λ none. cc (found, none), tells.first.there);
    missing = tells.first.missing;
  };
}

-- behind a value that is there a fault is that of the others
others_fault : (value : Value) (more : Result (List Value) RecordFault) (fault : RecordFault) → joined (Ok value) more ≡ Err fault → more ≡ Err fault
others_fault value (Err other) fault is = is
others_fault value (Ok others) fault is = absurd (cc is)

-- a fault of a row and those behind it
text_fault : (strings : List (List ℕ)) (number : ℕ) (found : Option (List ℕ)) (numbers : List ℕ) (more : Result (List Value) RecordFault)
    (fault : RecordFault) → string_of strings number ≡ found → joined (text_said number found) more ≡ Err fault
    → (more ≡ Err fault → TellsMissing strings numbers fault) → TellsMissing strings (number ∷ numbers) fault
text_fault strings number None numbers more fault found is behind = record {
  number = number;
  told = cc is;
  first = record { before = []; after = numbers; asked = refl; there = tt; missing = found };
}
text_fault strings number (Some text) numbers more fault found is behind =
    told_behind strings number text numbers fault found (behind (others_fault (values.Text text) more fault is))

row_fault : (strings : List (List ℕ)) (row : Row) (bytes : List ℕ) (rows : List Row) (more : Result (List Value) RecordFault) (fault : RecordFault)
    → joined (value_said row bytes strings) more ≡ Err fault → (more ≡ Err fault → TellsMissing strings (string_numbers rows) fault)
    → TellsMissing strings (string_numbers (row_in row bytes ∷ rows)) fault
row_fault strings (StringNumber number) bytes rows more fault is behind =
    text_fault strings (le bytes) (string_of strings (le bytes)) (string_numbers rows) more fault refl is behind
row_fault strings (Number width n) bytes rows more fault is behind = behind (others_fault (value_of (Number width (le bytes))) more fault is)
row_fault strings (BigEndian width n) bytes rows more fault is behind = behind (others_fault (value_of (BigEndian width (be bytes))) more fault is)
row_fault strings (Bytes width text) bytes rows more fault is behind = behind (others_fault (value_of (Bytes width bytes)) more fault is)
row_fault strings row bytes rows more fault is behind = behind (others_fault values.Nothing more fault is)

rows_fault : (strings : List (List ℕ)) (kinds : List Row) (bytes : List ℕ) (fault : RecordFault) → values_said kinds bytes strings ≡ Err fault
    → TellsMissing strings (string_numbers (rows_in kinds bytes)) fault
rows_fault strings [] bytes fault is = absurd (cc is)
rows_fault strings (row ∷ kinds) bytes fault is =
    let left = drop (width_of row) bytes in
    row_fault strings row (take (width_of row) bytes) (rows_in kinds left) (values_said kinds left strings) fault is (rows_fault strings kinds left fault)

-- and the first that is missing is told
text_there : (number : ℕ) (found : Option (List ℕ)) (more : Result (List Value) RecordFault) (fault : RecordFault) → found ≢ None → more ≡ Err fault
    → joined (text_said number found) more ≡ Err fault
text_there number None more fault there is = absurd (there refl)
text_there number (Some text) more fault there is = ap (joined (Ok (values.Text text))) is

row_missing : (strings : List (List ℕ)) (row : Row) (bytes : List ℕ) (rows : List Row) (more : Result (List Value) RecordFault) (before after : List ℕ)
    (number : ℕ) → string_numbers (row_in row bytes ∷ rows) ≡ before ++ number ∷ after → AllByRecursion (λ n. string_of strings n ≢ None) before
    → string_of strings number ≡ None
    → ((others : List ℕ) → string_numbers rows ≡ others ++ number ∷ after → AllByRecursion (λ n. string_of strings n ≢ None) others
    → more ≡ Err (NoSuchString number))
    → joined (value_said row bytes strings) more ≡ Err (NoSuchString number)
row_missing strings (StringNumber m) bytes rows more [] after number asked there missing behind =
    let same : le bytes ≡ number = cc asked in
    let said : text_said (le bytes) (string_of strings (le bytes)) ≡ Err (NoSuchString number) =
    ap (text_said (le bytes)) (ap (string_of strings) same ∙ missing) ∙ ap (λ n. Err (NoSuchString n)) same in
    ap (λ one. joined one more) said
row_missing strings (StringNumber m) bytes rows more (n ∷ before) after number asked there missing behind =
    let same : n ≡ le bytes = cc asked in
    let others : string_numbers rows ≡ before ++ number ∷ after = cc asked in
    text_there (le bytes) (string_of strings (le bytes)) more (NoSuchString number) (λ none. there.0 (ap (string_of strings) same ∙ none))
    (behind before others there.1)
row_missing strings (Number width n) bytes rows more before after number asked there missing behind =
    ap (joined (Ok (value_of (Number width (le bytes))))) (behind before asked there)
row_missing strings (BigEndian width n) bytes rows more before after number asked there missing behind =
    ap (joined (Ok (value_of (BigEndian width (be bytes))))) (behind before asked there)
row_missing strings (Bytes width text) bytes rows more before after number asked there missing behind =
    ap (joined (Ok (value_of (Bytes width bytes)))) (behind before asked there)
row_missing strings row bytes rows more before after number asked there missing behind = ap (joined (Ok values.Nothing)) (behind before asked there)

rows_missing : (strings : List (List ℕ)) (kinds : List Row) (bytes : List ℕ) (before after : List ℕ) (number : ℕ)
    → string_numbers (rows_in kinds bytes) ≡ before ++ number ∷ after → AllByRecursion (λ n. string_of strings n ≢ None) before
    → string_of strings number ≡ None → values_said kinds bytes strings ≡ Err (NoSuchString number)
rows_missing strings [] bytes [] after number asked there missing = absurd (cc asked)
rows_missing strings [] bytes (n ∷ before) after number asked there missing = absurd (cc asked)
rows_missing strings (row ∷ kinds) bytes before after number asked there missing =
    let left = drop (width_of row) bytes in
    row_missing strings row (take (width_of row) bytes) (rows_in kinds left) (values_said kinds left strings) before after number asked there missing
    (λ others are all. rows_missing strings kinds left others after number are all missing)

-- a fault of a record
made_fault : {T : Type 0} (made : List Value → T) (said : Result (List Value) RecordFault) (fault : RecordFault) → made_of made said ≡ Err fault
    → said ≡ Err fault
made_fault made (Err other) fault is = cc is
made_fault made (Ok all) fault is = absurd (cc is)

-- it is short, where it is told to be
short_told : {T : Type 0} (made : List Value → T) (short : Bool) (strings : List (List ℕ)) (kinds : List Row) (bytes : List ℕ)
    → cond short (Err TooShort) (made_of made (values_said kinds bytes strings)) ≡ Err TooShort → short ≡ true
short_told made true strings kinds bytes is = refl
short_told made false strings kinds bytes is =
    let tells = rows_fault strings kinds bytes TooShort (made_fault made (values_said kinds bytes strings) TooShort is) in
    absurd (cc tells.told)

pub short_is_told : {T : Type 0} (fields : T → List Field) (made : List Value → T) (area : List ℕ) (strings : List (List ℕ))
    → (record_in fields made area strings ≡ Err TooShort → length area < size (kinds_of fields made))
    × (length area < size (kinds_of fields made) → record_in fields made area strings ≡ Err TooShort)
short_is_told fields made area strings = (
  λ told.
      let short = short_told made (nat_lt (length area) (size (kinds_of fields made))) strings (kinds_of fields made) area told in
      grind (arith, nat_tests, short),
  short_area fields made area strings,
)

pub missing_is_told : {T : Type 0} (fields : T → List Field) (made : List Value → T) (area : List ℕ) (strings : List (List ℕ)) (number : ℕ)
    → size (kinds_of fields made) ≤ length area
    → (record_in fields made area strings ≡ Err (NoSuchString number)
    → IsFirstMissing strings (string_numbers (rows_in (kinds_of fields made) area)) number)
    × (IsFirstMissing strings (string_numbers (rows_in (kinds_of fields made) area)) number
    → record_in fields made area strings ≡ Err (NoSuchString number))
missing_is_told fields made area strings number within =
    let kinds = kinds_of fields made in
    let said = values_said kinds area strings in
    let whole = whole_area fields made area strings within in (
      λ told.
          let tells = rows_fault strings kinds area (NoSuchString number) (made_fault made said (NoSuchString number) (sym whole ∙ told)) in
          let same : tells.number ≡ number = cc tells.told in
          subst (IsFirstMissing strings (string_numbers (rows_in kinds area))) same tells.first,
      λ first. whole ∙ ap (made_of made) (rows_missing strings kinds area first.before first.after number first.asked first.there first.missing),
    )
