-- The walk of the document that is written of values gives them again, part by part.
use Rattle.std.proofs.Common.{◌≡◌, ℕ, zero, suc, pos, ◌+◌, ◌<◌, ◌==◌, ◌&&◌, true, false, Bool, not, List, [], ◌∷◌, ◌++◌, length, replicate, Option, Some}
use Rattle.std.proofs.Common.{None, Ok, ◌⊎◌, refl, sym, ap, ◌∙◌, ⊎_elim, append_assoc, arith}
use Rattle.std.proofs.lemmas.Bool.{false≢true, cases_Bool, and_parts, or_parts, or_left, or_right, le-leb, eqb-true, not-true}
use Rattle.std.proofs.lemmas.List.{append-nil}
use Rattle.std.proofs.lemmas.Slice.Eq.{bytes_eq-Decides}
use Rattle.std.specs.Prelude.{nat_le, is_some, if◌then◌else◌}
use Rattle.std.specs.Int.{w128, from_be_bytes}
use Rattle.std.specs.List.{list_any}
use Rattle.std.specs.Str.{bytes_eq}
use Rattle.vt_outside.proofs.Texts.{text_itself}
use Rattle.toml.specs.Data.{Data, string, integer, boolean, array, table, Items, no_items, item, Members, no_members, get_member}
use Rattle.desc_schema.specs.declared.value.Value.{Value}
use Rattle.desc_schema.specs.declared.fault.Place.{Place}
use Rattle.desc_schema.specs.declared.fault.KeyPlace.{KeyPlace}
use Rattle.desc_schema.specs.Form.{Form, Shape, Field, fields_at}
use Rattle.desc_schema.specs.Form as forms
use Rattle.desc_schema.specs.Faults.{key_at, alone}
use Rattle.desc_schema.specs.Single.{value_of, uuid_from, word_from}
use Rattle.desc_schema.specs.Taken.{first, rest}
use Rattle.desc_schema.specs.Walk.{Inner, one, elements, singles, shaped, found_or, at_fields, least_unknown, is_known}
use Rattle.desc_schema.specs.Walk.{table_walked, walked, position, advanced, count_of}
use Rattle.desc_schema.specs.Fits.{FitsForm, IsOne, AreParts, IsCounted, FitsShape, FitsField, FitsFields, FitsTable, Fits}
use Rattle.desc_schema.specs.Written.{Spelling, IsReadBack, greatest_integer, word_node, node_of, Write, tables_written, singles_written, array_written}
use Rattle.desc_schema.specs.Written.{field_written, with_member, fields_written, written_to, written, words_differ, names_differ, IsSoundForm}
use Rattle.desc_schema.specs.Written.{IsSoundDefault, IsSoundShape, AreSoundFields, IsSound}
use Rattle.desc_schema.proofs.Putting.{get_here, get_other, none_unknown-with}

-- single values

word_back : (n : ℕ) (words : List (List ℕ)) → n < length words → words_differ words ≡ true
    → (word : List ℕ) × (word_node n words ≡ Some (string word)) × ((at : KeyPlace) (k : ℕ) → word_from at k words word ≡ Ok (Value.Word (k + n)))
    × ((test : List ℕ → Bool) → list_any test words ≡ false → test word ≡ false)
unfolding word_from
word_back n [] within differ = absurd (omega arith)
word_back zero (word ∷ words) within differ = (
  word,
  refl,
  λ at k. let here : k + 0 ≡ k = omega arith in rw (text_itself word, here) refl,
  λ test none.
      (or_parts (test word) (list_any test words) none).0,
)
word_back (suc n) (front ∷ words) within differ =
    let (alone, others) = and_parts (not (list_any (bytes_eq front) words)) (words_differ words) differ in
    let (word, is, back, away) = word_back n words (omega arith) others in
    let differs : bytes_eq front word ≡ false = away (bytes_eq front) (not-true _ alone) in (
      word,
      is,
      λ at k. let here : k + suc n ≡ k + 1 + n = omega arith in rw (differs, here) (back at (k + 1)),
      λ test none. away test ((or_parts (test front) (list_any test words) none).1),
    )

uuid_back : (at : KeyPlace) (n : ℕ) (read : Option (List ℕ)) (again : List ℕ) → read ≡ Some again → from_be_bytes w128 again ≡ n
    → uuid_from at read ≡ Ok (Value.Uuid n)
uuid_back at n read again is same = rw (is, same) refl

form_back : (spell : Spelling) (reads : IsReadBack spell) (form : Form) (found : Value) → FitsForm form found → IsSoundForm form
    → (node : Data) × (node_of spell form found ≡ Some node) × ((at : KeyPlace) → value_of at form node ≡ Ok found)
form_back spell reads forms.Text found (text, is) sound = (string text, rw is refl, λ at. rw is refl)
form_back spell reads (forms.Number least most) found (n, is, low, high) sound =
    let lows : nat_le least n ≡ true = le-leb least n low in
    let highs : nat_le n most ≡ true = le-leb n most high in
    let within : nat_le n greatest_integer ≡ true = le-leb n greatest_integer (omega arith) in
    (integer (pos n), rw (is, lows, highs, within) refl, λ at. rw (is, lows, highs) refl)
form_back spell reads forms.Flag found (flag, is) sound = (boolean flag, rw is refl, λ at. rw is refl)
form_back spell reads forms.Uuid found (text, bytes, from, is) sound =
    let (again, reads_so, same) = reads text bytes from in
    (string (spell (from_be_bytes w128 bytes)), rw is refl, λ at. rw is (uuid_back at _ _ again reads_so same))
form_back spell reads (forms.Word words) found (n, is, within) sound =
    let (word, written, back, _) = word_back n words within sound in
    let here : 0 + n ≡ n = omega arith in
    (string word, rw is written, λ at. rw is (back at 0 ∙ ap (λ (k : ℕ). Ok (Value.Word k)) here))

one_back : (spell : Spelling) (reads : IsReadBack spell) (form : Form) (values : List Value) → IsOne form values → IsSoundForm form → (more : List Value)
    → (node : Data) × (node_of spell form (first (values ++ more)) ≡ Some node) × (rest (values ++ more) ≡ more)
    × ((at : KeyPlace) (positions : List ℕ) → one (value_of at form node) positions ≡ Ok (values, positions))
one_back spell reads form values (found, is, fits) sound more =
    let (node, written, back) = form_back spell reads form found fits sound in
    (node, rw is written, rw is refl, λ at positions. rw (back at, is) refl)

-- tables and arrays

-- the table of a number is written of values, with others behind them, and the walk of it gives them again
abbrev WalksBack : Inner → Write → ℕ → List Value → Type 0
WalksBack inner write number values = (more : List Value) → (entries : Members) × (write number (values ++ more) ≡ (entries, more))
    × ((index : ℕ) (positions : List ℕ) → (next : List ℕ) × (inner (record { table = number; index = index }) entries positions ≡ Ok (values, next)))

abbrev AllWalkBack : Inner → Write → (ℕ → List Value → Type 0) → Type 0
AllWalkBack inner write Inside = (number : ℕ) (values : List Value) → Inside number values → WalksBack inner write number values

behind : (values part rest more : List Value) → values ≡ part ++ rest → values ++ more ≡ part ++ (rest ++ more)
behind values part rest more is = rw is (simp append_assoc)

elements_back : (inner : Inner) (write : Write) (Inside : ℕ → List Value → Type 0) (all : AllWalkBack inner write Inside) (number n : ℕ) (values : List Value)
    → AreParts (Inside number) n values → (more : List Value)
    → (made : Items) × (tables_written write number n (values ++ more) ≡ (made, more)) × (count_of made ≡ n)
    × ((at : KeyPlace) (positions : List ℕ) → (next : List ℕ) × (elements inner at number made positions ≡ Ok (values, next)))
unfolding elements
elements_back inner write Inside all number zero values is more = (no_items, rw is refl, refl, λ at positions. (positions, rw is refl))
elements_back inner write Inside all number (suc n) values (part, others, is, fits, fit) more =
    let (entries, written, back) = all number part fits (others ++ more) in
    let (made, writes, count, backs) = elements_back inner write Inside all number n others fit more in
    let all_of : values ++ more ≡ part ++ (others ++ more) = behind values part others more is in (
      item (table entries) made,
      rw (all_of, written, writes) refl,
      ap suc count,
      λ at positions.
          let (next, walks) = back (position number positions) (advanced number positions) in
          let (last, walk) = backs at next in
          (last, rw (walks, walk, is) refl),
    )

singles_back : (spell : Spelling) (reads : IsReadBack spell) (form : Form) (sound : IsSoundForm form) (n : ℕ) (values : List Value)
    → AreParts (IsOne form) n values
    → (more : List Value) → (made : Items) × (singles_written spell form n (values ++ more) ≡ (made, more)) × (count_of made ≡ n)
    × ((at : KeyPlace) (positions : List ℕ) → singles at form made positions ≡ Ok (values, positions))
unfolding singles
singles_back spell reads form sound zero values is more = (no_items, rw is refl, refl, λ at positions. rw is refl)
singles_back spell reads form sound (suc n) values (part, others, is, fits, fit) more =
    let (node, written, left, back) = one_back spell reads form part fits sound (others ++ more) in
    let (made, writes, count, backs) = singles_back spell reads form sound n others fit more in
    let all_of : values ++ more ≡ part ++ (others ++ more) = behind values part others more is in
    (item node made, rw (all_of, written, left, writes) refl, ap suc count, λ at positions. rw (back at positions, backs at positions, is) refl)

-- the node at a key, or none
abbrev FieldBack : Spelling → Inner → Write → Field → List Value → Type 0
FieldBack spell inner write field values = (more : List Value)
    → (node : Option Data) × (field_written spell write field (values ++ more) ≡ (node, more))
    × ((at : KeyPlace) (positions : List ℕ) → (next : List ℕ) × (found_or inner at field node positions ≡ Ok (values, next)))

-- a key that is left out
default_back : (inner : Inner) (field : Field) (default : Value) (values : List Value) → field.default ≡ Some default → values ≡ default ∷ []
    → (at : KeyPlace) (positions : List ℕ) → (next : List ℕ) × (found_or inner at field None positions ≡ Ok (values, next))
default_back inner field default values stands is at positions = (positions, rw (stands, is) refl)

-- a single value that is written
one_written : (spell : Spelling) (reads : IsReadBack spell) (inner : Inner) (write : Write) (field : Field) (form : Form) (values : List Value)
    → field.shape ≡ forms.One form → IsOne form values → IsSoundForm form → FieldBack spell inner write field values
one_written spell reads inner write field form values shape fits sound more =
    let (node, written, left, back) = one_back spell reads form values fits sound more in
    (Some node, rw (shape, written, left) refl, λ at positions. (positions, rw shape (back at positions)))

-- a default of a single value: one that is written, or one that isn't
one_left_out : (spell : Spelling) (reads : IsReadBack spell) (inner : Inner) (write : Write) (field : Field) (form : Form) (default : Value)
    (values : List Value) → field.shape ≡ forms.One form → field.default ≡ Some default → values ≡ default ∷ [] → IsSoundForm form
    → FitsForm form default ⊎ (node_of spell form default ≡ None) → FieldBack spell inner write field values
one_left_out spell reads inner write field form default values shape stands is sound either =
    ⊎_elim
    (λ fits. one_written spell reads inner write field form values shape (default, is, fits) sound)
    (λ none more. (None, rw (shape, is) (ap (λ (o : Option Data). (o, more)) none), default_back inner field default values stands is))
    either

table_back : (spell : Spelling) (inner : Inner) (write : Write) (Inside : ℕ → List Value → Type 0) (all : AllWalkBack inner write Inside) (field : Field)
    (number : ℕ) (values : List Value) → field.shape ≡ forms.Table number → FitsShape Inside (forms.Table number) values
    → FieldBack spell inner write field values
table_back spell inner write Inside all field number values shape (inside, is, fits) more =
    let (entries, written, back) = all number inside fits more in (
      Some (table entries),
      rw (shape, is, written) refl,
      λ at positions.
          let (next, walks) = back 0 positions in
          (next, rw (shape, walks, is) refl),
    )

-- a default of a count is an empty array
counted_or : (Part : List Value → Type 0) (field : Field) (values : List Value) → ((default : Value) → field.default ≡ Some default → default ≡ Value.Count 0)
    → ((default : Value) × (field.default ≡ Some default) × (values ≡ default ∷ [])) ⊎ IsCounted Part values → IsCounted Part values
counted_or Part field values defaults either =
    ⊎_elim (λ out. (0, [], rw (out.2, defaults out.0 out.1) refl, refl)) (λ counted. counted) either

stands : (default : Option Value) → is_some default ≡ true → (found : Value) × (default ≡ Some found)
stands None is = absurd (false≢true is)
stands (Some found) is = (found, refl)

-- none is left of no parts
no_parts : (Part : List Value → Type 0) (n : ℕ) (inside : List Value) → AreParts Part n inside → n ≡ 0 → inside ≡ []
no_parts Part zero inside are none = are
no_parts Part (suc n) inside are none = absurd (omega arith)

is_kept : (node : Data) (out : Bool) → out ≡ false → (if out then None else Some node) ≡ Some node
is_kept node out kept = rw kept refl

empty_values : (n : ℕ) (default : Value) (inside values : List Value) → values ≡ Value.Count n ∷ inside → n ≡ 0 → inside ≡ [] → default ≡ Value.Count 0
    → values ≡ default ∷ []
empty_values n default inside values is none empty stands = rw (is, none, empty, stands) refl

-- an array is written, or it is empty and its key may be left out
array_back : (spell : Spelling) (inner : Inner) (write : Write) (field : Field) (parts : ℕ → List Value → Items × List Value) (Part : List Value
    → Type 0) (n : ℕ)
    (inside values more : List Value) (made : Items) → values ≡ Value.Count n ∷ inside → AreParts Part n inside → parts n (inside ++ more) ≡ (made, more)
    → ((default : Value) → field.default ≡ Some default → default ≡ Value.Count 0)
    → ((at : KeyPlace) (positions : List ℕ) → (next : List ℕ) × (shaped inner at field.shape (array made) positions ≡ Ok (values, next)))
    → field_written spell write field (values ++ more) ≡ array_written (is_some field.default) parts (Value.Count n) (inside ++ more)
    → (node : Option Data) × (field_written spell write field (values ++ more) ≡ (node, more))
    × ((at : KeyPlace) (positions : List ℕ) → (next : List ℕ) × (found_or inner at field node positions ≡ Ok (values, next)))
array_back spell inner write field parts Part n inside values more made is are writes defaults walks same =
    ⊎_elim
    (λ out.
    let (may, none) = and_parts (is_some field.default) (n == 0) out in
    let (default, here) = stands field.default may in
    let zero_of : n ≡ 0 = eqb-true n 0 none in
    let empty = empty_values n default inside values is zero_of (no_parts Part n inside are zero_of) (defaults default here) in
    (None, same ∙ rw (writes, out) refl, default_back inner field default values here empty))
    (λ kept. (Some (array made), same ∙ rw writes (ap (λ (o : Option Data). (o, more)) (is_kept (array made) _ kept)), walks))
    (cases_Bool (is_some field.default && (n == 0)))

tables_at_key : (spell : Spelling) (inner : Inner) (write : Write) (Inside : ℕ → List Value → Type 0) (all : AllWalkBack inner write Inside)
    (field : Field) (number : ℕ) (values : List Value) → field.shape ≡ forms.Tables number
    → ((default : Value) → field.default ≡ Some default → default ≡ Value.Count 0) → IsCounted (Inside number) values
    → FieldBack spell inner write field values
tables_at_key spell inner write Inside all field number values shape defaults (n, inside, is, are) more =
    let (made, writes, count, back) = elements_back inner write Inside all number n inside are more in
    array_back spell inner write field (tables_written write number) (Inside number) n inside values more made is are writes defaults
    (λ at positions.
    let (next, walk) = back at positions in
    (next, rw (shape, walk, is, count) refl))
    (rw (shape, is) refl)

values_at_key : (spell : Spelling) (reads : IsReadBack spell) (inner : Inner) (write : Write) (field : Field) (form : Form) (values : List Value)
    → field.shape ≡ forms.Values form → IsSoundForm form → ((default : Value) → field.default ≡ Some default → default ≡ Value.Count 0)
    → IsCounted (IsOne form) values → FieldBack spell inner write field values
values_at_key spell reads inner write field form values shape sound defaults (n, inside, is, are) more =
    let (made, writes, count, back) = singles_back spell reads form sound n inside are more in
    array_back spell inner write field (singles_written spell form) (IsOne form) n inside values more made is are writes defaults
    (λ at positions. (positions, rw (shape, back at positions, is, count) refl))
    (rw (shape, is) refl)

field_back : (spell : Spelling) (reads : IsReadBack spell) (inner : Inner) (write : Write) (Inside : ℕ → List Value → Type 0)
    (all : AllWalkBack inner write Inside)
    (field : Field) (shape : Shape) (values : List Value) → field.shape ≡ shape → FitsField Inside field values → IsSoundShape shape
    → ((default : Value) → field.default ≡ Some default → IsSoundDefault spell shape default) → FieldBack spell inner write field values
field_back spell reads inner write Inside all field (forms.One form) values shape fits sound defaults =
    ⊎_elim
    (λ out. one_left_out spell reads inner write field form out.0 values shape out.1 out.2 sound (defaults out.0 out.1))
    (λ fit. one_written spell reads inner write field form values shape (rw shape at fit) sound)
    fits
field_back spell reads inner write Inside all field (forms.Table number) values shape fits sound defaults =
    ⊎_elim
    (λ out more. (None, rw (shape, out.2, defaults out.0 out.1) refl, default_back inner field out.0 values out.1 out.2))
    (λ fit. table_back spell inner write Inside all field number values shape (rw shape at fit))
    fits
field_back spell reads inner write Inside all field (forms.Tables number) values shape fits sound defaults =
    tables_at_key spell inner write Inside all field number values shape defaults (counted_or (Inside number) field values defaults (rw shape at fits))
field_back spell reads inner write Inside all field (forms.Values form) values shape fits sound defaults =
    values_at_key spell reads inner write field form values shape sound defaults (counted_or (IsOne form) field values defaults (rw shape at fits))

-- a known name isn't an unknown one
differs_from : (fields : List Field) (name known : List ℕ) → is_known fields name ≡ false → is_known fields known ≡ true → bytes_eq name known ≡ false
differs_from fields name known unknown is =
    ⊎_elim
    (λ same.
    let equal : name ≡ known = (bytes_eq-Decides name known).0 same in
    absurd (false≢true (sym unknown ∙ ap (is_known fields) equal ∙ is)))
    (λ other. other)
    (cases_Bool (bytes_eq name known))

-- what is kept of the members that are written for keys, among those that were made before
abbrev MembersOf : Spelling → Inner → Write → List Field → List Value → List Value → Members → Type 0
MembersOf spell inner write fields values more made =
    (entries : Members) × (fields_written spell write fields (values ++ more) made ≡ (entries, more))
    × ((name : List ℕ) → is_known fields name ≡ false → get_member name entries ≡ get_member name made)
    × ((every : List Field) → ((name : List ℕ) → is_known fields name ≡ true → is_known every name ≡ true) → least_unknown every made ≡ None
    → least_unknown every entries ≡ None)
    × ((place : Place) (positions : List ℕ) → ((name : List ℕ) → is_known fields name ≡ true → get_member name made ≡ None)
    → (next : List ℕ) × (at_fields inner place fields entries positions ≡ Ok (values, next)))

fields_back : (spell : Spelling) (reads : IsReadBack spell) (inner : Inner) (write : Write) (Inside : ℕ → List Value → Type 0)
    (all : AllWalkBack inner write Inside)
    (fields : List Field) (values : List Value) → FitsFields Inside fields values → AreSoundFields spell fields → names_differ fields ≡ true
    → (more : List Value) (made : Members) → MembersOf spell inner write fields values more made
unfolding at_fields
fields_back spell reads inner write Inside all [] values is sound differ more made =
    (made, rw is refl, λ name unknown. refl, λ every is_in none. none, λ place positions new. (positions, rw is refl))
fields_back spell reads inner write Inside all (field ∷ fields) values (part, others, is, fits, fit) (shape, defaults, sound) differ more made =
    let (alone, differs) = and_parts (not (is_known fields field.name)) (names_differ fields) differ in
    let away : is_known fields field.name ≡ false = not-true _ alone in
    let own : is_known (field ∷ fields) field.name ≡ true = or_left _ _ (text_itself field.name) in
    let (node, written, walks) = field_back spell reads inner write Inside all field field.shape part refl fits shape defaults (others ++ more) in
    let (entries, writes, only, known, walk) =
    fields_back spell reads inner write Inside all fields others fit sound differs more (with_member field.name node made) in
    let all_of : values ++ more ≡ part ++ (others ++ more) = behind values part others more is in (
      entries,
      rw (all_of, written, writes) refl,
      λ name unknown.
          let (here, there) = or_parts (bytes_eq field.name name) (is_known fields name) unknown in
          only name there ∙ get_other name field.name node made here,
      λ every is_in none.
          known every (λ name there. is_in name (or_right (bytes_eq field.name name) (is_known fields name) there))
          (none_unknown-with every field.name node made (is_in field.name own) none),
      λ place positions new.
          let found : get_member field.name entries ≡ node = only field.name away ∙ get_here field.name node made (new field.name own) in
          let (next, here) = walks (key_at place field.number) positions in
          let (last, there) = walk place next (λ name inside.
          get_other name field.name node made (differs_from fields field.name name away inside)
          ∙ new name (or_right (bytes_eq field.name name) (is_known fields name) inside)) in
          (last, rw (found, here, there, is) refl),
    )

-- the keys of a table of a sound schema
sound_at : (spell : Spelling) (schema : List (List Field)) (number : ℕ) → IsSound spell schema
    → (names_differ (fields_at schema number) ≡ true) × AreSoundFields spell (fields_at schema number)
sound_at spell [] number sound = (refl, tt)
sound_at spell (fields ∷ schema) zero sound = (sound.0, sound.1)
sound_at spell (fields ∷ schema) (suc number) sound = sound_at spell schema number sound.2

tables_back : (spell : Spelling) (reads : IsReadBack spell) (schema : List (List Field)) (sound : IsSound spell schema) (depth : ℕ)
    → AllWalkBack (table_walked schema depth) (written_to spell schema depth) (FitsTable schema depth)
unfolding table_walked
tables_back spell reads schema sound zero number values is more = (no_members, rw is refl, λ index positions. (positions, rw is refl))
tables_back spell reads schema sound (suc depth) number values fits more =
    let (differ, fields) = sound_at spell schema number sound in
    let (entries, written, _, known, walk) = fields_back spell reads (table_walked schema depth) (written_to spell schema depth) (FitsTable schema depth)
    (tables_back spell reads schema sound depth) (fields_at schema number) values fits fields differ more no_members in (
      entries,
      written,
      λ index positions.
          let place : Place = record { table = number; index = index } in
          let (next, walks) = walk place positions (λ name is. refl) in
          (next, rw (known (fields_at schema number) (λ name is. is) refl) walks),
    )

pub written_walked : (spell : Spelling) (schema : List (List Field)) (values : List Value) → IsReadBack spell → IsSound spell schema → Fits schema values
    → walked schema (written spell schema values) ≡ Ok values
written_walked spell schema values reads sound fits =
    let (entries, is, back) = tables_back spell reads schema sound (length schema) 0 values fits [] in
    let (next, walks) = back 0 (replicate (length schema) 0) in
    let made : written spell schema values ≡ entries =
    ap (λ (vs : List Value). (written_to spell schema (length schema) 0 vs).0) (sym (append-nil values))
    ∙ ap (λ (p : Members × List Value). p.0) is in
    rw (made, walks) refl
