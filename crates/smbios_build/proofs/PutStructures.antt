-- The bytes of a structure, part by part.
use Rattle.std.proofs.Common.{◌≡◌, ℕ, ◌+◌, ◌%◌, ◌≤◌, List, [], ◌∷◌, ◌++◌, length, drop, Result, true, arith, ap, sym, ◌∙◌, subst, append_assoc}
use Rattle.std.specs.List.{list_all, AllByRecursion}
use Rattle.std.specs.Result.{OnOk}
use Rattle.std.proofs.lemmas.Result.{on_ok_weaker}
use Rattle.std.proofs.lemmas.Bool.{and_parts}
use Rattle.vt_outside.specs.declared.fault.OutOfMemory.{OutOfMemory}
use Rattle.vt_bytes.specs.Numbers.{le_bytes}
use Rattle.vt_layout.specs.declared.row.Row.{Row}
use Rattle.vt_layout.specs.declared.row.Row.TheVariants.{StringNumber}
use Rattle.vt_layout.specs.Rows.{IsRow, spelled}
use Rattle.vt_layout.specs.Fields.{Field, Plain, Text, field_rows, field_texts, numbered_rows}
use Rattle.vt_layout.specs.Records.{is_readable, are_readable}
use Rattle.vt_layout.proofs.ReadableFields.{all_readable}
use Rattle.vt_layout.proofs.Sizes.{length-spelled}
use Rattle.vt_layout.specs.Rows.{size as size_of_rows}
use Rattle.vt_layout.specs.Strings.{IsString, numbers_from, strings_of, string_set}
use Rattle.vt_layout.specs.Numbered.{numbered}
use Rattle.smbios_model.specs.Smbios.{formatted}
use Rattle.smbios_build.specs.Buildable.{IsPutAs}
use Rattle.smbios_build.proofs.Texts.{strings_of-strings}

-- a header, the rows, and the strings of a set
pub parts_put : (number handle size : ℕ) (rows : List Row) (strings : List (List ℕ)) (old first second new : List ℕ) → AllByRecursion IsRow rows
    → size ≡ size_of_rows rows → first ≡ old ++ number ∷ (4 + size) ∷ le_bytes 2 handle → second ≡ first ++ spelled rows
    → new ≡ second ++ string_set strings → new ≡ old ++ (formatted number handle (spelled rows) ++ string_set strings)
parts_put number handle size rows strings old first second new are size_is first_is second_is new_is =
    let area : List ℕ = spelled rows in
    let header : ℕ → List ℕ = λ n. number ∷ (4 + n) ∷ le_bytes 2 handle in
    let long : size ≡ length (spelled rows) = size_is ∙ sym (length-spelled rows are) in
    new_is
    ∙ ap (λ front. front ++ string_set strings)
    (second_is ∙ ap (λ front. front ++ area) first_is ∙ append_assoc old (header size) area ∙ ap (λ n. old ++ (header n ++ area)) long)
    ∙ append_assoc old (header (length area) ++ area) (string_set strings)

-- rows that fit with the numbers of their strings fit without
fields_fit : (numbers : List ℕ) (fields : List Field) → list_all is_readable fields ≡ true → AllByRecursion IsRow (numbered numbers (field_rows fields))
    → AllByRecursion IsRow (field_rows fields)
fields_fit numbers [] readable are = tt
fields_fit numbers (Text text ∷ fields) readable are =
    (omega arith, fields_fit (drop 1 numbers) fields (and_parts true (list_all is_readable fields) readable).1 are.1)
fields_fit numbers (Plain (StringNumber number) ∷ fields) readable are = absurd (cc readable)
fields_fit numbers (Plain row ∷ fields) readable are =
    (are.0, fields_fit numbers fields (and_parts (is_readable (Plain row)) (list_all is_readable fields) readable).1 are.1)

-- what fields say is put
pub fields_put : (number handle : ℕ) (fields : List Field) (rows : List Row) (texts : List (List ℕ)) (old new : List ℕ)
    (result : Result (Unit {0}) OutOfMemory) → are_readable fields ≡ true → rows ≡ numbered_rows fields → texts ≡ field_texts fields
    → AllByRecursion IsRow rows → OnOk result (new ≡ old ++ (formatted number handle (spelled rows) ++ string_set (strings_of texts)))
    → OnOk result (IsPutAs number handle (field_rows fields) (field_texts fields) old new)
fields_put number handle fields rows texts old new result readable rows_are texts_are fit put =
    on_ok_weaker result
    (λ new_is. record {
      written = new_is ∙ ap (λ all. old ++ (formatted number handle (spelled all) ++ string_set (strings_of texts))) rows_are
          ∙ ap (λ all. old ++ (formatted number handle (spelled (numbered_rows fields)) ++ string_set (strings_of all))) texts_are;
      fits = fields_fit (numbers_from 1 (field_texts fields)) fields (all_readable fields readable) (subst (AllByRecursion IsRow) rows_are fit);
    })
    put

-- an area and strings that aren't empty are put as they are, where they are those of the rows and the texts
pub area_put : (number handle : ℕ) (area bytes : List ℕ) (strings texts : List (List ℕ)) (rows : List Row) (old new : List ℕ)
    (result : Result (Unit {0}) OutOfMemory) → AllByRecursion IsString texts → strings ≡ texts → bytes ≡ area
    → area ≡ spelled (numbered (numbers_from 1 texts) rows) → AllByRecursion IsRow rows
    → OnOk result (new ≡ old ++ formatted number handle bytes ++ string_set strings) → OnOk result (IsPutAs number handle rows texts old new)
area_put number handle area bytes strings texts rows old new result are strings_are bytes_are spelled_is fit put =
    on_ok_weaker result
    (λ new_is. record {
      written = new_is ∙ append_assoc old (formatted number handle bytes) (string_set strings)
          ∙ ap (λ b. old ++ (formatted number handle b ++ string_set strings)) (bytes_are ∙ spelled_is)
          ∙ ap (λ all. old ++ (formatted number handle (spelled (numbered (numbers_from 1 texts) rows)) ++ string_set all))
          (strings_are ∙ sym (strings_of-strings texts are));
      fits = fit;
    })
    put

-- a count is one byte
pub one_byte : (count : ℕ) → count ≤ 255 → count ∷ [] ≡ le_bytes 1 count ++ []
one_byte count few =
    let small : count ≡ count % 256 = omega (arith, few) in
    ap (λ byte. byte ∷ []) small
