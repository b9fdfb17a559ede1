-- What an accepted machine's structures say can be written, and is small.
use Rattle.std.proofs.Common.{◌≡◌, ℕ, ◌≤◌, true, List, [], ◌∷◌, length, arith, ap}
use Rattle.std.specs.List.{list_all, AllByRecursion}
use Rattle.std.proofs.lemmas.Bool.{and_parts, eqb-true}
use Rattle.vt_layout.specs.declared.row.Row.{Row}
use Rattle.vt_layout.specs.declared.row.Row.TheVariants.{Bytes, Named}
use Rattle.vt_layout.specs.Rows.{size, spelled}
use Rattle.machine_desc.specs.Rules.{is_text, is_some_text}
use Rattle.smbios_model.specs.declared.smbios.Body.{Body}
use Rattle.smbios_model.specs.declared.smbios.Body.TheVariants.{OemStrings, Raw}
use Rattle.vt_layout.specs.Strings.{HasNoNul, IsString, numbers_from, strings_of}
use Rattle.vt_layout.specs.Numbered.{numbered}
use Rattle.smbios_model.specs.StructureKinds.{StructureKind}
use Rattle.smbios_model.specs.Structures.{layout_of, number_of}
use Rattle.smbios_model.proofs.LawfulBodies.{is_filled, room, most_bytes, IsLawfulBody}
use Rattle.vt_layout.proofs.NamedTexts.{each_string}
use Rattle.smbios_build.specs.Spelling.{layout_bytes}
use Rattle.smbios_build.specs.Buildable.{IsBuildable}
use Rattle.smbios_build.proofs.FilledRows.{IsFilled, length-area}
use Rattle.smbios_build.proofs.Counted.{length-structure, length-string_set}
use Rattle.smbios_build.proofs.AcceptedTexts.{each_no_nul, length-with_nuls}

-- texts that aren't empty and hold no NUL are strings
some_string : (text : List ℕ) → is_some_text text ≡ true → HasNoNul text → IsString text
some_string [] some none = absurd (cc)
some_string (byte ∷ text) some none = (omega arith, none)

some_strings : (texts : List (List ℕ)) → list_all is_some_text texts ≡ true → AllByRecursion HasNoNul texts → AllByRecursion IsString texts
some_strings [] some none = tt
some_strings (text ∷ texts) some none =
    let parts = and_parts (is_some_text text) (list_all is_some_text texts) some in
    (some_string text parts.0 none.0, some_strings texts parts.1 none.1)

-- OEM Strings are few since they are small
pub can_be_built : (kind : StructureKind) (body : Body) → IsLawfulBody kind body → IsBuildable body
can_be_built kind (Raw number area strings) is = absurd is.strings
can_be_built kind (OemStrings texts) is =
    (some_strings texts is.strings (each_no_nul texts is.texts), omega (arith, is.small, ap most_bytes is.typed))
can_be_built kind body is = each_no_nul (layout_of body).texts is.texts

-- rows that pass the test are filled
filled_row : (row : Row) → is_filled row ≡ true → IsFilled row
unfolding is_filled
filled_row (Bytes width bytes) is = eqb-true (length bytes) width is
filled_row (Named name) is = absurd (cc)
filled_row row is = tt

filled_rows : (rows : List Row) → list_all is_filled rows ≡ true → AllByRecursion IsFilled rows
filled_rows [] are = tt
filled_rows (row ∷ rows) are =
    let parts = and_parts (is_filled row) (list_all is_filled rows) are in
    (filled_row row parts.0, filled_rows rows parts.1)

-- the header of a structure, its area, and its strings
has_room : (number handle : ℕ) (rows : List Row) (texts : List (List ℕ)) → AllByRecursion IsFilled rows → list_all is_text texts ≡ true
    → length (layout_bytes number handle rows texts) ≤ room (size rows) (length texts)
has_room number handle rows texts filled lawful =
    omega (
      arith,
      length-structure number handle (spelled (numbered (numbers_from 1 texts) rows)) (strings_of texts),
      length-area (numbers_from 1 texts) rows filled,
      length-string_set (strings_of texts) (each_string texts (each_no_nul texts lawful)),
      length-with_nuls texts lawful,
    )

-- as many bytes as its kind lets it have
pub is_small : (kind : StructureKind) (body : Body) (handle : ℕ) → IsLawfulBody kind body
    → length (layout_bytes (number_of body) handle (layout_of body).rows (layout_of body).texts) ≤ most_bytes kind
is_small kind body handle is =
    omega (
      arith,
      has_room (number_of body) handle (layout_of body).rows (layout_of body).texts (filled_rows (layout_of body).rows is.filled) is.texts,
      is.small,
    )
