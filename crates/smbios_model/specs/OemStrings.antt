-- OEM Strings, type 11 (DMTF DSP0134, version 3.0.0, 7.12).
use Rattle.std.specs.Prelude.{ℕ, zero, suc, ◌+◌, List, [], ◌∷◌, length}
use Rattle.vt_layout.specs.declared.row.Row.{Row}
use Rattle.vt_layout.specs.declared.row.Row.TheVariants.{Number}
use Rattle.vt_layout.specs.Rows.{number}
use Rattle.smbios_model.specs.declared.smbios.Body.TheVariants.{OemStrings as OemStringsVariant}
use Rattle.smbios_model.specs.StructureKinds.{StructureKind, StructureLayout}

-- so many numbers from one on
abbrev pub counted_from : ℕ → ℕ → List ℕ
counted_from first zero = []
counted_from first (suc count) = first ∷ counted_from (first + 1) count

-- how many strings there are
abbrev pub oem_rows : List (List ℕ) → List Row
oem_rows texts = Number 1 (length texts) ∷ []

-- its texts are the strings from 1 to their number
abbrev pub oem_strings_kind : StructureKind
oem_strings_kind = record {
  number = 11;
  shape = Number 1 0 ∷ [];
  named = λ rows. counted_from 1 (number 0 rows);
  body = λ rows texts. OemStringsVariant texts;
}

abbrev pub oem_strings_layout : List (List ℕ) → StructureLayout
oem_strings_layout texts = record { kind = oem_strings_kind; rows = oem_rows texts; texts = texts }
