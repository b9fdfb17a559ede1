-- Kinds of SMBIOS structures, each told by its type and by the length of its area (DMTF DSP0134, version 3.0.0, 6.1.2).
use Rattle.std.specs.Prelude.{ℕ, List}
use Rattle.vt_layout.specs.declared.row.Row.{Row}
use Rattle.vt_layout.specs.declared.value.Value.{Value}
use Rattle.vt_layout.specs.Rows.{shape, string_numbers}
use Rattle.vt_layout.specs.Values.{values_of}
use Rattle.vt_layout.specs.Fields.{Field, field_rows, field_texts}
use Rattle.vt_layout.specs.Records.{kinds_of}
use Rattle.smbios_model.specs.declared.smbios.Body.{Body}

-- A kind of structures: its type, the shape of the rows of its area, the numbers of strings that rows name, and the body of rows and
-- texts.
pub record StructureKind : Type 0 where
  pub number : ℕ
  pub shape : List Row
  pub named : List Row → List ℕ
  pub body : List Row → List (List ℕ) → Body

-- a structure: its kind, the rows of its area with 0 for each number of a string, and its texts
pub record StructureLayout : Type 0 where
  pub kind : StructureKind
  pub rows : List Row
  pub texts : List (List ℕ)

-- the kind of a type whose structures are these records: its shape is that of each
abbrev pub kind_with : {Info : Type 0} → ℕ → (Info → List Field) → (List Value → Info) → (Info → Body) → StructureKind
kind_with number fields made body_of = record {
  number = number;
  shape = shape (kinds_of fields made);
  named = string_numbers;
  body = λ rows texts. body_of (made (values_of rows texts));
}

-- a structure of a kind that says these fields
abbrev pub layout_with : StructureKind → List Field → StructureLayout
layout_with kind fields = record { kind = kind; rows = field_rows fields; texts = field_texts fields }
