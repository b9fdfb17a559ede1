-- Addresses of memory, I/O ports or buses, in numbers of two, four or eight bytes (ACPI 6.5, 6.4.3.5.1 to 6.4.3.5.3).
use Rattle.std.specs.Prelude.{ℕ, List, [], ◌∷◌, ◌++◌}
use Rattle.vt_layout.specs.declared.value.Value.{Value}
use Rattle.vt_layout.specs.Values.{value_at, byte_of, word_of, dword_of, qword_of}
use Rattle.vt_layout.specs.Fields.{Field, byte, word, dword, qword}
use Rattle.resource_items.specs.declared.address_space.WordSpace.{WordSpace}
use Rattle.resource_items.specs.declared.address_space.DwordSpace.{DwordSpace}
use Rattle.resource_items.specs.declared.address_space.QwordSpace.{QwordSpace}

-- What stands in front of the numbers: the item's first byte, how many bytes stand behind its length, the kind, that both ends are fixed
-- (bits 2 and 3 are set), and the flags of the kind.
abbrev pub front_fields : ℕ → ℕ → ℕ → ℕ → List Field
front_fields tag length kind flags = byte tag ∷ word length ∷ byte kind ∷ byte 0x0C ∷ byte flags ∷ []

abbrev pub word_space_fields : WordSpace → List Field
word_space_fields s =
    front_fields 0x88 13 s.kind s.flags
    ++ word s.granularity ∷ word s.first ∷ word s.last ∷ word s.translation ∷ word s.length ∷ []

abbrev pub word_space_made : List Value → WordSpace
word_space_made values = record {
  kind = byte_of (value_at 2 values);
  flags = byte_of (value_at 4 values);
  granularity = word_of (value_at 5 values);
  first = word_of (value_at 6 values);
  last = word_of (value_at 7 values);
  translation = word_of (value_at 8 values);
  length = word_of (value_at 9 values);
}

abbrev pub dword_space_fields : DwordSpace → List Field
dword_space_fields s =
    front_fields 0x87 23 s.kind s.flags
    ++ dword s.granularity ∷ dword s.first ∷ dword s.last ∷ dword s.translation ∷ dword s.length ∷ []

abbrev pub dword_space_made : List Value → DwordSpace
dword_space_made values = record {
  kind = byte_of (value_at 2 values);
  flags = byte_of (value_at 4 values);
  granularity = dword_of (value_at 5 values);
  first = dword_of (value_at 6 values);
  last = dword_of (value_at 7 values);
  translation = dword_of (value_at 8 values);
  length = dword_of (value_at 9 values);
}

abbrev pub qword_space_fields : QwordSpace → List Field
qword_space_fields s =
    front_fields 0x8A 43 s.kind s.flags
    ++ qword s.granularity ∷ qword s.first ∷ qword s.last ∷ qword s.translation ∷ qword s.length ∷ []

abbrev pub qword_space_made : List Value → QwordSpace
qword_space_made values = record {
  kind = byte_of (value_at 2 values);
  flags = byte_of (value_at 4 values);
  granularity = qword_of (value_at 5 values);
  first = qword_of (value_at 6 values);
  last = qword_of (value_at 7 values);
  translation = qword_of (value_at 8 values);
  length = qword_of (value_at 9 values);
}
