-- The bytes that structures are written as (DMTF DSP0134, version 3.0.0, 6.1.2).
use Rattle.std.specs.Prelude.{ℕ, List, ◌++◌}
use Rattle.std.specs.List.{flat_map}
use Rattle.vt_layout.specs.declared.row.Row.{Row}
use Rattle.vt_layout.specs.Rows.{spelled}
use Rattle.smbios_model.specs.declared.smbios.Structure.{Structure}
use Rattle.vt_layout.specs.Strings.{numbers_from, strings_of, string_set}
use Rattle.vt_layout.specs.Numbered.{numbered}
use Rattle.smbios_model.specs.Structures.{number_of, layout_of}
use Rattle.smbios_model.specs.Smbios.{formatted}

-- a structure of a type with these rows and texts: its texts are numbered in its area in their order, and those that aren't empty follow it
abbrev pub layout_bytes : ℕ → ℕ → List Row → List (List ℕ) → List ℕ
layout_bytes number handle rows texts =
    formatted number handle (spelled (numbered (numbers_from 1 texts) rows)) ++ string_set (strings_of texts)

abbrev pub structure_bytes : Structure → List ℕ
structure_bytes s = layout_bytes (number_of s.body) s.handle (layout_of s.body).rows (layout_of s.body).texts

-- structures, one after the other
abbrev pub structures_bytes : List Structure → List ℕ
structures_bytes structures = flat_map structure_bytes structures
