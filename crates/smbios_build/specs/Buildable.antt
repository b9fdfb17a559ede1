-- Structures that can be written so that a reader finds the same ones (DMTF DSP0134, version 3.0.0, 6.1.2, 6.1.3).
use Rattle.std.specs.Prelude.{◌≡◌, ◌≢◌, ℕ, ◌^◌, ◌<◌, ◌≤◌, List, [], ◌∷◌, ◌++◌, length, None}
use Rattle.std.specs.List.{AllByRecursion}
use Rattle.vt_layout.specs.declared.row.Row.{Row}
use Rattle.vt_layout.specs.Rows.{IsRow}
use Rattle.smbios_model.specs.declared.smbios.Body.{Body}
use Rattle.smbios_model.specs.declared.smbios.Body.TheVariants.{OemStrings, End, Raw}
use Rattle.smbios_model.specs.declared.smbios.Structure.{Structure}
use Rattle.vt_layout.specs.Strings.{HasNoNul, IsString}
use Rattle.smbios_model.specs.Structures.{kind_for, layout_of}
use Rattle.smbios_build.specs.Spelling.{layout_bytes, structure_bytes}

-- A raw structure: it isn't the end, its length fits a byte, it is of no known kind, none of its strings is empty or holds a NUL, and
-- their numbers fit a byte.
pub record IsRaw (number : ℕ) (area : List ℕ) (strings : List (List ℕ)) : Type 0 where
  pub not_end : number ≢ 127
  pub short : length area ≤ 251
  pub untyped : kind_for number (length area) ≡ None
  pub texts : AllByRecursion IsString strings
  pub few : length strings ≤ 255

-- What can be written: of a known kind, no text holds a NUL. OEM Strings are strings, and their number fits a byte.
abbrev pub IsBuildable : Body → Type 0
IsBuildable (Raw number area strings) = IsRaw number area strings
IsBuildable (OemStrings texts) = AllByRecursion IsString texts × (length texts ≤ 255)
IsBuildable body = AllByRecursion HasNoNul (layout_of body).texts

-- each structure can be written, and the last one is the end, and no other is
abbrev pub AreBuildable : List Structure → Type 0
AreBuildable [] = ⊥
AreBuildable (s ∷ []) = s.body ≡ End
AreBuildable (s ∷ next ∷ others) = (s.body ≢ End) × IsBuildable s.body × AreBuildable (next ∷ others)

-- the numbers of a structure fit their fields, as those of each structure of the program do
pub record HasFittingNumbers (s : Structure) : Type 0 where
  pub handle : s.handle < 2 ^ 16
  pub rows : AllByRecursion IsRow (layout_of s.body).rows

-- The bytes of a structure of a type with these rows, which fit, and texts are put behind others.
pub record IsPutAs (number handle : ℕ) (rows : List Row) (texts : List (List ℕ)) (old new : List ℕ) : Type 0 where
  pub written : new ≡ old ++ layout_bytes number handle rows texts
  pub fits : AllByRecursion IsRow rows

-- The bytes of a structure, whose numbers fit their fields, are put behind others.
pub record IsPut (s : Structure) (old new : List ℕ) : Type 0 where
  pub written : new ≡ old ++ structure_bytes s
  pub fits : HasFittingNumbers s
