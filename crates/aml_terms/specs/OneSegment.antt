-- Paths of one segment: that of the system bus (ACPI 6.5, 5.3.1), and those of names beside the one who asks (20.2.2).
use Rattle.std.specs.Prelude.{ℕ, Bool, false, not, ◌&&◌, ◌==◌, List, [], ◌∷◌, codes}
use Rattle.std.specs.Str.{bytes_eq}
use Rattle.aml_terms.specs.declared.term.Path.{Path}

-- the segments are this one alone
abbrev pub is_alone : List ℕ → List (List ℕ) → Bool
is_alone segment [] = false
is_alone segment (first ∷ []) = bytes_eq first segment
is_alone segment (first ∷ second ∷ more) = false

abbrev pub is_system_bus : Path → Bool
is_system_bus path = path.root && (path.parents == 0) && is_alone (codes "_SB_") path.segments

abbrev pub is_beside : List ℕ → Path → Bool
is_beside segment path = not path.root && (path.parents == 0) && is_alone segment path.segments
