-- How many bytes an integer has.
use Rattle.std.specs.Prelude.{◌≤◌, ⊤}
use Rattle.aml_terms.specs.declared.opcode.Opcode.{Opcode}
use Rattle.aml_terms.specs.declared.opcode.Opcode.TheVariants.{Integer}

-- an integer that is announced has 1 to 8 bytes
abbrev pub IsWide : Opcode → Type 0
IsWide (Integer width) = (1 ≤ width) × (width ≤ 8)
IsWide _ = ⊤
