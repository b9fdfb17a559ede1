-- What the first byte of a term or a value says (ACPI 6.5, 20.3).
use Rattle.std.specs.Prelude.{ℕ, ◌≤◌, ⊤, ◌==◌, nat_le, if◌then◌else◌}
use Rattle.aml_terms.specs.declared.opcode.Opcode.{Opcode}
use Rattle.aml_terms.specs.declared.opcode.Opcode.TheVariants.{Constant, Integer, Ones, Chars, Buffer, Package, Name, Scope, Extended, Other}

unfoldable pub opcode_of : ℕ → Opcode
opcode_of byte =
    if nat_le byte 0x01 then Constant
    else if byte == 0x0A then Integer 1
    else if byte == 0x0B then Integer 2
    else if byte == 0x0C then Integer 4
    else if byte == 0x0E then Integer 8
    else if byte == 0xFF then Ones
    else if byte == 0x0D then Chars
    else if byte == 0x11 then Buffer
    else if byte == 0x12 then Package
    else if byte == 0x08 then Name
    else if byte == 0x10 then Scope
    else if byte == 0x5B then Extended
    else Other

-- an integer that it announces has at most 8 bytes
abbrev pub IsNarrow : Opcode → Type 0
IsNarrow (Integer width) = width ≤ 8
IsNarrow _ = ⊤
