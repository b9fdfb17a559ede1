-- File names of QEMU's fw_cfg directory, which stand in a field of 56 bytes (QEMU, docs/specs/fw_cfg).
use Rattle.std.specs.Prelude.{◌≡◌, ℕ, ◌-◌, Bool, ◌&&◌, List, ◌++◌, length, replicate, Result, Ok, Err, nat_lt, nat_le, ◌==◌, if◌then◌else◌}
use Rattle.std.specs.List.{before_first, list_all}
use Rattle.vt_outside.specs.declared.name.NameFault.{NameFault}
use Rattle.vt_outside.specs.declared.name.NameFault.TheVariants.{NoNul, EmptyName, BadNameByte}

-- a printable byte of ASCII, 0x20 to 0x7E
abbrev pub is_printable : ℕ → Bool
is_printable byte = nat_le 0x20 byte && nat_le byte 0x7E

-- the name that a text is, or the first of three faults: it leaves no room for a NUL, it is empty, a byte isn't printable
unfoldable pub name_of : List ℕ → Result (List ℕ) NameFault
name_of text =
    if nat_lt 55 (length text) then Err NoNul
    else (if length text == 0 then Err EmptyName else (if list_all is_printable text then Ok text else Err BadNameByte))

-- a name has 1 to 55 bytes, and each is printable
abbrev pub IsName : List ℕ → Type 0
IsName text = name_of text ≡ Ok text

-- what stands before the first NUL, or all where there is none
abbrev pub before_nul : List ℕ → List ℕ
before_nul field = before_first (λ byte. byte == 0) field

-- a name in its field, with zeros after it
abbrev pub in_field : List ℕ → List ℕ
in_field name = name ++ replicate (56 - length name) 0

-- a field holds a name, and zeros after it
pub record IsField (field : List ℕ) : Type 0 where
  pub named : IsName (before_nul field)
  pub padded : in_field (before_nul field) ≡ field
