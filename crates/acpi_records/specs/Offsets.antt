-- Where rows stand: each behind those in front of it.
use Rattle.std.specs.Prelude.{ℕ, ◌+◌, List, [], ◌∷◌}
use Rattle.vt_layout.specs.declared.row.Row.{Row}
use Rattle.vt_layout.specs.Rows.{width_of}

-- the offset of each row, where the first has this one
abbrev pub offsets_from : ℕ → List Row → List ℕ
offsets_from offset [] = []
offsets_from offset (row ∷ rows) = offset ∷ offsets_from (offset + width_of row) rows

-- the offsets of a header (ACPI 6.5, 5.2.6)
abbrev pub header_offsets : List ℕ → List ℕ
header_offsets more = 0 ∷ 4 ∷ 8 ∷ 9 ∷ 10 ∷ 16 ∷ 24 ∷ 28 ∷ 32 ∷ more

-- those of a register's address that stands at an offset (5.2.3.2)
abbrev pub address_offsets : ℕ → List ℕ → List ℕ
address_offsets offset more = offset ∷ (offset + 1) ∷ (offset + 2) ∷ (offset + 3) ∷ (offset + 4) ∷ more

-- Those of the FADT (5.2.9): of its header, its addresses and ports, the lengths, the flags, and the registers' addresses.
abbrev pub fadt_offsets : List ℕ
fadt_offsets = header_offsets (
    36 ∷ 40 ∷ 44 ∷ 45 ∷ 46 ∷ 48 ∷ 52 ∷ 53 ∷ 54 ∷ 55 ∷ 56 ∷ 60 ∷ 64 ∷ 68 ∷ 72 ∷ 76 ∷ 80 ∷ 84 ∷ 88 ∷ 89 ∷ 90 ∷ 91 ∷ 92 ∷ 93 ∷ 94 ∷ 95
    ∷ 96 ∷ 98 ∷ 100 ∷ 102 ∷ 104 ∷ 105 ∷ 106 ∷ 107 ∷ 108 ∷ 109 ∷ 111 ∷ 112 ∷ address_offsets 116 (128 ∷ 129 ∷ 131 ∷ 132 ∷ 140
    ∷ address_offsets 148 (address_offsets 160 (address_offsets 172 (address_offsets 184 (address_offsets 196 (address_offsets 208
    (address_offsets 220 (address_offsets 232 (address_offsets 244 (address_offsets 256 (268 ∷ []))))))))))))
