-- The rows of a machine's definition block, and the parts that they stand for.
use Rattle.std.proofs.Common.{◌≡◌, ℕ, ◌≤◌, List, [], ◌∷◌, ◌++◌, length, Some, is_some, cond, refl, ap, sym, ◌∙◌, arith, append-nil, length-append}
use Rattle.vt_bytes.specs.Numbers.{le_bytes}
use Rattle.vt_layout.specs.declared.row.Row.{Row}
use Rattle.vt_layout.specs.declared.row.Row.TheVariants.{Bytes, Pointer}
use Rattle.vt_layout.specs.Rows.{spelled}
use Rattle.machine_desc.specs.declared.machine.Machine.{Machine}
use Rattle.dsdt_terms.specs.Dsdt.{generation_file, id_offset, dsdt_bytes, front_bytes, dsdt_body}
use Rattle.dsdt_terms.proofs.WrittenId.{body_spelled}
use Rattle.blob_holes.specs.Plain.{Spells, bytes_row}

-- bytes are spelled by the one row of them
pub row_spells : (bytes : List ℕ) → Spells (bytes_row bytes ∷ []) bytes
row_spells bytes = record { plain = (tt, tt); fit = (refl, tt); written = append-nil bytes }

-- the rows without an id, and with one
abbrev pub alone : Machine → List Row
alone m = bytes_row (dsdt_bytes m) ∷ []

abbrev pub leading : Machine → List Row
leading m = bytes_row (front_bytes m) ∷ Pointer 4 generation_file id_offset ∷ Bytes 1 (0 ∷ []) ∷ []

pub body_leading : (m : Machine) (id : ℕ) → m.generation ≡ Some id → dsdt_body m ≡ leading m
body_leading m id some = ap (λ o. cond (is_some o) (leading m) (alone m)) some

-- with an id the block has at least the bytes of its address
pub address_fits : (m : Machine) (id : ℕ) → m.generation ≡ Some id → 5 ≤ length (dsdt_bytes m)
address_fits m id some =
    let whole : length (front_bytes m ++ (le_bytes 4 id_offset ++ 0 ∷ [])) ≡ length (dsdt_bytes m) =
    ap length (ap spelled (sym (body_leading m id some)) ∙ body_spelled m) in
    omega (arith, whole, length-append (front_bytes m) (le_bytes 4 id_offset ++ 0 ∷ []))
