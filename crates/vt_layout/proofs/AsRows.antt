-- Bytes alone as rows of a shape.
use Rattle.std.proofs.Common.{◌≡◌, ℕ, ◌≤◌, List, [], ◌∷◌, length, drop, arith, refl}
use Rattle.std.specs.List.{AllByRecursion}
use Rattle.vt_bytes.specs.Parts.{part}
use Rattle.vt_bytes.specs.View.{view_of}
use Rattle.vt_bytes.proofs.Views.{bytes_in-all}
use Rattle.vt_layout.specs.declared.row.Row.{Row}
use Rattle.vt_layout.specs.declared.row.Row.TheVariants.{Number, BigEndian, Bytes, StringNumber}
use Rattle.vt_layout.specs.Rows.{width_of, size, shape_of, shape}
use Rattle.vt_layout.specs.Shown.{LayoutShown}
use Rattle.vt_layout.specs.Reading.{IsReadable, row_in, rows_in}
use Rattle.vt_layout.proofs.InView.{width-row_in, bytes_as_rows}
use Rattle.vt_layout.proofs.Spelled.{holds_alone}

pub bytes_shown : (kinds : List Row) (bytes : List ℕ) → AllByRecursion IsReadable kinds → size kinds ≤ length bytes
    → LayoutShown (view_of bytes) 0 (rows_in kinds bytes)
bytes_shown kinds bytes are within =
    bytes_as_rows (view_of bytes) 0 0 (length bytes) kinds bytes are within (bytes_in-all (view_of bytes) 0 bytes (holds_alone bytes))

pub bytes_sized : (kinds : List Row) (bytes : List ℕ) → size (rows_in kinds bytes) ≡ size kinds
bytes_sized [] bytes = refl
bytes_sized (row ∷ kinds) bytes =
    let first = width-row_in row (part bytes 0 (width_of row)) in
    let others = bytes_sized kinds (drop (width_of row) bytes) in
    omega (arith, first, others)

one_shape : (row : Row) (bytes : List ℕ) → shape_of (row_in row bytes) ≡ shape_of row
one_shape (Number width value) bytes = refl
one_shape (BigEndian width value) bytes = refl
one_shape (Bytes width text) bytes = refl
one_shape (StringNumber number) bytes = refl
one_shape row bytes = refl

pub bytes_shaped : (kinds : List Row) (bytes : List ℕ) → shape (rows_in kinds bytes) ≡ shape kinds
bytes_shaped [] bytes = refl
bytes_shaped (row ∷ kinds) bytes =
    let first = one_shape row (part bytes 0 (width_of row)) in
    let others = bytes_shaped kinds (drop (width_of row) bytes) in
    cc
