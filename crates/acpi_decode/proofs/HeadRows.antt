-- The rows of a header, and of a shape behind it, that the bytes of a view are.
use Rattle.std.proofs.Common.{◌≡◌, ℕ, ◌+◌, ◌≤◌, List, [], ◌++◌, drop, Some, arith, refl, ap, sym, ◌∙◌}
use Rattle.std.specs.List.{AllByRecursion}
use Rattle.std.specs.Option.{option_map, unwrap_or}
use Rattle.vt_bytes.specs.Numbers.{byte_sum}
use Rattle.vt_bytes.specs.View.{View, bytes_in, number_in}
use Rattle.vt_bytes.proofs.Each.{each_append}
use Rattle.vt_layout.specs.declared.row.Row.{Row}
use Rattle.vt_layout.specs.Rows.{size}
use Rattle.vt_layout.specs.Shown.{LayoutShown}
use Rattle.vt_layout.specs.Reading.{IsReadable}
use Rattle.vt_layout.specs.Values.{values_of}
use Rattle.vt_layout.proofs.InView.{bytes_as_rows}
use Rattle.vt_layout.proofs.AsRows.{bytes_sized}
use Rattle.acpi_records.specs.Header.{head_made, header_rows}
use Rattle.acpi_decode.specs.Seen.{signature_at, total_at}
use Rattle.acpi_decode.specs.Blank.{readable_rows}
use Rattle.acpi_decode.specs.Read.{head_shape, rows_from}

-- they are shown, as any bytes would be
pub rows_shown : (view : View) (address : ℕ) (shape : List Row) (bytes : List ℕ) → AllByRecursion IsReadable shape
    → bytes_in view address (36 + size shape) ≡ Some bytes → LayoutShown view address (rows_from shape bytes)
rows_shown view address shape bytes readable there =
    let within : size (head_shape ++ shape) ≤ 36 + size shape = omega arith in
    bytes_as_rows view address address (36 + size shape) (head_shape ++ shape) bytes
    (each_append IsReadable head_shape shape (readable_rows head_shape refl) readable) within there

-- and as the header of a table that sums to zero, with the shape's rows behind it
pub header_shown : (view : View) (address total : ℕ) (signature : List ℕ) (shape : List Row) (bytes : List ℕ) → AllByRecursion IsReadable shape
    → bytes_in view address (36 + size shape) ≡ Some bytes → signature_at view address ≡ signature → total_at view address ≡ total
    → option_map byte_sum (bytes_in view address total) ≡ Some 0
    → LayoutShown view address (header_rows signature total (head_made (values_of (rows_from shape bytes) [])) ++ drop 9 (rows_from shape bytes))
header_shown view address total signature shape bytes readable there signed told sums =
    let rows = rows_shown view address shape bytes readable there in
    let first : bytes_in view address 4 ≡ Some signature = rows.0 ∙ ap Some (sym (ap (λ o. unwrap_or o []) rows.0) ∙ signed) in
    let second : number_in view (address + 4) 4 ≡ Some total = rows.1.0 ∙ ap Some (sym (ap (λ o. unwrap_or o 0) rows.1.0) ∙ told) in
    (first, (second, (rows.1.1.0, (sums, rows.1.1.1.1))))

-- the shape's rows have as many bytes
pub body_sized : (shape : List Row) (bytes : List ℕ) → size (drop 9 (rows_from shape bytes)) ≡ size shape
body_sized shape bytes = bytes_sized shape _
