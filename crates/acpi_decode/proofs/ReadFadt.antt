-- An FADT as its bytes are read, with zeros behind them.
use Rattle.std.proofs.Common.{◌≡◌, ℕ, ◌+◌, ◌-◌, ◌≤◌, true, List, [], ◌++◌, length, take, drop, replicate, arith, refl, ap, sym}
use Rattle.std.proofs.Common.{subst, ◌∙◌}
use Rattle.std.proofs.Math.Seq.{take-append_seam, drop-append_seam}
use Rattle.std.proofs.lemmas.List.{take-append-drop, length-append, length-replicate, drop-replicate}
use Rattle.vt_bytes.specs.View.{View}
use Rattle.vt_bytes.proofs.Views.{length-bytes_in}
use Rattle.vt_layout.specs.declared.row.Row.{Row}
use Rattle.vt_layout.specs.Rows.{size}
use Rattle.vt_layout.specs.Reading.{rows_in}
use Rattle.vt_layout.specs.Values.{values_of}
use Rattle.vt_layout.specs.Fields.{field_rows, numbered_rows}
use Rattle.vt_layout.proofs.AsRows.{bytes_shown}
use Rattle.vt_layout.proofs.InBytes.{number_read}
use Rattle.acpi_records.specs.declared.fadt.Fadt.{Fadt}
use Rattle.acpi_records.specs.Header.{head_made}
use Rattle.acpi_records.specs.Fadt.{fadt_fields, fadt_made}
use Rattle.acpi_model.specs.declared.link.Link.TheVariants.{Address}
use Rattle.acpi_model.specs.declared.link.FadtLinks.{FadtLinks}
use Rattle.acpi_model.specs.declared.acpi.Table.TheVariants.{Fadt as FadtVariant}
use Rattle.acpi_model.specs.FadtKind.{fadt_shape, fadt_rows_in, fadt_size, fadt_from, filled_in, links_in}
use Rattle.acpi_decode.specs.Blank.{readable_rows}
use Rattle.acpi_decode.specs.Read.{head_shape, rows_from, links_of_rows}
use Rattle.acpi_decode.specs.Seen.{is_ram, bytes_from}
use Rattle.acpi_decode.specs.ShortFadts.{fadt_at, fadt_front}
use Rattle.acpi_decode.proofs.InRam.{ram_bytes, front_ram}
use Rattle.acpi_decode.proofs.RowsRead.{length-rows_in, rows_dropped, rows_both}
use Rattle.acpi_decode.proofs.ShortFadts.{front_short}
use Rattle.acpi_decode.proofs.FadtPointers.{pointers, four_links}

-- the pointers in bytes that are all rows
links_read : (bytes : List ℕ) (fadt : Fadt) → 276 ≤ length bytes
    → links_of_rows (numbered_rows (fadt_fields fadt)) bytes ≡ links_in (drop 9 (rows_from fadt_shape bytes))
unfolding pointers
links_read bytes fadt long =
    let rows = rows_from fadt_shape bytes in
    let shown = bytes_shown (head_shape ++ fadt_shape) bytes (readable_rows (head_shape ++ fadt_shape) refl) (omega (arith, long)) in
    four_links (ap Address (number_read bytes rows 9 4 shown refl)) (ap Address (number_read bytes rows 10 4 shown refl))
    (ap Address (number_read bytes rows 55 8 shown refl)) (ap Address (number_read bytes rows 56 8 shown refl))

-- the record that all rows make
record_in : List Row → Fadt
record_in rows = fadt_from (head_made (values_of rows [])) (drop 9 rows)

record_read : (bytes : List ℕ) → fadt_made (values_of (rows_in (field_rows (fadt_fields (fadt_made []))) bytes) []) ≡ record_in (rows_from fadt_shape bytes)
unfolding record_in
record_read bytes = refl

-- zeros are rows of the shape, whose values are 0
zeros_read : (n : ℕ) → rows_in (drop n fadt_shape) (replicate (240 - size (take n fadt_shape)) 0) ≡ drop n fadt_shape
zeros_read n =
    let all : rows_in fadt_shape (replicate 240 0) ≡ fadt_shape = refl in
    ap (rows_in (drop n fadt_shape)) (sym (drop-replicate (size (take n fadt_shape)) 240 0)) ∙ sym (rows_dropped n fadt_shape (replicate 240 0))
    ∙ ap (drop n) all

-- What is read from the bytes up to the last field inside them, with zeros behind.
pub fadt_filled : (view : View) (address total : ℕ) (fadt : Fadt) (links : FadtLinks) (rows : List Row) → 36 ≤ total → is_ram view address total ≡ true
    → (bytes : List ℕ) → bytes ≡ bytes_from view address (36 + size (fadt_front total)) ++ replicate (276 - (36 + size (fadt_front total))) 0
    → fadt ≡ fadt_made (values_of (rows_in (field_rows (fadt_fields (fadt_made []))) bytes) []) → rows ≡ numbered_rows (fadt_fields fadt)
    → links ≡ links_of_rows rows bytes → FadtVariant (filled_in (36 + size (fadt_front total)) fadt) links ≡ fadt_at view address total
unfolding record_in
fadt_filled view address total fadt links rows long ram bytes bytes_are is rows_are links_are =
    let front : List Row = fadt_front total in
    let n : ℕ = 36 + size front in
    let here : List ℕ = bytes_from view address n in
    let zeros : List ℕ = replicate (276 - n) 0 in
    let left : 276 - n ≡ 240 - size front = omega arith in
    let rest : List Row = drop (fadt_rows_in total) fadt_shape in
    let are : front ++ rest ≡ fadt_shape = take-append-drop (fadt_rows_in total) fadt_shape in
    let short = front_short total long in
    let own : List Row = rows_from front here in
    let counted : length here ≡ n = length-bytes_in view address n here (ram_bytes view address n (front_ram view address total n ram short.0)) in
    let reach : 276 ≤ length bytes =
    subst (λ b. 276 ≤ length b) (sym bytes_are) (omega (arith, length-append here zeros, length-replicate {A = ℕ} (276 - n) 0, counted, short.1)) in
    let body : List Row = drop 9 own in
    let all : List Row = own ++ drop (length body) fadt_shape in
    let behind : rows_in rest zeros ≡ drop (length front) fadt_shape =
    ap (λ k. rows_in rest (replicate k 0)) left ∙ zeros_read (fadt_rows_in total) ∙ sym (drop-append_seam front rest) ∙ ap (drop (length front)) are in
    let split : rows_from fadt_shape bytes ≡ all =
    ap (rows_from fadt_shape) bytes_are ∙ ap (λ s. rows_in (head_shape ++ s) (here ++ zeros)) (sym are)
    ∙ rows_both (head_shape ++ front) rest here zeros (counted ∙ omega arith) ∙ ap (λ more. own ++ more) behind
    ∙ ap (λ k. own ++ drop k fadt_shape) (sym (length-rows_in front _)) in
    let made : fadt ≡ record_in all = is ∙ record_read bytes ∙ ap record_in split in
    let led : links ≡ links_in (drop 9 all) =
    links_are ∙ ap (λ (those : List Row). links_of_rows those bytes) rows_are ∙ links_read bytes fadt reach ∙ ap (λ those. links_in (drop 9 those)) split in
    let sized : n ≡ fadt_size (length body) =
    ap (λ rows. 36 + size rows) (sym (take-append_seam front rest) ∙ ap (take (length front)) are) ∙ ap fadt_size (sym (length-rows_in front _)) in
    ap (λ t. FadtVariant t links) (ap (λ k. filled_in k fadt) sized ∙ ap (filled_in (fadt_size (length body))) made)
    ∙ ap (FadtVariant (filled_in (fadt_size (length body)) (record_in all))) led
