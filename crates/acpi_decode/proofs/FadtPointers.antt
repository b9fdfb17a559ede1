-- The pointers of an FADT as its bytes tell them: each is the number there, or 0 where it doesn't lie inside the bytes.
use Rattle.std.proofs.Common.{◌≡◌, ℕ, suc, ◌+◌, ◌-◌, ◌<◌, ◌≤◌, min, cond, nat_le, List, ◌++◌, length, take, drop, get_or, Some, inl, inr, arith, refl}
use Rattle.std.proofs.Common.{ap, sym, ◌∙◌}
use Rattle.std.proofs.lemmas.Bool.{leb-true, leb-false, cases_Bool, cases_lt}
use Rattle.std.proofs.lemmas.List.{get_or_append_left, get_or-drop, get_or-take, take-take, length-take}
use Rattle.std.proofs.Math.Seq.{get_or-append_right}
use Rattle.vt_bytes.specs.Numbers.{le}
use Rattle.vt_bytes.specs.Parts.{part}
use Rattle.vt_bytes.specs.View.{View, bytes_in}
use Rattle.vt_layout.specs.declared.row.Row.{Row}
use Rattle.vt_layout.specs.declared.row.Row.TheVariants.{Number, Reserved}
use Rattle.vt_layout.specs.Rows.{size, width_of}
use Rattle.vt_layout.specs.Reading.{row_at, place_of_row, row_in}
use Rattle.acpi_model.specs.declared.link.Link.{Link}
use Rattle.acpi_model.specs.declared.link.Link.TheVariants.{Address}
use Rattle.acpi_model.specs.declared.link.FadtLinks.{FadtLinks}
use Rattle.acpi_model.specs.Links.{link_of}
use Rattle.acpi_model.specs.FadtKind.{fadt_shape, fadt_counts, fadt_rows_in, fadt_size, all_rows, link_at}
use Rattle.acpi_model.proofs.Fronts.{all_of, size-fewer, inside_within, inside_holds}
use Rattle.acpi_decode.specs.Seen.{number_at, total_at}
use Rattle.acpi_decode.specs.KindTests.{number_inside}
use Rattle.acpi_decode.specs.Read.{head_shape, rows_from}
use Rattle.acpi_decode.specs.ShortFadts.{fadt_front}
use Rattle.acpi_decode.proofs.ReadBytes.{number_found}
use Rattle.acpi_decode.proofs.RowsRead.{length-rows_in, row_read}

-- the pointers with these links
unfoldable pub pointers : Link → Link → Link → Link → FadtLinks
pointers a b c d = record { firmware_ctrl = a; dsdt = b; x_firmware_ctrl = c; x_dsdt = d }

-- where the links are the same, so are the pointers
pub four_links : {a b c d e f g h : Link} → a ≡ e → b ≡ f → c ≡ g → d ≡ h → pointers a b c d ≡ pointers e f g h
four_links facs dsdt x_facs x_dsdt = cc

-- a row behind the header is what the bytes at its place are
body_read : (shape : List Row) (bytes : List ℕ) (k : ℕ)
    → row_at k (drop 9 (rows_from shape bytes)) ≡ row_in (row_at k shape) (part bytes (36 + place_of_row k shape) (width_of (row_at k shape)))
body_read shape bytes k =
    let behind : ℕ = suc (suc (suc (suc (suc (suc (suc (suc (suc k)))))))) in
    let place : place_of_row behind (head_shape ++ shape) ≡ 36 + place_of_row k shape = omega arith in
    row_read (head_shape ++ shape) bytes behind ∙ ap (λ n. row_in (row_at k shape) (part bytes n (width_of (row_at k shape)))) place

-- A pointer is the row of a number with which the first so many fields end.
pub pointer_told : (view : View) (address : ℕ) (fields place width : ℕ) → all_of (take fields fadt_counts) ≡ place + 1 → place < 99
    → row_at place fadt_shape ≡ Number width 0 → fadt_size (place + 1) ≡ fadt_size place + width → 36 ≤ total_at view address
    → (bytes : List ℕ) → bytes_in view address (36 + size (fadt_front (total_at view address))) ≡ Some bytes
    → link_at place (all_rows (drop 9 (rows_from (fadt_front (total_at view address)) bytes))) ≡ Address (number_inside view address (fadt_size place) width)
pointer_told view address fields place width reach below is end long bytes there =
    let total : ℕ = total_at view address in
    let front : List Row = fadt_front total in
    let body : List Row = drop 9 (rows_from front bytes) in
    let rest : List Row = drop (length body) fadt_shape in
    let count : ℕ = fadt_rows_in total in
    let counted : length body ≡ min count 99 = length-rows_in front _ ∙ length-take count fadt_shape in
    elim (cases_Bool (nat_le (fadt_size place + width) total)) [
      | inl inside ↦
          let within = leb-true (fadt_size place + width) total inside in
          let held : place + 1 ≤ count =
          omega (arith, reach, inside_holds fields fadt_counts 36 total fadt_shape (omega (arith, ap (λ n. size (take n fadt_shape)) reach, end, within))) in
          ap link_of
          (get_or_append_left body rest (Reserved 0) place (omega (arith, held, below, counted)) ∙ body_read front bytes place
          ∙ ap (λ r. row_in r (part bytes (36 + size (take place front)) (width_of r)))
          (get_or-take count fadt_shape place (Reserved 0) (omega (arith, held)) ∙ is)
          ∙ ap (λ rows. Number width (le (part bytes (36 + size rows) width))) (take-take place count fadt_shape (omega (arith, held))))
          ∙ ap Address
          (number_found view address (36 + size front) bytes (fadt_size place) width (le (part bytes (fadt_size place) width)) there
          (omega (arith, size-fewer (place + 1) count fadt_shape held, end)) refl
          ∙ sym (ap (λ b. cond b (number_at view (address + fadt_size place) width) 0) inside))
      | inr outside ↦
          let short = leb-false (fadt_size place + width) total outside in
          let past : count ≤ place = elim (cases_lt place count) [
            | inl held ↦ absurd (omega (
              arith,
              size-fewer (place + 1) count fadt_shape (omega (arith, held)),
              end,
              short,
              inside_within fadt_counts 36 total fadt_shape long,
            ))
            | inr past ↦ past
          ] in
          let whole : length body + (place - length body) ≡ place = omega (arith, past, counted) in
          ap link_of
          (get_or-append_right body rest place (Reserved 0) (omega (arith, past, counted))
          ∙ get_or-drop (length body) fadt_shape (place - length body) (Reserved 0) ∙ ap (λ k. get_or fadt_shape k (Reserved 0)) whole ∙ is)
          ∙ ap Address (sym (ap (λ b. cond b (number_at view (address + fadt_size place) width) 0) outside))
    ]
