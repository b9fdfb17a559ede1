-- A table of a known kind that passes its tests stands at its address, where its entries are good.
use Rattle.std.proofs.Common.{◌≡◌, ℕ, ◌+◌, ◌-◌, true, List, [], drop, Some, arith, refl, ap, sym, subst, ◌∙◌}
use Rattle.std.specs.Option.{option_map_or, unwrap_or}
use Rattle.vt_bytes.specs.View.{View, bytes_in}
use Rattle.vt_layout.specs.declared.row.Row.{Row}
use Rattle.vt_layout.specs.Rows.{size}
use Rattle.vt_layout.specs.Entries.{Entry}
use Rattle.vt_layout.specs.Values.{values_of}
use Rattle.vt_layout.proofs.AsRows.{bytes_shaped}
use Rattle.acpi_records.specs.Header.{head_made}
use Rattle.acpi_model.specs.declared.form.Form.{Form}
use Rattle.acpi_model.specs.Kinds.{Kind, TableLayout, IsLayoutAt, EndsWith}
use Rattle.acpi_model.specs.Acpi.{IsAtBy}
use Rattle.acpi_decode.specs.declared.kind.KnownKind.{KnownKind}
use Rattle.acpi_decode.specs.KnownKinds.{kind_of}
use Rattle.acpi_decode.specs.Seen.{bytes_from, signature_at, total_at}
use Rattle.acpi_decode.specs.Tests.{Pass}
use Rattle.acpi_decode.specs.TableTests.{whole_tests}
use Rattle.acpi_decode.specs.KindTests.{shape_at, front_of, has_room}
use Rattle.acpi_decode.specs.Read.{rows_from, table_of_rows, table_at}
use Rattle.acpi_decode.proofs.InRam.{ram_bytes, front_ram}
use Rattle.acpi_decode.proofs.KindsListed.{is_known}
use Rattle.acpi_decode.proofs.KindShapes.{blank_rows}
use Rattle.acpi_decode.proofs.HeadRows.{header_shown, body_sized}
use Rattle.acpi_decode.proofs.Rooms.{HasShape, shape_with_room}
use Rattle.acpi_decode.proofs.Wholes.{whole_summed}

-- the layout of a table of a kind that these rows are
abbrev layout_from : Kind → List Row → List Entry → TableLayout
layout_from kind rows entries = record { kind = kind; head = head_made (values_of rows []); body = drop 9 rows; entries = entries }

-- the table by its shape
pub table_shaped : (kind : Kind) (view : View) (address : ℕ) (rows : List Row) (entries : List Entry) → shape_at kind view address ≡ Some rows
    → table_at kind view address entries ≡ table_of_rows kind (rows_from rows (bytes_from view address (36 + size rows))) entries
table_shaped kind view address rows entries is =
    ap (λ o. table_of_rows kind (rows_from (unwrap_or o []) (bytes_from view address (option_map_or (λ rows. 36 + size rows) o 36))) entries) is

layout_stands : (form : Form) (k : KnownKind) (view : View) (address : ℕ) (rows : List Row) (bytes : List ℕ) (entries : List Entry)
    → signature_at view address ≡ (kind_of form k).signature → HasShape (kind_of form k) view address rows → Pass (whole_tests view address)
    → bytes_in view address (36 + size rows) ≡ Some bytes
    → EndsWith (kind_of form k).types view address (address + front_of (kind_of form k) view address)
    (total_at view address - front_of (kind_of form k) view address) entries
    → IsLayoutAt view address (layout_from (kind_of form k) (rows_from rows bytes) entries)
layout_stands form k view address rows bytes entries signed fit whole there ends =
    let blank = blank_rows form k view address (total_at view address) rows fit.shape in
    let sized = body_sized rows bytes in
    let front : front_of (kind_of form k) view address ≡ 36 + size (drop 9 (rows_from rows bytes)) = fit.front ∙ ap (λ n. 36 + n) (sym sized) in
    record {
      total = total_at view address;
      stands = record {
        long_enough = omega (arith, sized, fit.enough);
        shown = header_shown view address (total_at view address) (kind_of form k).signature rows bytes blank.readable there signed refl
            (whole_summed view address whole);
      };
      shaped = fit.shape ∙ ap Some (sym blank.blank ∙ sym (bytes_shaped rows _));
      ends = subst (λ n. EndsWith (kind_of form k).types view address (address + n) (total_at view address - n) entries) front ends;
    }

pub table_stands : (form : Form) (k : KnownKind) (view : View) (address : ℕ) (entries : List Entry) → signature_at view address ≡ (kind_of form k).signature
    → has_room (kind_of form k) view address ≡ true → Pass (whole_tests view address)
    → EndsWith (kind_of form k).types view address (address + front_of (kind_of form k) view address)
    (total_at view address - front_of (kind_of form k) view address) entries
    → IsAtBy form view address (table_at (kind_of form k) view address entries)
table_stands form k view address entries signed room whole ends =
    let fit = shape_with_room (kind_of form k) view address room in
    let rows = fit.0 in
    let there = ram_bytes view address (36 + size rows) (front_ram view address (total_at view address) (36 + size rows) whole.0 fit.1.enough) in
    record {
      layout = layout_from (kind_of form k) (rows_from rows (bytes_from view address (36 + size rows))) entries;
      known = is_known form k;
      stands = layout_stands form k view address rows (bytes_from view address (36 + size rows)) entries signed fit.1 whole there ends;
      says = table_shaped (kind_of form k) view address rows entries fit.1.shape;
    }
