-- FADTs: their rows with four pointers among them.
use Rattle.std.proofs.Common.{◌≡◌, ℕ, ◌+◌, ◌<◌, ◌≤◌, cond, None, List, [], take, slice_set, Some, arith, refl, ap, sym, ◌∙◌}
use Rattle.std.specs.List.{AllByRecursion}
use Rattle.std.proofs.lemmas.Bool.{le-leb, lt-leb}
use Rattle.std.proofs.lemmas.List.{take_all}
use Rattle.vt_bytes.proofs.Each.{each_append}
use Rattle.vt_layout.specs.declared.row.Row.{Row}
use Rattle.vt_layout.specs.declared.row.Row.TheVariants.{Number}
use Rattle.vt_layout.specs.Rows.{size, shape, shape_of, linked, linked_row, IsRow}
use Rattle.acpi_records.specs.declared.fadt.Fadt.{Fadt}
use Rattle.acpi_records.specs.Header.{body_rows}
use Rattle.acpi_records.specs.Fadt.{fadt_fields, fadt_made}
use Rattle.acpi_model.specs.declared.link.Link.{Link}
use Rattle.acpi_model.specs.declared.link.FadtLinks.{FadtLinks}
use Rattle.acpi_model.specs.declared.acpi.Table.TheVariants.{Fadt as FadtVariant}
use Rattle.acpi_model.specs.Kinds.{IsBodyRow, rows_behind}
use Rattle.acpi_model.specs.Links.{link_row, linked_link, link_of}
use Rattle.acpi_model.specs.Form.{xsdt_form}
use Rattle.acpi_model.proofs.Fronts.{inside_holds}
use Rattle.acpi_model.specs.FadtKind.{fadt_rows_in, fadt_shape_in, fadt_shape, fadt_counts, fadt_body, fadt_layout, link_rows, linked_links}
use Rattle.acpi_model.specs.Acpi.{IsWritable, linked_table}
use Rattle.acpi_model.proofs.BodyRows.{readable_body, each_set}
use Rattle.acpi_model.proofs.Links.{width-link, is_body, shape-link, link-linked}

-- the shape of the rows behind the header, with these in the places of the pointers'
shape_with : Row → Row → Row → Row → List Row
shape_with a b c d = slice_set (slice_set (slice_set (slice_set (shape (body_rows (fadt_fields (fadt_made [])))) 0 a) 1 b) 46 c) 47 d

-- linked pointers are numbers, as in a FADT that is made of no values
pub shape-fadt : (place_of : List ℕ → ℕ) (t : Fadt) (links : FadtLinks)
    → shape (linked place_of (fadt_body t links)) ≡ shape (body_rows (fadt_fields (fadt_made [])))
unfolding shape_with
shape-fadt place_of t links =
    let linked_shape : ℕ → Link → Row = λ width link. shape_of (linked_row place_of (link_row width link)) in
    ap (λ row. shape_with row (linked_shape 4 links.dsdt) (linked_shape 8 links.x_firmware_ctrl) (linked_shape 8 links.x_dsdt))
    (shape-link place_of 4 links.firmware_ctrl)
    ∙ ap (λ row. shape_with (Number 4 0) row (linked_shape 8 links.x_firmware_ctrl) (linked_shape 8 links.x_dsdt)) (shape-link place_of 4 links.dsdt)
    ∙ ap (λ row. shape_with (Number 4 0) (Number 4 0) row (linked_shape 8 links.x_dsdt)) (shape-link place_of 8 links.x_firmware_ctrl)
    ∙ ap (shape_with (Number 4 0) (Number 4 0) (Number 8 0)) (shape-link place_of 8 links.x_dsdt)

-- an FADT has 240 bytes behind its header
pub size-fadt : (t : Fadt) (links : FadtLinks) → size (rows_behind (fadt_layout t links)) ≡ 240
size-fadt t links =
    omega (arith, width-link 4 links.firmware_ctrl, width-link 4 links.dsdt, width-link 8 links.x_firmware_ctrl, width-link 8 links.x_dsdt)

fadt_rows : (t : Fadt) (links : FadtLinks) → AllByRecursion IsBodyRow (rows_behind (fadt_layout t links))
fadt_rows t links =
    let plain : List Row = body_rows (fadt_fields t) in
    let first : List Row = slice_set plain 0 (link_row 4 links.firmware_ctrl) in
    let second : List Row = slice_set first 1 (link_row 4 links.dsdt) in
    let third : List Row = slice_set second 46 (link_row 8 links.x_firmware_ctrl) in
    each_append IsBodyRow (fadt_body t links) []
    (each_set IsBodyRow third 47 (link_row 8 links.x_dsdt)
    (each_set IsBodyRow second 46 (link_row 8 links.x_firmware_ctrl)
    (each_set IsBodyRow first 1 (link_row 4 links.dsdt)
    (each_set IsBodyRow plain 0 (link_row 4 links.firmware_ctrl) (readable_body (fadt_fields t) refl) (is_body 4 links.firmware_ctrl))
    (is_body 4 links.dsdt)) (is_body 8 links.x_firmware_ctrl)) (is_body 8 links.x_dsdt)) tt

-- It can be written where its pointers fit their rows.
pub fadt_writable : (t : Fadt) (links : FadtLinks) → AllByRecursion IsRow (link_rows links) → IsWritable (FadtVariant t links)
fadt_writable t links lead = record {
  lawful = record {
    shaped = λ place_of view address held. ap (fadt_shape_in xsdt_form) (ap (λ n. 36 + n) (size-fadt t links)) ∙ ap Some (sym (shape-fadt place_of t links));
    typed = λ place_of. refl;
    few = omega (arith, size-fadt t links);
    rows = fadt_rows t links;
  };
  lead = lead;
}

-- the pointers with these links
links_from : Link → Link → Link → Link → FadtLinks
links_from a b c d = record { firmware_ctrl = a; dsdt = b; x_firmware_ctrl = c; x_dsdt = d }

-- once it is placed, its pointers lead to addresses, and it says the same
pub linked-fadt : (place_of : List ℕ → ℕ) (t : Fadt) (links : FadtLinks)
    → linked_table place_of (FadtVariant t links) ≡ FadtVariant t (linked_links place_of links)
unfolding links_from
linked-fadt place_of t links =
    let linked_there : ℕ → Link → Link = λ width link. link_of (linked_row place_of (link_row width link)) in
    let there : Link → Link = linked_link place_of in
    ap (λ link. FadtVariant t (links_from link (linked_there 4 links.dsdt) (linked_there 8 links.x_firmware_ctrl) (linked_there 8 links.x_dsdt)))
    (link-linked place_of 4 links.firmware_ctrl)
    ∙ ap (λ link. FadtVariant t (links_from (there links.firmware_ctrl) link (linked_there 8 links.x_firmware_ctrl) (linked_there 8 links.x_dsdt)))
    (link-linked place_of 4 links.dsdt)
    ∙ ap (λ link. FadtVariant t (links_from (there links.firmware_ctrl) (there links.dsdt) link (linked_there 8 links.x_dsdt)))
    (link-linked place_of 8 links.x_firmware_ctrl)
    ∙ ap (λ link. FadtVariant t (links_from (there links.firmware_ctrl) (there links.dsdt) (there links.x_firmware_ctrl) link))
    (link-linked place_of 8 links.x_dsdt)

-- by today's form an FADT has all its rows, or there is none
pub whole_fadt : (total : ℕ) → 276 ≤ total → fadt_shape_in xsdt_form total ≡ Some fadt_shape
whole_fadt total long =
    let held : 99 ≤ fadt_rows_in total = inside_holds 55 fadt_counts 36 total fadt_shape (omega (arith, long)) in
    ap (λ b. cond b (Some (take (fadt_rows_in total) fadt_shape)) None) (le-leb 276 total long)
    ∙ ap Some (take_all (fadt_rows_in total) fadt_shape (omega (arith, held)))

pub no_short_fadt : (total : ℕ) → total < 276 → fadt_shape_in xsdt_form total ≡ None
no_short_fadt total short = ap (λ b. cond b (Some (take (fadt_rows_in total) fadt_shape)) None) (lt-leb 276 total short)
