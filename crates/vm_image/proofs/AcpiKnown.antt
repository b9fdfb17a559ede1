-- The files of an accepted machine's ACPI tables, by the definitions alone: all is known of them that the calls say that make them.
use Rattle.std.proofs.Common.{◌≡◌, ℕ, ◌+◌, ◌^◌, ◌<◌, ◌≤◌, inr, List, [], ◌∷◌, ◌++◌, length, map, codes, Option, Some, None, arith, rules, refl, ap}
use Rattle.std.proofs.Common.{sym, subst, ◌∙◌, append-nil, append_assoc}
use Rattle.std.specs.List.{AllByRecursion}
use Rattle.vt_bytes.proofs.Each.{each_append}
use Rattle.vt_layout.specs.declared.row.Row.{Row}
use Rattle.vt_layout.specs.Rows.{size, IsRow}
use Rattle.vt_layout.proofs.NumberRows.{size-pointers}
use Rattle.machine_desc.specs.declared.machine.Machine.{Machine}
use Rattle.machine_desc.specs.declared.machine.Acpi.{Acpi}
use Rattle.machine_desc.specs.Rules.{IsAccepted}
use Rattle.machine_desc.specs.Fields.{HasFittingFields}
use Rattle.acpi_records.specs.declared.header.Head.{Head}
use Rattle.acpi_model.specs.declared.acpi.Table.{Table}
use Rattle.acpi_model.specs.Header.{FitsHead, head_of, padded}
use Rattle.acpi_model.specs.Xsdt.{most_entries, xsdt_rows}
use Rattle.acpi_model.specs.Rsdp.{rsdp_rows}
use Rattle.acpi_model.specs.Acpi.{rows_of, CanBePut, tables_of}
use Rattle.acpi_model.proofs.Headers.{length-padded, head_fits}
use Rattle.acpi_model.proofs.MachineTables.{machine_can}
use Rattle.acpi_model.proofs.AcceptedAcpi.{accepted_fits}
use Rattle.blob_holes.specs.Blob.{BlobState, IsBlob, next_place}
use Rattle.blob_holes.specs.Rows.{AreRows}
use Rattle.blob_holes.proofs.RowsKept.{layout_kept}
use Rattle.acpi_model.specs.Kinds.{tables_name}
use Rattle.acpi_append.specs.Tables.{table_pointer, with_table, with_xsdt, with_rsdp, IsRsdpPut}
use Rattle.acpi_append.proofs.FileTables.{table_fits, put_fits, table_appended, xsdt_appended, rsdp_appended, pointers_unsummed}
use Rattle.image_files.specs.Files.{whole}
use Rattle.vm_image.specs.Image.{with_tables, xsdt_place, acpi_files, tables_begin}
use Rattle.vm_image.specs.AcpiHeld.{most_bytes, tables_limit, AreFew, AreAppended, IsTablesFile, IsAcpiImage, AreAcpiKnown}
use Rattle.vm_image.proofs.Whole.{whole_kept}
use Rattle.vm_image.proofs.AcpiFiles.{length-places, most_bytes-more, map_more, none_appended, one_more_appended, tables_named, image_known, files_are}
use Rattle.vm_image.proofs.Begin.{MayBegin, may_begin}
use Rattle.vm_image.proofs.Few.{tables_few}
use Rattle.vm_image.proofs.RsdpShown.{rsdp_fits}

-- tables were put into a file, which is a file with holes still, and pointers to their places fit
record ArePut (begin : BlobState) (tables : List Table) (places : List ℕ) (file : BlobState) : Type 0 where
  appended : AreAppended begin tables places file
  blob : IsBlob file
  pointers : AllByRecursion IsRow (map table_pointer places)

-- one more table
one_more_put : (begin : BlobState) (tables : List Table) (places : List ℕ) (file : BlobState) (table : Table) → ArePut begin tables places file
    → CanBePut table → length begin.bytes + most_bytes (tables ++ table ∷ []) ≤ tables_limit
    → ArePut begin (tables ++ table ∷ []) (places ++ next_place 16 file ∷ []) (with_table file table)
one_more_put begin tables places file table put can few =
    let before = put.appended in
    let near : next_place 16 file ≤ length file.bytes + 16 = omega arith in
    let short : next_place 16 file + size (rows_of table) < 2 ^ 32 = omega (arith, before.few, near, few, most_bytes-more tables table) in
    record {
      appended = one_more_appended begin tables places file (with_table file table) table (next_place 16 file) before refl
          (table_appended file put.blob table can.writable (put_fits table can) short);
      blob = layout_kept 16 file (rows_of table) put.blob (put_fits table can) short;
      pointers = subst (AllByRecursion IsRow) (sym (map_more table_pointer places (next_place 16 file)))
          (each_append IsRow (map table_pointer places) (table_pointer (next_place 16 file) ∷ []) put.pointers
          ((inr (inr (inr refl)), omega (arith, before.few, near, few, most_bytes-more tables table)), tt));
    }

-- the most bytes of some tables are no more than those of more
most_bytes-front : (tables more : List Table) → most_bytes tables ≤ most_bytes (tables ++ more)
most_bytes-front [] more = omega arith
most_bytes-front (table ∷ tables) more = omega (arith, most_bytes-front tables more)

-- and all others
all_put : (begin : BlobState) (tables more : List Table) (places : List ℕ) (file : BlobState) → ArePut begin tables places file
    → AllByRecursion CanBePut more → length begin.bytes + most_bytes (tables ++ more) ≤ tables_limit
    → (those : List ℕ) × (other : BlobState) × ArePut begin (tables ++ more) those other
all_put begin tables [] places file put can few =
    (places, file, subst (λ all. ArePut begin all places file) (sym (append-nil tables)) put)
all_put begin tables (table ∷ more) places file put can few =
    let split : (tables ++ table ∷ []) ++ more ≡ tables ++ table ∷ more = append_assoc tables (table ∷ []) more in
    let all : length begin.bytes + most_bytes ((tables ++ table ∷ []) ++ more) ≤ tables_limit =
    subst (λ those. length begin.bytes + most_bytes those ≤ tables_limit) (sym split) few in
    let once = one_more_put begin tables places file table put can.0 (omega (arith, all, most_bytes-front (tables ++ table ∷ []) more)) in
    let rest = all_put begin (tables ++ table ∷ []) more (places ++ next_place 16 file ∷ []) (with_table file table) once can.1 all in
    (rest.0, rest.1, subst (λ those. ArePut begin those rest.0 rest.1) split rest.2)

-- none was put there yet
none_put : (generation : Option ℕ) (begin : BlobState) → MayBegin generation begin → ArePut begin [] [] begin
none_put generation begin may = record { appended = none_appended begin may.linkable; blob = may.blob; pointers = tt }

-- all is known of the files of tables that can be put there
known_image : (generation : Option ℕ) (acpi : Acpi) (begin : BlobState) (tables : List Table) → FitsHead acpi → MayBegin generation begin
    → AllByRecursion CanBePut tables
    → AreFew begin tables → IsAcpiImage acpi begin tables (acpi_files acpi begin tables)
known_image generation acpi begin tables fits may can are_few =
    let few = are_few.bytes in
    let all = all_put begin [] tables [] begin (none_put generation begin may) can few in
    let places : List ℕ = all.0 in
    let file : BlobState = all.1 in
    let put : ArePut begin tables places file = all.2 in
    let appended = put.appended in
    let head : Head = head_of acpi 1 in
    let rows : List Row = xsdt_rows head (map table_pointer places) in
    let sizes = size-pointers 8 tables_name places in
    let near : next_place 16 file ≤ length file.bytes + 16 = omega arith in
    let are : AreRows rows = table_fits (codes "XSDT") head (map table_pointer places) refl (omega (arith, sizes, appended.few, few))
    (head_fits acpi 1 fits (omega arith)) put.pointers (pointers_unsummed places) in
    let short : next_place 16 file + size rows < 2 ^ 32 = omega (arith, sizes, near, appended.few, few) in
    let number : length places ≤ most_entries =
    omega (arith, ap length appended.places_are, length-places begin tables, are_few.number) in
    let xsdt = xsdt_appended file put.blob head places number are short in
    let last : BlobState = with_xsdt file head places in
    let tables_file : IsTablesFile begin head tables last =
    tables_named begin tables places file last head appended (omega (arith, xsdt.appended.size_is, sizes)) xsdt in
    let last_is : last ≡ (acpi_files acpi begin tables).tables =
    ap (λ b. with_xsdt b head places) appended.file_is ∙ ap (with_xsdt (with_tables begin tables) head) appended.places_are in
    let oem_id : List ℕ = padded 6 acpi.oem_id in
    let place : next_place 16 file ≡ xsdt_place begin tables = ap (next_place 16) appended.file_is in
    let rsdp_are : AreRows (rsdp_rows oem_id (table_pointer (xsdt_place begin tables))) = record {
      each = rsdp_fits oem_id (xsdt_place begin tables) (length-padded 6 acpi.oem_id fits.oem_id) (omega (arith, place, near, appended.few, few));
      sums = search rules;
    } in
    let empty : IsBlob (whole []) = whole_kept [] (omega arith) in
    let first : BlobState = with_rsdp (whole []) oem_id (xsdt_place begin tables) in
    let rsdp : IsRsdpPut (whole []) first oem_id (xsdt_place begin tables) =
    rsdp_appended (whole []) empty oem_id (xsdt_place begin tables) rsdp_are (omega arith) in
    subst (IsAcpiImage acpi begin tables) (files_are acpi begin tables (whole []) first last (xsdt_place begin tables) refl refl rsdp last_is)
    (image_known acpi begin tables (whole []) first last (xsdt_place begin tables) refl refl rsdp
    (layout_kept 16 (whole []) (rsdp_rows oem_id (table_pointer (xsdt_place begin tables))) empty rsdp_are (omega arith))
    (layout_kept 16 file rows put.blob are short) tables_file)

-- and all is known of the files of an accepted machine's tables
pub acpi_known : (m : Machine) (maker : Option Acpi) → IsAccepted m → HasFittingFields m → m.acpi ≡ maker → AreAcpiKnown m maker
acpi_known m None accepted fit is = tt
acpi_known m (Some acpi) accepted fit is =
    let fits : FitsHead acpi = accepted_fits m acpi accepted is in
    known_image m.generation acpi (tables_begin m acpi) (tables_of m acpi) fits (may_begin m acpi accepted fits) (machine_can m acpi fits fit accepted)
    (tables_few m acpi accepted fits)
