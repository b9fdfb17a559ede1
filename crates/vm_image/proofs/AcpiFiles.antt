-- The files of a machine's ACPI tables, from the contracts of the calls that append them.
use Rattle.std.proofs.Common.{◌≡◌, ℕ, zero, suc, ◌+◌, ◌*◌, ◌<◌, ◌≤◌, not, ◌==◌, false, List, [], ◌∷◌, ◌++◌, length, get_or, take, map, refl, ap, sym}
use Rattle.std.proofs.Common.{subst, ◌∙◌}
use Rattle.std.proofs.Common.{arith, length-append, cond, Result, Ok, Err, OnOk}
use Rattle.vt_outside.specs.declared.fault.OutOfMemory.{OutOfMemory}
use Rattle.std.proofs.lemmas.List.{take_more}
use Rattle.std.proofs.lemmas.Bool.Decides.{nat_tests}
use Rattle.vt_bytes.specs.View.{View}
use Rattle.vt_layout.specs.Rows.{size}
use Rattle.vt_layout.specs.Shown.{LayoutHeld}
use Rattle.machine_desc.specs.declared.machine.Acpi.{Acpi}
use Rattle.acpi_records.specs.declared.header.Head.{Head}
use Rattle.acpi_model.specs.declared.acpi.Table.{Table}
use Rattle.acpi_model.specs.Header.{head_of, padded}
use Rattle.acpi_model.specs.Xsdt.{IsXsdt, given}
use Rattle.acpi_model.specs.Rsdp.{rsdp_rows}
use Rattle.acpi_model.specs.Acpi.{IsAt, AreAt, rows_of, linked_table}
use Rattle.blob_holes.specs.declared.hole.PointerHole.{PointerHole}
use Rattle.blob_holes.specs.declared.hole.SumHole.{SumHole}
use Rattle.blob_holes.specs.Blob.{BlobState, IsBlob, next_place}
use Rattle.blob_holes.specs.Grown.{IsLinkable}
use Rattle.acpi_model.specs.Kinds.{tables_name}
use Rattle.acpi_append.specs.Tables.{table_pointer, with_table, with_rsdp, IsTablePut, IsXsdtPut, IsRsdpPut}
use Rattle.image_files.specs.Files.{whole}
use Rattle.vm_image.specs.Image.{AcpiImage, with_tables, places_in, xsdt_place, acpi_files}
use Rattle.vm_image.specs.AcpiHeld.{most_bytes, AreAppended, IsTablesFile, IsAcpiImage}
use Rattle.vm_image.proofs.Whole.{whole_linkable}
use Rattle.vm_image.proofs.Grown.{extends_self, extends_twice}

-- the file with one table more
with_tables-more : (file : BlobState) (tables : List Table) (table : Table)
    → with_tables file (tables ++ table ∷ []) ≡ with_table (with_tables file tables) table
with_tables-more file [] table = refl
with_tables-more file (first ∷ tables) table = with_tables-more (with_table file first) tables table

-- the places with that of one table more
places_in-more : (file : BlobState) (tables : List Table) (table : Table)
    → places_in file (tables ++ table ∷ []) ≡ places_in file tables ++ next_place 16 (with_tables file tables) ∷ []
places_in-more file [] table = refl
places_in-more file (first ∷ tables) table = ap (λ places. next_place 16 file ∷ places) (places_in-more (with_table file first) tables table)

-- each table has its place
pub length-places : (file : BlobState) (tables : List Table) → length (places_in file tables) ≡ length tables
length-places file [] = refl
length-places file (table ∷ tables) = omega (arith, length-places (with_table file table) tables)

-- the most bytes with those of one table more
pub most_bytes-more : (tables : List Table) (table : Table) → most_bytes (tables ++ table ∷ []) ≡ most_bytes tables + (24 + size (rows_of table))
most_bytes-more [] table = omega arith
most_bytes-more (first ∷ tables) table = let rest = most_bytes-more tables table in omega arith

-- one more table stands at one more address
stand_more : (view : View) (addresses : List ℕ) (tables : List Table) (address : ℕ) (table : Table) → AreAt view addresses tables
    → IsAt view address table → AreAt view (addresses ++ address ∷ []) (tables ++ table ∷ [])
stand_more view [] [] address table stand is = (is, tt)
stand_more view [] (first ∷ tables) address table stand is = absurd stand
stand_more view (first ∷ addresses) [] address table stand is = absurd stand
stand_more view (first ∷ addresses) (one ∷ tables) address table stand is = (stand.0, stand_more view addresses tables address table stand.1 is)

-- the image of a list with one more element
pub map_more : {A B : Type 0} (f : A → B) (xs : List A) (x : A) → map f (xs ++ x ∷ []) ≡ map f xs ++ f x ∷ []
map_more f [] x = refl
map_more f (y ∷ xs) x = ap (λ ys. f y ∷ ys) (map_more f xs x)

-- none was appended yet
pub none_appended : (begin : BlobState) → IsLinkable begin → AreAppended begin [] [] begin
none_appended begin linkable = record {
  file_is = refl;
  places_are = refl;
  grown = extends_self begin;
  linkable = linkable;
  few = omega arith;
  stand = λ later view address place_of grown held. tt;
}

-- one more was appended
pub one_more_appended : (begin : BlobState) (tables : List Table) (places : List ℕ) (old new : BlobState) (table : Table) (place : ℕ)
    → AreAppended begin tables places old → place ≡ next_place 16 old → IsTablePut old new table
    → AreAppended begin (tables ++ table ∷ []) (places ++ place ∷ []) new
one_more_appended begin tables places old new table place before place_is one =
    let next : next_place 16 old ≡ next_place 16 (with_tables begin tables) = ap (next_place 16) before.file_is in
    let near : next_place 16 old ≤ length old.bytes + 16 = omega arith in
    record {
      file_is = one.appended.file_is ∙ ap (λ b. with_table b table) before.file_is ∙ sym (with_tables-more begin tables table);
      places_are = ap (λ those. those ++ place ∷ []) before.places_are ∙ ap (λ p. places_in begin tables ++ p ∷ []) (place_is ∙ next)
          ∙ sym (places_in-more begin tables table);
      grown = extends_twice begin old new before.grown one.appended.grown;
      linkable = one.appended.linkable before.linkable;
      few = omega (arith, before.few, one.appended.size_is, near, most_bytes-more tables table, length-append places (place ∷ []));
      stand = λ later view address place_of grown held.
          let there = before.stand later view address place_of (extends_twice old new later one.appended.grown grown) held in
          let here = subst (λ p. IsAt view (address + p) (linked_table place_of table)) (sym place_is) (one.shown later view address place_of grown held) in
          subst (λ addresses. AreAt view addresses (map (linked_table place_of) (tables ++ table ∷ []))) (sym (map_more (λ p. address + p) places place))
          (subst (AreAt view (map (λ p. address + p) places ++ (address + place) ∷ [])) (sym (map_more (linked_table place_of) tables table))
          (stand_more view (map (λ p. address + p) places) (map (linked_table place_of) tables) (address + place) (linked_table place_of table) there here));
    }

-- no address of a table is zero
all_given : (address : ℕ) (places : List ℕ) → 0 < address → given (map (λ place. place + address) places) ≡ map (λ place. address + place) places
all_given address [] above = refl
all_given address (place ∷ places) above =
    let some : (place + address == 0) ≡ false = grind (arith, nat_tests) in
    let turned : place + address ≡ address + place = omega arith in
    ap (λ zero_place. cond (not zero_place) ((place + address) ∷ given (map (λ p. p + address) places)) (given (map (λ p. p + address) places))) some
    ∙ ap (λ p. p ∷ given (map (λ q. q + address) places)) turned ∙ ap (λ ps. (address + place) ∷ ps) (all_given address places above)

-- the XSDT behind its tables names them
pub tables_named : (begin : BlobState) (tables : List Table) (places : List ℕ) (old new : BlobState) (head : Head)
    → AreAppended begin tables places old → length new.bytes ≡ next_place 16 old + (36 + 8 * length places) → IsXsdtPut old new head places
    → IsTablesFile begin head tables new
tables_named begin tables places old new head before size_is xsdt =
    let near : next_place 16 old ≤ length old.bytes + 16 = omega arith in
    record {
      grown = extends_twice begin old new before.grown xsdt.appended.grown;
      linkable = xsdt.appended.linkable before.linkable;
      some = omega (arith, size_is);
      few = omega (arith, before.few, size_is, near);
      behind = omega (arith, size_is, ap (next_place 16) before.file_is);
      held = λ view address place_of held there above.
          let place : address + next_place 16 old ≡ xsdt_place begin tables + address =
          ap (λ b. address + next_place 16 b) before.file_is ∙ omega arith in
          let named : given (map (λ p. p + place_of tables_name) places) ≡ map (λ p. address + p) places =
          ap (λ a. given (map (λ p. p + a) places)) there ∙ all_given address places above in
          record {
            addresses = map (λ p. address + p) places;
            listed = subst (λ a. IsXsdt view a head (map (λ p. address + p) places)) place
                (subst (IsXsdt view (address + next_place 16 old) head) named (xsdt.shown new view address place_of (extends_self new) held));
            stand = before.stand new view address place_of xsdt.appended.grown held;
          };
    }

-- a file of these parts
abbrev blob_with : List ℕ → List PointerHole → List SumHole → BlobState
blob_with bytes pointers sums = record { bytes = bytes; pointers = pointers; sums = sums }

-- a file is its parts
pub file_from : (blob : BlobState) (bytes : List ℕ) (pointers : List PointerHole) (sums : List SumHole) → bytes ≡ blob.bytes
    → pointers ≡ blob.pointers → sums ≡ blob.sums → ◌≡◌ {A = BlobState} (record { bytes = bytes; pointers = pointers; sums = sums }) blob
file_from blob bytes pointers sums its_bytes its_pointers its_sums =
    ap (λ (b : List ℕ). blob_with b pointers sums) its_bytes ∙ ap (λ (p : List PointerHole). blob_with blob.bytes p sums) its_pointers
    ∙ ap (λ (s : List SumHole). blob_with blob.bytes blob.pointers s) its_sums

-- both files are those of the tables, and all is known of them
pub image_known : (acpi : Acpi) (begin : BlobState) (tables : List Table) (empty rsdp file : BlobState) (xsdt : ℕ)
    → xsdt ≡ xsdt_place begin tables → empty ≡ whole [] → IsRsdpPut empty rsdp (padded 6 acpi.oem_id) xsdt → IsBlob rsdp → IsBlob file
    → IsTablesFile begin (head_of acpi 1) tables file → IsAcpiImage acpi begin tables (record { rsdp = rsdp; tables = file })
image_known acpi begin tables empty rsdp file xsdt place empty_is put rsdp_blob tables_blob known =
    let first : next_place 16 empty ≡ 0 = ap (next_place 16) empty_is in
    record {
      tables_file = known;
      tables_blob = tables_blob;
      rsdp_blob = rsdp_blob;
      rsdp_linkable = put.appended.linkable (subst IsLinkable (sym empty_is) (whole_linkable []));
      rsdp_size = put.appended.size_is ∙ ap (λ n. n + 36) first;
      rsdp_held = λ view address place_of holds.
          let here : address + next_place 16 empty ≡ address = omega arith in
          subst (λ x. LayoutHeld view place_of address (rsdp_rows (padded 6 acpi.oem_id) (table_pointer x))) place
          (subst (λ a. LayoutHeld view place_of a (rsdp_rows (padded 6 acpi.oem_id) (table_pointer xsdt))) here
          (put.appended.held rsdp view address place_of (extends_self rsdp) holds));
    }

-- the two files together
abbrev pub image_with : BlobState → BlobState → AcpiImage
image_with rsdp tables = record { rsdp = rsdp; tables = tables }

-- they are the files of the maker's tables
pub files_are : (acpi : Acpi) (begin : BlobState) (tables : List Table) (empty rsdp file : BlobState) (xsdt : ℕ)
    → xsdt ≡ xsdt_place begin tables → empty ≡ whole [] → IsRsdpPut empty rsdp (padded 6 acpi.oem_id) xsdt
    → file ≡ (acpi_files acpi begin tables).tables → image_with rsdp file ≡ acpi_files acpi begin tables
files_are acpi begin tables empty rsdp file xsdt place empty_is put file_is =
    let its_rsdp : rsdp ≡ (acpi_files acpi begin tables).rsdp =
    put.appended.file_is ∙ ap (λ b. with_rsdp b (padded 6 acpi.oem_id) xsdt) empty_is ∙ ap (with_rsdp (whole []) (padded 6 acpi.oem_id)) place in
    ap (λ b. image_with b file) its_rsdp ∙ ap (image_with (acpi_files acpi begin tables).rsdp) file_is

-- the first tables have no more bytes than all
pub most_bytes-take : (tables : List Table) (k : ℕ) → most_bytes (take k tables) ≤ most_bytes tables
most_bytes-take [] zero = omega arith
most_bytes-take [] (suc k) = omega arith
most_bytes-take (table ∷ tables) zero = omega arith
most_bytes-take (table ∷ tables) (suc k) = let rest = most_bytes-take tables k in omega arith

-- the same of the answer of the call that appends it
pub xsdt_appended : (r : Result ℕ OutOfMemory) (begin : BlobState) (tables : List Table) (places seen : List ℕ) (old new : BlobState) (head : Head)
    → seen ≡ places → AreAppended begin tables places old → OnOk r (length new.bytes ≡ next_place 16 old + (36 + 8 * length seen))
    → OnOk r (IsXsdtPut old new head seen) → OnOk r (IsTablesFile begin head tables new)
xsdt_appended (Err fault) begin tables places seen old new head same before size_is put = tt
xsdt_appended (Ok place) begin tables places seen old new head same before size_is put =
    tables_named begin tables seen old new head (subst (λ those. AreAppended begin tables those old) (sym same) before) size_is put

-- one more of a list of tables was appended
pub next_appended : (begin : BlobState) (tables : List Table) (k : ℕ) (other : Table) (places after : List ℕ) (old new : BlobState) (place : ℕ)
    → k < length tables → AreAppended begin (take k tables) places old → after ≡ places ++ place ∷ [] → place ≡ next_place 16 old
    → IsTablePut old new (get_or tables k other) → AreAppended begin (take (k + 1) tables) after new
next_appended begin tables k other places after old new place within before after_is place_is put =
    subst (λ some. AreAppended begin some after new) (sym (take_more tables k other within))
    (subst (λ those. AreAppended begin (take k tables ++ get_or tables k other ∷ []) those new) (sym after_is)
    (one_more_appended begin (take k tables) places old new (get_or tables k other) place before place_is put))
