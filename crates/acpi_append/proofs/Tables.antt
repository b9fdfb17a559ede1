-- The rows of tables, which can be appended.
use Rattle.std.proofs.Common.{◌≡◌, ℕ, ◌+◌, ◌<◌, ◌≤◌, true, List, [], ◌++◌, drop, arith, refl, ap, sym, subst, ◌∙◌, codes, append-nil, append_assoc}
use Rattle.std.specs.Int.{is_power_of_two}
use Rattle.std.specs.List.{AllByRecursion}
use lib.Count.{ones}
use Rattle.vt_layout.specs.declared.row.Row.{Row}
use Rattle.vt_layout.specs.declared.row.Row.TheVariants.{Number, Bytes, Sum}
use Rattle.vt_layout.specs.Rows.{size, IsRow}
use Rattle.vt_layout.specs.Fields.{Gathered, field_rows, with_row}
use Rattle.vt_bytes.proofs.Each.{each_append, each_weaker, each_map}
use Rattle.vt_layout.proofs.Sizes.{size-append}
use Rattle.acpi_records.specs.declared.header.Head.{Head}
use Rattle.acpi_model.specs.Header.{head_fields, framed, header_rows, table_rows}
use Rattle.acpi_model.specs.declared.acpi.Table.{Table}
use Rattle.acpi_model.specs.declared.acpi.Table.TheVariants.{Fadt, Madt, Srat, Slit, Mcfg, Hpet}
use Rattle.acpi_model.specs.Kinds.{rows_behind, IsBodyRow}
use Rattle.acpi_model.specs.Acpi.{layout_of, signature_of, rows_of}
use Rattle.acpi_model.specs.Xsdt.{xsdt_rows}
use Rattle.acpi_model.specs.McfgKind.{mcfg_layout}
use Rattle.acpi_model.specs.Found.{dsdt_rows}
use Rattle.blob_holes.specs.declared.part.Part.{Part}
use Rattle.blob_holes.specs.declared.part.Part.TheVariants.{Bytes as BytesPart, Pointer as PointerPart}
use Rattle.blob_holes.specs.Rows.{IsUnsummed, AreRows}
use Rattle.blob_holes.specs.Parts.{StandFor, part_row, part_rows}
use Rattle.blob_holes.proofs.Unsummed.{sums_fit}
use Rattle.blob_holes.proofs.PartRows.{stand_size}
use Rattle.acpi_append.specs.Tables.{BeginWithHeader, front_body, rows_as_bytes, front_rows}

-- 16 is a power of two
pub sixteen : is_power_of_two 16 ≡ true
unfolding ones
sixteen = refl

pub are_table_rows : (signature : List ℕ) (head : Head) (body : List Row) → AllByRecursion IsRow (table_rows signature head body)
    → AllByRecursion IsUnsummed body → AreRows (table_rows signature head body)
are_table_rows signature head body each no_sum =
    let total : ℕ = size (table_rows signature head body) in
    let fits : (0 ≤ 9) × (9 < 36 + size body) × (36 + size body ≤ size (table_rows signature head body)) = (omega arith, omega arith, omega arith) in
    record {
      each = each;
      sums = (tt, (tt, (tt, (fits, (tt, (tt, (tt, (tt, (tt, sums_fit total (36 + size body) 36 body no_sum)))))))));
    }

-- rows that begin with a header's, with the signature, the length and the checksum, begin with that header's rows
pub framed_begin : (signature : List ℕ) (rows more : List Row) (total : ℕ) (begin : BeginWithHeader rows)
    → framed signature total rows ++ more ≡ header_rows signature total begin.head ++ (begin.behind ++ more)
framed_begin signature rows more total begin = ap (λ those. framed signature total those ++ more) begin.are

-- and where the length is that of all rows, they are those of a table
pub framed_are : (signature : List ℕ) (rows more : List Row) (total : ℕ) (begin : BeginWithHeader rows) → total ≡ size rows + size more
    → framed signature total rows ++ more ≡ table_rows signature begin.head (begin.behind ++ more)
framed_are signature rows more total begin total_is =
    let length_is : total ≡ 36 + size (begin.behind ++ more) = omega (arith, total_is, ap size begin.are, size-append begin.behind more) in
    framed_begin signature rows more total begin ∙ ap (λ n. header_rows signature n begin.head ++ (begin.behind ++ more)) length_is

-- so they are with rows behind them that stand for parts
pub parts_framed : (signature : List ℕ) (rows more behind : List Row) (parts : List Part) (begin : BeginWithHeader rows) → StandFor parts behind
    → framed signature (size rows + size more + size (part_rows parts)) rows ++ more ++ behind
    ≡ table_rows signature begin.head (begin.behind ++ (more ++ behind))
parts_framed signature rows more behind parts begin stand =
    let total : ℕ = size rows + size more + size (part_rows parts) in
    let total_is : total ≡ size rows + size (more ++ behind) = omega (arith, stand_size parts behind stand, size-append more behind) in
    append_assoc (framed signature total rows) more behind ∙ framed_are signature rows (more ++ behind) total begin total_is

-- the rows of a list in which they were set one after the other
pub framed_by_sets : (before one two three : Gathered) (signature bytes : List ℕ) (total n m : ℕ) → one ≡ with_row 0 (Bytes 4 bytes) before
    → two ≡ with_row 1 (Number 4 n) one → three ≡ with_row 3 (Sum m) two → bytes ≡ signature → n ≡ total → m ≡ total
    → three.rows ≡ framed signature total before.rows
framed_by_sets before one two three signature bytes total n m first second third its_signature length_is sum_is =
    ap (λ (all : Gathered). all.rows) third ∙ ap (λ all. (with_row 3 (Sum m) all).rows) second
    ∙ ap (λ all. (with_row 3 (Sum m) (with_row 1 (Number 4 n) all)).rows) first
    ∙ ap (λ b. (with_row 3 (Sum m) (with_row 1 (Number 4 n) (with_row 0 (Bytes 4 b) before))).rows) its_signature
    ∙ ap (λ k. (with_row 3 (Sum m) (with_row 1 (Number 4 k) (with_row 0 (Bytes 4 signature) before))).rows) length_is
    ∙ ap (λ k. (with_row 3 (Sum k) (with_row 1 (Number 4 total) (with_row 0 (Bytes 4 signature) before))).rows) sum_is

-- so they can be appended, with others behind them
pub framed_fit : (signature : List ℕ) (rows more these : List Row) (total : ℕ) (begin : BeginWithHeader rows) → total ≡ size rows + size more
    → these ≡ framed signature total rows → AllByRecursion IsRow these → AllByRecursion IsRow more
    → AllByRecursion IsUnsummed (drop 9 rows ++ more) → AreRows (these ++ more)
framed_fit signature rows more these total begin total_is are each fit no_sum =
    let behind : List Row = begin.behind ++ more in
    let whole : these ++ more ≡ table_rows signature begin.head behind = ap (λ r. r ++ more) are ∙ framed_are signature rows more total begin total_is in
    let body : drop 9 rows ++ more ≡ behind = ap (λ r. drop 9 r ++ more) begin.are in
    subst AreRows (sym whole)
    (are_table_rows signature begin.head behind (subst (AllByRecursion IsRow) whole (each_append IsRow these more each fit))
    (subst (AllByRecursion IsUnsummed) body no_sum))

-- behind a header is no sum
unsummed_row : (row : Row) → IsBodyRow row → IsUnsummed row
unsummed_row (Sum covers) is = absurd is
unsummed_row row is = tt

pub body_unsummed : (rows : List Row) → AllByRecursion IsBodyRow rows → AllByRecursion IsUnsummed rows
body_unsummed rows are = each_weaker IsBodyRow IsUnsummed unsummed_row rows are

-- and in parts is none
part_unsummed : (part : Part) → IsUnsummed (part_row part)
part_unsummed (BytesPart bytes) = tt
part_unsummed (PointerPart target offset) = tt

pub parts_unsummed : (parts : List Part) → AllByRecursion IsUnsummed (part_rows parts)
parts_unsummed parts = each_map IsUnsummed part_row part_unsummed parts

-- behind its header a table has the rows that are put as rows, and those that are put as bytes
pub all_rows : (table : Table) → front_body table ++ rows_as_bytes table ≡ rows_behind (layout_of table)
all_rows (Slit t) = refl
all_rows (Mcfg t) = sym (append-nil (mcfg_layout t).body)
all_rows (Fadt t links) = refl
all_rows (Madt t) = refl
all_rows (Srat t) = refl
all_rows (Hpet t) = refl

-- the former begin with those of its header
abbrev pub table_begins : (table : Table) (rows : List Row) → rows ≡ front_rows table → BeginWithHeader rows
table_begins table rows are = record { head = (layout_of table).head; behind = front_body table; are = are }

-- with the latter behind them, which parts stand for, they are all of its rows
pub table_framed : (table : Table) (rows : List Row) (signature : List ℕ) (parts : List Part) → rows ≡ front_rows table
    → signature ≡ signature_of table → StandFor parts (rows_as_bytes table)
    → framed signature (size rows + size [] + size (part_rows parts)) rows ++ [] ++ rows_as_bytes table ≡ rows_of table
table_framed table rows signature parts are its_signature stand =
    let head : Head = (layout_of table).head in
    parts_framed signature rows [] (rows_as_bytes table) parts (table_begins table rows are) stand
    ∙ ap (table_rows signature head) (all_rows table) ∙ ap (λ s. table_rows s head (rows_behind (layout_of table))) its_signature

-- and so do those of an XSDT's header, with its entries behind them
pub xsdt_framed : (head : Head) (rows more entries : List Row) → rows ≡ field_rows (head_fields head) → more ≡ entries
    → framed (codes "XSDT") (size rows + size more + 0) rows ++ more ++ [] ≡ xsdt_rows head entries
xsdt_framed head rows more entries are entries_are =
    parts_framed (codes "XSDT") rows more [] [] (record { head = head; behind = []; are = are }) refl
    ∙ ap (xsdt_rows head) (append-nil more ∙ entries_are)

-- and those of a DSDT's header, with those of its definition block behind them
pub dsdt_framed : (head : Head) (rows block : List Row) (parts : List Part) → rows ≡ field_rows (head_fields head) → StandFor parts block
    → framed (codes "DSDT") (size rows + size [] + size (part_rows parts)) rows ++ [] ++ block ≡ dsdt_rows head block
dsdt_framed head rows block parts are stand =
    parts_framed (codes "DSDT") rows [] block parts (record { head = head; behind = []; are = are }) stand
