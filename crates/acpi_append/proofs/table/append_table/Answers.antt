use Rattle.std.proofs.Common.{◌≡◌, ℕ, ◌+◌, List, ◌++◌, drop, ◌∙◌, ap, arith, subst, sym, append_assoc}
use Rattle.std.proofs.lemmas.Result.{on_ok_weaker}
use Rattle.std.specs.List.{AllByRecursion}
use Rattle.vt_bytes.proofs.Each.{each_append}
use Rattle.vt_layout.specs.declared.row.Row.{Row}
use Rattle.vt_layout.specs.Rows.{size, IsRow}
use Rattle.vt_layout.proofs.Sizes.{size-append}
use Rattle.blob_holes.specs.Rows.{IsUnsummed, AreRows}
use Rattle.blob_holes.specs.declared.part.Part.{Part}
use Rattle.blob_holes.specs.Parts.{part_rows}
use Rattle.blob_holes.proofs.PartRows.{canonical, stand_fit}
use Rattle.acpi_model.specs.Header.{framed}
use Rattle.acpi_append.specs.Tables.{AreRowsPutWith}
use Rattle.acpi_append.proofs.Tables.{sixteen, parts_framed, parts_unsummed, framed_by_sets, framed_fit}
use Rattle.acpi_append.proofs.table.append_table.Goals as goal

pub append_layout-requires-clause-power : goal.append_layout-requires-clause-power
append_layout-requires-clause-power c = sixteen

-- the length and the checksum are over the rows and the parts
total_is : (rows more behind : List Row) (parts : List Part) (n m k : ℕ) → n ≡ size rows → m ≡ size more → k ≡ size (part_rows parts)
    → rows ≡ behind → n + m + k ≡ size behind + size more + size (part_rows parts)
total_is rows more behind parts n m k rows_size more_size parts_size are = omega (arith, rows_size, more_size, parts_size, ap size are)

-- the rows with the header's
framed_rows : (c : goal.After-rows-2)
    → c.rows-2.result.now
    ≡ framed c.args.signature.now (size c.args.rows.now.rows + size c.args.more.now + size (part_rows c.args.parts.now)) c.args.rows.now.rows
framed_rows c =
    let total = total_is c.rows.result.now c.args.more.now c.args.rows.now.rows c.args.parts.now c.size_of.result c.size_of-2.result c.size_of_parts.result
    c.size_of.ensures c.size_of-2.ensures c.size_of_parts.ensures c.rows.ensures.rows in
    c.rows-2.ensures.rows ∙ framed_by_sets c.args.rows.now c.set.new.self c.set-2.new.self c.set-3.new.self c.args.signature.now _ _ _ _ c.set.ensures
    c.set-2.ensures c.set-3.ensures c.of.ensures (c.from.ensures ∙ total) total

pub append_layout-requires-clause-rows : goal.append_layout-requires-clause-rows
append_layout-requires-clause-rows c =
    let rows = c.args.rows.now.rows in
    let more = c.args.more.now in
    let these = c.rows-2.result.now in
    let last = part_rows c.args.parts.now in
    subst AreRows (sym (append_assoc these more last))
    (framed_fit c.args.signature.now rows (more ++ last) these _ c.requires.header (omega (arith, size-append more last)) (framed_rows c)
    (subst (AllByRecursion IsRow) (sym c.rows-2.ensures.rows) c.rows-2.ensures.fit) (each_append IsRow more last c.requires.more c.requires.fit)
    (subst (AllByRecursion IsUnsummed) (append_assoc (drop 9 rows) more last)
    (each_append IsUnsummed (drop 9 rows ++ more) last c.requires.no_sum (parts_unsummed c.args.parts.now))))

pub append_layout-requires-clause-short : goal.append_layout-requires-clause-short
append_layout-requires-clause-short c =
    let more = c.args.more.now in
    let last = part_rows c.args.parts.now in
    let whole = ap (λ rows. size (rows ++ more ++ last)) (framed_rows c)
    ∙ ap size (parts_framed c.args.signature.now c.args.rows.now.rows more last c.args.parts.now c.requires.header (canonical c.args.parts.now)) in
    omega (
      arith,
      whole,
      c.requires.few,
      c.requires.short,
      ap size c.requires.header.are,
      size-append c.requires.header.behind (more ++ last),
      size-append more last,
    )

pub returns-clause-put : goal.returns-clause-put
returns-clause-put c =
    let more = c.args.more.now in
    let these = c.rows-2.result.now in
    let total = total_is c.rows.result.now more c.args.rows.now.rows c.args.parts.now c.size_of.result c.size_of-2.result c.size_of_parts.result
    c.size_of.ensures c.size_of-2.ensures c.size_of_parts.ensures c.rows.ensures.rows in
    let are = c.rows-2.ensures.rows ∙ framed_by_sets c.args.rows.now c.set.new.self c.set-2.new.self c.set-3.new.self c.args.signature.now _ _ _ _
    c.set.ensures c.set-2.ensures c.set-3.ensures c.of.ensures (c.from.ensures ∙ total) total in
    on_ok_weaker c.append_layout.result (λ appended.
    subst (λ rows. AreRowsPutWith c.args.blob.now c.append_layout.new.blob (rows ++ more) c.args.parts.now) are (λ behind stand.
    record {
      fit = each_append IsRow (these ++ more) behind
          (each_append IsRow these more (subst (AllByRecursion IsRow) (sym c.rows-2.ensures.rows) c.rows-2.ensures.fit) c.requires.more)
          (stand_fit c.args.parts.now behind stand c.requires.fit);
      appended = appended behind stand;
    })) c.append_layout.ensures.appended
