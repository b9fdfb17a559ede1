use Rattle.std.proofs.Common.{◌≡◌, List, [], ◌++◌, arith, ap, subst, sym, ◌∙◌, append-nil}
use Rattle.std.proofs.lemmas.Result.{on_ok_weaker}
use Rattle.vt_layout.specs.declared.row.Row.{Row}
use Rattle.vt_layout.specs.Rows.{size}
use Rattle.blob_holes.specs.Blob.{BlobState}
use Rattle.blob_holes.specs.Rows.{with_rows, AreRows}
use Rattle.blob_holes.proofs.HeldRows.{held_where_appended}
use Rattle.blob_holes.proofs.Grew.{size_by_rows, grown_by_rows, linkable_by_rows}
use Rattle.blob_holes.proofs.append.append_rows.Goals as goal

-- a layout of these rows alone
alone : (rows : List Row) → rows ++ [] ++ [] ≡ rows
alone rows = append-nil (rows ++ []) ∙ append-nil rows

file_is : (old new : BlobState) (rows : List Row) → new ≡ with_rows old (rows ++ [] ++ []) → new ≡ with_rows old rows
file_is old new rows is = is ∙ ap (with_rows old) (alone rows)

pub append_all-requires-clause-rows : goal.append_all-requires-clause-rows
append_all-requires-clause-rows c = subst AreRows (sym (alone c.args.rows.now)) c.requires.rows

pub append_all-requires-clause-short : goal.append_all-requires-clause-short
append_all-requires-clause-short c = omega (arith, c.requires.short, ap size (alone c.args.rows.now))

pub returns-clause-file : goal.returns-clause-file
returns-clause-file c = on_ok_weaker c.append_all.result (file_is c.args.blob.now c.append_all.new.blob c.args.rows.now) c.append_all.ensures.file

pub returns-clause-size : goal.returns-clause-size
returns-clause-size c =
    let rows = c.args.rows.now in
    let new = c.append_all.new.blob in
    on_ok_weaker c.append_all.result (λ is. size_by_rows c.args.blob.now new rows c.requires.rows.each (file_is c.args.blob.now new rows is))
    c.append_all.ensures.file

pub returns-clause-grown : goal.returns-clause-grown
returns-clause-grown c =
    let rows = c.args.rows.now in
    let new = c.append_all.new.blob in
    on_ok_weaker c.append_all.result (λ is. grown_by_rows c.args.blob.now new rows (file_is c.args.blob.now new rows is)) c.append_all.ensures.file

pub returns-clause-linkable : goal.returns-clause-linkable
returns-clause-linkable c =
    let rows = c.args.rows.now in
    let new = c.append_all.new.blob in
    on_ok_weaker c.append_all.result
    (λ is. linkable_by_rows c.args.blob.now new rows c.append_all.ensures.blob c.requires.rows (file_is c.args.blob.now new rows is))
    c.append_all.ensures.file

pub returns-clause-held : goal.returns-clause-held
returns-clause-held c =
    let rows = c.args.rows.now in
    let new = c.append_all.new.blob in
    on_ok_weaker c.append_all.result
    (λ is. held_where_appended c.args.blob.now new rows c.append_all.ensures.blob c.requires.rows (file_is c.args.blob.now new rows is))
    c.append_all.ensures.file
