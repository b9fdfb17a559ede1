use Rattle.std.proofs.Common.{◌≡◌, ◌+◌, length, arith, ap, ◌∙◌, length-append}
use Rattle.std.proofs.lemmas.Result.{on_ok_weaker}
use Rattle.vt_bytes.proofs.Each.{each_front, each_back}
use Rattle.vt_layout.specs.Rows.{IsRow, size, spelled}
use Rattle.vt_layout.proofs.Sizes.{length-spelled, size-append}
use Rattle.blob_holes.specs.Parts.{part_rows}
use Rattle.blob_holes.proofs.Appended.{unsummed-append}
use Rattle.blob_holes.proofs.append.append_body.Goals as goal

pub append_unsummed-requires-clause-rows : goal.append_unsummed-requires-clause-rows
append_unsummed-requires-clause-rows c = each_front IsRow c.args.rows.now (part_rows c.args.parts.now) c.requires.rows

pub append_unsummed-requires-clause-short : goal.append_unsummed-requires-clause-short
append_unsummed-requires-clause-short c = omega (arith, c.requires.short, size-append c.args.rows.now (part_rows c.args.parts.now))

pub append_parts-requires-clause-rows : goal.append_parts-requires-clause-rows
append_parts-requires-clause-rows c = each_back IsRow c.args.rows.now (part_rows c.args.parts.now) c.requires.rows

pub append_parts-requires-clause-short : goal.append_parts-requires-clause-short
append_parts-requires-clause-short c =
    let rows = c.args.rows.now in
    let more = part_rows c.args.parts.now in
    let longer : length c.append_unsummed.new.blob.bytes ≡ length c.args.blob.now.bytes + size rows =
    ap (λ b. length b.bytes) c.in_ok-append_unsummed.ensures ∙ length-append c.args.blob.now.bytes (spelled rows)
    ∙ ap (λ n. length c.args.blob.now.bytes + n) (length-spelled rows (each_front IsRow rows more c.requires.rows)) in
    omega (arith, c.requires.short, size-append rows more)

pub returns : goal.returns
returns c =
    let rows = c.args.rows.now in
    let more = part_rows c.args.parts.now in
    on_ok_weaker c.append_parts.result
    (unsummed-append c.args.blob.now c.append_unsummed.new.blob c.append_parts.new.blob rows more (each_front IsRow rows more c.requires.rows)
    c.in_ok-append_unsummed.ensures) c.append_parts.ensures
