use Rattle.std.proofs.Common.{◌≡◌, ◌+◌, ◌++◌, length, slice_index, arith, ap, subst, sym, ◌∙◌, append_assoc, length-append}
use Rattle.std.proofs.lemmas.Result.{on_ok_weaker}
use Rattle.std.specs.List.{AllByRecursion}
use Rattle.vt_bytes.proofs.Each.{each_front, each_back}
use Rattle.vt_layout.specs.Rows.{IsRow, size, spelled}
use Rattle.vt_layout.proofs.Sizes.{length-spelled, size-append}
use Rattle.blob_holes.specs.declared.hole.SumHole.{SumHole}
use Rattle.blob_holes.specs.Blob.{FitsSum}
use Rattle.blob_holes.specs.Rows.{with_rows}
use Rattle.blob_holes.specs.Parts.{part_rows}
use Rattle.blob_holes.proofs.InParts.{InParts, in_parts, header_fits, header_zero, header_short, body_fits, body_zero, body_short, with_parts}
use Rattle.blob_holes.proofs.PartRows.{sums_before_parts}
use Rattle.blob_holes.proofs.append.append_all.Goals as goal

pub append_unsummed-requires-clause-rows : goal.append_unsummed-requires-clause-rows
append_unsummed-requires-clause-rows c =
    let header = c.args.header.now in
    let body = c.args.body.now in
    each_front IsRow header body (each_front IsRow (header ++ body) (part_rows c.args.parts.now) c.requires.rows.each)

pub append_unsummed-requires-clause-short : goal.append_unsummed-requires-clause-short
append_unsummed-requires-clause-short c =
    let header = c.args.header.now in
    let body = c.args.body.now in
    omega (arith, c.requires.short, size-append header body, size-append (header ++ body) (part_rows c.args.parts.now))

pub append_body-requires-clause-rows : goal.append_body-requires-clause-rows
append_body-requires-clause-rows c =
    let header = c.args.header.now in
    let body = c.args.body.now in
    let more = part_rows c.args.parts.now in
    each_back IsRow header (body ++ more) (subst (AllByRecursion IsRow) (append_assoc header body more) c.requires.rows.each)

pub append_body-requires-clause-short : goal.append_body-requires-clause-short
append_body-requires-clause-short c =
    let header = c.args.header.now in
    let body = c.args.body.now in
    let more = part_rows c.args.parts.now in
    let are = each_front IsRow header body (each_front IsRow (header ++ body) more c.requires.rows.each) in
    let longer : length c.append_unsummed.new.blob.bytes ≡ length c.args.blob.now.bytes + size header =
    ap (λ b. length b.bytes) c.in_ok-append_unsummed.ensures ∙ length-append c.args.blob.now.bytes (spelled header)
    ∙ ap (λ n. length c.args.blob.now.bytes + n) (length-spelled header are) in
    omega (arith, c.requires.short, size-append header body, size-append (header ++ body) more, size-append body more)

-- the layout in its two parts, once both are appended; and once the first has its sums
parts_for_header : (c : goal.After-add_sums-arg-1)
    → InParts c.args.blob.now c.append_unsummed.new.blob c.append_body.new.blob c.args.header.now (c.args.body.now ++ part_rows c.args.parts.now)
    c.len-start.result c.len-behind.result
parts_for_header c =
    in_parts _ _ _ _ _ _ _ _ c.len-start.ensures.blob c.requires.rows c.requires.short c.in_ok-append_unsummed.ensures c.in_ok-append_body.ensures
    c.len-start.ensures.value c.len-behind.ensures.value

parts_for_body : (c : goal.After-add_sums-arg-2-1)
    → InParts c.args.blob.now c.append_unsummed.new.blob c.append_body.new.blob c.args.header.now (c.args.body.now ++ part_rows c.args.parts.now)
    c.len-start.result c.len-behind.result
parts_for_body c =
    in_parts _ _ _ _ _ _ _ _ c.len-start.ensures.blob c.requires.rows c.requires.short c.in_ok-append_unsummed.ensures c.in_ok-append_body.ensures
    c.len-start.ensures.value c.len-behind.ensures.value

pub add_sums-requires-clause-fit : goal.add_sums-requires-clause-fit
add_sums-requires-clause-fit c = header_fits _ _ _ _ _ _ _ (parts_for_header c)

pub add_sums-requires-clause-zero : goal.add_sums-requires-clause-zero
add_sums-requires-clause-zero c = header_zero _ _ _ _ _ _ _ (parts_for_header c)

pub add_sums-requires-clause-short : goal.add_sums-requires-clause-short
add_sums-requires-clause-short c = header_short _ _ _ _ _ _ _ (parts_for_header c)

pub add_sums-requires-2-clause-fit : goal.add_sums-requires-2-clause-fit
add_sums-requires-2-clause-fit c =
    subst (AllByRecursion (FitsSum c.add_sums.new.blob)) (sums_before_parts c.len-start.result c.len-behind.result c.args.body.now c.args.parts.now)
    (body_fits _ _ _ _ _ _ _ (parts_for_body c) c.add_sums.new.blob c.in_ok-add_sums.ensures)

pub add_sums-requires-2-clause-zero : goal.add_sums-requires-2-clause-zero
add_sums-requires-2-clause-zero c =
    subst (AllByRecursion (λ (hole : SumHole). slice_index c.add_sums.new.blob.bytes hole.at ≡ 0))
    (sums_before_parts c.len-start.result c.len-behind.result c.args.body.now c.args.parts.now)
    (body_zero _ _ _ _ _ _ _ (parts_for_body c) c.add_sums.new.blob c.in_ok-add_sums.ensures)

pub add_sums-requires-2-clause-short : goal.add_sums-requires-2-clause-short
add_sums-requires-2-clause-short c =
    omega (arith, body_short _ _ _ _ _ _ _ (parts_for_body c), size-append c.args.body.now (part_rows c.args.parts.now))

pub returns-clause-file : goal.returns-clause-file
returns-clause-file c =
    let header = c.args.header.now in
    let body = c.args.body.now in
    let more = part_rows c.args.parts.now in
    let third = c.add_sums.new.blob in
    let new = c.add_sums-2.new.blob in
    let both : InParts c.args.blob.now c.append_unsummed.new.blob c.append_body.new.blob header (body ++ more) c.len-start.result c.len-behind.result =
    in_parts _ _ _ _ _ _ _ _ c.len-start.ensures.blob c.requires.rows c.requires.short c.in_ok-append_unsummed.ensures c.in_ok-append_body.ensures
    c.len-start.ensures.value c.len-behind.ensures.value in
    on_ok_weaker c.add_sums-2.result (λ is.
    with_parts _ _ _ _ _ _ _ both third c.in_ok-add_sums.ensures new
    (is ∙ ap (λ sums. record third { sums = third.sums ++ sums }) (sym (sums_before_parts c.len-start.result c.len-behind.result body c.args.parts.now)))
    ∙ ap (with_rows c.args.blob.now) (sym (append_assoc header body more))) c.add_sums-2.ensures
