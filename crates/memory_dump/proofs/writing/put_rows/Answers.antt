use Rattle.std.proofs.Common.{arith, ap, length, take, ◌∙◌, ◌+◌}
use borrow.Rule.Slice.PartMut.{same_len_mid}
use Rattle.vt_bytes.proofs.Bytes.{length-bytes_at}
use Rattle.memory_dump.proofs.DumpLines.{length-row_text}
use Rattle.memory_dump.proofs.Rows.{line_at-filled, line_at-written, row_of_frame, text_none, text_same, text_more}
use Rattle.memory_dump.proofs.writing.put_rows.Goals as goal
use Rattle.memory_dump.proofs.writing.put_rows.Goals.{then-not-is_filled_row, else-not-is_filled_row}

pub loop-k-init : goal.loop-k-init
loop-k-init c = record { size = c.told-text; room = omega arith; so_far = text_none _ _ }

pub loop-k-preserved : goal.loop-k-preserved
loop-k-preserved c =
    let m = c.args.memory.now.memory in
    let start = c.args.address in
    let row = row_of_frame m start c.loop-k.k _ c.window-frame.ensures.value c.loop-k-test.true in
    elim c.if-not-is_filled_row.branch [
      | then-not-is_filled_row w ↦
          let written = w.copy_from_slice.ensures.after ∙ w.line.ensures in
          let long = ap length written ∙ length-row_text _ _ (ap length row ∙ length-bytes_at m _ 16) in
          let is_line = line_at-written m start c.loop-k.k _ _ _ _ row c.fill-fill.ensures c.is_filled_row.ensures w.if-not-is_filled_row.true written in
          record {
            size = ap length w.text-is ∙ same_len_mid _ _ _ _ w.copy_from_slice.ensures.len ∙ c.loop-k.invariant.size;
            room = omega (arith, w.len-is, c.loop-k.invariant.room);
            so_far = ap (λ len. take len c.if-not-is_filled_row.text) w.len-is ∙ ap (take (c.loop-k.len + 42)) w.text-is
                ∙ text_more m start c.loop-k.k c.loop-k.len c.loop-k.text _ long (omega (arith, c.loop-k.invariant.room, c.loop-k.invariant.size))
                c.loop-k.invariant.so_far is_line;
          }
      | else-not-is_filled_row w ↦
          let no_line = line_at-filled m start c.loop-k.k _ _ _ row c.fill-fill.ensures c.is_filled_row.ensures w.if-not-is_filled_row.false in
          record {
            size = ap length w.text-is ∙ c.loop-k.invariant.size;
            room = omega (arith, w.len-is, c.loop-k.invariant.room);
            so_far = ap (λ len. take len c.if-not-is_filled_row.text) w.len-is ∙ ap (take c.loop-k.len) w.text-is
                ∙ text_same m start c.loop-k.k _ c.loop-k.invariant.so_far no_line;
          }
    ]
