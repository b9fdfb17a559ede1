use Rattle.std.proofs.Common.{◌≡◌, ◌-◌, map, Bor, sym, subst, append-nil}
use Rattle.vt_outside.specs.declared.text.Text.{Text}
use Rattle.vt_layout.specs.declared.record_size.RecordSize.{RecordSize}
use Rattle.vt_layout.specs.Fields.{Gathered, Plain, added}
use Rattle.vt_layout.proofs.AddedFields.{added_some, added_none}
use Rattle.vt_layout.proofs.row_list.RowList.row.Goals as goal

pub returns-then-self-gt0 : goal.returns-then-self-gt0
returns-then-self-gt0 c =
    let list = c.self.inside in
    let texts = map (λ (text : Bor Text). text.now) list.texts.items in
    let size : RecordSize = c.with_row-self-inside.result in
    let after : Gathered = record { room = list.room - 1; size = size; rows = c.add_last.new.items.items; texts = texts } in
    subst (λ before. after ≡ added (Plain c.args.row) before) c.self.view_is
    (added_some (Plain c.args.row) list.room list.size size list.rows.items c.add_last.new.items.items texts texts c.if-self-gt0.true
    c.with_row-self-inside.ensures c.add_last.ensures.items (sym (append-nil texts)))

pub returns-else-self-gt0 : goal.returns-else-self-gt0
returns-else-self-gt0 c =
    let list = c.self.inside in
    let texts = map (λ (text : Bor Text). text.now) list.texts.items in
    let size : RecordSize = c.with_row-self-inside.result in
    let after : Gathered = record { room = list.room; size = size; rows = list.rows.items; texts = texts } in
    subst (λ before. after ≡ added (Plain c.args.row) before) c.self.view_is
    (added_none (Plain c.args.row) list.room list.size size list.rows.items texts c.if-self-gt0.false c.with_row-self-inside.ensures)
