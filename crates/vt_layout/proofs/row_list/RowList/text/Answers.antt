use Rattle.std.proofs.Common.{◌≡◌, ◌+◌, ◌-◌, ◌==◌, ◌∷◌, ◌++◌, [], ℕ, List, map, length, if◌then◌else◌, Bor, ap, subst, arith, ◌∙◌}
use Rattle.std.proofs.lemmas.List.{map-append, length-map}
use Rattle.vt_outside.specs.declared.text.Text.{Text as AText}
use Rattle.vt_layout.specs.declared.row.Row.TheVariants.{StringNumber}
use Rattle.vt_layout.specs.declared.record_size.RecordSize.{RecordSize}
use Rattle.vt_layout.specs.Fields.{Gathered, Text, added, number_behind}
use Rattle.vt_layout.proofs.AddedFields.{added_some, added_none, few_strings}
use Rattle.vt_layout.proofs.row_list.RowList.text.Goals as goal

-- what a text's reference points to
now : Bor AText → List ℕ
now text = text.now

pub number_behind-number-requires : goal.number_behind-number-requires
unfolding now
number_behind-number-requires c =
    let list = c.self.inside in
    omega (
      arith,
      few_strings (map now list.texts.items),
      length-map list.texts.items now,
      list.texts.ok.0,
      c.self.invariant.counted,
      c.self.invariant.few,
      c.if-self-gt0.true,
    )

pub returns-then-self-gt0 : goal.returns-then-self-gt0
unfolding now
returns-then-self-gt0 c =
    let list = c.self.inside in
    let texts = map now list.texts.items in
    let names = map now c.add_last-then-self-gt0.new.items.items in
    let rows = c.add_last.new.items.items in
    let size : RecordSize = c.with_text-self-inside.result in
    let after : Gathered = record { room = list.room - 1; size = size; rows = rows; texts = names } in
    let last = ap (map now) c.add_last-then-self-gt0.ensures.items ∙ map-append now list.texts.items (c.args.text ∷ []) in
    let number : c.number_behind-number.result ≡ number_behind texts c.args.text.now =
    c.number_behind-number.ensures ∙ ap (λ count. if length c.args.text.now == 0 then 0 else count + 1) c.self.invariant.counted in
    let row = c.add_last.ensures.items ∙ ap (λ n. list.rows.items ++ StringNumber n ∷ []) number in
    subst (λ before. after ≡ added (Text c.args.text.now) before) c.self.view_is
    (added_some (Text c.args.text.now) list.room list.size size list.rows.items rows texts names c.if-self-gt0.true c.with_text-self-inside.ensures row last)

pub returns-else-self-gt0 : goal.returns-else-self-gt0
unfolding now
returns-else-self-gt0 c =
    let list = c.self.inside in
    let texts = map now list.texts.items in
    let size : RecordSize = c.with_text-self-inside.result in
    let after : Gathered = record { room = list.room; size = size; rows = list.rows.items; texts = texts } in
    subst (λ before. after ≡ added (Text c.args.text.now) before) c.self.view_is
    (added_none (Text c.args.text.now) list.room list.size size list.rows.items texts c.if-self-gt0.false c.with_text-self-inside.ensures)
