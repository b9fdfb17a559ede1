use Rattle.std.proofs.Common.{[], ap, arith, ◌∙◌}
use Rattle.vt_layout.specs.declared.record_size.RecordSize.{RecordSize}
use Rattle.vt_layout.specs.Strings.{numbers_from}
use Rattle.vt_layout.specs.Fields.{Gathered, field_rows, field_texts, all_added}
use Rattle.vt_layout.proofs.FieldSizes.{length-numbered, area_counted, strings_counted}
use Rattle.vt_layout.proofs.laid.record_size_of.Goals as goal

-- nothing is gathered, and there is no room
none : Gathered
none = record { room = 0; size = record { area = 0; strings = 0 }; rows = []; texts = [] }

pub returns-clause-area : goal.returns-clause-area
unfolding none
returns-clause-area g c =
    let fields = g.T.Laid.fields c.args.laid.now in
    let all = c.put.ensures ∙ ap (all_added fields) c.without_room-rows.ensures in
    omega (
      arith,
      ap (λ (size : RecordSize). size.area) c.size.ensures,
      ap (λ (all : Gathered). all.size.area) all,
      area_counted fields none (omega arith),
      length-numbered (numbers_from 1 (field_texts fields)) (field_rows fields),
    )

pub returns-clause-strings : goal.returns-clause-strings
unfolding none
returns-clause-strings g c =
    let fields = g.T.Laid.fields c.args.laid.now in
    let all = c.put.ensures ∙ ap (all_added fields) c.without_room-rows.ensures in
    omega (
      arith,
      ap (λ (size : RecordSize). size.strings) c.size.ensures,
      ap (λ (all : Gathered). all.size.strings) all,
      strings_counted fields none (omega arith),
    )
