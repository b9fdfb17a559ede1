use Rattle.std.proofs.Common.{ap, arith, subst, sym, ◌∙◌}
use Rattle.std.specs.List.{AllByRecursion}
use Rattle.vt_layout.specs.Rows.{IsRow, size}
use Rattle.vt_layout.specs.Strings.{numbers_from}
use Rattle.vt_layout.specs.Fields.{field_rows, field_texts}
use Rattle.vt_layout.proofs.NumberedRows.{size-numbered}
use Rattle.smbios_build.proofs.PutStructures.{fields_put}
use Rattle.smbios_build.proofs.structure.put_record.Goals as goal

pub put_rows_and_strings-requires-clause-short : goal.put_rows_and_strings-requires-clause-short
put_rows_and_strings-requires-clause-short g c =
    let fields = g.T.Laid.fields c.args.info.now in
    let same = ap size (c.rows-2.ensures.rows ∙ c.in_ok-rows.ensures.rows) in
    omega (arith, same, size-numbered (numbers_from 1 (field_texts fields)) (field_rows fields), c.requires.short)

pub returns : goal.returns
returns g c =
    let fields = g.T.Laid.fields c.args.info.now in
    fields_put c.args.number c.args.handle fields c.rows-2.result.now _ c.args.bytes.now c.put_rows_and_strings.new.bytes
    c.put_rows_and_strings.result (g.met.T.Laid.lawful c.args.info.now c.args.info.now).readable (c.rows-2.ensures.rows ∙ c.in_ok-rows.ensures.rows)
    (c.texts.ensures ∙ c.in_ok-rows.ensures.texts) (subst (AllByRecursion IsRow) (sym c.rows-2.ensures.rows) c.rows-2.ensures.fit)
    c.put_rows_and_strings.ensures
