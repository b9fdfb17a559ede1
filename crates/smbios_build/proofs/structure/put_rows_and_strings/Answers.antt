use Rattle.std.proofs.Common.{◌++◌, map, Bor, ap, ◌∙◌}
use Rattle.std.proofs.lemmas.Result.{on_ok_weaker}
use Rattle.vt_outside.specs.declared.text.Text.{Text}
use Rattle.vt_layout.specs.Strings.{string_set, strings_of}
use Rattle.smbios_build.proofs.PutStructures.{parts_put}
use Rattle.smbios_build.proofs.structure.put_rows_and_strings.Goals as goal

pub returns : goal.returns
returns c =
    on_ok_weaker c.put_after.result
    (λ new. parts_put c.args.number c.args.handle c.size_of.result c.args.rows.now (strings_of (map (λ (text : Bor Text). text.now) c.args.texts.now))
    c.args.bytes.now c.put_header.new.bytes c.put_rows.new.bytes c.put_after.new.bytes c.requires.fit c.size_of.ensures c.in_ok-put_header.ensures
    c.in_ok-put_rows.ensures (new ∙ ap (λ all. c.put_rows.new.bytes ++ string_set all) c.in_ok-set.ensures))
    c.put_after.ensures
