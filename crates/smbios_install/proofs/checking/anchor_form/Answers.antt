use Rattle.std.proofs.Common.{◌≡◌, Some, ap, sym, ◌∙◌}
use Rattle.cfg_directory.specs.Items.{named}
use Rattle.cfg_directory.specs.SmbiosNames.{anchor_name}
use Rattle.smbios_install.specs.Forms.{form_of}
use Rattle.smbios_install.proofs.Refusals.{no_anchor, no_tables, empty_tables, formed, form_in_is}
use Rattle.smbios_install.proofs.checking.anchor_form.Goals as goal

pub returns-in_default-clause-err : goal.returns-in_default-clause-err
returns-in_default-clause-err c = no_anchor c.args.items.now (ap (named c.args.items.now) (sym c.anchor_name.ensures) ∙ sym c.in_default.ensures)

pub returns-in_default-find-clause-err : goal.returns-in_default-find-clause-err
returns-in_default-find-clause-err c =
    no_tables c.args.items.now c.in-Some.anchor.now (ap (named c.args.items.now) (sym c.anchor_name.ensures) ∙ sym c.in-Some.ensures)
    (ap (named c.args.items.now) (sym c.structures_name.ensures) ∙ sym c.in_default-find.ensures)

pub returns-then-len-eq0-clause-err : goal.returns-then-len-eq0-clause-err
returns-then-len-eq0-clause-err c =
    empty_tables c.args.items.now c.in-Some.anchor.now c.in-Some-find.structures.now
    (ap (named c.args.items.now) (sym c.anchor_name.ensures) ∙ sym c.in-Some.ensures)
    (ap (named c.args.items.now) (sym c.structures_name.ensures) ∙ sym c.in-Some-find.ensures) (sym c.len.ensures ∙ c.if-len-eq0.true)

pub returns-in-Some-form_of-clause-ok : goal.returns-in-Some-form_of-clause-ok
returns-in-Some-form_of-clause-ok c =
    let there : named c.args.items.now anchor_name ≡ Some c.in-Some.anchor.now =
    ap (named c.args.items.now) (sym c.anchor_name.ensures) ∙ sym c.in-Some.ensures in
    let is : form_of c.in-Some.anchor.now.bytes ≡ Some c.in-Some-form_of.form =
    ap form_of (sym c.as_slice.ensures) ∙ sym c.form_of.ensures ∙ c.in-Some-form_of.is in (
      formed c.args.items.now c.in-Some.anchor.now c.in-Some-find.structures.now (Some c.in-Some-form_of.form) there
          (ap (named c.args.items.now) (sym c.structures_name.ensures) ∙ sym c.in-Some-find.ensures)
          (λ empty. c.if-len-eq0.false (c.len.ensures ∙ empty)) is,
      form_in_is c.args.items.now c.in-Some.anchor.now c.in-Some-form_of.form there is,
    )

pub returns-in-None-clause-err : goal.returns-in-None-clause-err
returns-in-None-clause-err c =
    formed c.args.items.now c.in-Some.anchor.now c.in-Some-find.structures.now _
    (ap (named c.args.items.now) (sym c.anchor_name.ensures) ∙ sym c.in-Some.ensures)
    (ap (named c.args.items.now) (sym c.structures_name.ensures) ∙ sym c.in-Some-find.ensures) (λ empty. c.if-len-eq0.false (c.len.ensures ∙ empty))
    (ap form_of (sym c.as_slice.ensures) ∙ sym c.form_of.ensures ∙ c.in-None.is)
