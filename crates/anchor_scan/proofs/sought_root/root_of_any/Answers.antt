use Rattle.std.proofs.Common.{ℕ, Some, arith, subst}
use Rattle.vt_bytes.specs.View.{View}
use Rattle.vt_bytes.specs.Memory.{seen}
use Rattle.acpi_model.specs.declared.form.Form.{Form}
use Rattle.acpi_model.specs.Form.{legacy_form}
use Rattle.acpi_model.specs.Rsdp.{HasRsdpBy}
use Rattle.table_model.specs.declared.search.RootSearch.TheVariants.{One, Any}
use Rattle.table_model.specs.Search.{IsSoughtRoot}
use Rattle.anchor_scan.specs.declared.sought_root.FoundRoot.{FoundRoot}
use Rattle.anchor_scan.specs.First.{IsFoundRoot}
use Rattle.anchor_scan.proofs.FirstOf.{turned, lower_of_two, only_of_two}
use Rattle.anchor_scan.proofs.SoughtForms.{extended_form, root_forms}
use Rattle.anchor_scan.proofs.sought_root.root_of_any.Goals as goal

abbrev standing : View → Form → ℕ → Type 0
standing view form place = HasRsdpBy form view place

abbrev form_of : FoundRoot → Form
form_of found = found.form

abbrev address_of : FoundRoot → ℕ
address_of found = found.address

pub returns-in-None-default : goal.returns-in-None-default
returns-in-None-default c =
    let view = seen c.args.memory.now.memory in
    let none = subst (IsFoundRoot (One legacy_form) view) c.in-None-default.is-0 c.root_of-legacy.ensures in
    only_of_two (IsSoughtRoot Any) (standing view) form_of address_of extended_form legacy_form c.root_of-extended.result
    (turned (IsSoughtRoot Any) legacy_form extended_form root_forms) c.root_of-extended.ensures none

pub returns-in-Some-None : goal.returns-in-Some-None
returns-in-Some-None c =
    let view = seen c.args.memory.now.memory in
    let found = subst (IsFoundRoot (One legacy_form) view) c.in-Some-None.is-0 c.root_of-legacy.ensures in
    let none = subst (IsFoundRoot (One extended_form) view) c.in-Some-None.is-1 c.root_of-extended.ensures in
    only_of_two (IsSoughtRoot Any) (standing view) form_of address_of legacy_form extended_form (Some c.in-Some-None.one) root_forms found none

pub returns-in-Some-Some : goal.returns-in-Some-Some
returns-in-Some-Some c =
    let view = seen c.args.memory.now.memory in
    let one = c.in-Some-Some.one in
    let other = c.in-Some-Some.other in
    let is = subst (IsFoundRoot (One legacy_form) view) c.in-Some-Some.is-0 c.root_of-legacy.ensures in
    let also = subst (IsFoundRoot (One extended_form) view) c.in-Some-Some.is-1 c.root_of-extended.ensures in
    lower_of_two (IsSoughtRoot Any) (standing view) legacy_form extended_form one.form other.form one.address other.address root_forms is also
    (omega (arith, c.if-one-other.true))

pub returns-in-Some-Some-2 : goal.returns-in-Some-Some-2
returns-in-Some-Some-2 c =
    let view = seen c.args.memory.now.memory in
    let one = c.in-Some-Some.one in
    let other = c.in-Some-Some.other in
    let is = subst (IsFoundRoot (One legacy_form) view) c.in-Some-Some.is-0 c.root_of-legacy.ensures in
    let also = subst (IsFoundRoot (One extended_form) view) c.in-Some-Some.is-1 c.root_of-extended.ensures in
    lower_of_two (IsSoughtRoot Any) (standing view) extended_form legacy_form other.form one.form other.address one.address
    (turned (IsSoughtRoot Any) legacy_form extended_form root_forms) also is (omega (arith, c.if-one-other.false))
