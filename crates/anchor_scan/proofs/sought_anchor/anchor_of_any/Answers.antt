use Rattle.std.proofs.Common.{ℕ, Some, arith, subst}
use Rattle.vt_bytes.specs.View.{View}
use Rattle.vt_bytes.specs.Memory.{seen}
use Rattle.smbios_model.specs.declared.anchor.AnchorForm.{AnchorForm}
use Rattle.smbios_model.specs.declared.anchor.AnchorForm.TheVariants.{Smbios2, Smbios3}
use Rattle.smbios_model.specs.Anchor.{HasAnchorBy}
use Rattle.table_model.specs.declared.search.AnchorSearch.TheVariants.{One, Any}
use Rattle.table_model.specs.Search.{IsSoughtAnchor}
use Rattle.anchor_scan.specs.declared.sought_anchor.FoundAnchor.{FoundAnchor}
use Rattle.anchor_scan.specs.First.{IsFoundAnchor}
use Rattle.anchor_scan.proofs.FirstOf.{turned, lower_of_two, only_of_two}
use Rattle.anchor_scan.proofs.SoughtForms.{anchor_forms}
use Rattle.anchor_scan.proofs.sought_anchor.anchor_of_any.Goals as goal

abbrev standing : View → AnchorForm → ℕ → Type 0
standing view form place = HasAnchorBy form view place

abbrev form_of : FoundAnchor → AnchorForm
form_of found = found.form

abbrev address_of : FoundAnchor → ℕ
address_of found = found.address

pub returns-in-None-default : goal.returns-in-None-default
returns-in-None-default c =
    let view = seen c.args.memory.now.memory in
    let none = subst (IsFoundAnchor (One Smbios2) view) c.in-None-default.is-0 c.anchor_of_form-old.ensures in
    only_of_two (IsSoughtAnchor Any) (standing view) form_of address_of Smbios3 Smbios2 c.anchor_of_form-new.result
    (turned (IsSoughtAnchor Any) Smbios2 Smbios3 anchor_forms) c.anchor_of_form-new.ensures none

pub returns-in-Some-None : goal.returns-in-Some-None
returns-in-Some-None c =
    let view = seen c.args.memory.now.memory in
    let found = subst (IsFoundAnchor (One Smbios2) view) c.in-Some-None.is-0 c.anchor_of_form-old.ensures in
    let none = subst (IsFoundAnchor (One Smbios3) view) c.in-Some-None.is-1 c.anchor_of_form-new.ensures in
    only_of_two (IsSoughtAnchor Any) (standing view) form_of address_of Smbios2 Smbios3 (Some c.in-Some-None.one) anchor_forms found none

pub returns-in-Some-Some : goal.returns-in-Some-Some
returns-in-Some-Some c =
    let view = seen c.args.memory.now.memory in
    let one = c.in-Some-Some.one in
    let other = c.in-Some-Some.other in
    let is = subst (IsFoundAnchor (One Smbios2) view) c.in-Some-Some.is-0 c.anchor_of_form-old.ensures in
    let also = subst (IsFoundAnchor (One Smbios3) view) c.in-Some-Some.is-1 c.anchor_of_form-new.ensures in
    lower_of_two (IsSoughtAnchor Any) (standing view) Smbios2 Smbios3 one.form other.form one.address other.address anchor_forms is also
    (omega (arith, c.if-one-other.true))

pub returns-in-Some-Some-2 : goal.returns-in-Some-Some-2
returns-in-Some-Some-2 c =
    let view = seen c.args.memory.now.memory in
    let one = c.in-Some-Some.one in
    let other = c.in-Some-Some.other in
    let is = subst (IsFoundAnchor (One Smbios2) view) c.in-Some-Some.is-0 c.anchor_of_form-old.ensures in
    let also = subst (IsFoundAnchor (One Smbios3) view) c.in-Some-Some.is-1 c.anchor_of_form-new.ensures in
    lower_of_two (IsSoughtAnchor Any) (standing view) Smbios3 Smbios2 other.form one.form other.address one.address
    (turned (IsSoughtAnchor Any) Smbios2 Smbios3 anchor_forms) also is (omega (arith, c.if-one-other.false))
