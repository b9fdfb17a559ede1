use Rattle.std.proofs.Common.{inl, inr, ⊎_elim, sym, subst}
use Rattle.std.proofs.lemmas.Result.{err_from_is_err_and}
use Rattle.vt_bytes.specs.View.{View}
use Rattle.vt_bytes.specs.Memory.{seen}
use Rattle.acpi_model.specs.Rsdp.{HasRsdpBy}
use Rattle.acpi_model.specs.Acpi.{LeadsToAcpiBy}
use Rattle.acpi_decode.specs.Faults.{FirstBy}
use Rattle.anchor_scan.specs.First.{IsFoundRoot}
use Rattle.anchor_scan.proofs.SeenWithin.{all_within}
use Rattle.anchor_scan.proofs.acpi.scan_acpi.Goals as goal

pub returns-in_default-clause-shown : goal.returns-in_default-clause-shown
returns-in_default-clause-shown c = subst (IsFoundRoot c.args.search (seen c.args.memory.now.memory)) c.in_default.is c.first_root.ensures

pub walk_from-requires : goal.walk_from-requires
walk_from-requires c =
    let same = all_within c.args.memory.now.memory c.top-top.ensures.lawful in
    subst (λ (view : View). HasRsdpBy c.in-Some.root.form view c.in-Some.root.address) (sym same) c.in-Some.ensures.stands

pub returns-in_err-walk_from-clause-refused : goal.returns-in_err-walk_from-clause-refused
returns-in_err-walk_from-clause-refused c =
    let p = err_from_is_err_and c.from_residual.result c.from_residual.ensures.1 in
    let same = all_within c.args.memory.now.memory c.top-top.ensures.lawful in
    let root = c.in-Some.root in
    let is = c.in-Some.ensures in
    rw (p.1, p.2) (⊎_elim (λ memory. inl memory)
    (λ first. inr (record {
      form = root.form;
      sought = is.sought;
      refuses = record {
        rsdp = root.address;
        least = λ other below has. is.first root.form is.sought other below has;
        first = subst (λ (view : View). FirstBy root.form view root.address c.in_err-walk_from.field-0.0) same first;
      };
      first = is.first;
    })) c.in_err-walk_from.ensures.refused)

pub returns-clause-shown : goal.returns-clause-shown
returns-clause-shown c =
    let same = all_within c.args.memory.now.memory c.top-top.ensures.lawful in
    let root = c.in-Some.root in
    let is = c.in-Some.ensures in
    record {
      form = root.form;
      sought = is.sought;
      shown = record {
        rsdp = root.address;
        least = λ other below has. is.first root.form is.sought other below has;
        leads = subst (λ (view : View). LeadsToAcpiBy root.form view root.address c.in_ok-walk_from.field-0.tables
            c.in_ok-walk_from.field-0.generation) same c.in_ok-walk_from.ensures.shown;
      };
      first = is.first;
    }
