use Rattle.std.proofs.Common.{◌≡◌, Some, None, MatchOption, MatchResult, subst}
use Rattle.std.proofs.lemmas.Result.{IfOk-weaker}
use Rattle.machine_desc.specs.Rules.{IsAccepted, broken_rule}
use Rattle.table_model.specs.Inventory.{inventory_of}
use Rattle.inventory_items.specs.Items.{items, IsFirstDifference}
use Rattle.table_describe.specs.Failing.{IsFirstFailing}
use Rattle.table_describe.proofs.Failing.{unlawful_fails, found_of_items}
use Rattle.table_describe.proofs.description.first_failing.Goals as goal

pub returns-in-Ok : goal.returns-in-Ok
returns-in-Ok c =
    let i = c.args.inventory.now in
    let m = c.args.machine.now in
    let accepted : IsAccepted m =
    subst (λ result. MatchResult result (λ _. broken_rule m ≡ None) (λ broken. broken_rule m ≡ Some broken)) c.in-Ok.is c.check.ensures in
    IfOk-weaker c.differing.result (λ found. MatchOption found (i ≡ inventory_of m) (IsFirstDifference 1 items i (inventory_of m)))
    (λ found. MatchOption found (IsAccepted m × (i ≡ inventory_of m)) (IsFirstFailing i))
    (λ found told. found_of_items i m found c.requires accepted told) c.differing.ensures

pub returns-in-Err : goal.returns-in-Err
returns-in-Err c =
    let m = c.args.machine.now in
    unlawful_fails c.args.inventory.now m c.in-Err.field-0 c.requires
    (subst (λ result. MatchResult result (λ _. broken_rule m ≡ None) (λ broken. broken_rule m ≡ Some broken)) c.in-Err.is c.check.ensures)
