use Rattle.std.proofs.Common.{◌≤◌, ◌<◌, arith, ◌∙◌}
use Rattle.memory_dump.proofs.Said.{not_ram, is_ram_so, fault-not_ram, fault-order, fault-fill, fault-none, fill_test}
use Rattle.memory_dump.proofs.reading.put_row.Goals as goal

pub returns-then-not-is_ram-clause-err : goal.returns-then-not-is_ram-clause-err
returns-then-not-is_ram-clause-err c =
    fault-not_ram _ _ _ _ (not_ram _ _ _ _ c.is_ram.ensures.1 c.from-address.ensures c.if-not-is_ram.true)

pub returns-then-address-from-clause-err : goal.returns-then-address-from-clause-err
returns-then-address-from-clause-err c =
    let ram = is_ram_so _ _ _ _ c.is_ram.ensures.0 c.from-address.ensures c.if-not-is_ram.false in
    let below : c.args.row.now.address < c.args.from = omega (arith, c.from-address.ensures, c.if-address-from.true) in
    fault-order _ _ _ _ ram below

pub returns-then-is_filled_row-clause-err : goal.returns-then-is_filled_row-clause-err
returns-then-is_filled_row-clause-err c =
    let ram = is_ram_so _ _ _ _ c.is_ram.ensures.0 c.from-address.ensures c.if-not-is_ram.false in
    let order : c.args.from ≤ c.args.row.now.address = omega (arith, c.from-address.ensures, c.if-address-from.false) in
    fault-fill _ _ _ _ ram order (fill_test _ _ _ _ c.fill.ensures c.is_filled_row.ensures ∙ c.if-is_filled_row.true)

pub returns-clause-taken : goal.returns-clause-taken
returns-clause-taken c =
    let ram = is_ram_so _ _ _ _ c.is_ram.ensures.0 c.from-address.ensures c.if-not-is_ram.false in
    let order : c.args.from ≤ c.args.row.now.address = omega (arith, c.from-address.ensures, c.if-address-from.false) in
    fault-none _ _ _ _ ram order (fill_test _ _ _ _ c.fill.ensures c.is_filled_row.ensures ∙ c.if-is_filled_row.false)
