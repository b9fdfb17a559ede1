use Rattle.std.proofs.Common.{take}
use Rattle.acpi_model.specs.Mcfg.{allocations_rows}
use Rattle.acpi_append.proofs.Allocations.{spelled_more}
use Rattle.acpi_append.proofs.mcfg.mcfg_bytes.Goals as goal

pub loop-allocation-preserved : goal.loop-allocation-preserved
loop-allocation-preserved c =
    let allocations = c.args.mcfg.now.allocations in
    let index = c.loop-allocation.allocation-index in
    spelled_more allocations c.as_slice-allocation-items.result.now index (record { base = 0; segment = 0; last_bus = 0 })
    c.put_allocation.new.bytes c.as_slice-allocation-items.ensures c.loop-allocation-test.true
    (c.in_ok-put_allocation.ensures (allocations_rows (take index allocations)) c.loop-allocation.invariant)
