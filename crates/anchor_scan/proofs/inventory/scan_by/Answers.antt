use Rattle.std.proofs.Common.{Ok, Err}
use Rattle.vt_bytes.specs.Memory.{seen}
use Rattle.anchor_scan.proofs.OneScan.{as_scanned}
use Rattle.anchor_scan.proofs.inventory.scan_by.Goals as goal

pub returns-clause-shows : goal.returns-clause-shows
returns-clause-shows c inventory is =
    as_scanned c.args.search c.args.memory.now.memory.top (seen c.args.memory.now.memory) c.scan_both.result (Ok inventory) c.scan_both.ensures.shown
    c.scan_both.ensures.refused is

pub returns-clause-refuses : goal.returns-clause-refuses
returns-clause-refuses c fault is =
    as_scanned c.args.search c.args.memory.now.memory.top (seen c.args.memory.now.memory) c.scan_both.result (Err fault) c.scan_both.ensures.shown
    c.scan_both.ensures.refused is
