use Rattle.std.proofs.Common.{sym, subst}
use Rattle.vt_bytes.specs.Memory.{seen}
use Rattle.table_model.specs.Inventory.{ShowsBy}
use Rattle.anchor_scan.proofs.inventory.scan.Goals as goal

pub returns-clause-shows : goal.returns-clause-shows
returns-clause-shows c inventory is =
    c.scan_by.ensures.shows inventory
    (subst (λ search. ShowsBy search c.args.memory.now.memory.top (seen c.args.memory.now.memory) inventory) (sym c.of.ensures) is)
