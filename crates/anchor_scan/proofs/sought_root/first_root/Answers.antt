use Rattle.std.proofs.Common.{sym, subst}
use Rattle.vt_bytes.specs.Memory.{seen}
use Rattle.anchor_scan.specs.First.{IsFoundRoot}
use Rattle.anchor_scan.proofs.sought_root.first_root.Goals as goal

pub returns-in-One : goal.returns-in-One
returns-in-One c =
    subst (λ search. IsFoundRoot search (seen c.args.memory.now.memory) c.root_of.result) (sym c.in-One.is) c.root_of.ensures

pub returns-in-Any : goal.returns-in-Any
returns-in-Any c =
    subst (λ search. IsFoundRoot search (seen c.args.memory.now.memory) c.root_of_any.result) (sym c.in-Any.is) c.root_of_any.ensures
