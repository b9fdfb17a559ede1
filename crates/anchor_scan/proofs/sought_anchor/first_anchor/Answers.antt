use Rattle.std.proofs.Common.{sym, subst}
use Rattle.vt_bytes.specs.Memory.{seen}
use Rattle.anchor_scan.specs.First.{IsFoundAnchor}
use Rattle.anchor_scan.proofs.sought_anchor.first_anchor.Goals as goal

pub returns-in-One : goal.returns-in-One
returns-in-One c =
    subst (λ search. IsFoundAnchor search (seen c.args.memory.now.memory) c.anchor_of_form.result) (sym c.in-One.is) c.anchor_of_form.ensures

pub returns-in-Any : goal.returns-in-Any
returns-in-Any c =
    subst (λ search. IsFoundAnchor search (seen c.args.memory.now.memory) c.anchor_of_any.result) (sym c.in-Any.is) c.anchor_of_any.ensures
