use Rattle.std.proofs.Common.{List, subst, sym}
use Rattle.cfg_directory.specs.declared.item.Item.{Item}
use Rattle.cfg_directory.specs.Items.{IsItems}
use Rattle.cfg_directory.specs.Restored.{AreKept}
use Rattle.cfg_directory.proofs.Restored.{restored_lawful}
use Rattle.cfg_directory.proofs.items.Items.restore.Goals as goal

pub invariant_of-self : goal.invariant_of-self
invariant_of-self c =
    subst IsItems (sym c.restore_all.ensures)
    (restored_lawful c.self.inside.items c.args.kept.now
    (subst (λ (is : List Item). AreKept is c.args.kept.now) (sym c.self.view_is) c.requires) c.self.invariant)
