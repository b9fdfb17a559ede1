use Rattle.cfg_directory.proofs.OneMoreItem.{IsItems-pushed}
use Rattle.cfg_directory.proofs.items.Items.add_at.Goals as goal

pub invariant_of-self : goal.invariant_of-self
invariant_of-self c =
    IsItems-pushed c.self.inside.items c.args.self.now c.push.new.self
    (record { name = c.args.name; select = c.args.select; writable = c.args.writable; bytes = c.args.bytes }) c.push.result c.self.view_is c.push.ensures.ok
    c.push.ensures.err c.self.invariant c.requires.name c.requires.select.1 c.requires.select.0 c.requires.few c.requires.small
