use Rattle.std.proofs.Common.{List, Ok, ap, sym, ◌∙◌, arith}
use Rattle.cfg_directory.specs.declared.item.Item.{Item}
use Rattle.cfg_directory.specs.Held.{bytes_of}
use Rattle.cfg_directory.proofs.Containers.{read_is_contained}
use Rattle.cfg_directory.proofs.Gathered.{read_lacks, read_whole}
use Rattle.cfg_directory.proofs.reader.finished_items.Goals as goal

pub returns-then-next-len : goal.returns-then-next-len
returns-then-next-len c =
    sym (read_lacks c.args.held c.requires.gathers c.requires.lacks (omega (arith, c.len.ensures, c.if-next-len.true)))

pub of-requires : goal.of-requires
of-requires c =
    (read_is_contained (bytes_of c.args.held) c.args.held.items
    (read_whole c.args.held c.requires.gathers (omega (arith, c.len.ensures, c.if-next-len.false)))).lawful

pub returns : goal.returns
returns c =
    ap (λ (items : List Item). Ok items) c.of.ensures
    ∙ sym (read_whole c.args.held c.requires.gathers (omega (arith, c.len.ensures, c.if-next-len.false)))
