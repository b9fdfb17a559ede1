use Rattle.std.proofs.Common.{List, ◌++◌, ap, sym, ◌∙◌}
use Rattle.cfg_directory.specs.declared.listed.Listed.{Listed}
use Rattle.cfg_directory.specs.Listing.{entry_says}
use Rattle.cfg_directory.proofs.Listings.{read_is_listed, none_is_listed, nothing_more}
use Rattle.cfg_directory.proofs.listing.list_entry.Goals as goal

pub returns-in-Ok-clause-after : goal.returns-in-Ok-clause-after
returns-in-Ok-clause-after c =
    c.push_reserved.ensures.items
    ∙ ap (λ (more : List Listed). c.args.listed.now.items ++ more)
    (sym (read_is_listed c.args.entry.now c.in-Ok.file c.requires.size c.in-Ok.ensures.size c.in-Ok.ensures.select c.in-Ok.ensures.name))

pub returns-in_default-clause-after : goal.returns-in_default-clause-after
returns-in_default-clause-after c =
    nothing_more c.args.listed.now.items (entry_says c.args.entry.now)
    (none_is_listed c.args.entry.now c.in_default.field-0 c.requires.size c.in_default.ensures.err)
