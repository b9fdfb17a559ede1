use Rattle.std.proofs.Common.{◌+◌, ◌*◌, List, ◌++◌, length, ap, ◌∙◌}
use Rattle.cfg_directory.specs.declared.item.Item.{Item}
use Rattle.cfg_directory.specs.Items.{directory_of}
use Rattle.cfg_directory.proofs.Listings.{length-directory_of}
use Rattle.cfg_directory.proofs.directory.directory_bytes.Goals as goal

pub returns-clause-size : goal.returns-clause-size
returns-clause-size c =
    ap length (c.in_ok-put_directory.ensures.directory ∙ ap (λ bytes. bytes ++ directory_of c.all.result.now) c.new-bytes.ensures)
    ∙ length-directory_of c.all.result.now c.in_ok-put_directory.ensures.names
    ∙ ap (λ (items : List Item). 4 + 64 * length items) c.all.ensures.items
