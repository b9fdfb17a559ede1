use Rattle.cfg_directory.proofs.Written.{written_in_turn}
use Rattle.cfg_directory.proofs.container.write_image.Goals as goal

pub returns-clause-read_again : goal.returns-clause-read_again
returns-clause-read_again c =
    written_in_turn c.args.items.now c.all-items.result.now c.new-bytes.result c.put_directory.new.bytes c.put_flags.new.bytes c.put_contents.new.bytes
    c.all-items.ensures.items c.new-bytes.ensures c.in_ok-put_directory.ensures.directory c.in_ok-put_flags.ensures c.in_ok-put_contents.ensures
    c.all-items.ensures.kept c.in_ok-put_directory.ensures.names
