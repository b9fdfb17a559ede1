use Rattle.std.specs.Prelude.{◌*◌}
use Rattle.test_files.proofs.Filled.{one_more}
use Rattle.test_files.proofs.directory.limits.add_file.Goals as goal

pub returns : goal.returns
returns c =
    one_more c.args.items.now c.add.new.self _ c.args.number (c.args.chunks * 65536) c.in_ok-add.ensures.ok c.in_ok-add.ensures.select
    c.in_ok-contents.ensures c.requires.files
