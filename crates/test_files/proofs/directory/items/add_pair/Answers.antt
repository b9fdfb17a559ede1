use Rattle.test_files.proofs.Filled.{one_more}
use Rattle.test_files.proofs.directory.items.add_pair.Goals as goal

pub returns : goal.returns
returns c =
    one_more c.args.items.now c.add.new.self _ c.args.number 2 c.in_ok-add.ensures.ok c.in_ok-add.ensures.select c.in_ok-bytes.ensures c.requires.files
