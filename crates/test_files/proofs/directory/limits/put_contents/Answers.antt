use Rattle.test_files.proofs.Filled.{longer}
use Rattle.test_files.proofs.directory.limits.put_contents.Goals as goal

pub loop-chunk-preserved : goal.loop-chunk-preserved
loop-chunk-preserved c = longer c.loop-chunk.bytes c.extend.new.self _ 65536 c.loop-chunk.chunk _ c.in_ok-extend.ensures.ok c.loop-chunk.invariant
