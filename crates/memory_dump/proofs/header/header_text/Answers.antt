use Rattle.memory_dump.proofs.DumpLines.{header_written}
use Rattle.memory_dump.proofs.header.header_text.Goals as goal

pub returns : goal.returns
returns c =
    header_written c.args.top c.args.fill _ _ _ c.to_be_bytes.ensures c.put_hex.ensures c.put_hex-2.ensures
