use Rattle.anchor_scan.proofs.OneScan.{one_scan}
use Rattle.anchor_scan.proofs.laws.a_memory_is_scanned_in_one_way.Goals as goal

pub returns : goal.returns
returns c = one_scan
