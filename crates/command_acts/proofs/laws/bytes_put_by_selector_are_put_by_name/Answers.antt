use Rattle.command_acts.proofs.ItemsWritten.{put_as_file}
use Rattle.command_acts.proofs.laws.bytes_put_by_selector_are_put_by_name.Goals as goal

pub returns : goal.returns
returns c = put_as_file
