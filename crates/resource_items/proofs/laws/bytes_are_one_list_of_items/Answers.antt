use Rattle.resource_items.proofs.OneTemplate.{one_template, whole_template}
use Rattle.resource_items.proofs.laws.bytes_are_one_list_of_items.Goals as goal

pub returns : goal.returns
returns c = record { one = one_template; whole = whole_template }
