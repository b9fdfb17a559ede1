use Rattle.std.proofs.Common.{arith}
use Rattle.image_files.proofs.ItemsAdded.{total_is, sorted_distinct, sorted_few}
use Rattle.image_files.proofs.image.image_from.Goals as goal

pub items_of-requires-clause-distinct : goal.items_of-requires-clause-distinct
items_of-requires-clause-distinct c =
    sorted_distinct c.args.files.items c.args.later.now c.in_ok-sorted.field-0.sorted.items c.in_ok-sorted.ensures.sorted c.requires.distinct
    c.requires.others

pub items_of-requires-clause-few : goal.items_of-requires-clause-few
items_of-requires-clause-few c =
    omega (
      arith,
      c.requires.few,
      sorted_few c.args.files.items c.args.later.now c.in_ok-sorted.field-0.sorted.items c.in_ok-sorted.ensures.sorted,
    )

pub items_of-requires-clause-few_bytes : goal.items_of-requires-clause-few_bytes
items_of-requires-clause-few_bytes c =
    omega (
      arith,
      c.requires.small,
      total_is c.args.files.items c.args.later.now c.in_ok-sorted.field-0.sorted.items c.in_ok-sorted.ensures.sorted,
    )
