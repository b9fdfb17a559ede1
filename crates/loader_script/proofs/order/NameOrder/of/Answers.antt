use Rattle.std.proofs.Common.{List, rules, subst}
use Rattle.std.specs.List.Sorted.{IsPermutation}
use Rattle.std.proofs.lemmas.List.Sorted.{answers_always}
use Rattle.loader_script.specs.declared.order.NameRow.{NameRow}
use Rattle.loader_script.proofs.order.NameOrder.of.Goals as goal

pub returns : goal.returns
returns c = record {
  rows = subst (λ (rows : List NameRow). IsPermutation rows c.sort_unstable_by_key.new.self.items) c.in_ok-rows.ensures.rows
      c.sort_unstable_by_key.ensures.permutation;
  sorted = c.sort_unstable_by_key.ensures.sorted (λ (row : NameRow). row.field) (answers_always _ _ _ (λ f a r g called. search rules));
  names = c.in_ok-rows.ensures.names;
}
