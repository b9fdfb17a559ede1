use Rattle.std.proofs.Common.{rules}
use Rattle.std.specs.Cmp.Lexicographic.{slice_cmp}
use Rattle.std.specs.List.Sorted.{IsBinarySearchResult}
use Rattle.std.specs.Ordering.{nat_cmp}
use Rattle.std.proofs.lemmas.List.Sorted.{answers_always}
use Rattle.vt_outside.specs.Name.{in_field}
use Rattle.loader_script.specs.declared.order.NameRow.{NameRow}
use Rattle.loader_script.proofs.Orders.{index_of_none, index_of_row}
use Rattle.loader_script.proofs.order.NameOrder.index_of.Goals as goal

pub returns-in_err-at : goal.returns-in_err-at
returns-in_err-at c = λ files of distinct.
    let searched : IsBinarySearchResult (λ (row : NameRow). slice_cmp nat_cmp row.field (in_field c.args.name.now)) c.args.self.now.rows.items
    c.binary_search_by_key.result =
    rw (← c.bytes.ensures.field, ← c.deref.ensures.value)
    (c.binary_search_by_key.ensures.position (λ (row : NameRow). row.field) (answers_always _ _ _ (λ f a r g called. search rules))) in
    index_of_none files c.args.self.now c.args.name.now c.binary_search_by_key.result c.ok.result c.from_residual.result of searched
    c.ok.ensures.value c.in_err-at.was c.from_residual.ensures

pub returns : goal.returns
returns c = λ files of distinct.
    let searched : IsBinarySearchResult (λ (row : NameRow). slice_cmp nat_cmp row.field (in_field c.args.name.now)) c.args.self.now.rows.items
    c.binary_search_by_key.result =
    rw (← c.bytes.ensures.field, ← c.deref.ensures.value)
    (c.binary_search_by_key.ensures.position (λ (row : NameRow). row.field) (answers_always _ _ _ (λ f a r g called. search rules))) in
    index_of_row files c.args.self.now c.args.name.now c.binary_search_by_key.result c.ok.result c.in_ok-at.at c.index.result.now of distinct
    c.bytes.ensures.name searched (rw c.deref.ensures.value at c.binary_search_by_key.ensures.bound) c.ok.ensures.value c.in_ok-at.was c.index.ensures
