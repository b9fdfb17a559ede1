use Rattle.std.proofs.Common.{◌≡◌, ◌∷◌, [], length, sym, ap, ◌∙◌, append_assoc, append-nil, arith}
use Rattle.std.specs.Vec.Iter.{into_iter_items}
use Rattle.image_files.specs.Items.{items_from}
use Rattle.image_files.proofs.ItemsAdded.{can_be_added, one_more_added, nothing_left}
use Rattle.image_files.proofs.items.items_of.Goals as goal

pub add_item-requires-clause-name : goal.add_item-requires-clause-name
add_item-requires-clause-name c =
    let at = c.loop-file in
    (can_be_added c.args.files.items at.yielded (into_iter_items c.next.new.self) c.in-Some.file at.items
    (rw (← c.in-Some.ensures.steps.0) (at.invariant.0 ∙ c.into_iter-file-iterator.ensures.into_iter_gives.0)) at.invariant.1 c.requires.distinct
    c.requires.few c.requires.few_bytes).named

pub add_item-requires-clause-numbered : goal.add_item-requires-clause-numbered
add_item-requires-clause-numbered c =
    let at = c.loop-file in
    (can_be_added c.args.files.items at.yielded (into_iter_items c.next.new.self) c.in-Some.file at.items
    (rw (← c.in-Some.ensures.steps.0) (at.invariant.0 ∙ c.into_iter-file-iterator.ensures.into_iter_gives.0)) at.invariant.1 c.requires.distinct
    c.requires.few c.requires.few_bytes).numbered

pub add_item-requires-clause-few : goal.add_item-requires-clause-few
add_item-requires-clause-few c =
    let at = c.loop-file in
    (can_be_added c.args.files.items at.yielded (into_iter_items c.next.new.self) c.in-Some.file at.items
    (rw (← c.in-Some.ensures.steps.0) (at.invariant.0 ∙ c.into_iter-file-iterator.ensures.into_iter_gives.0)) at.invariant.1 c.requires.distinct
    c.requires.few c.requires.few_bytes).few

pub add_item-requires-clause-small : goal.add_item-requires-clause-small
add_item-requires-clause-small c =
    let at = c.loop-file in
    (can_be_added c.args.files.items at.yielded (into_iter_items c.next.new.self) c.in-Some.file at.items
    (rw (← c.in-Some.ensures.steps.0) (at.invariant.0 ∙ c.into_iter-file-iterator.ensures.into_iter_gives.0)) at.invariant.1 c.requires.distinct
    c.requires.few c.requires.few_bytes).small

pub loop-file-preserved : goal.loop-file-preserved
loop-file-preserved c =
    let at = c.loop-file in
    let file = c.in-Some.file in
    let steps : into_iter_items at.file-iterator ≡ file ∷ into_iter_items c.next.new.self = c.in-Some.ensures.steps.0 in (
      append_assoc at.yielded (file ∷ []) _ ∙ rw (← steps) at.invariant.0,
      one_more_added at.yielded file at.items c.add_item.new.items at.invariant.1 c.in_ok-add_item.ensures,
      let was = at.invariant.2 in
          let gone = c.in-Some.ensures.steps.1 in
          let short = ap length steps in
          omega arith,
    )

pub returns : goal.returns
returns c =
    let at = c.loop-file in
    let empty : into_iter_items at.file-iterator ≡ [] = nothing_left _ (sym at.invariant.2 ∙ c.in-None.ensures.steps.0) in
    let all = sym (append-nil at.yielded) ∙ rw empty at at.invariant.0 ∙ c.into_iter-file-iterator.ensures.into_iter_gives.0 in
    at.invariant.1 ∙ ap (items_from 0x20) all
