use Rattle.std.proofs.Common.{◌≡◌, ℕ, ◌+◌, ◌++◌, [], ◌∷◌, List, map, drop, get_or, sym, ap, ◌∙◌, arith}
use Rattle.std.proofs.Math.Seq.{take-nil, drop-nil}
use Rattle.cfg_directory.specs.declared.item.Item.{Item}
use Rattle.cfg_directory.specs.Container.{item_so, items_so}
use Rattle.cfg_directory.specs.Parts.{is_set}
use Rattle.cfg_directory.proofs.Parts.{item_taken, items_done}
use Rattle.cfg_directory.proofs.opening.empty_items.Goals as goal

pub loop-index-preserved : goal.loop-index-preserved
loop-index-preserved c =
    let entry = c.index-listed-index.result in
    let index = c.loop-index.index in
    let flag = is_set (get_or c.args.flags.now index 0) in
    let new : c.push.new.self ≡ c.loop-index.items ++ item_so entry flag [] ∷ [] =
    c.in_ok-push.ensures.ok ∙ ap (λ (item : Item). c.loop-index.items ++ item ∷ []) c.empty_item.ensures in
    let others = λ (rest : List ℕ). c.push.new.self ++ items_so (drop (index + 1) c.args.listed.now) (drop (index + 1) (map is_set c.args.flags.now)) rest in
    ap others (sym (drop-nil entry.size))
    ∙ item_taken c.args.listed.now c.args.flags.now [] c.loop-index.items c.push.new.self _ index entry c.loop-index-test.true c.requires
    c.index-listed-index.is c.loop-index.invariant
    (new ∙ ap (λ (bytes : List ℕ). c.loop-index.items ++ item_so entry flag bytes ∷ []) (sym (take-nil entry.size)))

pub returns : goal.returns
returns c =
    items_done c.args.listed.now (map is_set c.args.flags.now) [] c.loop-index.items _ c.loop-index.index (omega arith) c.loop-index.invariant
