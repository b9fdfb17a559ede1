use Rattle.std.proofs.Common.{◌≡◌, ℕ, List, [], length, take, get_or, ap, sym, ◌∙◌}
use Rattle.std.specs.List.{flat_map}
use Rattle.std.proofs.lemmas.List.{take_all}
use Rattle.vt_bytes.specs.Numbers.{byte_sum}
use Rattle.vt_bytes.proofs.LaneSums.{lanes_added, lanes_summed, sums_joined, block_more}
use Rattle.vt_bytes.proofs.sum.sum_of_blocks.Goals as goal

pub loop-block-preserved : goal.loop-block-preserved
loop-block-preserved c =
    let blocks = c.args.blocks.now in
    let index = c.loop-block.block-index in
    let block = get_or blocks index [] in
    let as_many : length c.loop-block.lanes ≡ length block = c.loop-block.auto.lanes.0 ∙ sym (c.told-blocks index c.loop-block-test.true) in
    lanes_added c.loop-block.lanes block as_many
    ∙ sums_joined c.loop-block.lanes (flat_map (λ (b : List ℕ). b) (take index blocks)) block c.loop-block.invariant
    ∙ ap byte_sum (block_more blocks index c.loop-block-test.true)

pub returns : goal.returns
returns c =
    lanes_summed c.loop-block.lanes
    ∙ c.loop-block.invariant
    ∙ ap (λ (bs : List (List ℕ)). byte_sum (flat_map (λ (b : List ℕ). b) bs)) (take_all c.loop-block.block-index c.args.blocks.now c.loop-block-test.false)
