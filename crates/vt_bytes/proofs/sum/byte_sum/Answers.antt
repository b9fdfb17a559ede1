use Rattle.std.proofs.Common.{◌≡◌, ℕ, ◌+◌, ◌*◌, ◌/◌, ◌%◌, List, take, length, refl, ap, ap₂, ◌∙◌}
use Rattle.std.specs.List.{flat_map}
use Rattle.vt_bytes.specs.Numbers.{byte_sum}
use Rattle.vt_bytes.proofs.LaneSums.{blocks_joined, whole_sum}
use Rattle.vt_bytes.proofs.sum.byte_sum.Goals as goal

pub returns : goal.returns
returns c =
    let bytes = c.args.bytes.now in
    let count = length bytes / 32 in
    let of_blocks : c.sum_of_blocks.result ≡ byte_sum (take (count * 32) bytes) =
    c.sum_of_blocks.ensures ∙ ap byte_sum (ap (flat_map (λ (b : List ℕ). b)) c.as_chunks.ensures.front ∙ blocks_joined 32 count bytes) in
    ap₂ (λ a b. (a + b) % 256) of_blocks c.sum_of_rest.ensures
    ∙ whole_sum bytes (take (count * 32) bytes) c.as_chunks.result.1.now (count * 32) refl c.as_chunks.ensures.back
