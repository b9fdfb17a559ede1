use Rattle.std.proofs.Common.{◌≡◌, ◌≤◌, List, ℕ, length, take, ap, ◌∙◌, arith}
use Rattle.vt_bytes.specs.Numbers.{be}
use Rattle.cfg_directory.proofs.HeadFilled.{IsHeadFilled-from, head_refused, too_many_refused}
use Rattle.cfg_directory.proofs.gathering.take_count.Goals as goal

pub returns-then-count-gt-FILE_LIMIT : goal.returns-then-count-gt-FILE_LIMIT
returns-then-count-gt-FILE_LIMIT c =
    let old = c.args.held.now in
    let head = c.fill-left.new.self in
    let filled = IsHeadFilled-from old.head c.args.piece.now head c.fill-left.result.now 4 c.fill-left.ensures.taken c.fill-left.ensures.left
    (omega (arith, c.requires.short)) in
    let there : 4 ≤ length head = omega (arith, c.len.ensures, c.if-len-lt-COUNT_SIZE.false) in
    let count : c.get_be-count.result ≡ be (take 4 head) = c.get_be-count.ensures ∙ ap (λ (bytes : List ℕ). be (take 4 bytes)) c.as_slice.ensures in
    head_refused old c.args.piece.now head c.fill-left.result.now 4 _ c.requires.none filled
    (too_many_refused head there (omega (arith, count, c.if-count-gt-FILE_LIMIT.true)))
