use Rattle.std.proofs.Common.{◌≡◌, ◌-◌, ◌≤◌, ◌++◌, length, take, drop, refl, arith, ap, ◌∙◌}
use Rattle.std.proofs.lemmas.List.{take_all, length-drop}
use Rattle.std.proofs.lemmas.Result.{on_ok_weaker}
use Rattle.std.specs.Int.{to_be_bytes, w64}
use Rattle.vt_bytes.proofs.Numbers.{be_bytes-short}
use Rattle.vt_layout.proofs.writing.put_big_endian.Goals as goal

pub returns-clause-ok : goal.returns-clause-ok
returns-clause-ok c =
    let width = c.args.width in
    let whole = to_be_bytes w64 c.args.value in
    let eight : length (to_be_bytes w64 c.args.value) ≡ 8 = refl in
    let as_long : length (drop (8 - width) whole) ≤ 8 - (8 - width) = omega (arith, length-drop (8 - width) whole) in
    on_ok_weaker c.extend.result
    (λ is. is ∙ ap (λ more. c.args.bytes.now ++ more)
    (ap (λ n. take (8 - (8 - n)) (drop (8 - n) c.to_be_bytes.result)) c.from.ensures
    ∙ ap (λ bytes. take (8 - (8 - width)) (drop (8 - width) bytes)) c.to_be_bytes.ensures
    ∙ take_all (8 - (8 - width)) (drop (8 - width) whole) as_long ∙ be_bytes-short width c.args.value c.requires))
    c.extend.ensures.ok
