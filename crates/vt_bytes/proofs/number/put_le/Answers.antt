use Rattle.std.proofs.Common.{◌≡◌, ◌++◌, ◌+◌, take, drop, ap, ◌∙◌}
use Rattle.vt_bytes.specs.Numbers.{le_bytes}
use Rattle.vt_bytes.proofs.Numbers.{le_bytes-short}
use Rattle.vt_bytes.proofs.Puts.{put_mid_is}
use Rattle.vt_bytes.proofs.number.put_le.Goals as goal

pub returns : goal.returns
returns c =
    let bytes = c.args.bytes.now in
    let copied : c.copy_from_slice.new.self ≡ le_bytes c.args.n c.args.value =
    c.copy_from_slice.ensures.after ∙ ap (take c.args.n) c.to_le_bytes.ensures ∙ le_bytes-short c.args.n c.args.value c.requires.fits in
    put_mid_is bytes c.copy_from_slice.new.self c.args.at c.args.n
    ∙ ap (λ part. take c.args.at bytes ++ part ++ drop (c.args.at + c.args.n) bytes) copied
