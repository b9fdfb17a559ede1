use Rattle.std.proofs.Common.{◌≡◌, ◌++◌, ◌+◌, ◌-◌, take, drop, ap, ◌∙◌}
use Rattle.std.specs.Int.{to_be_bytes, w64}
use Rattle.std.proofs.lemmas.List.{take_rest}
use Rattle.vt_bytes.specs.Numbers.{be_bytes}
use Rattle.vt_bytes.proofs.Numbers.{be_bytes-short}
use Rattle.vt_bytes.proofs.Puts.{put_mid_is}
use Rattle.vt_bytes.proofs.number.put_be.Goals as goal

pub returns : goal.returns
returns c =
    let bytes = c.args.bytes.now in
    let from = 8 - c.args.n in
    let copied : c.copy_from_slice.new.self ≡ be_bytes c.args.n c.args.value =
    c.copy_from_slice.ensures.after ∙ ap (λ (all : _). take (8 - from) (drop from all)) c.to_be_bytes.ensures
    ∙ take_rest (to_be_bytes w64 c.args.value) from ∙ be_bytes-short c.args.n c.args.value c.requires.fits in
    put_mid_is bytes c.copy_from_slice.new.self c.args.at c.args.n
    ∙ ap (λ part. take c.args.at bytes ++ part ++ drop (c.args.at + c.args.n) bytes) copied
