use Rattle.std.proofs.Common.{◌≡◌, length, min, arith, ap, sym, subst, ◌∙◌}
use Rattle.vt_bytes.proofs.Bytes.{length-bytes_at}
use Rattle.vt_bytes.specs.Memory.{bytes_at, seen}
use Rattle.smbios_model.specs.Anchor.{IsRange}
use Rattle.anchor_scan.proofs.Copied.{written_whole, range_copied}
use Rattle.anchor_scan.proofs.range.range_from.Goals as goal

pub copy_out-requires : goal.copy_out-requires
copy_out-requires c i below =
    c.ram_from.ensures.ram i (omega (arith, c.in_ok-bytes.ensures.len, c.min-size.ensures, c.deref_mut.ensures.len))

pub returns : goal.returns
returns c =
    let m = c.args.memory.now.memory in
    let bytes = c.copy_out.new.bytes in
    let count : length c.deref_mut.result.now ≡ c.min-size.result = c.deref_mut.ensures.len ∙ c.in_ok-bytes.ensures.len in
    let size : length bytes ≡ c.min-size.result =
    ap length c.copy_out.ensures ∙ length-bytes_at m c.args.address (length c.deref_mut.result.now) ∙ count in
    let least : c.min-size.result ≡ min c.ram_from.result c.args.maximum =
    c.min-size.ensures ∙ ap (min c.ram_from.result) c.from.ensures in
    subst (IsRange (seen m) c.args.address c.args.maximum)
    (sym (written_whole bytes c.in_ok-bytes.bytes.items c.in_ok-bytes.bytes.len (omega (arith, c.in_ok-bytes.ensures.len))))
    (range_copied m c.args.address c.args.maximum c.ram_from.result c.min-size.result bytes c.ram_from.ensures.ram c.ram_from.ensures.gap least size
    (c.copy_out.ensures ∙ ap (bytes_at m c.args.address) count))
