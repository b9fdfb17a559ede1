use Rattle.std.proofs.Common.{◌≡◌, arith, ap, eq-eqb, eqb-true, sym, ◌∙◌}
use Rattle.vt_bytes.specs.Numbers.{byte_sum}
use Rattle.vt_bytes.specs.Memory.{bytes_at, seen}
use Rattle.smbios_model.specs.Anchor.{HasAnchor}
use Rattle.anchor_scan.proofs.Anchors.{anchor_stands, length_read, sum_of_anchor}
use Rattle.anchor_scan.proofs.anchor.smbios3_stands.Goals as goal

pub returns : goal.returns
returns c =
    let m = c.args.memory.now.memory in
    let address = c.args.address in
    let anchor = c.read_smbios3.result.anchor in
    let structures = c.read_smbios3.result.structures in
    let summed : c.sum_range.result ≡ byte_sum (bytes_at m address anchor.length) =
    c.sum_range.ensures ∙ ap (λ count. byte_sum (bytes_at m address count)) c.from-length.ensures in (
      λ passes. anchor_stands m address anchor structures c.requires.from c.requires.aligned (c.has_mark.ensures.0 c.if-not-has_mark.false)
          c.read_smbios3.ensures (omega arith) (omega arith) (sym (eqb-true c.sum_range.result 0 passes) ∙ summed),
      λ (has : HasAnchor (seen m) address).
          let lengths = length_read (seen m) address anchor has.0 structures has.1 c.read_smbios3.ensures has.2 in
          eq-eqb c.sum_range.result 0 (summed ∙ ap (λ count. byte_sum (bytes_at m address count)) (sym lengths)
          ∙ sum_of_anchor m address has.0 has.1 has.2),
    )
