use Rattle.std.proofs.Common.{length, arith}
use Rattle.std.proofs.lemmas.Bool.Decides.{Decides-eqb}
use Rattle.std.proofs.lemmas.Slice.Eq.{slice_eq-Decides}
use Rattle.anchor_scan.proofs.ReadAndSeen.{low_ram, marked, mark_read}
use Rattle.anchor_scan.proofs.anchor.has_mark.Goals as goal

pub returns : goal.returns
returns c =
    let m = c.args.memory.now.memory in
    let address = c.args.address in
    let mark = c.args.mark.now in
    let ram = low_ram m.top address (length mark) (omega (arith, c.requires.from)) (omega (arith, c.requires.aligned, c.requires.below, c.requires.short)) in
    let tested = slice_eq-Decides Decides-eqb _ _ _ c.eq.ensures in
    let bytes = c.window.result.now in
    let read = c.window.ensures.value in (
      λ passes. marked m address (length mark) bytes mark ram read (tested.0 passes),
      λ has. tested.1 (mark_read m address (length mark) bytes mark ram read has),
    )
