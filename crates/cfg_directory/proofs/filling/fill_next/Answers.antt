use Rattle.std.proofs.Common.{◌≡◌, ◌+◌, ◌<◌, List, Some, get_or, length, ap, sym, ◌∙◌, arith, add-one}
use Rattle.std.specs.List.{slice_get}
use Rattle.std.proofs.lemmas.Option.{slice_get-get_or}
use Rattle.cfg_directory.specs.declared.listed.Listed.{Listed}
use Rattle.cfg_directory.proofs.Files.{next_there, filled_whole, filled_short}
use Rattle.cfg_directory.proofs.filling.fill_next.Goals as goal
use Rattle.cfg_directory.proofs.filling.fill_next.Goals.{then-len-size, else-len-size}

pub get_mut-item-requires : goal.get_mut-item-requires
get_mut-item-requires c = next_there c.args.held.now c.requires.gathers c.requires.some

pub returns : goal.returns
returns c =
    let old = c.args.held.now in
    let entry = get_or c.as_slice.result.now old.next c.index-as_slice-held.result in
    let within : old.next < length c.as_slice.result.now = omega (arith, ap length c.as_slice.ensures, c.requires.some) in
    let entry_at : slice_get old.listed old.next ≡ Some entry =
    ap (λ (listed : List Listed). slice_get listed old.next) (sym c.as_slice.ensures)
    ∙ slice_get-get_or c.as_slice.result.now old.next c.index-as_slice-held.result within in
    elim c.if-len-size.branch [
      | then-len-size w ↦ filled_whole old c.if-len-size.held c.get_mut-item.result.now entry c.args.piece.now c.in_ok-left.left.now c.fill_file.new.bytes
          (old.next + 1) c.requires.gathers c.get_mut-item.ensures.item entry_at c.in_ok-left.ensures.taken c.in_ok-left.ensures.left w.held-is
          (add-one old.next) (sym c.len.ensures ∙ w.if-len-size.true)
      | else-len-size w ↦ filled_short old c.if-len-size.held c.get_mut-item.result.now entry c.args.piece.now c.in_ok-left.left.now c.fill_file.new.bytes
          c.requires.gathers c.get_mut-item.ensures.item entry_at c.in_ok-left.ensures.taken c.in_ok-left.ensures.left w.held-is
          (λ same. w.if-len-size.false (c.len.ensures ∙ same))
    ]
