use Rattle.std.proofs.Common.{ap, sym, ◌∙◌}
use Rattle.image_files.proofs.Sorted.{sorted_onto, onto_none, onto_last}
use Rattle.image_files.proofs.by_name.by_name.Goals as goal

pub loop-file-init : goal.loop-file-init
loop-file-init c = ap (sorted_onto c.args.files.items) c.in_ok-sorted.ensures.items ∙ onto_none c.args.files.items

pub loop-file-preserved : goal.loop-file-preserved
loop-file-preserved c =
    ap (sorted_onto c.pop.new.self.items) c.in_ok-put_among.ensures
    ∙ sym (onto_last c.pop.new.self.items c.in-Some.file c.loop-file.sorted.items)
    ∙ sym (ap (λ files. sorted_onto files c.loop-file.sorted.items) c.in-Some.ensures.items) ∙ c.loop-file.invariant
