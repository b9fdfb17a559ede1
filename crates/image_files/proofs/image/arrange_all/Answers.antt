use Rattle.std.proofs.Common.{sym, subst, ◌∙◌}
use Rattle.std.specs.List.{AllByRecursion}
use Rattle.loader_script.specs.Spelling.{CanBeWritten}
use Rattle.image_files.proofs.Writable.{script_can}
use Rattle.image_files.proofs.ItemsAdded.{sorted_with}
use Rattle.image_files.proofs.image.arrange_all.Goals as goal

pub loader_file-requires : goal.loader_file-requires
loader_file-requires c =
    subst (AllByRecursion CanBeWritten) (sym (c.as_slice.ensures ∙ c.in_ok-sorted.ensures.script))
    (script_can c.args.files.items c.args.later.now c.requires)

pub returns-clause-sorted : goal.returns-clause-sorted
returns-clause-sorted c =
    sorted_with c.args.files.items c.args.later.now c.as_slice.result.now c.in_ok-loader_file.field-0 c.in_ok-sorted.field-0.sorted.items
    c.put_among.new.files.items (c.as_slice.ensures ∙ c.in_ok-sorted.ensures.script) c.in_ok-loader_file.ensures.file c.in_ok-sorted.ensures.sorted
    c.in_ok-put_among.ensures
