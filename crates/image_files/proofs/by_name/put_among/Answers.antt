use Rattle.std.proofs.Common.{ℕ, List, ap, ap₂, ◌∙◌}
use Rattle.std.specs.List.{insert, position_or_len}
use Rattle.image_files.specs.Files.{ImageFile, is_not_behind}
use Rattle.image_files.proofs.Sorted.{among_is}
use Rattle.image_files.proofs.by_name.put_among.Goals as goal

pub returns : goal.returns
returns c =
    let named = ap (λ (f : ImageFile). f.name) c.file.view_is in
    let place = c.place_among-place.ensures.first
    ∙ ap₂ (λ (name : List ℕ) (files : List ImageFile). position_or_len (λ (other : ImageFile). is_not_behind name other.name) files) named
    c.as_slice.ensures.value in
    c.in_ok-insert.ensures.items ∙ ap (λ (k : ℕ). insert c.args.files.now.items k c.args.file) place
    ∙ among_is c.args.file c.args.files.now.items
