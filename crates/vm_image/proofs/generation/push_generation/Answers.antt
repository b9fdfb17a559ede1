use Rattle.std.proofs.Common.{◌++◌, ◌∷◌, [], ap, sym, ◌∙◌}
use Rattle.vm_image.specs.Image.{generation_part}
use Rattle.vm_image.proofs.Pushed.{two_more}
use Rattle.vm_image.proofs.generation.push_generation.Goals as goal

pub returns : goal.returns
returns c =
    let files = c.args.files.now.items in
    two_more files c.push.new.self.items c.push-2.new.self.items _ _
    (c.in_ok-push.ensures.items ∙ ap (λ file. files ++ file ∷ []) c.in_ok-page.ensures)
    (c.in_ok-push-2.ensures.items ∙ ap (λ file. c.push.new.self.items ++ file ∷ []) c.in_ok-address.ensures)
    ∙ ap (λ generation. files ++ generation_part generation) (sym c.in-Some.is)
