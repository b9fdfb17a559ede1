use Rattle.std.proofs.Common.{◌≡◌, ◌++◌, replicate, ap, ◌∙◌}
use Rattle.dsdt_terms.specs.Dsdt.{id_offset}
use Rattle.vm_image.proofs.generation.id_page.Goals as goal

pub returns : goal.returns
returns c =
    let front : c.extend.new.self ≡ replicate id_offset 0 = c.in_ok-extend.ensures.ok ∙ ap (λ those. those ++ replicate id_offset 0) c.in_ok-page.ensures in
    let both = c.in_ok-extend-2.ensures.ok ∙ ap (λ those. those ++ c.uuid_bytes.result) front
    ∙ ap (λ id. replicate id_offset 0 ++ id) c.uuid_bytes.ensures in
    c.in_ok-extend-3.ensures.ok ∙ ap (λ those. those ++ replicate 4040 0) both
