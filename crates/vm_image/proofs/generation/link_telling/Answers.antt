use Rattle.std.proofs.Common.{◌≡◌, ◌↔◌, ◌<◌, ◌∷◌, [], Err, ap, sym, subst, ◌∙◌}
use Rattle.cfg_directory.specs.Items.{total_size}
use Rattle.image_files.specs.declared.image.ImageBuildFault.TheVariants.{ImageTooLarge}
use Rattle.image_files.specs.Items.{items_of, image_limit}
use Rattle.vm_image.specs.Image.{telling}
use Rattle.vm_image.proofs.generation.link_telling.Goals as goal

pub returns-in-Some-clause-large : goal.returns-in-Some-clause-large
returns-in-Some-clause-large c =
    subst (λ later. (c.link.result ≡ Err ImageTooLarge) ↔ (image_limit < total_size (items_of c.args.files.items later)))
    (ap (λ entry. entry ∷ []) c.write_address.ensures ∙ ap telling (sym c.in-Some.is)) c.link.ensures.large

pub returns-in-None-clause-large : goal.returns-in-None-clause-large
returns-in-None-clause-large c =
    subst (λ later. (c.link-in-None.result ≡ Err ImageTooLarge) ↔ (image_limit < total_size (items_of c.args.files.items later)))
    (ap telling (sym c.in-None.is)) c.link-in-None.ensures.large
