use Rattle.std.proofs.Common.{length, ◌++◌, ◌∷◌, [], arith, ap, ◌∙◌}
use Rattle.zone_alloc.specs.declared.zone.Zone.TheVariants.{Fseg}
use Rattle.vm_image.specs.Image.{placed_file, anchor_blob, smbios_placed}
use Rattle.cfg_directory.specs.SmbiosNames.{anchor_name}
use Rattle.vm_image.proofs.Pushed.{two_more}
use Rattle.vm_image.proofs.StructuresSize.{structures_size}
use Rattle.vm_image.proofs.smbios.push_smbios.Goals as goal

pub overflow_cast-len : goal.overflow_cast-len
overflow_cast-len c =
    omega (arith, c.len.ensures, ap length c.in_ok-bytes.ensures.bytes, (structures_size c.args.machine.now c.requires).1)

pub returns-clause-files : goal.returns-clause-files
returns-clause-files c =
    let files = c.args.files.now.items in
    two_more files c.push.new.self.items c.push-2.new.self.items _ _
    (c.in_ok-push.ensures.items ∙ ap (λ file. files ++ file ∷ []) c.placed_structures.ensures)
    (c.in_ok-push-2.ensures.items ∙ ap (λ file. c.push.new.self.items ++ file ∷ []) (c.in_ok-anchor.ensures
    ∙ ap (λ size. placed_file anchor_name (anchor_blob size) Fseg 16) c.len.ensures))
    ∙ ap (λ bytes. files ++ smbios_placed bytes) c.in_ok-bytes.ensures.bytes
