use Rattle.std.proofs.Common.{length, Err, arith, ap, subst, sym, ◌∙◌}
use Rattle.smbios_build.specs.Spelling.{structures_bytes}
use Rattle.smbios_build.specs.Buildable.{AreBuildable}
use Rattle.smbios_build.proofs.Accepted.{accepted_buildable, accepted_small}
use Rattle.vm_image.proofs.smbios.structures_file.Goals as goal

pub build_smbios-requires : goal.build_smbios-requires
build_smbios-requires c =
    subst AreBuildable (sym (c.as_slice.ensures ∙ c.in_ok-structures.ensures)) (accepted_buildable c.args.machine.now c.requires)

pub unreachable-requires : goal.unreachable-requires
unreachable-requires c =
    let large = c.in-Err-TableTooLarge.ensures.too_large.0 (ap Err c.in-Err-TableTooLarge.field-0-is) in
    omega (
      arith,
      large,
      ap (λ structures. length (structures_bytes structures)) (c.as_slice.ensures ∙ c.in_ok-structures.ensures),
      accepted_small
          c.args.machine.now c.requires,
    )
