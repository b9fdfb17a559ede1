use Rattle.std.proofs.Common.{◌≡◌, take, ap, subst, sym, ◌∙◌}
use Rattle.std.specs.List.{AllByRecursion}
use Rattle.std.proofs.lemmas.List.{take_all}
use Rattle.vt_bytes.proofs.Each.{each_at}
use Rattle.smbios_model.specs.declared.smbios.Structure.{Structure}
use Rattle.smbios_model.specs.Smbios.{AreStructures}
use Rattle.smbios_build.specs.Spelling.{structures_bytes}
use Rattle.smbios_build.specs.Buildable.{IsBuildable, HasFittingNumbers}
use Rattle.smbios_build.proofs.Read.{each_buildable, built_structures}
use Rattle.smbios_build.proofs.building.spell.Goals as goal

pub put_structure-requires : goal.put_structure-requires
put_structure-requires c =
    each_at (λ (s : Structure). IsBuildable s.body) c.args.structures.now c.loop-structure.structure-index c.structure-item.result
    c.structure-item.result c.loop-structure-test.true c.structure-item.is (each_buildable c.args.structures.now c.requires)

pub returns-clause-spelled : goal.returns-clause-spelled
returns-clause-spelled c =
    let all : take c.loop-structure.structure-index c.args.structures.now ≡ c.args.structures.now =
    take_all c.loop-structure.structure-index c.args.structures.now c.loop-structure-test.false in
    subst (λ bytes. AreStructures bytes c.args.structures.now) (sym (c.loop-structure.invariant.written ∙ ap structures_bytes all))
    (built_structures c.args.structures.now c.requires (subst (AllByRecursion HasFittingNumbers) all c.loop-structure.invariant.fit))
