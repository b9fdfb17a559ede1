use Rattle.std.proofs.Common.{Some, ap, sym, ◌∙◌}
use Rattle.vt_words.specs.declared.command.Command.TheVariants.{Boot, Build, Decode, Gen, List}
use Rattle.vmtables.specs.Decode.{DecodeMakes, ListMakes}
use Rattle.vmtables.proofs.BootEnds.{words_refuse_nothing}
use Rattle.vmtables.proofs.Endings.{by_search, usage_ran, commanded}
use Rattle.vmtables.proofs.carrying_out.carry_out.Goals as goal

pub returns-in-None-clause-ran : goal.returns-in-None-clause-ran
returns-in-None-clause-ran g c = usage_ran _ _ _ _ _ (sym c.in-None.ensures.command)

pub returns-in-Some-Build-clause-ran : goal.returns-in-Some-Build-clause-ran
returns-in-Some-Build-clause-ran g c =
    commanded _ (Some Build) _ c.build.result _ _ _ _ _ _ (ap Some (sym c.in-Some-Build.field-0-is) ∙ c.in-Some-Build.ensures.command)
    (c.build.ensures.ran _)

pub returns-in-Some-Decode-clause-ran : goal.returns-in-Some-Decode-clause-ran
returns-in-Some-Decode-clause-ran g c =
    commanded _ (Some (Decode c.in-Some-Decode.legacy)) _ c.decode.result _ _ _ _ _ _
    (ap Some (sym c.in-Some-Decode.field-0-is) ∙ c.in-Some-Decode.ensures.command)
    (by_search DecodeMakes _ _ _ _ _ _ _ _ _ c.of.ensures (c.decode.ensures.ran _))

pub returns-in-Some-List-clause-ran : goal.returns-in-Some-List-clause-ran
returns-in-Some-List-clause-ran g c =
    commanded _ (Some (List c.in-Some-List.sought)) _ c.list.result _ _ _ _ _ _ (ap Some (sym c.in-Some-List.field-0-is) ∙ c.in-Some-List.ensures.command)
    (by_search ListMakes _ _ _ _ _ _ _ _ _ c.search_for.ensures (c.list.ensures.ran _))

pub returns-in-Some-Gen-clause-ran : goal.returns-in-Some-Gen-clause-ran
returns-in-Some-Gen-clause-ran g c =
    commanded _ (Some (Gen c.in-Some-Gen.processors)) _ c.generate.result _ _ _ _ _ _
    (ap Some (sym c.in-Some-Gen.field-0-is) ∙ c.in-Some-Gen.ensures.command) (c.generate.ensures.ran _)

pub returns-in-Some-Boot-clause-kept : goal.returns-in-Some-Boot-clause-kept
returns-in-Some-Boot-clause-kept g c =
    words_refuse_nothing _ (Some (Boot c.in-Some-Boot.setting)) _ c.boot.result _ _ _ _ _ _
    (ap Some (sym c.in-Some-Boot.field-0-is) ∙ c.in-Some-Boot.ensures.command) c.boot.ensures.ran

pub returns-in-Some-Gen-clause-kept : goal.returns-in-Some-Gen-clause-kept
returns-in-Some-Gen-clause-kept g c =
    words_refuse_nothing _ (Some (Gen c.in-Some-Gen.processors)) _ c.generate.result _ _ _ _ _ _
    (ap Some (sym c.in-Some-Gen.field-0-is) ∙ c.in-Some-Gen.ensures.command) (c.generate.ensures.ran (g.S.Source.seen c.args.source.now))

pub returns-in-Some-Gen-clause-streams : goal.returns-in-Some-Gen-clause-streams
returns-in-Some-Gen-clause-streams g c = c.generate.ensures.streams _
