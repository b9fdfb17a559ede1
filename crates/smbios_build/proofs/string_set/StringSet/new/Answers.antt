use Rattle.std.proofs.Common.{ap, sym, subst, ◌∙◌}
use Rattle.smbios_build.specs.Cut.{cut_at_nuls, AreStringsIn}
use Rattle.smbios_build.proofs.Cuts.{none_in, cut-none}
use Rattle.smbios_build.proofs.string_set.StringSet.new.Goals as goal

pub invariant_of-result : goal.invariant_of-result
invariant_of-result c = subst (λ bytes. AreStringsIn bytes 0) (sym c.new.ensures) none_in

pub returns : goal.returns
returns c = ap cut_at_nuls c.new.ensures ∙ cut-none
