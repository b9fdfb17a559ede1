use Rattle.std.proofs.Common.{◌≡◌, take}
use Rattle.smbios_build.proofs.string_set.set_of.Given as goal

abbrev pub invariant-loop-text : goal.invariant-loop-text
invariant-loop-text l = l.set ≡ take l.text-index l.strings
