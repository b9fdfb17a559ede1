use Rattle.std.proofs.Common.{◌≡◌, min, length, take}
use Rattle.vt_layout.specs.Strings.{strings_of, with_nuls}
use Rattle.smbios_build.proofs.sizes.strings_size.Given as goal

abbrev pub invariant-loop-text : goal.invariant-loop-text
invariant-loop-text l = l.total ≡ min (length (with_nuls (strings_of (take l.text-index l.texts)))) 0xFFFFFFFFFFFFFFFF
