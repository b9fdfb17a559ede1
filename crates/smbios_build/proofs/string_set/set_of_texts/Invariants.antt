use Rattle.std.proofs.Common.{◌≡◌, take, map, Bor}
use Rattle.vt_outside.specs.declared.text.Text.{Text}
use Rattle.vt_layout.specs.Strings.{strings_of}
use Rattle.smbios_build.proofs.string_set.set_of_texts.Given as goal

abbrev pub invariant-loop-text : goal.invariant-loop-text
invariant-loop-text l = l.set ≡ strings_of (take l.text-index (map (λ (text : Bor Text). text.now) l.texts))
