use Rattle.std.proofs.Common.{rules, tests, ◌==◌, ◌∙◌}
use Rattle.std.proofs.lemmas.Iterator.Consumers.{YieldsList-end}
use Rattle.std.proofs.lemmas.Iterator.Splits.{YieldsList-from_slice_split}
use Rattle.smbios_decode.proofs.strings.texts_in.Goals as goal

pub returns : goal.returns
returns c =
    let split =
    YieldsList-from_slice_split _ (λ byte. byte == 0) c.args.bytes.now (cc) (cc) (cc) (λ byte is_nul after called. search (rules, tests)) in
    c.loop-piece.invariant
    ∙ (YieldsList-end split c.loop-piece.yielded _ c.loop-piece.yielded_by _ _ c.in-None.is c.next.ensures.steps).0
