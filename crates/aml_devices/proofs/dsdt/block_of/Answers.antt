use Rattle.std.proofs.Common.{subst, sym, ap, ◌∙◌, ◌++◌, Err}
use Rattle.aml_terms.specs.Trees.{views}
use Rattle.aml_terms.specs.WellFormed.{AreGood}
use Rattle.aml_terms.specs.Written.{AreShort, all_spelled}
use Rattle.dsdt_terms.proofs.MachineTerms.{terms_good, terms_short}
use Rattle.aml_devices.proofs.dsdt.block_of.Goals as goal

pub encode_terms-requires : goal.encode_terms-requires
encode_terms-requires c =
    subst (λ terms. AreGood (views terms)) (sym (c.as_slice.ensures ∙ c.in_ok-terms.ensures)) (terms_good c.args.machine.now c.requires)

pub returns-in-Ok : goal.returns-in-Ok
returns-in-Ok c =
    c.in-Ok.ensures.ok ∙ ap (λ bytes. bytes ++ all_spelled (views c.as_slice.result.now)) c.new-bytes.ensures
    ∙ ap (λ terms. all_spelled (views terms)) (c.as_slice.ensures ∙ c.in_ok-terms.ensures)

pub unreachable-requires : goal.unreachable-requires
unreachable-requires c =
    c.encode_terms.ensures.too_long (c.in-Err-TermTooLong.is ∙ ap Err c.in-Err-TermTooLong.field-0-is)
    (subst (λ terms. AreShort (views terms)) (sym (c.as_slice.ensures ∙ c.in_ok-terms.ensures)) (terms_short c.args.machine.now c.requires))
