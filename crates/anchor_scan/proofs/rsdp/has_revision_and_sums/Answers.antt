use Rattle.std.proofs.Common.{ap, eq-eqb, eqb-true, sym, ◌∙◌}
use Rattle.std.proofs.lemmas.Bool.{false≢true}
use Rattle.vt_bytes.specs.Numbers.{byte_sum}
use Rattle.vt_bytes.specs.Memory.{bytes_at}
use Rattle.acpi_model.specs.Form.{has_revision}
use Rattle.anchor_scan.proofs.Rsdps.{tests_say, tests_pass}
use Rattle.anchor_scan.proofs.rsdp.has_revision_and_sums.Goals as goal

pub returns-then-not-has_revision : goal.returns-then-not-has_revision
returns-then-not-has_revision c = (
  λ passes. absurd (false≢true passes),
  λ has.
      let tests = tests_pass c.args.memory.now.memory c.args.form c.args.address c.requires.from c.requires.within has in
      sym c.if-not-has_revision.true ∙ c.has_revision.ensures ∙ ap (has_revision c.args.form) c.read.ensures ∙ tests.revised,
)

pub returns-then-sum_range-ne0 : goal.returns-then-sum_range-ne0
returns-then-sum_range-ne0 c = (
  λ passes. absurd (false≢true passes),
  λ has.
      let tests = tests_pass c.args.memory.now.memory c.args.form c.args.address c.requires.from c.requires.within has in
      absurd (c.if-sum_range-ne0.true (c.sum_range.ensures ∙ tests.first)),
)

pub returns : goal.returns
returns c =
    let m = c.args.memory.now.memory in
    let address = c.args.address in
    let summed = c.sum_range-2.ensures ∙ ap (λ count. byte_sum (bytes_at m address count)) c.rsdp_size.ensures.size in (
      λ passes. tests_say m c.args.form address c.requires.from c.requires.within (record {
        revised = ap (has_revision c.args.form) (sym c.read.ensures) ∙ sym c.has_revision.ensures ∙ c.if-not-has_revision.false;
        first = sym c.sum_range.ensures ∙ c.if-sum_range-ne0.false;
        all = sym summed ∙ eqb-true c.sum_range-2.result 0 passes;
      }),
      λ has. eq-eqb c.sum_range-2.result 0 (summed ∙ (tests_pass m c.args.form address c.requires.from c.requires.within has).all),
    )
