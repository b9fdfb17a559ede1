use Rattle.std.proofs.Common.{eq-eqb, eqb-true, sym, ◌∙◌}
use Rattle.std.proofs.lemmas.Bool.{false≢true}
use Rattle.anchor_scan.proofs.OldAnchors.{old_tests_say, old_tests_pass}
use Rattle.anchor_scan.proofs.smbios2.has_length_and_sums.Goals as goal

pub returns-then-read-ne-LENGTH : goal.returns-then-read-ne-LENGTH
returns-then-read-ne-LENGTH c = (
  λ passes. absurd (false≢true passes),
  λ has.
      let tests = old_tests_pass c.args.memory.now.memory c.args.address c.requires.from c.requires.within has in
      absurd (c.if-read-ne-LENGTH.true (c.read.ensures ∙ tests.length)),
)

pub returns-then-sum_range-ne0 : goal.returns-then-sum_range-ne0
returns-then-sum_range-ne0 c = (
  λ passes. absurd (false≢true passes),
  λ has.
      let tests = old_tests_pass c.args.memory.now.memory c.args.address c.requires.from c.requires.within has in
      absurd (c.if-sum_range-ne0.true (c.sum_range.ensures ∙ tests.all)),
)

pub returns : goal.returns
returns c =
    let m = c.args.memory.now.memory in
    let address = c.args.address in (
      λ passes. old_tests_say m address c.requires.from c.requires.within (record {
        length = sym c.read.ensures ∙ c.if-read-ne-LENGTH.false;
        all = sym c.sum_range.ensures ∙ c.if-sum_range-ne0.false;
        range = sym c.sum_range-2.ensures ∙ eqb-true c.sum_range-2.result 0 passes;
      }),
      λ has. eq-eqb c.sum_range-2.result 0 (c.sum_range-2.ensures ∙ (old_tests_pass m address c.requires.from c.requires.within has).range),
    )
