use Rattle.std.proofs.Common.{ℕ, List, [], ◌∷◌, ◌++◌, map, Bor, arith, ap, sym, ◌∙◌}
use Rattle.std.proofs.lemmas.List.{get_or-map, length-map}
use Rattle.vt_outside.specs.declared.text.Text.{Text}
use Rattle.vt_bytes.proofs.Each.{each_at}
use Rattle.vt_layout.specs.Strings.{HasNoNul, strings_of}
use Rattle.smbios_build.proofs.Texts.{strings_of-more, few_before}
use Rattle.smbios_build.proofs.string_set.set_of_texts.Goals as goal

-- what a text's reference points to
now : Bor Text → List ℕ
now text = text.now

pub add-requires-clause-few : goal.add-requires-clause-few
unfolding now
add-requires-clause-few c =
    let all = map now c.args.texts.now in
    let size = length-map c.args.texts.now now in
    omega (
      arith,
      size,
      c.loop-text-test.true,
      c.requires.few,
      few_before all c.loop-text.set c.loop-text.text-index (omega (arith, size, c.loop-text-test.true)) c.loop-text.invariant,
    )

pub add-requires-clause-no_nul : goal.add-requires-clause-no_nul
unfolding now
add-requires-clause-no_nul c =
    let all = map now c.args.texts.now in
    let text = get_or-map now c.args.texts.now c.loop-text.text-index c.text-item.result [] c.loop-text-test.true ∙ ap now (sym c.text-item.is) in
    each_at HasNoNul all c.loop-text.text-index [] c.text-item.result.now (omega (arith, length-map c.args.texts.now now, c.loop-text-test.true))
    (sym text) c.requires.no_nuls

pub loop-text-preserved : goal.loop-text-preserved
unfolding now
loop-text-preserved c =
    let all = map now c.args.texts.now in
    let text = get_or-map now c.args.texts.now c.loop-text.text-index c.text-item.result [] c.loop-text-test.true ∙ ap now (sym c.text-item.is) in
    c.in_ok-add.ensures.ok ∙ ap (λ before. before ++ strings_of (c.text-item.result.now ∷ [])) c.loop-text.invariant
    ∙ strings_of-more all c.loop-text.text-index c.text-item.result.now (omega (arith, length-map c.args.texts.now now, c.loop-text-test.true)) (sym text)
