use Rattle.std.proofs.Common.{◌≡◌, ℕ, ◌+◌, List, [], ◌∷◌, ◌++◌, ap, sym, subst, arith, ◌∙◌}
use Rattle.std.proofs.lemmas.Bool.Decides.{nat_tests}
use Rattle.smbios_build.specs.Cut.{cut_at_nuls, AreStringsIn}
use Rattle.smbios_build.proofs.Cuts.{OneMore, one_more, strings_of-one}
use Rattle.smbios_build.proofs.string_set.StringSet.add.Goals as goal

-- the bytes after the text was added
added : (c : goal.After-self-1) → c.push.new.self ≡ c.self.inside.bytes ++ c.args.text.now ++ 0 ∷ []
added c = cc (c.in_default.ensures.ok, c.in_ok-extend.ensures.ok, c.as_slice.ensures)

more : (c : goal.After-self-1) → OneMore c.self.inside.bytes c.args.text.now c.self.inside.count
more c = one_more c.self.inside.bytes c.args.text.now c.self.inside.count c.self.invariant c.requires.no_nul

pub invariant_of-self-2 : goal.invariant_of-self-2
invariant_of-self-2 c = subst (λ bytes. AreStringsIn bytes (c.self.inside.count + 1)) (sym (added c)) (more c).kept

pub returns-clause-ok : goal.returns-clause-ok
returns-clause-ok c =
    let text : List ℕ = c.args.text.now in
    let string = strings_of-one text (λ none. absurd (grind (arith, nat_tests))) in
    ap cut_at_nuls (added c) ∙ (more c).strings ∙ ap (λ front. front ++ text ∷ []) c.self.view_is
    ∙ ap (λ last. c.args.self.now ++ last) (sym string)
