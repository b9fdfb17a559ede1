-- How a term is seen.
use Rattle.std.proofs.Common.{◌≡◌, List, ℕ, ap, ◌∙◌, sym}
use Rattle.aml_terms.specs.declared.term.Term.{fold-roll-Term}
use Rattle.aml_terms.specs.declared.term.Term.TheVariants.{Chars, rolls-Chars}
use Rattle.aml_terms.specs.declared.term.Term.TheOpen.{Term-F}
use Rattle.aml_terms.specs.Trees.{Tree, view, view_step, chars}

pub view-chars : (text : List ℕ) → view (Chars text) ≡ chars text
view-chars text = sym (ap view (rolls-Chars text)) ∙ fold-roll-Term Tree view_step (Term-F.Chars text)
