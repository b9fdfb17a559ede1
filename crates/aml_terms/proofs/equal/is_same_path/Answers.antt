use Rattle.std.proofs.Common.{◌≡◌, ◌∙◌, sym, nat_eq}
use Rattle.std.specs.Cmp.{booleans_Decides, unsigned_Decides}
use Rattle.std.specs.Cmp.Lexicographic.{pointwise}
use Rattle.aml_terms.proofs.SamePaths.{same_segments}
use Rattle.aml_terms.proofs.equal.is_same_path.Goals as goal
use Rattle.aml_terms.proofs.equal.is_same_path.Goals.{then-left-right, else-left-right}

-- Both roots and both numbers of levels were found equal, so that the segments decide.
pub returns-then-left-right-2 : goal.returns-then-left-right-2
returns-then-left-right-2 c =
    let p = c.args.left.now in
    let q = c.args.right.now in
    let same : c.eq.result ≡ pointwise (pointwise nat_eq) p.segments q.segments = cc in
    elim c.if-left-right.branch [
      | then-left-right w ↦ same_segments p q c.eq.result same ((booleans_Decides p.root q.root).0 w.if-left-right.true)
          ((unsigned_Decides p.parents q.parents).0 (sym w.value-is ∙ c.if-left-right-2.true))
      | else-left-right w ↦ absurd cc
    ]
