use Rattle.std.proofs.Common.{length, ◌-◌, ◌≡◌, drop}
use Rattle.desc_schema.specs.Form.{texts_of}
use Rattle.desc_schema.specs.Single.{word_from}
use Rattle.desc_schema.proofs.single.word_of.Given as goal

abbrev pub invariant-loop-place : goal.invariant-loop-place
invariant-loop-place l = word_from l.at l.place (texts_of (drop l.place l.words)) l.text ≡ word_from l.at 0 (texts_of l.words) l.text

abbrev pub decreases-loop-place : goal.decreases-loop-place
decreases-loop-place l = length l.words - l.place
