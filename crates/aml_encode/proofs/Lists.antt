-- Lists that begin with others.
use Rattle.std.proofs.Common.{◌≡◌, ℕ, List, [], ◌∷◌, ◌++◌, ap, ◌∙◌, append_assoc}
use Rattle.aml_encode.specs.Appended.{Begins}

pub begins_on : (a b c : List ℕ) → Begins a b → Begins b c → Begins a c
begins_on a b c h k = record { rest = h.rest ++ k.rest; is = k.is ∙ ap (λ x. x ++ k.rest) h.is ∙ append_assoc a h.rest k.rest }

tail_is : (x : ℕ) (ys zs : List ℕ) → x ∷ ys ≡ x ∷ zs → ys ≡ zs
tail_is x ys zs e = cc

-- what is behind the same is the same
pub cancelled : (xs ys zs : List ℕ) → xs ++ ys ≡ xs ++ zs → ys ≡ zs
cancelled [] ys zs e = e
cancelled (x ∷ xs) ys zs e = cancelled xs ys zs (tail_is x (xs ++ ys) (xs ++ zs) e)
