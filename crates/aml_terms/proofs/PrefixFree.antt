-- Spellings of which none is the front of another: a list of things that are spelled one after the other is told by its bytes.
use Rattle.std.proofs.Common.{◌≡◌, ℕ, ◌<◌, List, [], ◌∷◌, ◌++◌, length, drop, refl, sym, ap, ◌∙◌, subst, arith, length-append}
use Rattle.std.proofs.Math.Seq.{drop-append_seam}

module _ {A : Type 0} (Is : A → List ℕ → Type 0) where
  -- No spelling is empty, and none is the front of another.
  pub record IsPrefixFree : Type 0 where
    pub some : (a : A) (bytes : List ℕ) → Is a bytes → 0 < length bytes
    pub same : (a b : A) (first second x y : List ℕ) → Is a first → Is b second → first ++ x ≡ second ++ y → a ≡ b
    pub whole : (a b : A) (first second x y : List ℕ) → Is a first → Is b second → first ++ x ≡ second ++ y → first ≡ second

  -- things, one after the other
  abbrev pub InTurn : List A → List ℕ → Type 0
  InTurn [] bytes = bytes ≡ []
  InTurn (a ∷ xs) bytes = (first rest : List ℕ) × (bytes ≡ first ++ rest) × Is a first × InTurn xs rest

  none_left : (free : IsPrefixFree) (a : A) (first rest bytes : List ℕ) → bytes ≡ [] → bytes ≡ first ++ rest → Is a first → ⊥
  none_left free a first rest bytes e f h = omega (arith, ap length e, ap length f, length-append first rest, free.some a first h)

  -- bytes are at most one list
  pub one_list : IsPrefixFree → (these those : List A) (bytes : List ℕ) → InTurn these bytes → InTurn those bytes → these ≡ those
  one_list free [] [] bytes h k = refl
  one_list free [] (b ∷ ys) bytes h k = absurd (none_left free b k.0 k.1 bytes h k.2 k.3)
  one_list free (a ∷ xs) [] bytes h k = absurd (none_left free a h.0 h.1 bytes k h.2 h.3)
  one_list free (a ∷ xs) (b ∷ ys) bytes h k =
      let both : h.0 ++ h.1 ≡ k.0 ++ k.1 = sym h.2 ∙ k.2 in
      let head : a ≡ b = free.same a b h.0 k.0 h.1 k.1 h.3 k.3 both in
      let front : h.0 ≡ k.0 = free.whole a b h.0 k.0 h.1 k.1 h.3 k.3 both in
      let after : h.1 ≡ k.1 =
      sym (drop-append_seam h.0 h.1) ∙ ap (drop (length h.0)) both
      ∙ ap (λ first. drop (length first) (k.0 ++ k.1)) front ∙ drop-append_seam k.0 k.1 in
      let tail : xs ≡ ys = one_list free xs ys k.1 (subst (InTurn xs) after h.4) k.4 in
      ap (λ x. x ∷ xs) head ∙ ap (λ left. b ∷ left) tail
