-- Lists in which each element has a number of its own.
use Rattle.std.specs.Prelude.{◌≡◌, ℕ, ◌<◌, List, length}
use Rattle.std.specs.List.{slice_index_or}

-- elements at different places have different numbers
abbrev pub AreDistinct : {A : Type 0} → (A → ℕ) → List A → Type 0
AreDistinct {A} number elements =
    (i j : ℕ) (d : A) → i < j → j < length elements → number (slice_index_or elements i d) ≡ number (slice_index_or elements j d) → ⊥
