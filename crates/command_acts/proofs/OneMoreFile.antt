-- Placed files after one more is placed.
use Rattle.std.proofs.Common.{◌≡◌, ℕ, ◌+◌, ◌≤◌, ◌⊎◌, inl, inr, false, List, [], ◌∷◌, ◌++◌, map}
use Rattle.std.specs.List.{AllByRecursion}
use Rattle.std.specs.Str.{bytes_eq}
use Rattle.std.proofs.lemmas.Bool.Decides.{not_from_Decides}
use Rattle.std.proofs.lemmas.Slice.Eq.{bytes_eq-Decides}
use Rattle.vt_bytes.specs.Memory.{IsRamRange}
use Rattle.command_acts.specs.declared.placed.PlacedFile.{PlacedFile}
use Rattle.vt_outside.specs.Placement.{Apart}
use Rattle.command_acts.specs.FilesInMemory.{placed_range, EndsLow, AreApart, ArePlaced}

-- what holds of each element and of one more
pub all_push : {A : Type 0} (P : A → Type 0) (xs : List A) (x : A) → AllByRecursion P xs → P x → AllByRecursion P (xs ++ x ∷ [])
all_push P [] x all one = (one, tt)
all_push P (y ∷ ys) x all one = (all.0, all_push P ys x all.1 one)

-- A file that may be placed after others: it stands in RAM and ends low, is apart from each, and has a name of its own.
pub record IsNew (top : ℕ) (placed : List PlacedFile) (p : PlacedFile) : Type 0 where
  pub ram : IsRamRange top p.place p.size
  pub low : EndsLow p
  pub apart : AllByRecursion (Apart (placed_range p)) (map placed_range placed)
  pub names : AllByRecursion (λ (q : PlacedFile). bytes_eq q.name p.name ≡ false) placed

-- it is new to the files after the first one too
later_new : (top : ℕ) (q p : PlacedFile) (placed : List PlacedFile) → IsNew top (q ∷ placed) p → IsNew top placed p
later_new top q p placed new = record { ram = new.ram; low = new.low; apart = new.apart.1; names = new.names.1 }

-- the first file is apart from it
first_apart : (top : ℕ) (q p : PlacedFile) (placed : List PlacedFile) → IsNew top (q ∷ placed) p → AreApart q p
first_apart top q p placed new = record {
  ranges = elim new.apart.0 as (λ _. (q.place + q.size ≤ p.place) ⊎ (p.place + p.size ≤ q.place)) [ inl l ↦ inr l | inr l ↦ inl l ];
  names = not_from_Decides _ (bytes_eq-Decides q.name p.name) new.names.0;
}

-- with it all are placed
pub ArePlaced-push : (top : ℕ) (placed : List PlacedFile) (p : PlacedFile) → ArePlaced top placed → IsNew top placed p → ArePlaced top (placed ++ p ∷ [])
ArePlaced-push top [] p placed new = (new.ram, new.low, tt, tt)
ArePlaced-push top (q ∷ files) p placed new = (
  placed.0,
  placed.1,
  all_push (AreApart q) files p placed.2 (first_apart top q p files new),
  ArePlaced-push top files p placed.3
      (later_new top q p files new),
)
