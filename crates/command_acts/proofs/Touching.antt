-- Addresses of placed files.
use Rattle.std.proofs.Common.{◌≡◌, ℕ, ◌+◌, ◌<◌, ◌≤◌, inl, inr, List, [], ◌∷◌, ◌++◌, Some, sym, subst, ◌∙◌}
use Rattle.std.specs.Str.{bytes_eq}
use Rattle.std.proofs.lemmas.Bool.{cases_Bool, cond-true, cond-false}
use Rattle.std.proofs.lemmas.Option.{same_Some, none-some}
use Rattle.command_acts.specs.declared.placed.PlacedFile.{PlacedFile}
use Rattle.command_acts.specs.FilesInMemory.{placed_named, placed_ranges}
use Rattle.command_acts.specs.Touching.{IsInOne}

-- an address of the placed file of a name
pub in_named : (placed : List PlacedFile) (name : List ℕ) (p : PlacedFile) (address : ℕ) → placed_named placed name ≡ Some p
    → (p.place ≤ address) × (address < p.place + p.size) → IsInOne (placed_ranges placed) address
in_named [] name p address found within = absurd (none-some p found)
in_named (q ∷ files) name p address found within =
    elim (cases_Bool (bytes_eq q.name name)) as (λ _. IsInOne (placed_ranges (q ∷ files)) address) [
      | inl named ↦
          let is : q ≡ p = same_Some q p (sym (cond-true _ _ _ named) ∙ found) in
          inl (subst (λ (r : PlacedFile). (r.place ≤ address) × (address < r.place + r.size)) (sym is) within)
      | inr other ↦ inr (in_named files name p address (sym (cond-false _ _ _ other) ∙ found) within)
    ]

-- an address of a placed file is one where others are placed behind it
pub in_more : (placed more : List PlacedFile) (address : ℕ) → IsInOne (placed_ranges placed) address → IsInOne (placed_ranges (placed ++ more)) address
in_more [] more address within = absurd within
in_more (p ∷ placed) more address within = elim within as (λ _. IsInOne (placed_ranges (p ∷ placed ++ more)) address) [
  | inl here ↦ inl here
  | inr later ↦ inr (in_more placed more address later)
]

-- an address of the last of placed files
pub in_last : (before : List PlacedFile) (p : PlacedFile) (address : ℕ) → (p.place ≤ address) × (address < p.place + p.size)
    → IsInOne (placed_ranges (before ++ p ∷ [])) address
in_last [] p address within = inl within
in_last (q ∷ before) p address within = inr (in_last before p address within)
