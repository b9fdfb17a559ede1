-- Parts are put on their nodes one after the other.
use Rattle.std.proofs.Common.{◌≡◌, ℕ, zero, suc, ◌+◌, List, [], ◌∷◌, ◌++◌, length, take, drop, slice_get, slice_set, Some, unwrap_or, refl}
use Rattle.std.proofs.Common.{arith, ap, sym, subst, ◌∙◌, append_assoc}
use Rattle.std.proofs.Math.Seq.{take-suc-set, drop-cons}
use Rattle.std.proofs.lemmas.List.{drop-set-lt, length-set}
use Rattle.std.proofs.lemmas.Option.{slice_get_within, unwrap_or-slice_get}
use Rattle.acpi_records.specs.declared.srat_entry.SratEntry.{SratEntry}
use Rattle.acpi_told.specs.Nodes.{node_at, on_told_nodes}
use Rattle.acpi_told.proofs.OneMore.{next_number}

-- the first part is put on the node of the first entry that is left, and the others on those behind
first_placed : {Part : Type 0} (told : Part → SratEntry → ℕ) (placed : Part → ℕ → Part) (entries : List SratEntry) (place : ℕ) (part : Part)
    (parts : List Part) → on_told_nodes told placed (drop place entries) (part ∷ parts)
    ≡ placed part (node_at told entries place part) ∷ on_told_nodes told placed (drop (suc place) entries) parts
first_placed told placed [] zero part parts = refl
first_placed told placed [] (suc place) part parts = refl
first_placed told placed (entry ∷ entries) zero part parts = refl
first_placed told placed (entry ∷ entries) (suc place) part parts = first_placed told placed entries place part parts

-- The parts in front of a place are on their nodes, and those from there on are as they were.
pub record ArePlaced {Part : Type 0} (told : Part → SratEntry → ℕ) (placed : Part → ℕ → Part) (entries : List SratEntry) (all : List Part)
    (place : ℕ) (parts : List Part) : Type 0 where
  pub long : length parts ≡ length all
  pub so_far : on_told_nodes told placed entries all ≡ take place parts ++ on_told_nodes told placed (drop place entries) (drop place parts)

-- what is left begins with the part at the place
left_at : {Part : Type 0} (parts : List Part) (place : ℕ) (part : Part) → slice_get parts place ≡ Some part
    → drop place parts ≡ part ∷ drop (suc place) parts
left_at parts place part is =
    drop-cons parts place part (slice_get_within parts place part is)
    ∙ ap (λ first. first ∷ drop (suc place) parts) (sym (unwrap_or-slice_get parts place part) ∙ ap (λ found. unwrap_or found part) is)

pub next_placed : {Part : Type 0} (told : Part → SratEntry → ℕ) (placed : Part → ℕ → Part) (entries : List SratEntry) (all : List Part)
    (place : ℕ) (parts : List Part) (part : Part) → slice_get parts place ≡ Some part → ArePlaced told placed entries all place parts
    → ArePlaced told placed entries all (place + 1) (slice_set parts place (placed part (node_at told entries place part)))
next_placed told placed entries all place parts part is before =
    let here = placed part (node_at told entries place part) in
    let within = slice_get_within parts place part is in
    let rest = on_told_nodes told placed (drop (suc place) entries) (drop (suc place) parts) in
    subst (λ n. ArePlaced told placed entries all n (slice_set parts place here)) (sym (next_number place)) (record {
      long = length-set parts place here ∙ before.long;
      so_far =
          before.so_far ∙ ap (λ left. take place parts ++ on_told_nodes told placed (drop place entries) left) (left_at parts place part is)
          ∙ ap (λ those. take place parts ++ those) (first_placed told placed entries place part (drop (suc place) parts))
          ∙ sym (append_assoc (take place parts) (here ∷ []) rest)
          ∙ ap (λ front. front ++ rest) (sym (take-suc-set parts place here within))
          ∙ ap (λ left. take (suc place) (slice_set parts place here) ++ on_told_nodes told placed (drop (suc place) entries) left)
          (sym (drop-set-lt (suc place) parts place here (omega arith)));
    })
