-- Parts are put back on their own nodes by the entries of a machine's SRAT.
use Rattle.std.proofs.Common.{◌≡◌, ℕ, List, [], ◌∷◌, map, refl, ap, ap₂, sym}
use Rattle.std.specs.List.{AllByRecursion}
use Rattle.acpi_records.specs.declared.srat_entry.SratEntry.{SratEntry}
use Rattle.acpi_model.specs.MachineSrat.{nodes_told}
use Rattle.acpi_told.specs.Nodes.{on_nodes}

-- parts without their nodes, each put on its own
pub on_own : {Part : Type 0} (placed : Part → ℕ → Part) (bare : Part → Part) (node : Part → ℕ) → ((p : Part) → placed (bare p) (node p) ≡ p)
    → (parts : List Part) → on_nodes placed (map node parts) (map bare parts) ≡ parts
on_own placed bare node is [] = refl
on_own placed bare node is (p ∷ parts) = ap₂ (λ first others. first ∷ others) (is p) (on_own placed bare node is parts)

-- what is told of each part alike is told of all alike
pub told_alike : {A B : Type 0} (f : A → B) (told : B → SratEntry → ℕ) (also : A → SratEntry → ℕ) → ((a : A) (e : SratEntry) → told (f a) e ≡ also a e)
    → (parts : List A) (entries : List SratEntry) → nodes_told told (map f parts) entries ≡ nodes_told also parts entries
told_alike f told also same [] entries = refl
told_alike f told also same (a ∷ parts) [] = ap (λ nodes. 0 ∷ nodes) (told_alike f told also same parts [])
told_alike f told also same (a ∷ parts) (e ∷ entries) =
    ap₂ (λ first others. first ∷ others) (same a e) (told_alike f told also same parts entries)

-- no entry tells the nodes of parts that are all on node 0
pub none_told : {Part : Type 0} (told : Part → SratEntry → ℕ) (bare : Part → Part) (node : Part → ℕ) (parts : List Part)
    → AllByRecursion (λ p. node p ≡ 0) parts → nodes_told told (map bare parts) [] ≡ map node parts
none_told told bare node [] zero = refl
none_told told bare node (p ∷ parts) zero =
    ap₂ (λ first others. first ∷ others) (sym zero.0) (none_told told bare node parts zero.1)
