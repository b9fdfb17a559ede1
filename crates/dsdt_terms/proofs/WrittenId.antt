-- What the terms of a machine with an id of its generation are written as ends in the low half of the id's address and a zero; so do the rows
-- of its definition block, with the place of the id's file added.
use Rattle.std.proofs.Common.{◌≡◌, ℕ, ◌+◌, ◌<◌, ◌^◌, List, [], ◌∷◌, ◌++◌, codes, length, Option, Some, None, is_some, IsSome, subst, arith, refl, sym}
use Rattle.std.proofs.Common.{ap, ap₂, ◌∙◌, cond, append-nil, append_assoc}
use Rattle.vt_bytes.specs.Numbers.{le_bytes}
use Rattle.vt_layout.specs.declared.row.Row.{Row}
use Rattle.vt_layout.specs.declared.row.Row.TheVariants.{Number, Bytes, Pointer}
use Rattle.vt_layout.specs.Rows.{bytes_of, linked, spelled as rows_spelled}
use Rattle.aml_terms.specs.declared.term.Term.TheVariants.{Int, Fixed, Scope}
use Rattle.aml_terms.specs.Trees.{Tree, Trees, int, fixed, pack, scope, no_trees, tree, views}
use Rattle.aml_terms.specs.Grammar.{Aml}
use Rattle.aml_terms.specs.Written.{written, path_bytes, integer, spelled, all_spelled}
use Rattle.aml_terms.proofs.BytesOfParts.{all_spelled-tree}
use Rattle.machine_desc.specs.declared.machine.Machine.{Machine}
use Rattle.machine_desc.specs.Rules.{IsAccepted}
use Rattle.machine_desc.specs.Fields.{HasFittingFields}
use Rattle.dsdt_terms.specs.Names.{path_to}
use Rattle.dsdt_terms.specs.Dsdt.{generation_devices, placeless_devices, devices_with, system_bus, terms_with, terms_at, generation_file, id_offset}
use Rattle.dsdt_terms.specs.Dsdt.{id_address, dsdt_bytes, front_bytes, dsdt_body}
use Rattle.dsdt_terms.proofs.Views.{view-fixed}
use Rattle.dsdt_terms.proofs.MachineTerms.{terms_spelled}
use Rattle.dsdt_terms.proofs.LowHalf.{address_tree, id_tree, kind_tree, generation_tree, view-generation, both, views-append, view-terms}
use Rattle.dsdt_terms.proofs.Ends.{tail, Ends, ends_as, ends_behind, ends_alone, ends_enclosed, front_taken}

-- trees behind others, as they are written
both-spelled : (ts us : Trees) → all_spelled (both ts us) ≡ all_spelled ts ++ all_spelled us
unfolding written
both-spelled no_trees us = refl
both-spelled (tree t ts) us =
    all_spelled-tree t (both ts us) ∙ ap (λ those. spelled t ++ those) (both-spelled ts us) ∙ sym (append_assoc (spelled t) (all_spelled ts) (all_spelled us))
    ∙ ap (λ those. those ++ all_spelled us) (sym (all_spelled-tree t ts))

-- the package of both halves, its name, its device, and all terms
ends_halves : Ends (λ n. spelled (pack (tree (fixed n) (tree (int 0) no_trees))))
unfolding written integer
ends_halves =
    ends_enclosed (0x12 ∷ []) (λ n. 2 ∷ 0x0C ∷ tail n) (ends_behind (2 ∷ 0x0C ∷ []) tail (record { front = []; are = λ n. refl }))

ends_address : Ends (λ n. spelled (address_tree (fixed n)))
unfolding written
ends_address =
    ends_behind (0x08 ∷ path_bytes (path_to (codes "ADDR"))) (λ n. spelled (pack (tree (fixed n) (tree (int 0) no_trees)))) ends_halves

-- a tree behind others, and alone
ends_last : (front : Trees) (last : ℕ → Tree) → Ends (λ n. spelled (last n)) → Ends (λ n. all_spelled (both front (tree (last n) no_trees)))
unfolding written
ends_last front last ends =
    ends_as (λ n. all_spelled front ++ (spelled (last n) ++ [])) (λ n. all_spelled (both front (tree (last n) no_trees)))
    (λ n. both-spelled front (tree (last n) no_trees) ∙ ap (λ those. all_spelled front ++ those) (all_spelled-tree (last n) no_trees))
    (ends_behind (all_spelled front) (λ n. spelled (last n) ++ []) (ends_alone (λ n. spelled (last n)) ends))

ends_device : Ends (λ n. spelled (generation_tree (fixed n)))
unfolding written
ends_device =
    let inside = ends_last (tree id_tree (tree kind_tree no_trees)) (λ n. address_tree (fixed n)) ends_address in
    ends_enclosed (0x5B ∷ 0x82 ∷ []) (λ n. path_bytes (path_to (codes "VGEN")) ++ all_spelled
    (tree id_tree (tree kind_tree (tree (address_tree (fixed n)) no_trees))))
    (ends_behind (path_bytes (path_to (codes "VGEN"))) (λ n. all_spelled (tree id_tree (tree kind_tree (tree (address_tree (fixed n)) no_trees)))) inside)

-- the devices of a machine with an id, as they are seen
devices_seen : (n number : ℕ) (m : Machine) → m.generation ≡ Some number
    → views (devices_with (Fixed n) m) ≡ both (views (placeless_devices m)) (tree (generation_tree (fixed n)) no_trees)
devices_seen n number m is =
    views-append (placeless_devices m) (generation_devices (Fixed n) m.generation)
    ∙ ap (both (views (placeless_devices m)))
    (ap (λ id. views (generation_devices (Fixed n) id)) is ∙ ap (λ t. tree t no_trees) (view-generation (Fixed n) ∙ ap generation_tree (view-fixed n)))

ends_bus : (front : Trees) → Ends (λ n. all_spelled (tree (scope system_bus (both front (tree (generation_tree (fixed n)) no_trees))) no_trees))
unfolding written
ends_bus front =
    let devices = ends_last front (λ n. generation_tree (fixed n)) ends_device in
    let bus = ends_enclosed (0x10 ∷ []) (λ n. path_bytes system_bus ++ all_spelled (both front (tree (generation_tree (fixed n)) no_trees)))
    (ends_behind (path_bytes system_bus) (λ n. all_spelled (both front (tree (generation_tree (fixed n)) no_trees))) devices) in
    ends_last no_trees (λ n. scope system_bus (both front (tree (generation_tree (fixed n)) no_trees))) bus

pub ends_terms : (number : ℕ) (m : Machine) → m.generation ≡ Some number → Ends (λ n. all_spelled (views (terms_with (Fixed n) m)))
ends_terms number m is =
    ends_as (λ n. all_spelled (tree (scope system_bus (both (views (placeless_devices m)) (tree (generation_tree (fixed n)) no_trees))) no_trees))
    (λ n. all_spelled (views (terms_with (Fixed n) m)))
    (λ n. ap all_spelled (view-terms (Fixed n) m ∙ ap (λ ts. tree (scope system_bus ts) no_trees) (devices_seen n number m is)))
    (ends_bus (views (placeless_devices m)))

-- without an id nothing depends on a number
terms_alike : (n : ℕ) (m : Machine) → m.generation ≡ None → terms_with (Fixed n) m ≡ terms_with (Fixed id_offset) m
terms_alike n m none =
    let alike : generation_devices (Fixed n) m.generation ≡ generation_devices (Fixed id_offset) m.generation =
    ap (generation_devices (Fixed n)) none ∙ sym (ap (generation_devices (Fixed id_offset)) none) in
    ap (λ those. Scope system_bus (placeless_devices m ++ those) ∷ []) alike

-- the rows of the definition block, with a pointer's number in place of its offset, and as they are written
body_with : Machine → Row → Option ℕ → List Row
body_with m pointer None = Bytes (length (dsdt_bytes m)) (dsdt_bytes m) ∷ []
body_with m pointer (Some number) = Bytes (length (front_bytes m)) (front_bytes m) ∷ pointer ∷ Bytes 1 (0 ∷ []) ∷ []

body_is : (m : Machine) (id : Option ℕ) → m.generation ≡ id → dsdt_body m ≡ body_with m (Pointer 4 generation_file id_offset) id
unfolding body_with
body_is m None is = ap (λ o. cond (is_some o) (body_with m (Pointer 4 generation_file id_offset) (Some 0))
    (body_with m (Pointer 4 generation_file id_offset) None)) is
body_is m (Some number) is =
    ap (λ o. cond (is_some o) (body_with m (Pointer 4 generation_file id_offset) (Some 0)) (body_with m (Pointer 4 generation_file id_offset) None)) is

spelled_with : (n : ℕ) (m : Machine) (id : Option ℕ) (row : Row) → m.generation ≡ id → bytes_of row ≡ le_bytes 4 n
    → rows_spelled (body_with m row id) ≡ all_spelled (views (terms_with (Fixed n) m))
unfolding body_with
spelled_with n m None row is bytes = append-nil (dsdt_bytes m) ∙ ap (λ ts. all_spelled (views ts)) (sym (terms_alike n m is))
spelled_with n m (Some number) row is bytes =
    let ends = ends_terms number m is in
    ap₂ (λ those last. those ++ (last ++ 0 ∷ [])) (front_taken (λ k. all_spelled (views (terms_with (Fixed k) m))) ends id_offset) bytes ∙ sym (ends.are n)

pub body_spelled : (m : Machine) → rows_spelled (dsdt_body m) ≡ dsdt_bytes m
body_spelled m =
    ap rows_spelled (body_is m m.generation refl) ∙ spelled_with id_offset m m.generation (Pointer 4 generation_file id_offset) refl refl

linked_with : (place_of : List ℕ → ℕ) (m : Machine) (id : Option ℕ)
    → linked place_of (body_with m (Pointer 4 generation_file id_offset) id) ≡ body_with m (Number 4 (id_address place_of)) id
unfolding body_with
linked_with place_of m None = refl
linked_with place_of m (Some number) = refl

pub linked_spelled : (place_of : List ℕ → ℕ) (m : Machine)
    → rows_spelled (linked place_of (dsdt_body m)) ≡ all_spelled (views (terms_with (Fixed (id_address place_of)) m))
linked_spelled place_of m =
    ap (λ rows. rows_spelled (linked place_of rows)) (body_is m m.generation refl) ∙ ap rows_spelled (linked_with place_of m m.generation)
    ∙ spelled_with (id_address place_of) m m.generation (Number 4 (id_address place_of)) refl refl

-- which is spelled by the terms that lead to the id there
read_with : (place_of : List ℕ → ℕ) (m : Machine) (id : Option ℕ) → m.generation ≡ id → IsAccepted m → HasFittingFields m
    → (IsSome id → id_address place_of < 2 ^ 32)
    → Aml (views (terms_at (id_address place_of) m)) (rows_spelled (linked place_of (dsdt_body m)))
read_with place_of m (Some number) is accepted fit small =
    subst (Aml (views (terms_at (id_address place_of) m))) (sym (linked_spelled place_of m)) (terms_spelled (id_address place_of) m (small refl) accepted fit)
read_with place_of m None is accepted fit small =
    let alike : generation_devices (Int id_offset) m.generation ≡ generation_devices (Int (id_address place_of)) m.generation =
    ap (generation_devices (Int id_offset)) is ∙ sym (ap (generation_devices (Int (id_address place_of))) is) in
    let terms : terms_at id_offset m ≡ terms_at (id_address place_of) m = ap (λ those. Scope system_bus (placeless_devices m ++ those) ∷ []) alike in
    subst (Aml (views (terms_at (id_address place_of) m))) (sym (linked_spelled place_of m ∙ ap (λ ts. all_spelled (views ts)) (terms_alike
    (id_address place_of) m is)))
    (subst (λ ts. Aml (views ts) (all_spelled (views (terms_with (Fixed id_offset) m)))) terms (terms_spelled id_offset m (omega arith) accepted fit))

pub body_read : (m : Machine) (place_of : List ℕ → ℕ) → IsAccepted m → HasFittingFields m → (IsSome m.generation → id_address place_of < 2 ^ 32)
    → Aml (views (terms_at (id_address place_of) m)) (rows_spelled (linked place_of (dsdt_body m)))
body_read m place_of accepted fit small = read_with place_of m m.generation refl accepted fit small
