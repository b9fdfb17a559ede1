-- The terms of a machine with the low half of its id's address: how they are seen, and read again.
use Rattle.std.proofs.Common.{◌≡◌, ℕ, List, [], ◌∷◌, ◌++◌, codes, Option, Some, None, refl, sym, ap, ap₂, ◌∙◌}
use Rattle.aml_terms.specs.declared.term.Term.{Term}
use Rattle.aml_terms.specs.declared.term.Term.TheVariants.{Int, Fixed, Chars, Package}
use Rattle.aml_terms.specs.Trees.{Tree, Trees, int, chars, pack, named, scope, device as device_tree, no_trees, tree, view, views}
use Rattle.aml_terms.specs.WellFormed.{plain, all_plain}
use Rattle.machine_desc.specs.declared.machine.Machine.{Machine}
use Rattle.machine_desc.specs.Rules.{IsAccepted}
use Rattle.dsdt_terms.specs.Names.{path_to, name}
use Rattle.dsdt_terms.specs.Devices.{generation_device}
use Rattle.dsdt_terms.specs.Dsdt.{generation_devices, placeless_devices, devices_with, system_bus, terms_with, terms_at}
use Rattle.dsdt_terms.proofs.Views.{view-int, view-fixed, view-chars, view-package, view-named, view-scope, view-device, seen}
use Rattle.dsdt_terms.proofs.MachineParts.{placeless_same}

-- the name of the address, and its device, as they are seen
abbrev pub address_tree : Tree → Tree
address_tree low = named (path_to (codes "ADDR")) (pack (tree low (tree (int 0) no_trees)))

abbrev pub id_tree : Tree
id_tree = named (path_to (codes "_HID")) (chars (codes "QEMUVGID"))

abbrev pub kind_tree : Tree
kind_tree = named (path_to (codes "_CID")) (chars (codes "VM_Gen_Counter"))

abbrev pub generation_tree : Tree → Tree
generation_tree low = device_tree (path_to (codes "VGEN")) (tree id_tree (tree kind_tree (tree (address_tree low) no_trees)))

view-text : (segment text : List ℕ) → view (name segment (Chars text)) ≡ named (path_to segment) (chars text)
view-text segment text = view-named (path_to segment) (Chars text) ∙ ap (named (path_to segment)) (view-chars text)

view-address : (low : Term) → view (name (codes "ADDR") (Package (low ∷ Int 0 ∷ []))) ≡ address_tree (view low)
view-address low =
    view-named (path_to (codes "ADDR")) (Package (low ∷ Int 0 ∷ []))
    ∙ ap (named (path_to (codes "ADDR"))) (view-package (low ∷ Int 0 ∷ []) ∙ ap pack (seen refl (seen (view-int 0) refl)))

pub view-generation : (low : Term) → view (generation_device low) ≡ generation_tree (view low)
view-generation low =
    view-device (path_to (codes "VGEN"))
    (name (codes "_HID") (Chars (codes "QEMUVGID")) ∷ name (codes "_CID") (Chars (codes "VM_Gen_Counter"))
    ∷ name (codes "ADDR") (Package (low ∷ Int 0 ∷ [])) ∷ [])
    ∙ ap (device_tree (path_to (codes "VGEN")))
    (seen (view-text (codes "_HID") (codes "QEMUVGID"))
    (seen (view-text (codes "_CID") (codes "VM_Gen_Counter")) (seen (view-address low) refl)))

-- trees behind others
abbrev pub both : Trees → Trees → Trees
both no_trees others = others
both (tree t ts) others = tree t (both ts others)

pub views-append : (ts us : List Term) → views (ts ++ us) ≡ both (views ts) (views us)
views-append [] us = refl
views-append (t ∷ ts) us = ap (tree (view t)) (views-append ts us)

plain-both : (ts us : Trees) → all_plain (both ts us) ≡ both (all_plain ts) (all_plain us)
unfolding plain
plain-both no_trees us = refl
plain-both (tree t ts) us = ap (tree (plain t)) (plain-both ts us)

-- all terms as they are seen
pub view-terms : (low : Term) (m : Machine) → views (terms_with low m) ≡ tree (scope system_bus (views (devices_with low m))) no_trees
view-terms low m = seen (view-scope system_bus (devices_with low m)) refl

-- a dword is read again as its number
plain-generation : (n : ℕ) (id : Option ℕ) → all_plain (views (generation_devices (Fixed n) id)) ≡ views (generation_devices (Int n) id)
unfolding plain
plain-generation n None = refl
plain-generation n (Some number) =
    ap (λ t. tree (plain t) no_trees) (view-generation (Fixed n) ∙ ap generation_tree (view-fixed n))
    ∙ ap (λ t. tree t no_trees) (sym (view-generation (Int n) ∙ ap generation_tree (view-int n)))

pub plain-terms : (n : ℕ) (m : Machine) → IsAccepted m → all_plain (views (terms_with (Fixed n) m)) ≡ views (terms_at n m)
unfolding plain
plain-terms n m accepted =
    ap all_plain (view-terms (Fixed n) m)
    ∙ ap (λ ts. tree (scope system_bus ts) no_trees)
    (ap all_plain (views-append (placeless_devices m) (generation_devices (Fixed n) m.generation))
    ∙ plain-both (views (placeless_devices m)) (views (generation_devices (Fixed n) m.generation))
    ∙ ap₂ both (placeless_same m accepted) (plain-generation n m.generation)
    ∙ sym (views-append (placeless_devices m) (generation_devices (Int n) m.generation)))
    ∙ sym (view-terms (Int n) m)
