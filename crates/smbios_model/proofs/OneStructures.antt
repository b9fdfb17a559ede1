-- Bytes begin with at most one list of structures that ends at the first of type 127.
use Rattle.std.proofs.Common.{◌≡◌, ℕ, List, [], ◌∷◌, ◌++◌, ap, sym, ◌∙◌, append_assoc}
use Rattle.smbios_model.specs.declared.smbios.Structure.{Structure}
use Rattle.smbios_model.specs.Smbios.{AreStructures}
use Rattle.smbios_model.proofs.OneStructure.{one_structure}

-- the parts of bytes, with what follows them
with_rest : (x first rest p : List ℕ) → x ≡ first ++ rest → x ++ p ≡ first ++ (rest ++ p)
with_rest x first rest p split = ap (λ b. b ++ p) split ∙ append_assoc first rest p

pub one_list_of_structures : (s t : List Structure) (x y p q : List ℕ) → AreStructures x s → AreStructures y t → x ++ p ≡ y ++ q → s ≡ t
one_list_of_structures [] t x y p q is also same = absurd is
one_list_of_structures (s ∷ []) [] x y p q is also same = absurd also
one_list_of_structures (s ∷ next ∷ ss) [] x y p q is also same = absurd also
one_list_of_structures (s ∷ []) (t ∷ []) x y p q is also same =
    ap (λ one. one ∷ []) (one_structure 127 127 s t x y p q is also same).structures
one_list_of_structures (s ∷ []) (t ∷ after ∷ ts) x y p q is (first, rest, kind, split, other, one, others) same =
    absurd (other (sym (one_structure 127 kind s t x first p (rest ++ q) is one (same ∙ with_rest y first rest q split)).kinds))
one_list_of_structures (s ∷ next ∷ ss) (t ∷ []) x y p q (first, rest, kind, split, other, one, others) also same =
    absurd (other (one_structure kind 127 s t first y (rest ++ p) q one also (sym (with_rest x first rest p split) ∙ same)).kinds)
one_list_of_structures (s ∷ next ∷ ss) (t ∷ after ∷ ts) x y p q (first, rest, kind, split, other, one, others)
    (front, left, sort, parted, another, told, more) same =
    let heads =
    one_structure kind sort s t first front (rest ++ p) (left ++ q) one told
    (sym (with_rest x first rest p split) ∙ same ∙ with_rest y front left q parted) in
    let firsts : s ≡ t = heads.structures in
    let tails : ◌≡◌ {A = List Structure} (next ∷ ss) (after ∷ ts) =
    one_list_of_structures (next ∷ ss) (after ∷ ts) rest left p q others more heads.rests in
    cc
