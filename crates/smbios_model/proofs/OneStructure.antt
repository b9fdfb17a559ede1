-- Bytes begin with at most one structure, whatever follows it.
use Rattle.std.proofs.Common.{◌≡◌, ℕ, ◌+◌, ◌/◌, ◌%◌, ◌^◌, ◌<◌, List, ◌∷◌, ◌++◌, length, take, drop, arith, refl, ap, sym, ◌∙◌, subst, append_assoc}
use Rattle.std.proofs.lemmas.List.{take_at, drop_at}
use Rattle.vt_bytes.specs.Numbers.{le_bytes}
use Rattle.smbios_model.specs.declared.smbios.Body.{Body}
use Rattle.smbios_model.specs.declared.smbios.Structure.{Structure}
use Rattle.vt_layout.specs.Strings.{AreStrings, string_set}
use Rattle.smbios_model.specs.Structures.{IsBody}
use Rattle.smbios_model.specs.Smbios.{IsStructure}
use Rattle.smbios_model.proofs.OneStringSet.{one_string_set}
use Rattle.smbios_model.proofs.OneBody.{one_body}

-- fronts of the same length are the same, and so is what follows
same_front : (a b p q : List ℕ) → length a ≡ length b → a ++ p ≡ b ++ q → (a ≡ b) × (p ≡ q)
same_front a b p q long same = (
  sym (take_at a p (length b) long) ∙ ap (take (length b)) same ∙ take_at b q (length b) refl,
  sym (drop_at a p (length b) long) ∙ ap (drop (length b)) same ∙ drop_at b q (length b) refl,
)

-- a number below 2 ^ 16 is that of its two bytes
one_handle : (h g : ℕ) → h < 2 ^ 16 → g < 2 ^ 16 → le_bytes 2 h ≡ le_bytes 2 g → h ≡ g
one_handle h g h_fits g_fits same =
    let low : h % 256 ≡ g % 256 = cc in
    let high : h / 256 % 256 ≡ g / 256 % 256 = cc in
    omega arith

-- a structure's bytes and what follows them, part by part
by_parts : (kind handle : ℕ) (area bytes rest : List ℕ) (strings : List (List ℕ))
    → bytes ≡ kind ∷ (4 + length area) ∷ le_bytes 2 handle ++ area ++ string_set strings
    → bytes ++ rest ≡ kind ∷ (4 + length area) ∷ handle % 256 ∷ handle / 256 % 256 ∷ (area ++ (string_set strings ++ rest))
by_parts kind handle area bytes rest strings spelled =
    ap (λ b. b ++ rest) spelled
    ∙ ap (λ b. kind ∷ (4 + length area) ∷ handle % 256 ∷ handle / 256 % 256 ∷ b) (append_assoc area (string_set strings) rest)

-- what two structures have in common
pub record SameParts (k l h g : ℕ) (a b p q : List ℕ) (u v : List (List ℕ)) : Type 0 where
  pub kinds : k ≡ l
  pub handles : le_bytes 2 h ≡ le_bytes 2 g
  pub areas : a ≡ b
  pub strings : u ≡ v
  pub rests : p ≡ q

-- structures that spell the same have the same parts
pub same_spelling : (k l h g : ℕ) (a b x y p q : List ℕ) (u v : List (List ℕ)) → x ≡ k ∷ (4 + length a) ∷ le_bytes 2 h ++ a ++ string_set u
    → y ≡ l ∷ (4 + length b) ∷ le_bytes 2 g ++ b ++ string_set v → AreStrings u → AreStrings v → x ++ p ≡ y ++ q
    → SameParts k l h g a b p q u v
same_spelling k l h g a b x y p q u v x_spelled y_spelled us vs same =
    let x_parts = by_parts k h a x p u x_spelled in
    let y_parts = by_parts l g b y q v y_spelled in
    let kinds : k ≡ l = cc in
    let lengths : 4 + length a ≡ 4 + length b = cc in
    let low : h % 256 ≡ g % 256 = cc in
    let high : h / 256 % 256 ≡ g / 256 % 256 = cc in
    let handle_bytes : le_bytes 2 h ≡ le_bytes 2 g = cc in
    let after_header : a ++ (string_set u ++ p) ≡ b ++ (string_set v ++ q) = cc in
    let fronts = same_front a b (string_set u ++ p) (string_set v ++ q) (omega arith) after_header in
    let sets = one_string_set u v p q us vs fronts.1 in
    record {
      kinds = kinds;
      handles = handle_bytes;
      areas = fronts.0;
      strings = sets.0;
      rests = sets.1;
    }

-- the structure of these parts
structure_from : ℕ → Body → Structure
structure_from handle body = record { handle = handle; body = body }

-- a body by the parts of another structure
same_body : (k l : ℕ) (a b : List ℕ) (u v : List (List ℕ)) (body : Body) → k ≡ l → a ≡ b → u ≡ v → IsBody k a u body → IsBody l b v body
same_body k l a b u v body kinds areas strings is =
    subst (λ s. IsBody l b s body) strings (subst (λ r. IsBody l r u body) areas (subst (λ n. IsBody n a u body) kinds is))

-- bytes begin with one structure, and one rest follows it
pub record AreSame (k l : ℕ) (s t : Structure) (p q : List ℕ) : Type 0 where
  pub kinds : k ≡ l
  pub structures : s ≡ t
  pub rests : p ≡ q

pub one_structure : (k l : ℕ) (s t : Structure) (x y p q : List ℕ) → IsStructure x k s → IsStructure y l t → x ++ p ≡ y ++ q → AreSame k l s t p q
unfolding structure_from
one_structure k l s t x y p q is also same =
    let parts =
    same_spelling k l s.handle t.handle is.area also.area x y p q is.strings also.strings is.spelled also.spelled is.are_strings
    also.are_strings same in
    let handles = one_handle s.handle t.handle is.handle_fits also.handle_fits parts.handles in
    let moved =
    same_body k l is.area also.area is.strings also.strings s.body parts.kinds parts.areas parts.strings is.body in
    let bodies : s.body ≡ t.body = one_body l also.area also.strings s.body t.body moved also.body in
    record {
      kinds = parts.kinds;
      structures = ap (λ handle. structure_from handle s.body) handles ∙ ap (structure_from t.handle) bodies;
      rests = parts.rests;
    }
