-- Paths are read exactly where they are spelled.
use Rattle.std.proofs.Common.{◌≡◌, ℕ, zero, suc, ◌+◌, ◌≤◌, ◌<◌, Bool, true, false, cond, List, [], ◌∷◌, ◌++◌, length, take, drop, replicate, refl}
use Rattle.std.proofs.Common.{sym, ap, ◌∙◌, subst, arith, append_assoc, length-append, length-drop, take-add, Result, Ok, Err}
use Rattle.std.specs.Prelude.{◌==◌}
use Rattle.std.specs.List.{AllByRecursion, prefix_len}
use Rattle.std.proofs.lemmas.Bool.{eqb-true, ne_eqb}
use Rattle.std.proofs.lemmas.List.{drop_at, length-replicate}
use Rattle.std.proofs.lemmas.List.Sums.{prefix_len-le-length}
use Rattle.aml_terms.specs.declared.fault.AmlFault.{AmlFault}
use Rattle.aml_terms.specs.declared.term.Path.{Path}
use Rattle.aml_terms.specs.Paths.{IsSegment, one, two, many, IsPath}
use Rattle.aml_terms.specs.Reading.{behind, made_at, names_at, is_rooted, levels_up, path_from, path_at, IsPlacedIn}
use Rattle.aml_terms.proofs.Choices.{held, failed, chosen, either_way, when_failed}
use Rattle.aml_terms.proofs.ReadSteps.{ReadBehind, behind_ok, behind_err, behind_on}
use Rattle.aml_terms.proofs.Readers.{placed_behind, Front, Laws, Made, made_laws}
use Rattle.aml_terms.proofs.ReadSegments.{IsNames, lead_char, names_laws}

-- bytes whose first one is of no path's beginning
record Begins (bytes : List ℕ) : Type 0 where
  byte : ℕ
  rest : List ℕ
  spelled : bytes ≡ byte ∷ rest
  no_root : byte ≡ 0x5C → ⊥
  no_parent : byte ≡ 0x5E → ⊥

segment_begins : (s : List ℕ) → IsSegment s → Begins s
segment_begins [] h = absurd h
segment_begins (c ∷ cs) h =
    let lead = lead_char c h.0 in
    record { byte = c; rest = cs; spelled = refl; no_root = λ z. omega arith; no_parent = λ z. omega arith }

names_begin : (ss : List (List ℕ)) (bytes : List ℕ) → IsNames ss bytes → Begins bytes
names_begin ss bytes (all, some, one s f g) = subst Begins (sym g) (segment_begins s (subst (AllByRecursion IsSegment) f all).0)
names_begin ss bytes (all, some, two s t f g) =
    record { byte = 0x2E; rest = s ++ t; spelled = g; no_root = λ z. omega arith; no_parent = λ z. omega arith }
names_begin ss bytes (all, some, many g) =
    record { byte = 0x2F; rest = _; spelled = g; no_root = λ z. omega arith; no_parent = λ z. omega arith }

-- levels up in front of another byte are counted
abbrev is_up : ℕ → Bool
is_up c = c == 0x5E

ups : (n c : ℕ) (cs : List ℕ) → (c ≡ 0x5E → ⊥) → prefix_len is_up (replicate n 0x5E ++ (c ∷ cs)) ≡ n
ups zero c cs h = ap (λ b. cond b (1 + prefix_len is_up cs) 0) (ne_eqb c 0x5E h)
ups (suc n) c cs h = omega (arith, ups n c cs h)

no_root_in : (n c : ℕ) (cs : List ℕ) → (c ≡ 0x5C → ⊥) → is_rooted (replicate n 0x5E ++ (c ∷ cs)) ≡ false
no_root_in zero c cs h = ne_eqb c 0x5C h
no_root_in (suc n) c cs h = refl

front_ups : (text : List ℕ) (n : ℕ) → n ≤ prefix_len is_up text → take n text ≡ replicate n 0x5E
front_ups text zero h = refl
front_ups [] (suc n) h = absurd (omega arith)
front_ups (c ∷ cs) (suc n) h =
    either_way (λ k. suc n ≤ k → take (suc n) (c ∷ cs) ≡ replicate (suc n) 0x5E) (c == 0x5E) (1 + prefix_len is_up cs) 0
    (λ t h. ap (λ c. c ∷ take n cs) (eqb-true c 0x5E t) ∙ ap (λ s. 0x5E ∷ s) (front_ups cs n (omega arith))) (λ f h. absurd (omega arith)) h

root_front : (text : List ℕ) → is_rooted text ≡ true → (1 ≤ length text) × (take 1 text ≡ 0x5C ∷ [])
root_front [] e = cc
root_front (c ∷ cs) e = (omega arith, ap (λ c. c ∷ []) (eqb-true c 0x5C e))

-- a path behind its beginning, at the root or so many levels up
abbrev IsFrom : Bool → ℕ → Path → List ℕ → Type 0
IsFrom root parents = Made (path_from root parents) IsNames

from_laws : (root : Bool) (parents place : ℕ) → Laws (made_at (path_from root parents) names_at) (IsFrom root parents) place
from_laws root parents place = made_laws (path_from root parents) names_at IsNames place (names_laws place)

abbrev from_root : ℕ → List ℕ → Result (Path × ℕ) AmlFault
from_root place text = behind 1 (made_at (path_from true 0) names_at (place + 1) (drop 1 text))

abbrev from_level : ℕ → List ℕ → ℕ → Result (Path × ℕ) AmlFault
from_level place text n = behind n (made_at (path_from false n) names_at (place + n) (drop n text))

is_at_root : (path : Path) (names bytes : List ℕ) → bytes ≡ 0x5C ∷ names → IsFrom true 0 path names → IsPath path bytes
is_at_root path names bytes e h =
    subst (λ path. IsPath path bytes) (sym h.1)
    (record {
      placed = record { alone = λ t. refl; near = omega arith; segments = h.2.0; some = h.2.1 };
      names = names;
      spelled = e;
      are = h.2.2;
    })

is_at_level : (path : Path) (n : ℕ) (names bytes : List ℕ) → n < 256 → bytes ≡ replicate n 0x5E ++ names → IsFrom false n path names → IsPath path bytes
is_at_level path n names bytes near e h =
    subst (λ path. IsPath path bytes) (sym h.1)
    (record {
      placed = record { alone = λ t. cc; near = near; segments = h.2.0; some = h.2.1 };
      names = names;
      spelled = e;
      are = h.2.2;
    })

path_found : (place : ℕ) (text : List ℕ) (path : Path) (total : ℕ) → path_at place text ≡ Ok (path, total) → Front IsPath text path total
unfolding path_at
path_found place text path total e =
    let n : ℕ = levels_up text in
    elim (chosen (is_rooted text) (from_root place text) (from_level place text (levels_up text)) (Ok (path, total)) e) [
      | held t h ↦
          let b : ReadBehind 1 (made_at (path_from true 0) names_at (place + 1) (drop 1 text)) path total =
          behind_ok 1 (made_at (path_from true 0) names_at (place + 1) (drop 1 text)) path total h in
          let f : Front (IsFrom true 0) (drop 1 text) path b.more = (from_laws true 0 (place + 1)).found (drop 1 text) path b.more b.is in
          let front : (1 ≤ length text) × (take 1 text ≡ 0x5C ∷ []) = root_front text t in
          let spelled : take total text ≡ 0x5C ∷ take b.more (drop 1 text) =
          ap (λ n. take n text) b.sum ∙ take-add 1 b.more text ∙ ap (λ front. front ++ take b.more (drop 1 text)) front.1 in
          record {
            within = omega (arith, b.sum, f.within, front.0, length-drop 1 text);
            is = is_at_root path (take b.more (drop 1 text)) (take total text) spelled f.is;
          }
      | failed t h ↦
          let n : ℕ = levels_up text in
          let b : ReadBehind n (made_at (path_from false n) names_at (place + n) (drop n text)) path total =
          behind_ok n (made_at (path_from false n) names_at (place + n) (drop n text)) path total h in
          let f : Front (IsFrom false n) (drop n text) path b.more = (from_laws false n (place + n)).found (drop n text) path b.more b.is in
          let most : levels_up text ≤ prefix_len is_up text = omega arith in
          let spelled : take total text ≡ replicate (levels_up text) 0x5E ++ take b.more (drop (levels_up text) text) =
          ap (λ n. take n text) b.sum ∙ take-add (levels_up text) b.more text
          ∙ ap (λ front. front ++ take b.more (drop (levels_up text) text)) (front_ups text (levels_up text) most) in
          record {
            within = omega (arith, b.sum, f.within, most, prefix_len-le-length is_up text, length-drop (levels_up text) text);
            is = is_at_level path (levels_up text) (take b.more (drop (levels_up text) text)) (take total text) (omega arith) spelled f.is;
          }
    ]

root_again : (place : ℕ) (text first rest : List ℕ) (path : Path) → text ≡ first ++ rest → IsPath path first → path.root ≡ true
    → path_at place text ≡ Ok (path, length first)
unfolding path_at
root_again place text first rest path e h root =
    let first_is : first ≡ 0x5C ∷ h.names = h.spelled ∙ ap (λ b. cond b (0x5C ∷ []) (replicate path.parents 0x5E) ++ h.names) root in
    let text_is : text ≡ 0x5C ∷ (h.names ++ rest) = e ∙ ap (λ first. first ++ rest) first_is in
    let path_is : path ≡ path_from true 0 path.segments =
    ap (λ root. path_from root path.parents path.segments) root ∙ ap (λ n. path_from true n path.segments) (h.placed.alone root) in
    ap (path_at place) text_is
    ∙ behind_on 1 (made_at (path_from true 0) names_at (place + 1) (h.names ++ rest)) path (length h.names)
    ((from_laws true 0 (place + 1)).again (h.names ++ rest) h.names rest path refl (path.segments, path_is, (h.placed.segments, h.placed.some, h.are)))
    ∙ ap (λ n. Ok (path, n)) (omega (arith, ap length first_is))

level_again : (place : ℕ) (text first rest : List ℕ) (path : Path) → text ≡ first ++ rest → IsPath path first → path.root ≡ false
    → path_at place text ≡ Ok (path, length first)
unfolding path_at
level_again place text first rest path e h root =
    let n : ℕ = path.parents in
    let ups_are : List ℕ = replicate path.parents 0x5E in
    let begins : Begins h.names = names_begin path.segments h.names (h.placed.segments, h.placed.some, h.are) in
    let first_is : first ≡ ups_are ++ h.names = h.spelled ∙ ap (λ b. cond b (0x5C ∷ []) ups_are ++ h.names) root in
    let text_is : text ≡ ups_are ++ (h.names ++ rest) = e ∙ ap (λ first. first ++ rest) first_is ∙ append_assoc ups_are h.names rest in
    let text_begins : text ≡ ups_are ++ (begins.byte ∷ (begins.rest ++ rest)) = text_is ∙ ap (λ names. ups_are ++ (names ++ rest)) begins.spelled in
    let no_root : is_rooted text ≡ false = ap is_rooted text_begins ∙ no_root_in path.parents begins.byte (begins.rest ++ rest) begins.no_root in
    let counted : prefix_len is_up text ≡ path.parents = ap (prefix_len is_up) text_begins
    ∙ ups path.parents begins.byte (begins.rest ++ rest) begins.no_parent in
    let up : levels_up text ≡ path.parents = omega (arith, counted, h.placed.near) in
    let left : drop path.parents text ≡ h.names ++ rest =
    ap (drop path.parents) text_is ∙ drop_at ups_are (h.names ++ rest) path.parents (length-replicate path.parents 0x5E) in
    let path_is : path ≡ path_from false path.parents path.segments = ap (λ root. path_from root path.parents path.segments) root in
    when_failed (is_rooted text) (from_root place text) (from_level place text (levels_up text)) no_root ∙ ap (from_level place text) up
    ∙ behind_on n (made_at (path_from false n) names_at (place + n) (drop n text)) path (length h.names)
    ((from_laws false n (place + n)).again (drop n text) h.names rest path left (path.segments, path_is, (h.placed.segments, h.placed.some, h.are)))
    ∙ ap (λ n. Ok (path, n)) (omega (arith, ap length first_is, length-append ups_are h.names, length-replicate {A = ℕ} path.parents 0x5E))

path_again : (place : ℕ) (text first rest : List ℕ) (path : Path) → text ≡ first ++ rest → IsPath path first → path_at place text ≡ Ok (path, length first)
path_again place text first rest path e h = go path.root refl
  where
    go : (root : Bool) → path.root ≡ root → path_at place text ≡ Ok (path, length first)
    go true root = root_again place text first rest path e h root
    go false root = level_again place text first rest path e h root

path_placed : (place : ℕ) (text : List ℕ) (fault : AmlFault) → path_at place text ≡ Err fault → IsPlacedIn (place + length text) fault
unfolding path_at
path_placed place text fault e =
    elim (chosen (is_rooted text) (from_root place text) (from_level place text (levels_up text)) (Err fault) e) [
      | held t h ↦
          placed_behind place 1 text fault (root_front text t).0
          ((from_laws true 0 (place + 1)).placed (drop 1 text) fault (behind_err 1 (made_at (path_from true 0) names_at (place + 1) (drop 1 text)) fault h))
      | failed t h ↦
          let n : ℕ = levels_up text in
          placed_behind place n text fault (omega (arith, prefix_len-le-length is_up text))
          ((from_laws false n (place + n)).placed (drop n text) fault (behind_err n (made_at (path_from false n) names_at (place + n) (drop n text)) fault h))
    ]

pub path_laws : (place : ℕ) → Laws path_at IsPath place
path_laws place = record { found = path_found place; again = path_again place; placed = path_placed place }
