-- Files that stand at places, each as is said of it.
use Rattle.std.proofs.Common.{◌≡◌, ◌≢◌, ℕ, true, false, cond, inl, inr, List, [], ◌∷◌, map, Option, Some, None, IsSome, is_some, MatchOption, refl, ap}
use Rattle.std.proofs.Common.{sym, subst, ◌∙◌}
use Rattle.std.specs.List.{AllByRecursion}
use Rattle.std.specs.Option.{option_map, option_map_or}
use Rattle.std.specs.Str.{bytes_eq}
use Rattle.std.proofs.lemmas.Bool.{cond-true, cond-false, true≢false}
use Rattle.std.proofs.lemmas.Slice.Eq.{bytes_eq-Decides}
use Rattle.vt_outside.proofs.Texts.{other_turned}
use Rattle.loader_script.specs.Run.{Placed, placed_of, placed_with, place_of}
use Rattle.image_files.specs.declared.file.Placing.{Placing}
use Rattle.image_files.specs.Files.{ImageFile}
use Rattle.image_files.specs.Linkable.{HasNoName, AreDistinct}
use Rattle.image_files.specs.Linked.{IsLinked, AreLinked}
use Rattle.image_files.proofs.Among.{IsOneOf, of_one}

-- the files that are placed stand at their places, in their order, each as is said
pub data Standing (P : ImageFile → ℕ → Placed → Type 0) : List ImageFile → List ℕ → List Placed → Type 0 where
  none : Standing P [] [] []
  past : {file : ImageFile} {files : List ImageFile} {places : List ℕ} {placed : List Placed} → file.placing ≡ None
      → Standing P files places placed → Standing P (file ∷ files) places placed
  here : {file : ImageFile} {files : List ImageFile} {place : ℕ} {others : List ℕ} {p : Placed} {rest : List Placed} → IsSome file.placing
      → P file place p → Standing P files others rest → Standing P (file ∷ files) (place ∷ others) (p ∷ rest)

-- each placed file is changed
pub standing_changed : (P Q : ImageFile → ℕ → Placed → Type 0) (change : Placed → Placed)
    → ((file : ImageFile) (place : ℕ) (p : Placed) → P file place p → Q file place (change p))
    → {files : List ImageFile} {places : List ℕ} {placed : List Placed} → Standing P files places placed → Standing Q files places (map change placed)
standing_changed P Q change f none = none
standing_changed P Q change f (past without rest) = past without (standing_changed P Q change f rest)
standing_changed P Q change f (here some is rest) = here some (f _ _ _ is) (standing_changed P Q change f rest)

-- something else follows for each of them
pub standing_weaker : (P Q : ImageFile → ℕ → Placed → Type 0) → ((file : ImageFile) (place : ℕ) (p : Placed) → P file place p → Q file place p)
    → {files : List ImageFile} {places : List ℕ} {placed : List Placed} → Standing P files places placed → Standing Q files places placed
standing_weaker P Q f none = none
standing_weaker P Q f (past without rest) = past without (standing_weaker P Q f rest)
standing_weaker P Q f (here some is rest) = here some (f _ _ _ is) (standing_weaker P Q f rest)

-- what holds of each file is added
pub standing_with : (P : ImageFile → ℕ → Placed → Type 0) (F : ImageFile → Type 0)
    → {files : List ImageFile} {places : List ℕ} {placed : List Placed} → Standing P files places placed → AllByRecursion F files
    → Standing (λ file place p. F file × P file place p) files places placed
standing_with P F none all = none
standing_with P F (past without rest) all = past without (standing_with P F rest all.1)
standing_with P F (here some is rest) all = here some (all.0, is) (standing_with P F rest all.1)

-- what follows for each placed file
pub standing_each : (P : ImageFile → ℕ → Placed → Type 0) (R : Placed → Type 0) → ((file : ImageFile) (place : ℕ) (p : Placed) → P file place p → R p)
    → {files : List ImageFile} {places : List ℕ} {placed : List Placed} → Standing P files places placed → AllByRecursion R placed
standing_each P R f none = tt
standing_each P R f (past without rest) = standing_each P R f rest
standing_each P R f (here some is rest) = (f _ _ _ is, standing_each P R f rest)

-- a file that is placed stands somewhere
pub standing_at : (P : ImageFile → ℕ → Placed → Type 0) {files : List ImageFile} {places : List ℕ} {placed : List Placed} (file : ImageFile)
    → Standing P files places placed → IsOneOf files file → IsSome file.placing → (place : ℕ) × (p : Placed) × P file place p
standing_at P file none one some = absurd one
standing_at P file (past without rest) one some =
    elim one as (λ _. (place : ℕ) × (p : Placed) × P file place p) [
      | inl is ↦ absurd (true≢false (sym some ∙ ap (λ (f : ImageFile). is_some f.placing) (sym is) ∙ ap is_some without))
      | inr later ↦ standing_at P file rest later some
    ]
standing_at P file (here {place = place} {p = p} first is_so rest) one some =
    elim one as (λ _. (place : ℕ) × (p : Placed) × P file place p) [
      | inl is ↦ (place, p, subst (λ f. P f place p) is is_so)
      | inr later ↦ standing_at P file rest later some
    ]

-- a name is tested equal to itself
pub own_name : (a b : List ℕ) → a ≡ b → bytes_eq a b ≡ true
own_name a b same = (bytes_eq-Decides a b).1 same

-- names that are tested to differ do
pub names_differ : (a b : List ℕ) → bytes_eq a b ≡ false → a ≢ b
names_differ a b other same = true≢false (sym (own_name a b same) ∙ other)

-- a file of other files hasn't a name that none of them has
pub not_named : (files : List ImageFile) (name : List ℕ) (file : ImageFile) → HasNoName files name → IsOneOf files file → file.name ≢ name
not_named files name file without one =
    names_differ file.name name (of_one (λ (f : ImageFile). bytes_eq f.name name ≡ false) files file one without)

-- of files whose names differ one has a name
pub one_named : (files : List ImageFile) (a b : ImageFile) → AreDistinct files → IsOneOf files a → IsOneOf files b → a.name ≡ b.name → a ≡ b
one_named [] a b distinct one other same = absurd one
one_named (first ∷ files) a b distinct one other same =
    elim one as (λ _. a ≡ b) [
      | inl is ↦ elim other as (λ _. a ≡ b) [
        | inl also ↦ sym is ∙ also
        | inr later ↦ absurd (not_named files first.name b distinct.0 later (sym same ∙ ap (λ (f : ImageFile). f.name) (sym is)))
      ]
      | inr later ↦ elim other as (λ _. a ≡ b) [
        | inl also ↦ absurd (not_named files first.name a distinct.0 later (same ∙ ap (λ (f : ImageFile). f.name) (sym also)))
        | inr last ↦ one_named files a b distinct.1 later last same
      ]
    ]

-- each placed file is the one of its name, where the files' names differ
pub standing_found : (P : ImageFile → ℕ → Placed → Type 0) → ((file : ImageFile) (place : ℕ) (p : Placed) → P file place p → p.name ≡ file.name)
    → {files : List ImageFile} {places : List ℕ} {placed : List Placed} → Standing P files places placed → AreDistinct files
    → Standing (λ file place p. P file place p × (placed_of placed p.name ≡ Some p)) files places placed
standing_found P named none distinct = none
standing_found P named (past without rest) distinct = past without (standing_found P named rest distinct.1)
standing_found P named (here {file = first} {files = files} {place = place} {p = p} {rest = placed} some is rest) distinct =
    let first_named : p.name ≡ first.name = named first place p is in
    let found : placed_of (p ∷ placed) p.name ≡ Some p = cond-true _ _ _ (own_name p.name p.name refl) in
    here some (is, found)
    (standing_weaker (λ file place q. (bytes_eq file.name first.name ≡ false) × (P file place q × (placed_of placed q.name ≡ Some q)))
    (λ file place q. P file place q × (placed_of (p ∷ placed) q.name ≡ Some q))
    (λ file place q all.
    let q_named : q.name ≡ file.name = named file place q all.1.0 in
    let other : bytes_eq q.name p.name ≡ false = subst (λ n. bytes_eq q.name n ≡ false) (sym first_named)
    (subst (λ n. bytes_eq n first.name ≡ false) (sym q_named) all.0) in
    (all.1.0, cond-false _ _ _ (other_turned q.name p.name other) ∙ all.1.1))
    (standing_with (λ file place q. P file place q × (placed_of placed q.name ≡ Some q)) (λ file. bytes_eq file.name first.name ≡ false)
    (standing_found P named rest distinct.1) distinct.0))

-- a file is linked where it is placed so, and the files behind it are
abbrev LinkedBy : (List ℕ → ℕ) → ImageFile → List ImageFile → List ℕ → List Placed → Option Placing → Type 0
LinkedBy pl file files places placed placing =
    MatchOption placing (AreLinked pl files places placed)
    (λ placing. (place : ℕ) × (others : List ℕ) × (p : Placed) × (rest : List Placed) × (places ≡ place ∷ others) × (placed ≡ p ∷ rest)
    × IsLinked pl file place p × AreLinked pl files others rest)

-- then it is linked with them
linked_first : (pl : List ℕ → ℕ) (file : ImageFile) (files : List ImageFile) (places : List ℕ) (placed : List Placed) (placing : Option Placing)
    → file.placing ≡ placing → LinkedBy pl file files places placed placing → AreLinked pl (file ∷ files) places placed
linked_first pl file files places placed placing is linked = subst (LinkedBy pl file files places placed) (sym is) linked

-- what a file is placed by
pub some_placing : (o : Option Placing) → IsSome o → (placing : Placing) × (o ≡ Some placing)
some_placing None some = absurd (true≢false (sym some))
some_placing (Some placing) some = (placing, refl)

-- files that stand as linked ones are linked
pub standing_linked : (pl : List ℕ → ℕ) {files : List ImageFile} {places : List ℕ} {placed : List Placed} → Standing (IsLinked pl) files places placed
    → AreLinked pl files places placed
standing_linked pl none = (refl, refl)
standing_linked pl (past {file = file} {files = files} {places = places} {placed = placed} without rest) =
    linked_first pl file files places placed None without (standing_linked pl rest)
standing_linked pl (here {file = file} {files = files} {place = place} {others = others} {p = p} {rest = placed} some is rest) =
    let placing = some_placing file.placing some in
    linked_first pl file files (place ∷ others) (p ∷ placed) (Some placing.0) placing.1
    (place, others, p, placed, refl, refl, is, standing_linked pl rest)

-- a placed file, with other bytes where it has the name
abbrev pub head_with : Placed → List ℕ → List ℕ → Placed
head_with p name bytes = cond (bytes_eq p.name name) (record p { bytes = bytes }) p

-- its name stays
pub name-head_with : (p : Placed) (name bytes : List ℕ) → (head_with p name bytes).name ≡ p.name
name-head_with p name bytes = elim (bytes_eq p.name name) as (λ named. (cond named (record p { bytes = bytes }) p).name ≡ p.name) [ true ↦ refl | false ↦ refl ]

-- and its place
pub place-head_with : (p : Placed) (name bytes : List ℕ) → (head_with p name bytes).place ≡ p.place
place-head_with p name bytes = elim (bytes_eq p.name name) as (λ named. (cond named (record p { bytes = bytes }) p).place
    ≡ p.place) [ true ↦ refl | false ↦ refl ]

-- the file of a name, once one has other bytes
pub placed_of-with : (placed : List Placed) (name bytes other : List ℕ)
    → placed_of (placed_with placed name bytes) other ≡ option_map (λ (p : Placed). head_with p name bytes) (placed_of placed other)
placed_of-with [] name bytes other = refl
placed_of-with (p ∷ placed) name bytes other =
    ap (λ n. cond (bytes_eq n other) (Some (head_with p name bytes)) (placed_of (placed_with placed name bytes) other)) (name-head_with p name bytes)
    ∙ elim (bytes_eq p.name other) as (λ named. cond named (Some (head_with p name bytes)) (placed_of (placed_with placed name bytes) other)
    ≡ option_map (λ (q : Placed). head_with q name bytes) (cond named (Some p) (placed_of placed other))) [
      | true ↦ refl
      | false ↦ placed_of-with placed name bytes other
    ]

-- and where it stands
pub place_of-with : (placed : List Placed) (name bytes other : List ℕ) → place_of (placed_with placed name bytes) other ≡ place_of placed other
place_of-with placed name bytes other =
    ap (λ o. option_map_or (λ (p : Placed). p.place) o 0) (placed_of-with placed name bytes other)
    ∙ elim (placed_of placed other) as (λ found. option_map_or (λ (p : Placed). p.place) (option_map (λ (p : Placed). head_with p name bytes) found) 0
    ≡ option_map_or (λ (p : Placed). p.place) found 0) [
      | None ↦ refl
      | Some p ↦ place-head_with p name bytes
    ]
