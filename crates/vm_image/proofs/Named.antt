-- The places of linked files are found by their names.
use Rattle.std.proofs.Common.{◌≡◌, ℕ, true, false, List, [], ◌∷◌, Some, None, refl, ap, subst, sym, ◌∙◌}
use Rattle.std.specs.Prelude.{MatchOption}
use Rattle.std.specs.List.{AllByRecursion}
use Rattle.std.specs.Option.{option_map_or}
use Rattle.std.specs.Str.{bytes_eq}
use Rattle.std.proofs.lemmas.Bool.{cond-true, cond-false}
use Rattle.std.proofs.lemmas.Slice.Eq.{bytes_eq-Decides}
use Rattle.vt_outside.proofs.Texts.{other_turned}
use Rattle.vt_bytes.proofs.Each.{each_weaker}
use Rattle.loader_script.specs.Run.{Placed, place_of as place_in}
use Rattle.image_files.specs.declared.file.Placing.{Placing}
use Rattle.image_files.specs.Files.{ImageFile}
use Rattle.image_files.specs.Linkable.{AreDistinct}
use Rattle.image_files.specs.Linked.{IsLinked, AreLinked}

-- the places of the files that are placed, where the file of each name stands at its place
abbrev pub places_by : (List ℕ → ℕ) → List ImageFile → List ℕ
places_by place_of [] = []
places_by place_of (file ∷ files) =
    option_map_or (λ (placing : Placing). place_of file.name ∷ places_by place_of files) file.placing (places_by place_of files)

-- a file that is placed stands first, and the others behind it
abbrev pub StandsFirst : (List ℕ → ℕ) → ImageFile → List ImageFile → List ℕ → List Placed → Type 0
StandsFirst place_of file files places placed =
    (place : ℕ) × (others : List ℕ) × (p : Placed) × (rest : List Placed) × (places ≡ place ∷ others) × (placed ≡ p ∷ rest)
    × IsLinked place_of file place p × AreLinked place_of files others rest

-- the place of the first name is that of the first file
found_first : (p : Placed) (placed : List Placed) (name : List ℕ) → p.name ≡ name → place_in (p ∷ placed) name ≡ p.place
found_first p placed name is =
    let test : bytes_eq p.name name ≡ true = (bytes_eq-Decides p.name name).1 is in
    ap (λ found. option_map_or (λ (q : Placed). q.place) found 0) (cond-true _ _ _ test)

-- the place of another name is that of a file behind the first one
found_later : (p : Placed) (placed : List Placed) (name : List ℕ) → bytes_eq p.name name ≡ false → place_in (p ∷ placed) name ≡ place_in placed name
found_later p placed name other = ap (λ found. option_map_or (λ (q : Placed). q.place) found 0) (cond-false _ _ _ other)

-- two functions that give the names of files the same places
places_by-same : (f g : List ℕ → ℕ) (files : List ImageFile) → AllByRecursion (λ (file : ImageFile). f file.name ≡ g file.name) files
    → places_by f files ≡ places_by g files
places_by-same f g [] same = refl
places_by-same f g (file ∷ files) same =
    let rest : places_by f files ≡ places_by g files = places_by-same f g files same.1 in
    elim file.placing as (λ placing. option_map_or (λ (p : Placing). f file.name ∷ places_by f files) placing (places_by f files)
    ≡ option_map_or (λ (p : Placing). g file.name ∷ places_by g files) placing (places_by g files)) [
      | None ↦ rest
      | Some p ↦ ap (λ place. place ∷ places_by f files) same.0 ∙ ap (λ places. g file.name ∷ places) rest
    ]

-- linked files whose names differ stand at the places of their names
pub named : (place_of : List ℕ → ℕ) (files : List ImageFile) (places : List ℕ) (placed : List Placed) → AreDistinct files
    → AreLinked place_of files places placed → places ≡ places_by (place_in placed) files
named place_of [] places placed distinct linked = linked.0
named place_of (file ∷ files) places placed distinct linked =
    elim file.placing as (λ placing. MatchOption placing (AreLinked place_of files places placed)
    (λ (p : Placing). StandsFirst place_of file files places placed)
    → places ≡ option_map_or (λ (p : Placing). place_in placed file.name ∷ places_by (place_in placed) files) placing (places_by (place_in placed) files)) [
      | None ↦ λ linked. named place_of files places placed distinct.1 linked
      | Some q ↦ λ linked.
          let p : Placed = linked.2 in
          let rest : List Placed = linked.3 in
          let its_name : p.name ≡ file.name = linked.6.name in
          let first : place_in (p ∷ rest) file.name ≡ linked.0 = found_first p rest file.name its_name ∙ linked.6.place_is in
          let others = each_weaker (λ (f : ImageFile). bytes_eq f.name file.name ≡ false)
          (λ (f : ImageFile). place_in rest f.name ≡ place_in (p ∷ rest) f.name)
          (λ f other. sym (found_later p rest f.name
          (subst (λ n. bytes_eq n f.name ≡ false) (sym its_name) (other_turned f.name file.name other)))) files distinct.0 in
          let behind : linked.1 ≡ places_by (place_in (p ∷ rest)) files =
          named place_of files linked.1 rest distinct.1 linked.7 ∙ places_by-same (place_in rest) (place_in (p ∷ rest)) files others in
          subst (λ those. places ≡ place_in those file.name ∷ places_by (place_in those) files) (sym linked.5)
          (linked.4 ∙ ap (λ place. place ∷ linked.1) (sym first) ∙ ap (λ places. place_in (p ∷ rest) file.name ∷ places) behind)
    ] linked
