-- The listed file of a name, at the index that it has among the placements' files.
use Rattle.std.proofs.Common.{◌≡◌, ℕ, suc, ◌+◌, ◌<◌, inl, inr, cond, not, ltb, List, [], ◌∷◌, length, get_or, Option, Some}
use Rattle.std.proofs.Common.{IsSome, is_some, None, refl, ap, ap₂, subst, sym, ◌∙◌}
use Rattle.std.specs.List.{position, position_or_len}
use Rattle.std.specs.Str.{bytes_eq}
use Rattle.std.proofs.lemmas.Bool.{cases_lt, cond-true, lt-ltb, true≢false}
use Rattle.std.proofs.lemmas.List.Folds.{find_at}
use Rattle.std.proofs.lemmas.Option.{same_Some, slice_get_past, slice_get_read}
use Rattle.cfg_directory.specs.declared.item.Item.{Item}
use Rattle.cfg_directory.specs.declared.listed.Listed.{Listed}
use Rattle.cfg_directory.specs.Files.{files_of}
use Rattle.cfg_directory.specs.Listing.{listed_of}
use Rattle.loader_script.specs.declared.refusing.FileInfo.{FileInfo}
use Rattle.loader_script.specs.Run.{infos_of}
use Rattle.load_states.specs.LoadState.{listed_named}
use Rattle.firmware_load.specs.declared.guest.Guest.{Guest}
use Rattle.firmware_load.specs.Inside.{IsReady}

-- the first index at which a name is listed
abbrev listed_index : List Listed → List ℕ → ℕ
listed_index listed name = position_or_len (λ (l : Listed). bytes_eq l.name name) listed

abbrev info_index : List FileInfo → List ℕ → ℕ
info_index infos name = position_or_len (λ (info : FileInfo). bytes_eq info.name name) infos

-- items have the same indices in both lists, and both have the same length
same_index : (items : List Item) (name : List ℕ) → info_index (infos_of (files_of items)) name ≡ listed_index (listed_of items) name
same_index [] name = refl
same_index (item ∷ items) name = ap (λ (n : ℕ). cond (not (bytes_eq item.name name)) (1 + n) 0) (same_index items name)

same_length : (items : List Item) → length (infos_of (files_of items)) ≡ length (listed_of items)
same_length [] = refl
same_length (item ∷ items) = ap suc (same_length items)

-- a file that is there has an index of the list
listed_inside : (listed : List Listed) (name : List ℕ) → IsSome (listed_named listed name) → listed_index listed name < length listed
listed_inside listed name there =
    elim (cases_lt (listed_index listed name) (length listed)) as (λ _. listed_index listed name < length listed) [
      | inl within ↦ within
      | inr past ↦ absurd (true≢false (sym there ∙ ap is_some (find_at (λ (l : Listed). bytes_eq l.name name) listed
          ∙ slice_get_past listed (listed_index listed name) past)))
    ]

-- the first index of a name, if it is below the length
abbrev first_below : ℕ → ℕ → Option ℕ
first_below index len = cond (ltb index len) (Some index) None

-- a search among the placements' files finds the index in the list
pub listed_found : (guest : Guest) (listed : List Listed) (name : List ℕ) (found : Option ℕ) → IsReady guest listed → IsSome (listed_named listed name)
    → found ≡ position (λ (info : FileInfo). bytes_eq info.name name) guest.placements.infos.items → found ≡ Some (listed_index listed name)
listed_found guest listed name found ready there is =
    let items = guest.device.items in
    let inside = listed_inside listed name there in
    is ∙ ap (λ (infos : List FileInfo). first_below (info_index infos name) (length infos)) ready.infos
    ∙ ap₂ first_below (same_index items name) (same_length items)
    ∙ ap (λ (ls : List Listed). first_below (listed_index ls name) (length ls)) (sym ready.listed_are)
    ∙ cond-true _ _ _ (lt-ltb _ _ inside)

pub listed_within : (listed : List Listed) (name : List ℕ) (found : Option ℕ) (index : ℕ) → IsSome (listed_named listed name)
    → found ≡ Some (listed_index listed name) → found ≡ Some index → index < length listed
listed_within listed name found index there is some =
    subst (λ (i : ℕ). i < length listed) (same_Some _ _ (sym is ∙ some)) (listed_inside listed name there)

-- and the file there is the one of the name
pub listed_at : (listed : List Listed) (name : List ℕ) (found : Option ℕ) (index : ℕ) (file : Listed) → IsSome (listed_named listed name)
    → found ≡ Some (listed_index listed name) → found ≡ Some index → file ≡ get_or listed index file → listed_named listed name ≡ Some file
listed_at listed name found index file there is some at =
    let same : listed_index listed name ≡ index = same_Some _ _ (sym is ∙ some) in
    find_at (λ (l : Listed). bytes_eq l.name name) listed
    ∙ slice_get_read listed (length listed) (listed_index listed name) file refl (listed_inside listed name there)
    (at ∙ ap (λ (i : ℕ). get_or listed i file) (sym same))
