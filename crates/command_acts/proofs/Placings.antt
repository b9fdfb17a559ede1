-- Which files are placed, and where.
use Rattle.std.proofs.Common.{◌≡◌, ℕ, zero, suc, ◌+◌, ◌<◌, ◌≤◌, ◌^◌, inl, inr, true, false, List, [], ◌∷◌, ◌++◌, length, Option, Some, None}
use Rattle.std.proofs.Common.{option_map, cond, slice_set, get_or, IsSome, is_some, ltb, drop, replicate, vec_capacity, length-append, arith, refl, ap, ap₂}
use Rattle.std.proofs.Common.{subst, sym, ◌∙◌}
use Rattle.std.proofs.lemmas.List.{length-map, get_or_read}
use Rattle.std.specs.List.{AllByRecursion, position, position_or_len}
use Rattle.std.specs.Option.{option_map_or}
use Rattle.std.specs.Str.{bytes_eq}
use Rattle.std.proofs.lemmas.Bool.{cases_Bool, cases_lt, cond-true, cond-false, true≢false, lt-ltb}
use Rattle.std.proofs.lemmas.Option.{same_Some, none-some, slice_get_past}
use Rattle.std.proofs.lemmas.List.Folds.{find_at}
use Rattle.vt_bytes.specs.Memory.{Memory}
use Rattle.cfg_directory.specs.declared.item.Item.{Item}
use Rattle.cfg_directory.specs.Items.{HasNoName, AreDistinct as AreDistinctItems}
use Rattle.loader_script.specs.declared.refusing.FileInfo.{FileInfo}
use Rattle.loader_script.specs.Refusal.{info_of, causes_of, first_cause, AreDistinct, EndLow}
use Rattle.loader_script.specs.Order.{IsOrderOf}
use Rattle.loader_script.specs.declared.entry.Entry.{Entry}
use Rattle.command_acts.specs.Runs.{at_files, early_cause}
use Rattle.vt_outside.specs.File.{File}
use Rattle.vt_outside.proofs.Texts.{same_text, other_turned, text_itself}
use Rattle.loader_script.specs.Run.{Placed, file_of, placed_of, infos_of, places_of}
use Rattle.loader_script.proofs.Named.{of_found, found_passes}
use Rattle.cfg_directory.specs.Files.{files_of}
use Rattle.command_acts.specs.declared.placed.PlacedFile.{PlacedFile}
use Rattle.command_acts.specs.declared.placements.Placements.{Placements}
use Rattle.command_acts.specs.FilesInMemory.{placed_named, place_of, placed_in, files_in, ArePlaced, IsOfSize, IsLoading, EndsLow}
use Rattle.command_acts.specs.Placing.{place_named, places_in, count_places, ArePlacements}
use Rattle.command_acts.proofs.NamedInMemory.{named_in, some_named}

-- a file's place is the same with its bytes and without them
place_after : (m : Memory) (found : Option PlacedFile) → option_map (λ (p : Placed). p.place) (option_map (placed_in m) found)
    ≡ option_map (λ (p : PlacedFile). p.place) found
place_after m None = refl
place_after m (Some p) = refl

-- the places of files are the same with their bytes and without them
pub same_places : (m : Memory) (placed : List PlacedFile) (files : List File)
    → places_in placed (infos_of files) ≡ places_of (files_in m placed) files
same_places m placed [] = refl
same_places m placed (file ∷ files) =
    let named : option_map (λ (p : Placed). p.place) (placed_of (files_in m placed) file.name) ≡ place_named placed file.name =
    ap (option_map (λ (p : Placed). p.place)) (named_in m placed file.name) ∙ place_after m (placed_named placed file.name) in
    ap₂ (λ (p : Option ℕ) (ps : List (Option ℕ)). p ∷ ps) (sym named) (same_places m placed files)

-- items of names of their own are files of such names
no_name : (items : List Item) (name : List ℕ) → HasNoName items name
    → AllByRecursion (λ (other : FileInfo). bytes_eq other.name name ≡ false) (infos_of (files_of items))
no_name [] name none = tt
no_name (item ∷ items) name none = (none.0, no_name items name none.1)

pub distinct_infos : (items : List Item) → AreDistinctItems items → AreDistinct (infos_of (files_of items))
distinct_infos [] distinct = tt
distinct_infos (item ∷ items) distinct = (no_name items item.name distinct.0, distinct_infos items distinct.3)

-- a file is the one of its name
abbrev IsItsOwn : List File → File → Type 0
IsItsOwn files file = file_of files file.name ≡ Some file

behind_first : (first : File) (files rest : List File) → AllByRecursion (λ (other : FileInfo). bytes_eq other.name first.name ≡ false) (infos_of rest)
    → AllByRecursion (IsItsOwn files) rest → AllByRecursion (IsItsOwn (first ∷ files)) rest
behind_first first files [] differ own = tt
behind_first first files (file ∷ rest) differ own =
    (cond-false _ _ _ (other_turned file.name first.name differ.0) ∙ own.0, behind_first first files rest differ.1 own.1)

pub each_its_own : (files : List File) → AreDistinct (infos_of files) → AllByRecursion (IsItsOwn files) files
each_its_own [] distinct = tt
each_its_own (file ∷ files) distinct =
    (cond-true _ _ _ (text_itself file.name), behind_first file files files distinct.0 (each_its_own files distinct.1))

-- a placed file ends low by the size that it has in fw_cfg
low_by_size : (files : List File) (placed : List PlacedFile) (file : File) (p : PlacedFile) → placed_named placed file.name ≡ Some p
    → IsItsOwn files file → AllByRecursion (IsOfSize files) placed → AllByRecursion EndsLow placed → p.place + length file.bytes ≤ 2 ^ 32
low_by_size files placed file p found own sizes low =
    let named : p.name ≡ file.name = same_text p.name file.name (found_passes (λ (q : PlacedFile). bytes_eq q.name file.name) placed p found) in
    let size = of_found (IsOfSize files) (λ (q : PlacedFile). bytes_eq q.name file.name) placed p found sizes in
    let is : length file.bytes ≡ p.size =
    same_Some (length file.bytes) p.size (sym (ap (option_map (λ (f : File). length f.bytes)) (ap (file_of files) named ∙ own)) ∙ size) in
    let ends = of_found EndsLow (λ (q : PlacedFile). bytes_eq q.name file.name) placed p found low in
    omega arith

-- one file more ends low where it is placed, and those behind it do
low_more : (info : FileInfo) (infos : List FileInfo) (place : Option ℕ) (places : List (Option ℕ))
    → ((at : ℕ) → place ≡ Some at → at + info.size ≤ 2 ^ 32) → EndLow infos places → EndLow (info ∷ infos) (place ∷ places)
low_more info infos None places low rest = rest
low_more info infos (Some at) places low rest = (low at refl, rest)

from_some : (found : Option PlacedFile) → IsSome found → (p : PlacedFile) × (found ≡ Some p)
from_some None some = absurd (true≢false (sym some))
from_some (Some p) some = (p, refl)

place_from : (found : Option PlacedFile) (at : ℕ) → option_map (λ (p : PlacedFile). p.place) found ≡ Some at
    → (p : PlacedFile) × (found ≡ Some p) × (p.place ≡ at)
place_from None at is = absurd (none-some at is)
place_from (Some p) at is = (p, refl, same_Some p.place at is)

low_each : (files : List File) (placed : List PlacedFile) (rest : List File) → AllByRecursion (IsItsOwn files) rest
    → AllByRecursion (IsOfSize files) placed → AllByRecursion EndsLow placed → EndLow (infos_of rest) (places_in placed (infos_of rest))
low_each files placed [] own sizes low = tt
low_each files placed (file ∷ rest) own sizes low =
    low_more (record { name = file.name; size = length file.bytes; writable = file.writable }) (infos_of rest) (place_named placed file.name)
    (places_in placed (infos_of rest))
    (λ at is.
    let p = place_from (placed_named placed file.name) at is in
    let ends = low_by_size files placed file p.0 p.1 own.0 sizes low in
    subst (λ n. n + length file.bytes ≤ 2 ^ 32) p.2 ends)
    (low_each files placed rest own.1 sizes low)

-- each end low
each_low : (top : ℕ) (placed : List PlacedFile) → ArePlaced top placed → AllByRecursion EndsLow placed
each_low top [] all = tt
each_low top (p ∷ placed) all = (all.1, each_low top placed all.3)

pub end_low : (top : ℕ) (files : List File) (placed : List PlacedFile) → AreDistinct (infos_of files) → IsLoading top files placed
    → EndLow (infos_of files) (places_in placed (infos_of files))
end_low top files placed distinct loading =
    low_each files placed files (each_its_own files distinct) loading.sizes (each_low top placed loading.apart)

-- the placed file of a name, after one more file
named_more : (placed : List PlacedFile) (f : PlacedFile) (name : List ℕ) → bytes_eq f.name name ≡ false
    → placed_named (placed ++ f ∷ []) name ≡ placed_named placed name
named_more [] f name other = cond-false _ _ _ other
named_more (p ∷ placed) f name other =
    elim (bytes_eq p.name name) as (λ same. cond same (Some p) (placed_named (placed ++ f ∷ []) name) ≡ cond same (Some p) (placed_named placed name)) [
      | true ↦ refl
      | false ↦ named_more placed f name other
    ]

named_last : (placed : List PlacedFile) (f : PlacedFile) → placed_named placed f.name ≡ None → placed_named (placed ++ f ∷ []) f.name ≡ Some f
named_last [] f none = cond-true _ _ _ (text_itself f.name)
named_last (p ∷ placed) f none =
    elim (cases_Bool (bytes_eq p.name f.name)) as (λ _. placed_named ((p ∷ placed) ++ f ∷ []) f.name ≡ Some f) [
      | inl same ↦ absurd (none-some p (sym none ∙ cond-true _ _ _ same))
      | inr other ↦ cond-false _ _ _ other ∙ named_last placed f (sym (cond-false _ _ _ other) ∙ none)
    ]

-- files that have other names stand where they stood
places_others : (placed : List PlacedFile) (f : PlacedFile) (infos : List FileInfo)
    → AllByRecursion (λ (other : FileInfo). bytes_eq other.name f.name ≡ false) infos → places_in (placed ++ f ∷ []) infos ≡ places_in placed infos
places_others placed f [] others = refl
places_others placed f (info ∷ infos) others =
    ap₂ (λ (p : Option ℕ) (ps : List (Option ℕ)). p ∷ ps)
    (ap (option_map (λ (p : PlacedFile). p.place)) (named_more placed f info.name (other_turned info.name f.name others.0)))
    (places_others placed f infos others.1)

-- the index of the file of a name
abbrev pub index_of : List FileInfo → List ℕ → ℕ
index_of infos name = position_or_len (λ (info : FileInfo). bytes_eq info.name name) infos

-- the place there is now the file's
pub places_put : (placed : List PlacedFile) (f : PlacedFile) (infos : List FileInfo) → AreDistinct infos → placed_named placed f.name ≡ None
    → IsSome (info_of infos f.name)
    → slice_set (places_in placed infos) (index_of infos f.name) (Some f.place) ≡ places_in (placed ++ f ∷ []) infos
places_put placed f [] distinct none there = absurd (true≢false (sym there))
places_put placed f (info ∷ infos) distinct none there =
    elim (cases_Bool (bytes_eq info.name f.name)) as
    (λ _. slice_set (places_in placed (info ∷ infos)) (index_of (info ∷ infos) f.name) (Some f.place) ≡ places_in (placed ++ f ∷ []) (info ∷ infos)) [
      | inl same ↦
          let is : info.name ≡ f.name = same_text info.name f.name same in
          let here : index_of (info ∷ infos) f.name ≡ 0 = rw same refl in
          let others = subst (λ n. AllByRecursion (λ (other : FileInfo). bytes_eq other.name n ≡ false) infos) is distinct.0 in
          let now : place_named (placed ++ f ∷ []) info.name ≡ Some f.place =
          ap (place_named (placed ++ f ∷ [])) is ∙ ap (option_map (λ (p : PlacedFile). p.place)) (named_last placed f none) in
          ap (λ i. slice_set (places_in placed (info ∷ infos)) i (Some f.place)) here
          ∙ ap₂ (λ (p : Option ℕ) (ps : List (Option ℕ)). p ∷ ps) (sym now) (sym (places_others placed f infos others))
      | inr other ↦
          let next : 1 + index_of infos f.name ≡ suc (index_of infos f.name) = omega arith in
          let later : index_of (info ∷ infos) f.name ≡ suc (index_of infos f.name) = rw other next in
          let rest : IsSome (info_of infos f.name) = subst IsSome (cond-false _ _ _ other) there in
          let same : place_named placed info.name ≡ place_named (placed ++ f ∷ []) info.name =
          ap (option_map (λ (p : PlacedFile). p.place)) (sym (named_more placed f info.name (other_turned info.name f.name other))) in
          ap (λ i. slice_set (places_in placed (info ∷ infos)) i (Some f.place)) later
          ∙ ap₂ (λ (p : Option ℕ) (ps : List (Option ℕ)). p ∷ ps) same (places_put placed f infos distinct.1 none rest)
    ]

-- one place more
pub count_put : (places : List (Option ℕ)) (i place : ℕ) → i < length places → get_or places i None ≡ None
    → count_places (slice_set places i (Some place)) ≡ suc (count_places places)
count_put [] i place within none = absurd (omega (arith, within))
count_put (None ∷ places) zero place within none = refl
count_put (Some p ∷ places) zero place within none = absurd (none-some p (sym none))
count_put (None ∷ places) (suc i) place within none = count_put places i place (omega (arith, within)) none
count_put (Some p ∷ places) (suc i) place within none = ap suc (count_put places i place (omega (arith, within)) none)

-- there are no more places than files
count_most : (places : List (Option ℕ)) → count_places places ≤ length places
count_most [] = omega arith
count_most (None ∷ places) = omega (arith, count_most places)
count_most (Some p ∷ places) = omega (arith, count_most places)

-- a place that is none leaves fewer places than files
pub count_few : (places : List (Option ℕ)) (i : ℕ) → i < length places → get_or places i None ≡ None → count_places places < length places
count_few [] i within none = absurd (omega (arith, within))
count_few (None ∷ places) i within none = omega (arith, count_most places)
count_few (Some p ∷ places) zero within none = absurd (none-some p (sym none))
count_few (Some p ∷ places) (suc i) within none = omega (arith, count_few places i (omega (arith, within)) none)

-- the first cause that placements tell is the one of how far the run is
pub refusal_is : (entry : Entry) (m : Memory) (placed : List PlacedFile) (files : List File) (infos : List FileInfo) → infos ≡ infos_of files
    → first_cause (causes_of entry infos (places_in placed infos)) ≡ early_cause entry (at_files files (files_in m placed) [])
refusal_is entry m placed files infos is =
    ap (λ is. first_cause (causes_of entry is (places_in placed is))) is
    ∙ ap (λ places. first_cause (causes_of entry (infos_of files) places)) (same_places m placed files)

-- no file is placed yet
pub nowhere_yet : (infos : List FileInfo) → places_in [] infos ≡ replicate (length infos) None
nowhere_yet [] = refl
nowhere_yet (info ∷ infos) = ap (λ places. None ∷ places) (nowhere_yet infos)

count_nowhere : (n : ℕ) → count_places (replicate n None) ≡ 0
count_nowhere zero = refl
count_nowhere (suc n) = count_nowhere n

-- a placed file is one of the files
abbrev IsAmong : List FileInfo → PlacedFile → Type 0
IsAmong infos p = IsSome (info_of infos p.name)

among_more : (infos : List FileInfo) (placed : List PlacedFile) (f : PlacedFile) → AllByRecursion (IsAmong infos) placed → IsAmong infos f
    → AllByRecursion (IsAmong infos) (placed ++ f ∷ [])
among_more infos [] f all one = (one, tt)
among_more infos (p ∷ placed) f all one = (all.0, among_more infos placed f all.1 one)

pub none_placed : (p : Placements) (len : ℕ) → p.places.items ≡ replicate len None → len ≡ length p.infos.items → p.placed.items ≡ []
    → length p.infos.items ≤ vec_capacity p.placed → IsOrderOf p.infos.items p.order → ArePlacements p
none_placed p len places len_is none room order = record {
  places = places ∙ ap (λ n. replicate n None) len_is ∙ sym (nowhere_yet p.infos.items)
      ∙ ap (λ placed. places_in placed p.infos.items) (sym none);
  count = ap length none ∙ sym (ap count_places places ∙ count_nowhere len);
  among = subst (AllByRecursion (IsAmong p.infos.items)) (sym none) tt;
  room = room;
  order = order;
}

-- the index of a file that is there
pub there_within : (infos : List FileInfo) (name : List ℕ) → IsSome (info_of infos name) → index_of infos name < length infos
there_within infos name there =
    elim (cases_lt (index_of infos name) (length infos)) as (λ _. index_of infos name < length infos) [
      | inl within ↦ within
      | inr past ↦ absurd (true≢false (sym there ∙ ap is_some (find_at (λ (info : FileInfo). bytes_eq info.name name) infos
          ∙ slice_get_past infos (index_of infos name) past)))
    ]

-- a search for it finds that index
pub found_there : (infos : List FileInfo) (name : List ℕ) (found : Option ℕ) → IsSome (info_of infos name)
    → found ≡ cond (ltb (index_of infos name) (length infos)) (Some (index_of infos name)) None → found ≡ Some (index_of infos name)
found_there infos name found there is = is ∙ cond-true _ _ _ (lt-ltb _ _ (there_within infos name there))

-- a file that isn't placed stands nowhere
pub unplaced_nowhere : (placed : List PlacedFile) (infos : List FileInfo) (name : List ℕ) → placed_named placed name ≡ None
    → get_or (places_in placed infos) (index_of infos name) None ≡ None
unplaced_nowhere placed [] name none = refl
unplaced_nowhere placed (info ∷ infos) name none =
    elim (cases_Bool (bytes_eq info.name name)) as (λ _. get_or (places_in placed (info ∷ infos)) (index_of (info ∷ infos) name) None ≡ None) [
      | inl same ↦
          let here : index_of (info ∷ infos) name ≡ 0 = rw same refl in
          ap (λ i. get_or (places_in placed (info ∷ infos)) i None) here
          ∙ ap (place_named placed) (same_text info.name name same) ∙ ap (option_map (λ (p : PlacedFile). p.place)) none
      | inr other ↦
          let next : 1 + index_of infos name ≡ suc (index_of infos name) = omega arith in
          let later : index_of (info ∷ infos) name ≡ suc (index_of infos name) = rw other next in
          ap (λ i. get_or (places_in placed (info ∷ infos)) i None) later ∙ unplaced_nowhere placed infos name none
    ]

nowhere_there : (p : Placements) (name : List ℕ) → ArePlacements p → placed_named p.placed.items name ≡ None
    → get_or p.places.items (index_of p.infos.items name) None ≡ None
nowhere_there p name are none =
    ap (λ places. get_or places (index_of p.infos.items name) None) are.places ∙ unplaced_nowhere p.placed.items p.infos.items name none

there_index : (p : Placements) (name : List ℕ) → ArePlacements p → IsSome (info_of p.infos.items name)
    → index_of p.infos.items name < length p.places.items
there_index p name are there =
    omega (
      arith,
      there_within p.infos.items name there,
      ap length are.places,
      length-map p.infos.items (λ (info : FileInfo). place_named p.placed.items info.name),
    )

-- fewer files are placed than there are, where one isn't
pub few_placed : (p : Placements) (name : List ℕ) → ArePlacements p → IsSome (info_of p.infos.items name)
    → placed_named p.placed.items name ≡ None → length p.placed.items < length p.infos.items
few_placed p name are there none =
    omega (
      arith,
      count_few p.places.items (index_of p.infos.items name) (there_index p name are there) (nowhere_there p name are none),
      are.count,
      ap length are.places,
      length-map p.infos.items (λ (info : FileInfo). place_named p.placed.items info.name),
    )

-- the placements with one file more
pub are_put : (p new : Placements) (f : PlacedFile) (index : ℕ) → ArePlacements p → AreDistinct p.infos.items → IsSome (info_of p.infos.items f.name)
    → placed_named p.placed.items f.name ≡ None → index ≡ index_of p.infos.items f.name → new.infos.items ≡ p.infos.items
    → new.places.items ≡ slice_set p.places.items index (Some f.place) → new.placed.items ≡ p.placed.items ++ f ∷ []
    → vec_capacity new.placed ≡ vec_capacity p.placed → new.order ≡ p.order → ArePlacements new
are_put p new f index are distinct there none is infos places placed capacity order =
    let at : new.places.items ≡ slice_set p.places.items (index_of p.infos.items f.name) (Some f.place) =
    places ∙ ap (λ i. slice_set p.places.items i (Some f.place)) is in
    record {
      places = at ∙ ap (λ ps. slice_set ps (index_of p.infos.items f.name) (Some f.place)) are.places
          ∙ places_put p.placed.items f p.infos.items distinct none there
          ∙ ap₂ (λ ps is. places_in ps is) (sym placed) (sym infos);
      count = omega (
        arith,
        ap length placed,
        length-append p.placed.items (f ∷ []),
        are.count,
        ap count_places at,
        count_put p.places.items (index_of p.infos.items f.name) f.place (there_index p f.name are there) (nowhere_there p f.name are none),
      );
      among = subst (λ is. AllByRecursion (IsAmong is) new.placed.items) (sym infos)
          (subst (AllByRecursion (IsAmong p.infos.items)) (sym placed) (among_more p.infos.items p.placed.items f are.among there));
      room = omega (arith, ap length infos, are.room, capacity);
      order = subst (λ is. IsOrderOf is new.order) (sym infos) (subst (IsOrderOf p.infos.items) (sym order) are.order);
    }

-- where a file stands that is one of the files
place_there : (placed : List PlacedFile) (infos : List FileInfo) (name : List ℕ) → IsSome (info_of infos name)
    → get_or (places_in placed infos) (index_of infos name) None ≡ place_named placed name
place_there placed [] name there = absurd (true≢false (sym there))
place_there placed (info ∷ infos) name there =
    elim (cases_Bool (bytes_eq info.name name)) as (λ _. get_or (places_in placed (info ∷ infos)) (index_of (info ∷ infos) name) None
    ≡ place_named placed name) [
      | inl same ↦
          let here : index_of (info ∷ infos) name ≡ 0 = rw same refl in
          ap (λ i. get_or (places_in placed (info ∷ infos)) i None) here ∙ ap (place_named placed) (same_text info.name name same)
      | inr other ↦
          let next : 1 + index_of infos name ≡ suc (index_of infos name) = omega arith in
          let later : index_of (info ∷ infos) name ≡ suc (index_of infos name) = rw other next in
          let rest : IsSome (info_of infos name) = subst IsSome (cond-false _ _ _ other) there in
          ap (λ i. get_or (places_in placed (info ∷ infos)) i None) later ∙ place_there placed infos name rest
    ]

-- a file that is placed is one of the files
pub placed_there : (p : Placements) (name : List ℕ) → ArePlacements p → IsSome (placed_named p.placed.items name) → IsSome (info_of p.infos.items name)
placed_there p name are placed =
    let file = from_some (placed_named p.placed.items name) placed in
    let named : file.0.name ≡ name = same_text file.0.name name (found_passes (λ (q : PlacedFile). bytes_eq q.name name) p.placed.items file.0 file.1) in
    subst (λ n. IsSome (info_of p.infos.items n)) named
    (of_found (IsAmong p.infos.items) (λ (q : PlacedFile). bytes_eq q.name name) p.placed.items file.0 file.1 are.among)

-- the index at which it is found
pub placed_index : (p : Placements) (name : List ℕ) (found : Option ℕ) → ArePlacements p → IsSome (info_of p.infos.items name)
    → found ≡ position (λ (info : FileInfo). bytes_eq info.name name) p.infos.items → (index : ℕ) → found ≡ Some index
    → (index ≡ index_of p.infos.items name) × (index < length p.places.items)
placed_index p name found are there is index some =
    let same : index ≡ index_of p.infos.items name = same_Some _ _ (sym some ∙ found_there p.infos.items name found there is) in
    (same, omega (arith, same, there_index p name are there))

-- and the place there
place_at_index : (p : Placements) (name : List ℕ) (index : ℕ) (place : Option ℕ) → ArePlacements p → IsSome (info_of p.infos.items name)
    → index ≡ index_of p.infos.items name → place ≡ get_or p.places.items index place → place ≡ place_named p.placed.items name
place_at_index p name index place are there is at =
    let within : index < length p.places.items = omega (arith, is, there_index p name are there) in
    get_or_read p.places.items index place within at None ∙ ap (λ i. get_or p.places.items i None) is
    ∙ ap (λ places. get_or places (index_of p.infos.items name) None) are.places ∙ place_there p.placed.items p.infos.items name there

-- so what stands at the index of a placed file is its place
pub place_at_found : (p : Placements) (name : List ℕ) (found : Option ℕ) → ArePlacements p → IsSome (placed_named p.placed.items name)
    → found ≡ position (λ (info : FileInfo). bytes_eq info.name name) p.infos.items → (index : ℕ) → found ≡ Some index
    → (place : Option ℕ) → place ≡ get_or p.places.items index place → place ≡ place_named p.placed.items name
place_at_found p name found are placed is index some place at =
    let there = placed_there p name are placed in
    place_at_index p name index place are there (placed_index p name found are there is index some).0 at

some_place : (found : Option PlacedFile) → IsSome found → IsSome (option_map (λ (p : PlacedFile). p.place) found)
some_place None some = absurd (true≢false (sym some))
some_place (Some p) some = refl

-- which is there
pub place_is_there : (p : Placements) (name : List ℕ) (place : Option ℕ) → IsSome (placed_named p.placed.items name)
    → place ≡ place_named p.placed.items name → IsSome place
place_is_there p name place placed is = subst IsSome (sym is) (some_place (placed_named p.placed.items name) placed)

place_value : (found : Option PlacedFile) (place : ℕ) → option_map (λ (p : PlacedFile). p.place) found ≡ Some place
    → place ≡ option_map_or (λ (p : PlacedFile). p.place) found 0
place_value None place is = absurd (none-some place is)
place_value (Some p) place is = sym (same_Some p.place place is)

-- and is the placed file's
pub place_is : (placed : List PlacedFile) (name : List ℕ) (found : Option ℕ) (place : ℕ) → found ≡ place_named placed name → found ≡ Some place
    → place ≡ place_of placed name
place_is placed name found place is some = place_value (placed_named placed name) place (sym is ∙ some)

-- the placed file of a name, by its place
abbrev pub standing : List PlacedFile → List ℕ → ℕ → PlacedFile
standing placed name at = record { name = name; place = at; size = option_map_or (λ (p : PlacedFile). p.size) (placed_named placed name) 0 }

pub standing_named : (placed : List PlacedFile) (name : List ℕ) (at : ℕ) → IsSome (placed_named placed name) → at ≡ place_of placed name
    → placed_named placed name ≡ Some (standing placed name at)
standing_named placed name at some is =
    let found = from_some (placed_named placed name) some in
    let p = found.0 in
    let named : p.name ≡ name = same_text p.name name (found_passes (λ (q : PlacedFile). bytes_eq q.name name) placed p found.1) in
    let place : p.place ≡ at = sym (ap (λ (o : Option PlacedFile). option_map_or (λ (q : PlacedFile). q.place) o 0) found.1) ∙ sym is in
    let size : p.size ≡ option_map_or (λ (q : PlacedFile). q.size) (placed_named placed name) 0 =
    sym (ap (λ (o : Option PlacedFile). option_map_or (λ (q : PlacedFile). q.size) o 0) found.1) in
    found.1 ∙ ap (λ (n : List ℕ). Some (record { name = n; place = p.place; size = p.size })) named
    ∙ ap₂ (λ (a s : ℕ). Some (record { name = name; place = a; size = s })) place size

-- that of one that is there with its bytes
pub there_standing : (m : Memory) (placed : List PlacedFile) (name : List ℕ) (at : ℕ) (p : Placed) → placed_of (files_in m placed) name ≡ Some p
    → at ≡ place_of placed name → placed_named placed name ≡ Some (standing placed name at)
there_standing m placed name at p some place =
    standing_named placed name at (some_named m placed name (subst IsSome (sym some) refl)) place

-- its place is low
pub place_low : (m : Memory) (placed : List PlacedFile) (name : List ℕ) (at : ℕ) → ArePlaced m.top placed
    → placed_named placed name ≡ Some (standing placed name at) → at ≤ 2 ^ 32
place_low m placed name at all named =
    let low : EndsLow (standing placed name at) =
    of_found EndsLow (λ (q : PlacedFile). bytes_eq q.name name) placed (standing placed name at) named (each_low m.top placed all) in
    omega (arith, low)

-- one place more is nowhere
pub nowhere_more : (places : List (Option ℕ)) (index : ℕ) → index < length places
    → slice_set (replicate {A = Option ℕ} index None ++ drop index places) index None ≡ replicate {A = Option ℕ} (suc index) None ++ drop (suc index) places
nowhere_more [] index within = absurd (omega arith)
nowhere_more (place ∷ places) zero within = refl
nowhere_more (place ∷ places) (suc index) within =
    ap (λ (rest : List (Option ℕ)). None ∷ rest) (nowhere_more places index (omega arith))
