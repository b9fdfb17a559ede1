-- An Allocate that isn't refused: what is known of its file, what an allocator is asked and answers, and what is made of the load.
use Rattle.std.proofs.Common.{◌≡◌, ◌≢◌, ℕ, ◌<◌, ◌⊎◌, List, [], ◌∷◌, ◌++◌, length, option_map, Option, Some, None, IsSome, IfSome}
use Rattle.std.proofs.Common.{MatchOption, refl, sym, ap, ap₂, subst, arith, ◌∙◌}
use Rattle.std.specs.Option.{option_map_or}
use Rattle.std.specs.Str.{bytes_eq}
use Rattle.std.proofs.lemmas.List.{length-map, map-append}
use Rattle.std.proofs.lemmas.Option.{same_Some, none-some}
use Rattle.vt_outside.specs.Placement.{Range, IsFree}
use Rattle.cfg_directory.specs.declared.item.Item.{Item}
use Rattle.cfg_directory.specs.declared.listed.Listed.{Listed}
use Rattle.cfg_directory.specs.Items.{IsItems, named}
use Rattle.cfg_directory.specs.Files.{files_of}
use Rattle.loader_script.specs.declared.entry.Entry.{Entry}
use Rattle.loader_script.specs.declared.entry.Entry.TheVariants.{Allocate, WritePointer}
use Rattle.loader_script.specs.declared.refusing.Cause.{Cause}
use Rattle.loader_script.specs.declared.refusing.FileInfo.{FileInfo}
use Rattle.loader_script.specs.Conditions.{CanAllocate, CanWritePointer}
use Rattle.loader_script.specs.Refusal.{info_of, AreDistinct}
use Rattle.vt_outside.specs.File.{File}
use Rattle.vt_outside.proofs.Texts.{same_text}
use Rattle.loader_script.specs.Run.{bytes_of, file_of, infos_of, cause_of}
use Rattle.loader_script.proofs.Conditions.{conditions_from}
use Rattle.loader_script.proofs.Named.{found_passes, find-map, IsSome-before_map}
use Rattle.zone_alloc.specs.declared.alloc.Request.{Request}
use Rattle.zone_alloc.specs.declared.zone.Zone.{Zone}
use Rattle.zone_alloc.specs.Allocators.{AllocState}
use Rattle.zone_alloc.specs.Places.{range_in}
use Rattle.zone_alloc.specs.Zones.{zone_numbered}
use Rattle.cfg_dma.specs.Reads.{started, selected_read}
use Rattle.cfg_dma.specs.Transfers.{Attached, attached}
use Rattle.command_acts.specs.declared.fault.LoadFault.TheVariants as fault
use Rattle.command_acts.specs.declared.placed.PlacedFile.{PlacedFile}
use Rattle.command_acts.specs.declared.placements.Placements.{Placements}
use Rattle.command_acts.specs.Allocators.{MayAnswer}
use Rattle.command_acts.specs.FilesInMemory.{placed_range, placed_ranges, placed_named}
use Rattle.command_acts.specs.Placing.{ArePlacements}
use Rattle.command_acts.specs.Runs.{Answers, early_cause, request_of, request_by}
use Rattle.command_acts.proofs.Causes.{cause_late}
use Rattle.command_acts.proofs.Goes.{not_placed, is_a_file}
use Rattle.command_acts.proofs.Placings.{few_placed, distinct_infos}
use Rattle.load_states.specs.declared.stage.Stage.TheVariants.{AtCommand, Refused}
use Rattle.load_states.specs.Guarded.{descriptor_at}
use Rattle.load_states.specs.LoadState.{LoadState, listed_named, progress_of}
use Rattle.load_states.specs.Runs.{request_for}
use Rattle.load_states.specs.Steps.{awaits_file, at_command, placed_at}
use Rattle.load_states.proofs.CommandPlaces.{placed_is}
use Rattle.command_acts.proofs.ItemsWritten.{as_file, bytes_of_named}
use Rattle.load_states.proofs.NamedItems.{listing, listed_as_named}
use Rattle.firmware_load.specs.declared.guest.Guest.{Guest}
use Rattle.firmware_load.specs.Inside.{GoesByCommand, IsReady, load_at, progress_now}
use Rattle.firmware_load.proofs.CommandsDone.{load_with, by_cause}

-- ---- the placements

-- the placements are of files with names of their own
pub distinct_placements : (p : Placements) (items : List Item) → IsItems items → p.infos.items ≡ infos_of (files_of items)
    → AreDistinct p.infos.items
distinct_placements p items lawful infos = subst AreDistinct (sym infos) (distinct_infos items lawful.distinct)

-- fewer files are placed than there are items, while one isn't
pub fewer_placed : (p : Placements) (items : List Item) (name : List ℕ) → ArePlacements p → p.infos.items ≡ infos_of (files_of items)
    → IsSome (info_of (infos_of (files_of items)) name) → placed_named p.placed.items name ≡ None → length p.placed.items < length items
fewer_placed p items name are infos there fresh =
    omega (
      arith,
      few_placed p name are (subst (λ is. IsSome (info_of is name)) (sym infos) there) fresh,
      ap length infos,
      length-map {B = FileInfo} (files_of items) (λ (file : File). record { name = file.name; size = length file.bytes; writable = file.writable }),
      length-map {B = File} items (λ (item : Item). record { name = item.name; bytes = item.bytes; writable = item.writable }),
    )

-- and fewer ranges are handed out than an allocator hands out at most
pub few_handed : (items : List Item) (placed : List PlacedFile) (handed : List Range) → IsItems items → length placed < length items
    → handed ≡ placed_ranges placed → length handed < 1024
few_handed items placed handed lawful fewer is = omega (arith, fewer, lawful.few, ap length is, length-map placed placed_range)

-- where a place is given, the ranges that are handed out are those of the files that are placed then
pub handed_more : (handed handed_now : List Range) (placed placed_now : List PlacedFile) (p : PlacedFile) → handed ≡ placed_ranges placed
    → handed_now ≡ handed ++ placed_range p ∷ [] → placed_now ≡ placed ++ p ∷ [] → handed_now ≡ placed_ranges placed_now
handed_more handed handed_now placed placed_now p before more now =
    more ∙ ap (λ (ranges : List Range). ranges ++ placed_range p ∷ []) before ∙ sym (map-append placed_range placed (p ∷ []))
    ∙ ap placed_ranges (sym now)

-- ---- the file

-- the item that a listed file is of
item_listed : (found : Option Item) (file : Listed) → option_map listing found ≡ Some file
    → (item : Item) × (found ≡ Some item) × (listing item ≡ file)
item_listed None file is = absurd (none-some file is)
item_listed (Some item) file is = (item, refl, same_Some (listing item) file is)

-- what is there is there when it is mapped
some_mapped : {A B : Type 0} (f : A → B) (found : Option A) → IsSome found → IsSome (option_map f found)
some_mapped f None there = there
some_mapped f (Some x) there = refl

-- What is known of the file of an Allocate that isn't refused, as the directory lists it, and of a guest that is ready for it.
pub record IsAllocating (guest : Guest) (name : List ℕ) (align zone : ℕ) (file : Listed) : Type 0 where
  pub none : cause_of (Allocate name align zone) (progress_now guest) ≡ None
  pub known_zone : (zone ≡ 1) ⊎ (zone ≡ 2)
  pub named : file.name ≡ name
  pub size : file.size ≡ length (bytes_of (files_of guest.device.items) name)
  pub some : 0 < file.size
  pub fresh : placed_named guest.placements.placed.items file.name ≡ None
  pub there : IsSome (info_of guest.placements.infos.items file.name)
  pub fewer : length guest.placements.placed.items < length guest.device.items

-- as it is found among the listed files
pub allocating : (guest : Guest) (listed : List Listed) (name : List ℕ) (align zone : ℕ) (file : Listed)
    → IsReady guest listed → early_cause (Allocate name align zone) (progress_now guest) ≡ None
    → listed_named listed name ≡ Some file → IsAllocating guest name align zone file
allocating guest listed name align zone file ready early found =
    let items = guest.device.items in
    let placed = guest.placements.placed.items in
    let p = progress_now guest in
    let none : cause_of (Allocate name align zone) p ≡ None = cause_late (Allocate name align zone) p early in
    let can : CanAllocate p name align zone = conditions_from (Allocate name align zone) p none in
    let is = item_listed (named items name) file
    (sym (listed_as_named items name) ∙ ap (λ l. listed_named l name) (sym ready.listed_are) ∙ found) in
    let same : file.name ≡ name = same_text file.name name (found_passes (λ (l : Listed). bytes_eq l.name name) listed file found) in
    let size : file.size ≡ length (bytes_of (files_of items) name) =
    sym (ap (λ (l : Listed). l.size) is.2) ∙ sym (ap length (bytes_of_named items name is.0 is.1)) in
    let bytes : bytes_of (files_of items) name ≡ can.file.bytes = ap (λ o. option_map_or (λ (f : File). f.bytes) o []) can.there in
    let fresh : placed_named placed name ≡ None = not_placed guest.memory.memory (files_of items) placed name align zone none in
    let there : IsSome (info_of (infos_of (files_of items)) name) = is_a_file guest.memory.memory (files_of items) placed name align zone none in
    record {
      none = none;
      known_zone = can.known_zone;
      named = same;
      size = size;
      some = omega (arith, can.some, size, ap length bytes);
      fresh = subst (λ n. placed_named placed n ≡ None) (sym same) fresh;
      there = subst (λ infos. IsSome (info_of infos file.name)) (sym ready.infos)
          (subst (λ n. IsSome (info_of (infos_of (files_of items)) n)) (sym same) there);
      fewer = fewer_placed guest.placements items name ready.placements ready.infos there fresh;
    }

-- a file that is there is listed
pub file_listed : (guest : Guest) (listed : List Listed) (name : List ℕ) (file : File) → IsReady guest listed
    → file_of (files_of guest.device.items) name ≡ Some file → IsSome (listed_named listed name)
file_listed guest listed name file ready found =
    let items = guest.device.items in
    let there : IsSome (option_map as_file (named items name)) =
    subst IsSome (sym found ∙ find-map as_file (λ (f : File). bytes_eq f.name name) items) refl in
    subst IsSome (sym (ap (λ l. listed_named l name) ready.listed_are ∙ listed_as_named items name))
    (some_mapped listing (named items name) (IsSome-before_map as_file (named items name) there))

-- so is that of an Allocate
pub is_listed : (guest : Guest) (listed : List Listed) (name : List ℕ) (align zone : ℕ) → IsReady guest listed
    → early_cause (Allocate name align zone) (progress_now guest) ≡ None → IsSome (listed_named listed name)
is_listed guest listed name align zone ready early =
    let p = progress_now guest in
    let can : CanAllocate p name align zone = conditions_from (Allocate name align zone) p (cause_late (Allocate name align zone) p early) in
    file_listed guest listed name can.file ready can.there

-- and the one that a WritePointer writes
pub dest_listed : (guest : Guest) (listed : List Listed) (dest src : List ℕ) (dst_offset src_offset size : ℕ) → IsReady guest listed
    → early_cause (WritePointer dest src dst_offset src_offset size) (progress_now guest) ≡ None → IsSome (listed_named listed dest)
dest_listed guest listed dest src dst_offset src_offset size ready early =
    let entry = WritePointer dest src dst_offset src_offset size in
    let p = progress_now guest in
    let can : CanWritePointer p dest src dst_offset src_offset size = conditions_from entry p (cause_late entry p early) in
    file_listed guest listed dest can.file ready can.there

-- ---- the request and its answer

-- what it asks
request_is : (w : LoadState) (name : List ℕ) (align zone : ℕ) → cause_of (Allocate name align zone) (progress_of w) ≡ None
    → request_for (Allocate name align zone) w ≡ Some (request_of (files_of w.attached.device.items) name align zone)
request_is w name align zone none =
    let asked : Option Request = request_by (files_of w.attached.device.items) (Allocate name align zone) in
    ap (λ (found : Option Cause). option_map_or (λ (cause : Cause). None) found asked) none

-- what an allocator answers is an answer that it may give
pub may_answer : {A : Type 0} (state_of : A → AllocState) (gives : A → Request → Option ℕ → Type 0) (a : A) (files : List File)
    (placed : List PlacedFile) (name : List ℕ) (align zone size : ℕ) (answer : Option ℕ) → size ≡ length (bytes_of files name)
    → (state_of a).handed ≡ placed_ranges placed → gives a (record { zone = zone_numbered zone; size = size; align = align }) answer
    → IfSome answer (λ place. IsFree (range_in (state_of a).begun.zones (zone_numbered zone)) (state_of a).handed size align place)
    → MayAnswer state_of gives (state_of a).begun (placed_ranges placed) (request_of files name align zone) answer
may_answer state_of gives a files placed name align zone size answer size_is handed given lawful =
    let zones = (state_of a).begun.zones in
    record {
      allocator = a;
      begun_is = refl;
      handed_is = handed;
      given = subst (λ n. gives a (record { zone = zone_numbered zone; size = n; align = align }) answer) size_is given;
      lawful = subst (λ ranges. IfSome answer (λ place. IsFree (range_in zones (zone_numbered zone)) ranges (length (bytes_of files name)) align place))
          handed
          (subst (λ n. IfSome answer (λ place. IsFree (range_in zones (zone_numbered zone)) (state_of a).handed n align place)) size_is lawful);
    }

-- The load goes on with that answer.
goes_answered : (May : Answers) (w next : LoadState) (index : ℕ) (name : List ℕ) (align zone : ℕ) (answer : Option ℕ)
    → cause_of (Allocate name align zone) (progress_of w) ≡ None
    → May (placed_ranges w.placed) (request_of (files_of w.attached.device.items) name align zone) answer
    → next ≡ at_command index (Some (Allocate name align zone)) answer w → GoesByCommand May index (Allocate name align zone) w next
goes_answered May w next index name align zone answer none may is =
    let entry : Entry = Allocate name align zone in
    subst (λ (asked : Option Request). MatchOption asked (next ≡ at_command index (Some entry) None w)
    (λ request. (answer : Option ℕ) × May (placed_ranges w.placed) request answer × (next ≡ at_command index (Some entry) answer w)))
    (sym (request_is w name align zone none)) (answer, may, is)

-- It asks for a place.
pub asks : (guest : Guest) (listed : List Listed) (name : List ℕ) (align zone index : ℕ) (file : Listed) → IsAllocating guest name align zone file
    → request_for (Allocate name align zone) (load_at guest (AtCommand index) listed []) ≢ None
asks guest listed name align zone index file is nothing =
    none-some (request_of (files_of guest.device.items) name align zone)
    (sym nothing ∙ request_is (load_at guest (AtCommand index) listed []) name align zone is.none)

-- What was asked, where the code has found the zone.
pub was_asked : (guest : Guest) (listed : List Listed) (name : List ℕ) (align zone index : ℕ) (file : Listed) (found : Zone)
    (refused : Option Request) → IsAllocating guest name align zone file → found ≡ zone_numbered zone
    → refused ≡ Some (record { zone = found; size = file.size; align = align })
    → refused ≡ request_for (Allocate name align zone) (load_at guest (AtCommand index) listed [])
was_asked guest listed name align zone index file found refused is zone_is asked =
    asked ∙ ap₂ (λ (z : Zone) (size : ℕ). Some (record { zone = z; size = size; align = align })) zone_is is.size
    ∙ sym (request_is (load_at guest (AtCommand index) listed []) name align zone is.none)

-- a load that ends without room ends so at its index alone
pub same_index : (index at : ℕ) → Refused (fault.NoRoom index) ≡ Refused (fault.NoRoom at) → at ≡ index
same_index index at is = cc

-- ---- what is made of the load

-- The file is placed, and the read of all of it is started.
pub goes_placed : (May : Answers) (guest new : Guest) (listed : List Listed) (script : List Entry) (name : List ℕ) (align zone index place : ℕ)
    (file : Listed) → IsAllocating guest name align zone file → listed_named listed name ≡ Some file
    → May (placed_ranges guest.placements.placed.items) (request_of (files_of guest.device.items) name align zone) (Some place)
    → attached new.device new.memory.memory ≡ started descriptor_at (selected_read file.select) file.size place (attached guest.device guest.memory.memory)
    → new.placements.placed.items ≡ guest.placements.placed.items ++ record { name = file.name; place = place; size = file.size } ∷ []
    → GoesByCommand May index (Allocate name align zone) (load_at guest (AtCommand index) listed script)
    (load_at new (awaits_file index) listed script)
goes_placed May guest new listed script name align zone index place file is found may after placed =
    let w = load_at guest (AtCommand index) listed script in
    let now = guest.placements.placed.items in
    let next_is : load_at new (awaits_file index) listed script ≡ at_command index (Some (Allocate name align zone)) (Some place) w =
    ap₂ (λ (a : Attached) (ps : List PlacedFile). load_with a ps (awaits_file index) listed script) after
    (placed ∙ ap (λ n. now ++ record { name = n; place = place; size = file.size } ∷ []) is.named)
    ∙ sym (placed_is index name place file w found) ∙ sym (ap (λ (o : Option Listed). placed_at index name place o w) found)
    ∙ sym (by_cause w index (Allocate name align zone) None (Some place) is.none) in
    goes_answered May w (load_at new (awaits_file index) listed script) index name align zone (Some place) is.none may next_is

-- Or there is no room for it.
pub goes_without : (May : Answers) (guest : Guest) (listed : List Listed) (script : List Entry) (name : List ℕ) (align zone index : ℕ)
    (file : Listed) → IsAllocating guest name align zone file
    → May (placed_ranges guest.placements.placed.items) (request_of (files_of guest.device.items) name align zone) None
    → GoesByCommand May index (Allocate name align zone) (load_at guest (AtCommand index) listed script)
    (load_at guest (Refused (fault.NoRoom index)) listed script)
goes_without May guest listed script name align zone index file is may =
    let w = load_at guest (AtCommand index) listed script in
    goes_answered May w (load_at guest (Refused (fault.NoRoom index)) listed script) index name align zone None is.none may
    (sym (by_cause w index (Allocate name align zone) None None is.none))
