-- An Allocate that is given a place.
use Rattle.std.proofs.Common.{◌≡◌, ℕ, suc, false, ◌+◌, ◌<◌, List, [], ◌∷◌, ◌++◌, length, take, Option, Some, None}
use Rattle.std.proofs.Common.{inl, arith, refl, ap, ap₂, sym, subst, ◌∙◌, map}
use Rattle.std.specs.List.{AllByRecursion, last_or}
use Rattle.std.specs.Option.{option_map, option_map_or}
use Rattle.std.proofs.lemmas.List.{map_push}
use Rattle.std.proofs.lemmas.Option.{slice_get_within, get_or_from_slice_get}
use Rattle.vt_outside.specs.Placement.{Range, IsFree}
use Rattle.vt_bytes.specs.Memory.{IsRam, Memory, IsTop, at}
use Rattle.cfg_directory.specs.declared.item.Item.{Item}
use Rattle.cfg_directory.specs.declared.listed.Listed.{Listed}
use Rattle.cfg_directory.specs.Items.{named}
use Rattle.cfg_directory.specs.Listing.{listed_of}
use Rattle.cfg_directory.specs.Shapes.{shape_of}
use Rattle.cfg_directory.proofs.Shapes.{same_listed}
use Rattle.loader_script.specs.declared.entry.Entry.TheVariants.{Allocate}
use Rattle.loader_script.specs.Left.{range_of}
use Rattle.loader_script.specs.Run.{Placed, infos_of, bytes_of, cause_of, Done as AllDone}
use Rattle.loader_script.proofs.Conditions.{conditions_from}
use Rattle.loader_script.specs.Conditions.{CanAllocate}
use Rattle.cfg_directory.specs.Files.{files_of}
use Rattle.zone_alloc.specs.Zones.{zone_range, zone_numbered}
use Rattle.cfg_dma.specs.Reads.{GoesOn, read_of, selected_read}
use Rattle.cfg_dma.specs.Transfers.{Attached}
use Rattle.command_acts.specs.declared.placed.PlacedFile.{PlacedFile}
use Rattle.command_acts.specs.Allocators.{AreLawful}
use Rattle.command_acts.specs.FilesInMemory.{placed_range, placed_ranges, files_in, IsBeside, IsOfSize, IsLoading}
use Rattle.command_acts.specs.Placing.{places_in, count_places}
use Rattle.command_acts.specs.Runs.{Answers, IsRun, at_files, request_of, with_file}
use Rattle.command_acts.specs.Runs.{placed_at as plainly_placed}
use Rattle.command_acts.proofs.Allocations.{ranges_in}
use Rattle.command_acts.proofs.Goes.{allocate_goes, new_from_free, loading_pushed, count_pushed}
use Rattle.command_acts.proofs.OneMoreFile.{IsNew, all_push}
use Rattle.command_acts.proofs.Placings.{distinct_infos}
use Rattle.load_states.specs.declared.reading.Reading.TheVariants as read
use Rattle.load_states.specs.declared.stage.Stage.TheVariants.{Awaits}
use Rattle.load_states.specs.Guarded.{descriptor_at, is_work}
use Rattle.load_states.specs.LoadState.{LoadState, Opening, memory_of, items_now, files_now, progress_of, listed_named}
use Rattle.load_states.specs.Steps.{Asking, asking, placed_at, to_its_place}
use Rattle.load_states.specs.Kept.{KeepsNow, IsInZone, LoadRead, moves_before}
use Rattle.load_states.proofs.Frames.{KeepsOn, bios_outside, files_same}
use Rattle.load_states.proofs.CanReads.{file_can, file_select_small}
use Rattle.command_acts.proofs.ItemsWritten.{bytes_of_named}
use Rattle.load_states.proofs.CommandMoves.{room_at}
use Rattle.load_states.proofs.NamedItems.{listing, listed_as_named, item_there}
use Rattle.load_states.proofs.StartEvents.{StartsOn, starts_on, started_by}
use Rattle.load_states.proofs.Fronts.{one_more}
use Rattle.load_states.proofs.CommandCauses.{IsBefore}
use Rattle.load_states.proofs.Zoned.{in_zone, zoned_in, zoned_files}
use Rattle.cfg_dma.specs.Device.{StandsWhereLeft}
use Rattle.cfg_dma.proofs.Standing.{last_is, read_stands, started_address}

-- A file that may be placed behind others: it is new to memory, lies in a guarded zone, and isn't empty.
pub record IsPlaceable (items : List Item) (top : ℕ) (placed : List PlacedFile) (file : Item) (p : PlacedFile) : Type 0 where
  pub there : named items p.name ≡ Some file
  pub size : p.size ≡ length file.bytes
  pub some : 0 < p.size
  pub new : IsNew top placed p
  pub of_size : IsOfSize (files_of items) p
  pub zone : IsInZone top p
  pub count : length (placed ++ p ∷ []) ≡ count_places (places_in (placed ++ p ∷ []) (infos_of (files_of items)))

-- what holds of each element and of one more holds of each before
all_before : {A : Type 0} (P : A → Type 0) (xs : List A) (x : A) → AllByRecursion P (xs ++ x ∷ []) → AllByRecursion P xs
all_before P [] x all = tt
all_before P (y ∷ ys) x all = (all.0, all_before P ys x all.1)

-- the file of an Allocate that isn't refused, at the place that it is given, may be placed
pub placeable : (May : Answers) (its : Opening) (w : LoadState) (name : List ℕ) (align zone place : ℕ) (item : Item) → AreLawful May its.top
    → KeepsNow May its w → named (items_now w) name ≡ Some item → cause_of (Allocate name align zone) (progress_of w) ≡ None → May
    (placed_ranges w.placed) (request_of (files_of (items_now w)) name align zone) (Some place) → IsPlaceable (items_now w) its.top w.placed item
    (record { name = name; place = place; size = length item.bytes })
placeable May its w name align zone place item lawful kept there none may =
    let size = length item.bytes in
    let files = files_of (items_now w) in
    let bytes : length (bytes_of files name) ≡ size = ap (λ (bs : List ℕ). length bs) (bytes_of_named (items_now w) name item there) in
    let given = lawful (placed_ranges w.placed) (request_of files name align zone) place may in
    let sized = subst (λ (n : ℕ). IsFree (zone_range its.top (zone_numbered zone)) (placed_ranges w.placed) n align place) bytes given in
    let free = subst (λ (handed : List Range). IsFree (zone_range its.top (zone_numbered zone)) handed size align place)
    (sym (ranges_in (memory_of w) w.placed)) sized in
    let its_top : IsTop its.top = subst IsTop kept.top kept.memory.top in
    let fresh = new_from_free its.top (memory_of w) files w.placed name align zone place size its_top kept.loading none free (sym bytes) in
    let counted = count_pushed (memory_of w) files w.placed name align zone place size none
    (distinct_infos (items_now w) kept.device.items.distinct) kept.count in
    record {
      there = there;
      size = refl;
      some = fresh.2;
      new = fresh.0;
      of_size = fresh.1;
      zone = in_zone its.top name place size (zone_numbered zone) given.from sized.within;
      count = counted.0;
    }

-- the read of a file behind those that are placed
abbrev pub file_read_of : List Item → ℕ → LoadState → Item → PlacedFile → LoadRead
file_read_of items index w file p =
    record { before = moves_before items index w w.placed; control = selected_read file.select; transfer = read_of file.select 0 p.size p.place }

-- The load that has started the read of a file, and placed it.
abbrev placing : ℕ → PlacedFile → Attached → LoadState → LoadState
placing index p a w = record w { attached = a; stage = Awaits (read.File index); placed = w.placed ++ p ∷ [] }

-- the range of a placed file is that of the file as fw_cfg has it
pushed_ranges : (items : List Item) (m : Memory) (placed : List PlacedFile) (file : Item) (p : PlacedFile) → named items p.name ≡ Some file
    → p.size ≡ length file.bytes
    → placed_ranges (placed ++ p ∷ []) ≡ map range_of (files_in m placed ++ plainly_placed (files_of items) p.name p.place ∷ [])
pushed_ranges items m placed file p there size =
    let last = plainly_placed (files_of items) p.name p.place in
    let bytes : p.size ≡ length (bytes_of (files_of items) p.name) = omega (arith, size, ap length (bytes_of_named items p.name file there)) in
    let same : placed_range p ≡ range_of last = ap (λ (n : ℕ). record { start = p.place; end = p.place + n }) bytes in
    map_push placed_range placed p ∙ ap₂ (λ (rs : List Range) (r : Range). rs ++ r ∷ []) (sym (ranges_in m placed)) same
    ∙ sym (map_push range_of (files_in m placed) last)

-- The Allocate is carried out with that file.
placing_runs : (May : Answers) (its : Opening) (w : LoadState) (index : ℕ) (align zone : ℕ) (file : Item) (p : PlacedFile) (m : Memory) → named
    (items_now w) p.name ≡ Some file → p.size ≡ length file.bytes → KeepsNow May its w → IsBefore May its.items w index (Allocate p.name align zone)
    → cause_of (Allocate p.name align zone) (progress_of w) ≡ None → May (placed_ranges w.placed)
    (request_of (files_of (items_now w)) p.name align zone) (Some p.place) →
    ((address : ℕ) → is_work address ≡ false → at m address ≡ at (memory_of w) address) → IsRun May (files_of its.items) (take (suc index) w.script)
    (placed_ranges (w.placed ++ p ∷ [])) AllDone (with_file (at_files (files_of (items_now w)) (files_in m w.placed) []) p.name p.place)
placing_runs May its w index align zone file p m there size kept before none may stays =
    let files = files_of (items_now w) in
    let entry = Allocate p.name align zone in
    let same : files_in m w.placed ≡ files_now w = files_same its.top (memory_of w) m w.placed kept.top kept.loading.apart (zoned_files kept)
    (λ address ram guarded other. stays address other) in
    let given = subst (λ (handed : List Range). May handed (request_of files p.name align zone) (Some p.place))
    (sym (ranges_in (memory_of w) w.placed)) may in
    let handed = placed_ranges (w.placed ++ p ∷ []) in
    subst (λ (now : List Placed). IsRun May (files_of its.items) (take (suc index) w.script) handed AllDone (with_file (at_files files now []) p.name p.place))
    (sym same)
    (one_more May (files_of its.items) w.script index entry (placed_ranges w.placed) handed (progress_of w) (with_file (progress_of w) p.name p.place)
    (slice_get_within w.script index entry before.there) (sym (get_or_from_slice_get w.script index entry entry before.there)) before.run
    (allocate_goes May (memory_of w) files w.placed p.name align zone p.place none given)
    (pushed_ranges (items_now w) (memory_of w) w.placed file p there size))

-- That load keeps what is kept.
placing_keeps : (May : Answers) (its : Opening) (w : LoadState) (index : ℕ) (align zone : ℕ) (file : Item) (p : PlacedFile) (a : Attached)
    → KeepsNow May its w → IsBefore May its.items w index (Allocate p.name align zone) → cause_of (Allocate p.name align zone) (progress_of w) ≡ None
    → May (placed_ranges w.placed) (request_of (files_of (items_now w)) p.name align zone) (Some p.place) → IsPlaceable
    (items_now w) its.top w.placed file p → StartsOn (file_read_of its.items index w file p) w.attached a → StandsWhereLeft a.device
    → KeepsOn May its w (placing index p a w)
placing_keeps May its w index align zone file p a kept before none may can starts stands =
    let goes : GoesOn w.attached a = starts.1 in
    let same : a.device.items ≡ items_now w = starts.2 in
    let next = placing index p a w in
    let beside_before : (address : ℕ) → AllByRecursion (IsBeside address) next.placed → AllByRecursion (IsBeside address) w.placed =
    λ address beside. all_before (IsBeside address) w.placed p beside in
    let outside : (address : ℕ) → IsRam its.top address → is_work address ≡ false → AllByRecursion (IsBeside address) next.placed
    → at (memory_of next) address ≡ at (memory_of w) address = λ address ram other beside. starts.3 address other in
    record {
      now = record {
        lawful = kept.lawful;
        names = kept.names;
        opening = goes.opening ∙ kept.opening;
        shape = ap (map shape_of) same ∙ kept.shape;
        device = goes.device;
        room = goes.room ∙ kept.room;
        stands = stands;
        memory = goes.memory;
        top = goes.top ∙ kept.top;
        fill = goes.fill ∙ kept.fill;
        loading = subst (λ (is : List Item). IsLoading its.top (files_of is) next.placed) (sym same)
            (loading_pushed its.top (files_of (items_now w)) w.placed p kept.loading can.new can.of_size);
        zones = all_push (IsInZone its.top) w.placed p kept.zones can.zone;
        count = subst (λ (is : List Item). length next.placed ≡ count_places (places_in next.placed (infos_of (files_of is)))) (sym same) can.count;
        bios = bios_outside May its w next kept beside_before outside;
        stage = (
          record {
            script = record { listed = before.script.listed; script = before.script.script };
            before = w.placed;
            last = p;
            align = align;
            zone = zone;
            command = before.there;
            file = file;
            placed_are = refl;
            there = subst (λ (is : List Item). named is p.name ≡ Some file) (sym same) can.there;
            size = can.size;
            run = subst
                (λ (is : List Item). IsRun May (files_of its.items) (take (suc index) w.script) (placed_ranges next.placed) AllDone
                (with_file (at_files (files_of is) (files_in a.memory w.placed) []) p.name p.place)) (sym same)
                (placing_runs May its w index align zone file p a.memory can.there can.size kept before none may starts.3);
          },
          inl starts.0,
        );
      };
      beside = beside_before;
      outside = outside;
    }

-- the files that were listed are those of the its.items of now
pub listed_as_now : (May : Answers) (its : Opening) (w : LoadState) → KeepsNow May its w → w.listed ≡ listed_of its.items → w.listed ≡ listed_of
    (items_now w)
listed_as_now May its w kept are = are ∙ sym (same_listed its.items (items_now w) kept.shape)

-- the listed file of a name that is there
pub listed_there : (items : List Item) (listed : List Listed) (name : List ℕ) (item : Item) → listed ≡ listed_of items → named items name ≡ Some item
    → listed_named listed name ≡ Some (listing item)
listed_there items listed name item are there =
    ap (λ (ls : List Listed). listed_named ls name) are ∙ listed_as_named items name ∙ ap (option_map listing) there

-- what is asked for is the read of the file that was placed last
placed_asking : (listed : List Listed) (placed : List PlacedFile) (p : PlacedFile) (found : Listed) → listed_named listed p.name ≡ Some found
    → to_its_place listed (last_or None (placed ++ p ∷ []))
    ≡ record { control = selected_read found.select; size = p.size; address = p.place }
placed_asking listed placed p found there =
    ap (to_its_place listed) (last_is None placed p)
    ∙ ap (λ (o : Option Listed). record {
      control = selected_read (option_map_or (λ (file : Listed). file.select) o 0);
      size = p.size;
      address = p.place;
    }) there

-- so a file that is placed is asked for
pub placed_is : (index : ℕ) (name : List ℕ) (place : ℕ) (found : Listed) (w : LoadState) → listed_named w.listed name ≡ Some found
    → placed_at index name place (Some found) w
    ≡ asking (read.File index) (record { control = selected_read found.select; size = found.size; address = place })
    (record w { placed = w.placed ++ record { name = name; place = place; size = found.size } ∷ [] })
placed_is index name place found w there =
    let p : PlacedFile = record { name = name; place = place; size = found.size } in
    ap (λ (what : Asking). asking (read.File index) what (record w { placed = w.placed ++ p ∷ [] })) (placed_asking w.listed w.placed p found there)

-- The read of the file of an Allocate is started, straight to the place that it is given.
pub place_keeps : (May : Answers) (its : Opening) (w : LoadState) (index : ℕ) (name : List ℕ) (align zone place : ℕ) → AreLawful May its.top
    → KeepsNow May its w → IsBefore May its.items w index (Allocate name align zone) → cause_of (Allocate name align zone) (progress_of w) ≡ None
    → May (placed_ranges w.placed) (request_of (files_of (items_now w)) name align zone) (Some place) → KeepsOn May its w
    (placed_at index name place (listed_named w.listed name) w)
place_keeps May its w index name align zone place lawful kept before none may =
    let can : CanAllocate (progress_of w) name align zone = conditions_from (Allocate name align zone) (progress_of w) none in
    let found = item_there (items_now w) name can.file can.there in
    let item : Item = found.0 in
    let p : PlacedFile = record { name = name; place = place; size = length item.bytes } in
    let placed = placeable May its w name align zone place item lawful kept found.1 none may in
    let r = file_read_of its.items index w item p in
    let within = slice_get_within w.script index (Allocate name align zone) before.there in
    let room = room_at its.items w.script index w.placed before.script.script within in
    let starts = starts_on its.top r w.attached kept.top kept.device kept.memory before.idle.idle before.idle.finished (omega (arith, room, kept.room))
    (file_can (items_now w) its.top name item p kept.device.items found.1 refl placed.some placed.new.ram
    (zoned_in its.top p (subst IsTop kept.top kept.memory.top) placed.zone))
    (inl (refl, file_select_small (items_now w) name item kept.device.items found.1, refl)) in
    let listed = listed_there (items_now w) w.listed name item (listed_as_now May its w kept before.script.listed) found.1 in
    let here : LoadState = record w { placed = w.placed ++ p ∷ [] } in
    subst (λ (o : Option Listed). KeepsOn May its w (placed_at index name place o w)) (sym listed)
    (subst (λ (what : Asking). KeepsOn May its w (asking (read.File index) what here))
    (sym (placed_asking w.listed w.placed p (listing item) listed))
    (placing_keeps May its w index align zone item p (started_by r w.attached) kept before none may placed starts
    (read_stands _ r.before descriptor_at r.control r.transfer (started_by r w.attached) (inl starts.0)
    (started_address descriptor_at r.control r.transfer.length r.transfer.address w.attached))))
