-- What one command does in the run of a script, over a memory and the files that stand in it.
use Rattle.std.proofs.Common.{◌≡◌, ℕ, ◌+◌, ◌-◌, ◌%◌, ◌<◌, List, [], ◌∷◌, ◌++◌, length, map, option_map, is_some, Option, Some, None, IsSome}
use Rattle.std.proofs.Common.{length-append, arith, refl, ap, subst, sym, ◌∙◌}
use Rattle.std.specs.List.{AllByRecursion}
use Rattle.std.specs.Option.{option_map_or}
use Rattle.std.specs.Str.{bytes_eq}
use Rattle.std.proofs.lemmas.Bool.{true≢false}
use Rattle.std.proofs.lemmas.List.{length-map}
use Rattle.std.proofs.lemmas.Option.{none-some}
use Rattle.vt_outside.specs.Placement.{Range, IsFree}
use Rattle.vt_bytes.specs.Numbers.{le, le_bytes, byte_sum}
use Rattle.vt_bytes.specs.Memory.{Memory, IsTop, IsMemory, Puts, at, bytes_at, with_bytes}
use Rattle.vt_bytes.proofs.Memories.{puts_number_with, puts_byte_with, lawful_with}
use Rattle.loader_script.specs.declared.entry.Entry.{Entry}
use Rattle.loader_script.specs.declared.entry.Entry.TheVariants.{Allocate, AddPointer, AddChecksum, Skipped}
use Rattle.loader_script.specs.declared.refusing.FileInfo.{FileInfo}
use Rattle.loader_script.specs.Conditions.{CanAddPointer, CanAllocate}
use Rattle.loader_script.specs.Left.{range_of}
use Rattle.loader_script.specs.Refusal.{AreDistinct, info_of}
use Rattle.vt_outside.specs.File.{File}
use Rattle.vt_outside.proofs.Results.{none_from}
use Rattle.loader_script.specs.Run.{Placed, Progress, placed_of, bytes_of, infos_of, cause_of}
use Rattle.loader_script.proofs.Conditions.{conditions_from}
use Rattle.loader_script.proofs.Named.{none_passes, find-map}
use Rattle.zone_alloc.specs.declared.alloc.Request.{Request}
use Rattle.zone_alloc.specs.Allocators.{AllocState, Begun}
use Rattle.zone_alloc.specs.Zones.{zone_range, zone_numbered}
use Rattle.command_acts.specs.declared.placed.PlacedFile.{PlacedFile}
use Rattle.command_acts.specs.Allocators.{AreZonesOf, AreLawful, MayAnswer}
use Rattle.command_acts.specs.FilesInMemory.{place_of, placed_named, files_in, progress_in, pointed, summed, IsOfSize, IsLoading, Stays, CanPoint, CanSum}
use Rattle.command_acts.specs.Placing.{places_in, count_places, place_named}
use Rattle.command_acts.specs.Runs.{Answers, allocated, at_files, early_cause, request_of, with_file}
use Rattle.command_acts.specs.Steps.{LeadsOn}
use Rattle.command_acts.proofs.Allocations.{in_zone, ranges_in}
use Rattle.command_acts.proofs.Causes.{cause_early}
use Rattle.command_acts.proofs.Checksums.{IsSum, byte_ram, sum_after, sum_stays}
use Rattle.command_acts.proofs.NamedInMemory.{some_named, none_named}
use Rattle.command_acts.proofs.OneCommand.{leads_from, pointer_can, pointer_carries, sum_can, sum_carries, skipped_carries}
use Rattle.command_acts.proofs.OneMoreFile.{IsNew, all_push, ArePlaced-push}
use Rattle.command_acts.proofs.Placings.{index_of, there_within, unplaced_nowhere, places_put, count_put, count_few}
use Rattle.command_acts.proofs.Pointers.{IsPointer, place_found, pointer_ram, pointer_after, pointer_stays}

-- what an allocator of the zones of memory below a top may answer is lawful there
pub answers_are_lawful : {A : Type 0} (state_of : A → AllocState) (gives : A → Request → Option ℕ → Type 0) (begun : Begun) (top : ℕ)
    → AreZonesOf top begun.zones → AreLawful (MayAnswer state_of gives begun) top
answers_are_lawful state_of gives begun top are handed request place may =
    subst (λ (range : Range). IsFree range handed request.size request.align place) (are request.zone) may.lawful

-- an option that is no value is none
none_by : {A : Type 0} (o : Option A) → ((x : A) → o ≡ Some x → ⊥) → o ≡ None
none_by None never = refl
none_by (Some x) never = absurd (never x refl)

-- a command that isn't refused isn't refused early
pub goes_early : (entry : Entry) (p : Progress) → cause_of entry p ≡ None → early_cause entry p ≡ None
goes_early entry p none = none_by (early_cause entry p) (λ cause is. none-some cause (sym none ∙ cause_early entry p cause is))

-- an option that is there is a value
some_of : {A : Type 0} (o : Option A) → IsSome o → (x : A) × (o ≡ Some x)
some_of None there = absurd (true≢false (sym there))
some_of (Some x) there = (x, refl)

-- the placed file of a name without its bytes
found_placed : (m : Memory) (placed : List PlacedFile) (name : List ℕ) (d : Placed) → placed_of (files_in m placed) name ≡ Some d
    → (p : PlacedFile) × (placed_named placed name ≡ Some p)
found_placed m placed name d found = some_of (placed_named placed name) (some_named m placed name (subst IsSome (sym found) refl))

-- the number of a pointer in memory, with the place of the other file
pointed_puts : (m : Memory) (placed : List PlacedFile) (dest src : List ℕ) (offset size : ℕ) (p s : PlacedFile) → IsMemory m
    → IsPointer m placed dest src offset size p s
    → Puts m (pointed m placed dest src offset size) (place_of placed dest + offset)
    (le_bytes size (le (bytes_at m (place_of placed dest + offset) size) + s.place))
pointed_puts m placed dest src offset size p s lawful pointer =
    let field = place_of placed dest + offset in
    let field_is : field ≡ p.place + offset = ap (λ place. place + offset) (place_found placed dest p pointer.dest_is) in
    puts_number_with m (pointed m placed dest src offset size) field size (le (bytes_at m field size) + s.place) lawful
    (pointer_ram m placed dest src offset size field p s field_is pointer)
    (ap (λ place. with_bytes m field (le_bytes size (le (bytes_at m field size) + place))) (place_found placed src s pointer.src_is))

-- what an AddPointer that isn't refused needs of the files, as they are placed
can_point : (m : Memory) (files : List File) (placed : List PlacedFile) (dest src : List ℕ) (offset size : ℕ) → IsLoading m.top files placed
    → cause_of (AddPointer dest src offset size) (at_files files (files_in m placed) []) ≡ None
    → (p : PlacedFile) × (s : PlacedFile) × IsPointer m placed dest src offset size p s
can_point m files placed dest src offset size loading none =
    let early = goes_early (AddPointer dest src offset size) (at_files files (files_in m placed) []) none in
    let can : CanPoint (files_in m placed) dest src offset size = pointer_can m files placed dest src offset size loading early in
    let p = found_placed m placed dest can.d can.found in
    let s = found_placed m placed src can.s can.source_found in
    (p.0, s.0, record { apart = loading.apart; dest_is = p.1; src_is = s.1; can = can })

-- An AddPointer that isn't refused leads on to the files of the memory that the definition gives; other bytes stay.
pub pointer_goes : (May : Answers) (m : Memory) (files : List File) (placed : List PlacedFile) (dest src : List ℕ) (offset size : ℕ) → IsMemory m
    → IsLoading m.top files placed → cause_of (AddPointer dest src offset size) (at_files files (files_in m placed) []) ≡ None
    → LeadsOn May (AddPointer dest src offset size) (progress_in m files placed [])
    (progress_in (pointed m placed dest src offset size) files placed [])
    × Stays m (pointed m placed dest src offset size) placed placed
    × IsMemory (pointed m placed dest src offset size)
pointer_goes May m files placed dest src offset size lawful loading none =
    let can = can_point m files placed dest src offset size loading none in
    let p : PlacedFile = can.0 in
    let s : PlacedFile = can.1 in
    let pointer : IsPointer m placed dest src offset size p s = can.2 in
    let new = pointed m placed dest src offset size in
    let field = place_of placed dest + offset in
    let field_is : field ≡ p.place + offset = ap (λ place. place + offset) (place_found placed dest p pointer.dest_is) in
    let puts = pointed_puts m placed dest src offset size p s lawful pointer in
    let fits : CanAddPointer (at_files files (files_in m placed) []) dest src offset size =
    conditions_from (AddPointer dest src offset size) (at_files files (files_in m placed) []) none in (
      leads_from (pointer_carries m new files placed dest src offset size
          (goes_early (AddPointer dest src offset size) (at_files files (files_in m placed) []) none) fits.fits
          (pointer_after m new placed dest src offset size field p s field_is pointer puts)),
      pointer_stays m new placed dest src offset size field p s field_is pointer puts,
      lawful_with m field (le_bytes size (le (bytes_at m field size) + place_of placed src)) lawful,
    )

-- the byte of a sum in memory
summed_puts : (m : Memory) (placed : List PlacedFile) (name : List ℕ) (offset start count : ℕ) (p : PlacedFile) → IsMemory m
    → IsSum m placed name offset start count p
    → Puts m (summed m placed name offset start count) (place_of placed name + offset)
    ((at m (place_of placed name + offset) + (256 - byte_sum (bytes_at m (place_of placed name + start) count))) % 256 ∷ [])
summed_puts m placed name offset start count p lawful sum =
    let field = place_of placed name + offset in
    let field_is : field ≡ p.place + offset = ap (λ place. place + offset) (place_found placed name p sum.found) in
    puts_byte_with m (summed m placed name offset start count) field
    ((at m field + (256 - byte_sum (bytes_at m (place_of placed name + start) count))) % 256) lawful
    (byte_ram m placed name offset start count field p field_is sum) refl

-- what an AddChecksum that isn't refused needs of the files, as they are placed
can_sum : (m : Memory) (files : List File) (placed : List PlacedFile) (name : List ℕ) (offset start count : ℕ) → IsLoading m.top files placed
    → cause_of (AddChecksum name offset start count) (at_files files (files_in m placed) []) ≡ None
    → (p : PlacedFile) × IsSum m placed name offset start count p
can_sum m files placed name offset start count loading none =
    let early = goes_early (AddChecksum name offset start count) (at_files files (files_in m placed) []) none in
    let can : CanSum (files_in m placed) name offset start count = sum_can m files placed name offset start count loading early in
    let p = found_placed m placed name can.d can.found in
    (p.0, record { apart = loading.apart; found = p.1; can = can })

-- An AddChecksum that isn't refused leads on to the files of the memory that the definition gives; other bytes stay.
pub sum_goes : (May : Answers) (m : Memory) (files : List File) (placed : List PlacedFile) (name : List ℕ) (offset start count : ℕ) → IsMemory m
    → IsLoading m.top files placed → cause_of (AddChecksum name offset start count) (at_files files (files_in m placed) []) ≡ None
    → LeadsOn May (AddChecksum name offset start count) (progress_in m files placed [])
    (progress_in (summed m placed name offset start count) files placed [])
    × Stays m (summed m placed name offset start count) placed placed
    × IsMemory (summed m placed name offset start count)
sum_goes May m files placed name offset start count lawful loading none =
    let can = can_sum m files placed name offset start count loading none in
    let p : PlacedFile = can.0 in
    let sum : IsSum m placed name offset start count p = can.1 in
    let new = summed m placed name offset start count in
    let field = place_of placed name + offset in
    let from = place_of placed name + start in
    let byte = (at m field + (256 - byte_sum (bytes_at m from count))) % 256 in
    let field_is : field ≡ p.place + offset = ap (λ place. place + offset) (place_found placed name p sum.found) in
    let from_is : from ≡ p.place + start = ap (λ place. place + start) (place_found placed name p sum.found) in
    let puts = summed_puts m placed name offset start count p lawful sum in (
      leads_from (sum_carries m new files placed name offset start count
          (goes_early (AddChecksum name offset start count) (at_files files (files_in m placed) []) none)
          (sum_after m new placed name offset start count field from byte p field_is from_is sum refl puts)),
      sum_stays m new placed name offset start count field byte p field_is sum puts,
      lawful_with m field (byte ∷ []) lawful,
    )

-- a command that is skipped leads on to where the run is
pub skip_goes : (May : Answers) (m : Memory) (files : List File) (placed : List PlacedFile) (command : ℕ)
    → LeadsOn May (Skipped command) (progress_in m files placed []) (progress_in m files placed [])
skip_goes May m files placed command = leads_from (skipped_carries m files placed command)

-- An Allocate that isn't refused leads on to one file more, at the place that it is given.
pub allocate_goes : (May : Answers) (m : Memory) (files : List File) (placed : List PlacedFile) (name : List ℕ) (align zone place : ℕ)
    → cause_of (Allocate name align zone) (at_files files (files_in m placed) []) ≡ None
    → May (map range_of (files_in m placed)) (request_of files name align zone) (Some place)
    → LeadsOn May (Allocate name align zone) (progress_in m files placed []) (with_file (progress_in m files placed []) name place)
allocate_goes May m files placed name align zone place none may index script end final ends = allocated place none may ends

-- with one new file more, the files stand in RAM and apart, each with as many bytes as it has in fw_cfg
pub loading_pushed : (top : ℕ) (files : List File) (placed : List PlacedFile) (p : PlacedFile) → IsLoading top files placed → IsNew top placed p
    → IsOfSize files p → IsLoading top files (placed ++ p ∷ [])
loading_pushed top files placed p loading new sized = record {
  apart = ArePlaced-push top placed p loading.apart new;
  sizes = all_push (IsOfSize files) placed p loading.sizes sized;
}

-- the file of an Allocate that isn't refused isn't placed
pub not_placed : (m : Memory) (files : List File) (placed : List PlacedFile) (name : List ℕ) (align zone : ℕ)
    → cause_of (Allocate name align zone) (at_files files (files_in m placed) []) ≡ None → placed_named placed name ≡ None
not_placed m files placed name align zone none =
    let can : CanAllocate (at_files files (files_in m placed) []) name align zone =
    conditions_from (Allocate name align zone) (at_files files (files_in m placed) []) none in
    none_from (placed_named placed name) (none_named m placed name (ap is_some can.fresh))

-- and it is one of the files
pub is_a_file : (m : Memory) (files : List File) (placed : List PlacedFile) (name : List ℕ) (align zone : ℕ)
    → cause_of (Allocate name align zone) (at_files files (files_in m placed) []) ≡ None → IsSome (info_of (infos_of files) name)
is_a_file m files placed name align zone none =
    let can : CanAllocate (at_files files (files_in m placed) []) name align zone =
    conditions_from (Allocate name align zone) (at_files files (files_in m placed) []) none in
    let info : File → FileInfo = λ file. record { name = file.name; size = length file.bytes; writable = file.writable } in
    ap is_some (find-map info (λ (i : FileInfo). bytes_eq i.name name) files ∙ ap (option_map info) can.there)

-- The file of an Allocate that isn't refused is new at a free place, has as many bytes as in fw_cfg, and isn't empty.
pub new_from_free : (top : ℕ) (m : Memory) (files : List File) (placed : List PlacedFile) (name : List ℕ) (align zone place size : ℕ) → IsTop top
    → IsLoading top files placed → cause_of (Allocate name align zone) (at_files files (files_in m placed) []) ≡ None
    → IsFree (zone_range top (zone_numbered zone)) (map range_of (files_in m placed)) size align place → size ≡ length (bytes_of files name)
    → IsNew top placed (record { name = name; place = place; size = size })
    × IsOfSize files (record { name = name; place = place; size = size })
    × (0 < size)
new_from_free top m files placed name align zone place size lawful loading none free size_is =
    let can : CanAllocate (at_files files (files_in m placed) []) name align zone =
    conditions_from (Allocate name align zone) (at_files files (files_in m placed) []) none in
    let bytes_are : bytes_of files name ≡ can.file.bytes = ap (λ o. option_map_or (λ (file : File). file.bytes) o []) can.there in
    let size_of : size ≡ length can.file.bytes = size_is ∙ ap length bytes_are in
    let inside = in_zone top place size lawful (zone_numbered zone) free.from free.within in (
      record {
        ram = inside.0;
        low = inside.1;
        apart = subst (AllByRecursion _) (ranges_in m placed) free.apart;
        names = none_passes (λ (p : PlacedFile). bytes_eq p.name name) placed
            (ap is_some (not_placed m files placed name align zone none));
      },
      ap (option_map (λ (file : File). length file.bytes)) can.there ∙ ap (λ (n : ℕ). Some n) (sym size_of),
      omega (arith, can.some, size_of),
    )

-- With it there is one place more, as there is one placed file more, and before there were fewer than files.
pub count_pushed : (m : Memory) (files : List File) (placed : List PlacedFile) (name : List ℕ) (align zone place size : ℕ)
    → cause_of (Allocate name align zone) (at_files files (files_in m placed) []) ≡ None → AreDistinct (infos_of files)
    → length placed ≡ count_places (places_in placed (infos_of files))
    → (length (placed ++ record { name = name; place = place; size = size } ∷ [])
    ≡ count_places (places_in (placed ++ record { name = name; place = place; size = size } ∷ []) (infos_of files)))
    × (length placed < length files)
count_pushed m files placed name align zone place size none distinct count =
    let p : PlacedFile = record { name = name; place = place; size = size } in
    let infos = infos_of files in
    let there : IsSome (info_of infos name) = is_a_file m files placed name align zone none in
    let fresh = not_placed m files placed name align zone none in
    let places = places_in placed infos in
    let as_many : length places ≡ length infos = length-map infos (λ (info : FileInfo). place_named placed info.name) in
    let all : length infos ≡ length files =
    length-map {B = FileInfo} files (λ (file : File). record { name = file.name; size = length file.bytes; writable = file.writable }) in
    let within : index_of infos name < length places = omega (arith, there_within infos name there, as_many) in
    let nowhere = unplaced_nowhere placed infos name fresh in (
      omega (
        arith,
        length-append placed (p ∷ []),
        count,
        count_put places (index_of infos name) place within nowhere,
        ap count_places (places_put placed p infos distinct fresh there),
      ),
      omega (arith, count, count_few places (index_of infos name) within nowhere, as_many, all),
    )
