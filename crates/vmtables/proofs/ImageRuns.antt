-- The run of an image's script, whose files are placed and linked.
use Rattle.std.proofs.Common.{◌≡◌, ℕ, suc, ◌+◌, inl, inr, List, [], ◌∷◌, ◌++◌, length, map, Option, Some, None, refl, ap, ap₂, sym, subst, ◌∙◌}
use Rattle.std.proofs.Common.{append_assoc, append-nil, arith}
use Rattle.std.proofs.lemmas.List.{map_push}
use Rattle.std.proofs.lemmas.Option.{none-some}
use Rattle.std.specs.List.{AllByRecursion, flat_map}
use Rattle.std.specs.Option.{option_map_or}
use Rattle.vt_outside.specs.Placement.{Range, IsFree}
use Rattle.vt_bytes.proofs.Each.{each_append, each_map}
use Rattle.loader_script.specs.declared.entry.Entry.{Entry}
use Rattle.loader_script.specs.declared.entry.Entry.TheVariants.{Allocate}
use Rattle.vt_outside.specs.File.{File}
use Rattle.loader_script.specs.Run.{Placed, Progress, End, NoRoom, bytes_of, carried_out}
use Rattle.loader_script.specs.Left.{range_of}
use Rattle.image_files.specs.declared.file.Placing.{Placing}
use Rattle.zone_alloc.specs.declared.alloc.Request.{Request}
use Rattle.zone_alloc.specs.declared.zone.Zone.{Zone}
use Rattle.zone_alloc.specs.declared.zone.Zone.TheVariants.{High, Fseg}
use Rattle.zone_alloc.specs.Zones.{zone_range, zone_numbered, number_of_zone}
use Rattle.image_files.specs.Files.{ImageFile, by_name}
use Rattle.image_files.specs.Script.{allocation, place_command, add_pointer, add_pointers, add_checksum, add_checksums, linking}
use Rattle.image_files.specs.Places.{range_at, MayStand, ArePlaces}
use Rattle.image_files.specs.Linked.{BeginsWith}
use Rattle.image_files.proofs.InTurn.{each_flat_map}
use Rattle.machine_desc.specs.declared.machine.Machine.{Machine}
use Rattle.vm_image.specs.Image.{telling, image_files}
use Rattle.command_acts.specs.Runs.{Answers, EndsWith, done, refused, without_room, allocated, carried, at_files, placed_at, request_of, request_at}
use Rattle.command_acts.proofs.PlainRuns.{places_of_placed, carried_any}
use Rattle.vmtables.specs.Loading.{IsRefusedFree}
use Rattle.vmtables.proofs.PlacesMore.{AfterPlacing, RoomFrom, RoomBy, known, some_places}

-- a command that asks for no place
abbrev pub PlacesNone : Entry → Type 0
PlacesNone (Allocate file align zone) = ⊥
PlacesNone other = Unit {0}

-- the commands that link files are such, and the one that tells the host where an id is
each_file : (commands : ImageFile → List Entry) → ((file : ImageFile) → AllByRecursion PlacesNone (commands file)) → (files : List ImageFile)
    → AllByRecursion (λ file. AllByRecursion PlacesNone (commands file)) files
each_file commands link [] = tt
each_file commands link (file ∷ files) = (link file, each_file commands link files)

all_link : (files : List ImageFile) → AllByRecursion PlacesNone (linking files)
all_link files =
    each_append PlacesNone (flat_map add_pointers (by_name files)) (flat_map add_checksums files)
    (each_flat_map PlacesNone add_pointers (by_name files)
    (each_file add_pointers (λ file. each_map PlacesNone (add_pointer file.name) (λ hole. tt) file.blob.pointers) (by_name files)))
    (each_flat_map PlacesNone add_checksums files
    (each_file add_checksums (λ file. each_map PlacesNone (add_checksum file.name) (λ hole. tt) file.blob.sums) files))

telling_places_none : (generation : Option ℕ) → AllByRecursion PlacesNone (telling generation)
telling_places_none None = tt
telling_places_none (Some id) = (tt, tt)

-- the commands behind the Allocates of a machine
abbrev pub later_commands : Machine → List Entry
later_commands m = linking (image_files m) ++ telling m.generation

pub later_place_none : (m : Machine) → AllByRecursion PlacesNone (later_commands m)
later_place_none m =
    each_append PlacesNone (linking (image_files m)) (telling m.generation) (all_link (image_files m)) (telling_places_none m.generation)

-- the zone of an Allocate is the file's
same_zone : (zone : Zone) → zone_numbered (number_of_zone zone) ≡ zone
same_zone High = refl
same_zone Fseg = refl

-- what the command asks for that places a file
abbrev file_request : ImageFile → Placing → Request
file_request file placing = record { zone = placing.zone; size = length file.blob.bytes; align = placing.align }

-- the commands that place a file, by how it is placed
abbrev placing_commands : ImageFile → Option Placing → List Entry
placing_commands file placing = option_map_or (λ p. place_command file.name p ∷ []) placing []

-- a run of commands that ask for no place places none, and has room
pub record LinksOnly (p final : Progress) (end : End) : Type 0 where
  pub stand : places_of_placed final.placed ≡ places_of_placed p.placed
  pub room : (at : ℕ) → end ≡ NoRoom at → ⊥

links_only : {May : Answers} {index : ℕ} {script : List Entry} {p final : Progress} {end : End}
    → EndsWith May index script p end final → AllByRecursion PlacesNone script → LinksOnly p final end
links_only done all = record { stand = refl; room = λ at is. cc }
links_only (refused is) all = record { stand = refl; room = λ at is. cc }
links_only (without_room none may) all = absurd all.0
links_only (allocated place none may rest) all = absurd all.0
links_only {p = p} (carried {entry = entry} {next = next} none goes rest) all =
    let later = links_only rest all.1 in
    record { stand = later.stand ∙ (carried_any entry p next [] goes).stand; room = later.room }

-- The command at an index, of a script whose first command has another, asks for a place and is refused one though a place is free.
pub record IsStuck (May : Answers) (top : ℕ) (loaded : List File) (script : List Entry) (index : ℕ) (final : List Placed) (at : ℕ) : Type 0 where
  pub behind : ℕ
  pub at_is : at ≡ index + behind
  pub refusal : IsRefusedFree May top (map range_of final) (request_at loaded script behind)

-- The places that files were given up to the end of a run can be followed by others so that all are lawful, and the run finds no room
-- only where a request was refused though a place is free.
pub record Extends (May : Answers) (top : ℕ) (loaded : List File) (script : List Entry) (index : ℕ) (handed : List Range) (files : List ImageFile)
    (placed final : List Placed) (end : End) : Type 0 where
  pub given : List ℕ
  pub extra : List ℕ
  pub stand : places_of_placed final ≡ places_of_placed placed ++ given
  pub lawful : ArePlaces top handed files (given ++ extra)
  pub no_room : (at : ℕ) → end ≡ NoRoom at → IsStuck May top loaded script index final at

-- places that an allocator gives are free
abbrev pub GivesFree : Answers → ℕ → Type 0
GivesFree May top = (handed : List Range) (request : Request) (place : ℕ) → May handed request (Some place)
    → IsFree (zone_range top request.zone) handed request.size request.align place

its_index : (at index : ℕ) → NoRoom at ≡ NoRoom index → at ≡ index
its_index at index is = cc

-- what an Allocate of a file asks for is the file's
its_request : (loaded : List File) (file : ImageFile) (placing : Placing)
    → option_map_or (λ (f : File). f.bytes) (Rattle.loader_script.specs.Run.file_of loaded file.name) [] ≡ file.blob.bytes
    → request_of loaded file.name placing.align (number_of_zone placing.zone)
    ≡ file_request file placing
its_request loaded file placing bytes =
    ap₂ (λ zone (bs : List ℕ). record { zone = zone; size = length bs; align = placing.align }) (same_zone placing.zone) bytes

module _ (May : Answers) (top : ℕ) (loaded : List File) (commands : List Entry) (placeless : AllByRecursion PlacesNone commands)
    (free : GivesFree May top) where
  -- one file that is placed, and those behind it
  extends_one : {index : ℕ} {placed : List Placed} {end : End} {final : Progress} (file : ImageFile) (files : List ImageFile)
      (placing : Placing) (handed : List Range) → file.placing ≡ Some placing → bytes_of loaded file.name ≡ file.blob.bytes
      → map range_of placed ≡ handed
      → RoomFrom top handed (file ∷ files)
      → ((place index : ℕ) → map range_of (placed ++ placed_at loaded file.name place ∷ []) ≡ handed ++ range_at file place ∷ []
      → RoomFrom top (handed ++ range_at file place ∷ []) files
      → EndsWith May index (flat_map allocation files ++ commands) (at_files loaded (placed ++ placed_at loaded file.name place ∷ []) []) end final
      → Extends May top loaded (flat_map allocation files ++ commands) index (handed ++ range_at file place ∷ []) files
      (placed ++ placed_at loaded file.name place ∷ []) final.placed end)
      → EndsWith May index (place_command file.name placing ∷ flat_map allocation files ++ commands) (at_files loaded placed []) end final
      → Extends May top loaded (place_command file.name placing ∷ flat_map allocation files ++ commands) index handed (file ∷ files) placed final.placed
      end
  unfolding carried_out
  extends_one {placed = placed} file files placing handed is bytes ranges room later (refused stops) =
      let some = some_places top handed (file ∷ files) room in
      record { given = []; extra = some.0; stand = sym (append-nil (places_of_placed placed)); lawful = some.1; no_room = λ at ends. absurd (cc) }
  extends_one {index = index} {placed = placed} file files placing handed is bytes ranges room later (without_room none may) =
      let some = some_places top handed (file ∷ files) room in
      let (a_place, others) = subst (RoomBy top handed file files) is room in
      record {
        given = [];
        extra = some.0;
        stand = sym (append-nil (places_of_placed placed));
        lawful = some.1;
        no_room = λ at ends. record {
          behind = 0;
          at_is = let same : at ≡ index = its_index at index (sym ends) in omega arith;
          refusal = record {
            request = file_request file placing;
            asked_is = ap (λ (r : Request). Some r) (its_request loaded file placing bytes);
            refusal = subst (λ r. May (map range_of placed) r None) (its_request loaded file placing bytes) may;
            place = a_place.0;
            free = subst (λ h. IsFree (zone_range top placing.zone) h (length file.blob.bytes) placing.align a_place.0) (sym ranges) a_place.1;
          };
        };
      }
  extends_one {index = index} {placed = placed} file files placing handed is bytes ranges room later (allocated place none may rest) =
      let (a_place, others) = subst (RoomBy top handed file files) is room in
      let stands : MayStand top handed file placing place =
      subst (λ h. IsFree (zone_range top placing.zone) h (length file.blob.bytes) placing.align place) ranges
      (free (map range_of placed) (file_request file placing) place
      (subst (λ r. May (map range_of placed) r (Some place)) (its_request loaded file placing bytes) may)) in
      let more : map range_of (placed ++ placed_at loaded file.name place ∷ []) ≡ handed ++ range_at file place ∷ [] =
      map_push range_of placed (placed_at loaded file.name place)
      ∙ ap₂ (λ (rs : List Range) (bs : List ℕ). rs ++ record { start = place; end = place + length bs } ∷ []) ranges bytes in
      let on = later place (suc index) more (others place stands) rest in
      record {
        given = place ∷ on.given;
        extra = on.extra;
        stand = on.stand ∙ ap (λ ps. ps ++ on.given) (map_push (λ (p : Placed). p.place) placed (placed_at loaded file.name place))
            ∙ append_assoc (places_of_placed placed) (place ∷ []) on.given;
        lawful = subst (AfterPlacing top handed file files (place ∷ on.given ++ on.extra)) (sym is)
            (place, on.given ++ on.extra, refl, stands, on.lawful);
        no_room = λ at ends.
            let stuck = on.no_room at ends in
            let same : at ≡ suc index + stuck.behind = stuck.at_is in
            record { behind = suc stuck.behind; at_is = omega arith; refusal = stuck.refusal };
      }
  extends_one file files placing handed is bytes ranges room later (carried none goes rest) = absurd (none-some _ goes)

  -- the run of a file's commands and of those behind them, by how the file is placed, and that it extends so
  abbrev Ending : ImageFile → List ImageFile → ℕ → List Placed → End → Progress → Option Placing → Type 0
  Ending file files index placed end final placing =
      EndsWith May index ((placing_commands file placing ++ flat_map allocation files) ++ commands) (at_files loaded placed []) end final

  abbrev Extending : ImageFile → List ImageFile → ℕ → List Range → List Placed → List Placed → End → Option Placing → Type 0
  Extending file files index handed placed final end placing =
      Extends May top loaded ((placing_commands file placing ++ flat_map allocation files) ++ commands) index handed (file ∷ files) placed final end

  pub extends : (files : List ImageFile) (handed : List Range) (index : ℕ) (placed : List Placed) (end : End) (final : Progress)
      → BeginsWith loaded files → map range_of placed ≡ handed → RoomFrom top handed files
      → EndsWith May index (flat_map allocation files ++ commands) (at_files loaded placed []) end final
      → Extends May top loaded (flat_map allocation files ++ commands) index handed files placed final.placed end
  extends [] handed index placed end final begins ranges room ends =
      let only = links_only ends placeless in
      record {
        given = [];
        extra = [];
        stand = only.stand ∙ sym (append-nil (places_of_placed placed));
        lawful = refl;
        no_room = λ at is. absurd (only.room at is);
      }
  extends (file ∷ files) handed index placed end final begins ranges room ends =
      elim (known file.placing) as (λ _. Extending file files index handed placed final.placed end file.placing) [
        | inl is ↦
            let on = extends files handed index placed end final begins.1 ranges (subst (RoomBy top handed file files) is room)
            (subst (Ending file files index placed end final) is ends) in
            subst (Extending file files index handed placed final.placed end) (sym is) (record {
              given = on.given;
              extra = on.extra;
              stand = on.stand;
              lawful = subst (AfterPlacing top handed file files (on.given ++ on.extra)) (sym is) on.lawful;
              no_room = on.no_room;
            })
        | inr (placing, is) ↦
            let bytes : bytes_of loaded file.name ≡ file.blob.bytes = ap (λ found. option_map_or (λ (f : File). f.bytes) found []) begins.0 in
            subst (Extending file files index handed placed final.placed end) (sym is)
            (extends_one file files placing handed is bytes ranges room
            (λ place at more still rest. extends files (handed ++ range_at file place ∷ []) at (placed ++ placed_at loaded file.name place ∷ []) end final
            begins.1 more still rest)
            (subst (Ending file files index placed end final) is ends))
      ]
