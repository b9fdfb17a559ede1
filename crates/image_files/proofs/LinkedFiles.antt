-- Files that are placed and then linked, whatever lawful places they are given and in whatever lawful order.
use Rattle.std.proofs.Common.{◌≡◌, ℕ, suc, ◌+◌, ◌<◌, ◌≤◌, true, false, cond, inl, inr, List, [], ◌∷◌, ◌++◌, length, Some, None, refl, ap, sym, subst}
use Rattle.std.proofs.Common.{◌∙◌, arith, append_assoc, length-append}
use Rattle.std.specs.List.{AllByRecursion, flat_map}
use Rattle.std.specs.Option.{option_map_or}
use Rattle.std.specs.Str.{bytes_eq}
use Rattle.vt_bytes.proofs.Each.{each_weaker, each_from, each_front, each_back}
use Rattle.vt_layout.specs.Rows.{places_end}
use Rattle.blob_holes.specs.declared.hole.PointerHole.{PointerHole}
use Rattle.blob_holes.specs.Blob.{BlobState}
use Rattle.blob_holes.specs.Filled.{IsFilled}
use Rattle.blob_holes.proofs.Pointers.{number_in}
use Rattle.loader_script.specs.declared.entry.Entry.{Entry}
use Rattle.vt_outside.specs.File.{File}
use Rattle.loader_script.specs.Run.{Placed, placed_of, place_of, run, run_from}
use Rattle.loader_script.proofs.Runs.{goes-on}
use Rattle.image_files.specs.Files.{ImageFile}
use Rattle.image_files.specs.Script.{allocation, add_pointer, add_checksum, add_pointers, add_checksums}
use Rattle.image_files.specs.Linkable.{AreLinkable}
use Rattle.image_files.specs.Orders.{IsAmong, MayPrecede, AreInTurn, patches_of, AreLinking}
use Rattle.image_files.specs.Places.{ArePlaces}
use Rattle.image_files.specs.Linked.{BeginsWith, IsLinked, AreLinked}
use Rattle.image_files.proofs.Allocates.{IsNew, so_far, are_allocated}
use Rattle.image_files.proofs.Among.{IsOneOf, each_one, each_before_flat, among_map, among_either, among_flat}
use Rattle.image_files.proofs.Filling.{IsFilledBut, filled-start, filled-end}
use Rattle.image_files.proofs.Standing.{Standing, standing_weaker, standing_with, standing_each, standing_found, standing_linked}
use Rattle.image_files.proofs.Steps.{IsStanding, all_given, IsCarriedOut, pointer_carried, sum_carried}

-- Commands are carried out, and the files stand linked where they stood.
pub record AreCarriedOut (files : List ImageFile) (loaded : List File) (pl : List ℕ → ℕ) (index : ℕ) (commands later : List Entry) (places : List ℕ)
    (placed : List Placed) : Type 0 where
  pub after : List Placed
  pub standing : Standing (IsStanding files pl [] after) files places after
  pub places_are : (name : List ℕ) → place_of after name ≡ pl name
  pub runs : run_from index (commands ++ later) (all_given loaded placed) ≡ run_from (index + length commands) later (all_given loaded after)

-- Files that can be linked, those of fw_cfg among which they are, and where each stands, below 3 GiB.
module _ (files : List ImageFile) (loaded : List File) (pl : List ℕ → ℕ) (linkable : AreLinkable files) (begins : BeginsWith loaded files)
    (low : (name : List ℕ) → pl name < places_end) where
  -- a command for a hole of theirs is carried out
  command_carried : (command : Entry) (rest : List Entry) (places : List ℕ) (placed : List Placed) → IsAmong (patches_of files) command
      → AllByRecursion (MayPrecede command) rest → ((name : List ℕ) → place_of placed name ≡ pl name)
      → Standing (IsStanding files pl (command ∷ rest) placed) files places placed → IsCarriedOut files loaded pl command rest places placed
  command_carried command rest places placed among first places_are standing =
      let own = among_flat (λ (file : ImageFile). add_pointers file ++ add_checksums file) files command among in
      elim (among_either (add_pointers own.0) (add_checksums own.0) command own.2) as (λ _. IsCarriedOut files loaded pl command rest places placed) [
        | inl pointer ↦
            let hole = among_map (add_pointer own.0.name) own.0.blob.pointers command pointer in
            subst (λ c. AllByRecursion (MayPrecede c) rest → Standing (IsStanding files pl (c ∷ rest) placed) files places placed
            → IsCarriedOut files loaded pl c rest places placed) hole.2
            (λ free stand. pointer_carried files loaded pl linkable begins low rest places placed own.0 hole.0 own.1 hole.1 free places_are stand)
            first standing
        | inr sum ↦
            let hole = among_map (add_checksum own.0.name) own.0.blob.sums command sum in
            subst (λ c. AllByRecursion (MayPrecede c) rest → Standing (IsStanding files pl (c ∷ rest) placed) files places placed
            → IsCarriedOut files loaded pl c rest places placed) hole.2
            (λ free stand. sum_carried files loaded pl linkable begins low rest places placed own.0 hole.0 own.1 hole.1 free stand)
            first standing
      ]

  -- and so are all of them, one after the other
  pub commands_carried : (index : ℕ) (commands later : List Entry) (places : List ℕ) (placed : List Placed)
      → AllByRecursion (IsAmong (patches_of files)) commands → AreInTurn commands → ((name : List ℕ) → place_of placed name ≡ pl name)
      → Standing (IsStanding files pl commands placed) files places placed
      → AreCarriedOut files loaded pl index commands later places placed
  commands_carried index [] later places placed theirs in_turn places_are standing = record {
    after = placed;
    standing = standing;
    places_are = places_are;
    runs = ap (λ n. run_from n later (all_given loaded placed)) (omega arith);
  }
  commands_carried index (command ∷ commands) later places placed theirs in_turn places_are standing =
      let first = command_carried command commands places placed theirs.0 in_turn.0 places_are standing in
      let rest = commands_carried (suc index) commands later places first.next theirs.1 in_turn.1
      (λ name. first.places_stay name ∙ places_are name) first.standing in
      record {
        after = rest.after;
        standing = rest.standing;
        places_are = rest.places_are;
        runs = goes-on index command (commands ++ later) (all_given loaded placed) (all_given loaded first.next) first.none first.carried
            ∙ rest.runs
            ∙ ap (λ n. run_from n later (all_given loaded rest.after)) (omega arith);
      }

-- where the file of a name stands is low where all files are
place_of-low : (placed : List Placed) → AllByRecursion (λ (p : Placed). p.place < places_end) placed → (name : List ℕ) → place_of placed name < places_end
place_of-low [] low name = omega arith
place_of-low (p ∷ placed) low name =
    elim (bytes_eq p.name name) as (λ named. option_map_or (λ (q : Placed). q.place) (cond named (Some p) (placed_of placed name)) 0 < places_end) [
      | true ↦ low.0
      | false ↦ place_of-low placed low.1 name
    ]

-- no file is placed at first
none_placed : (files : List ImageFile) → AllByRecursion (λ (file : ImageFile). placed_of [] file.name ≡ None) files
none_placed [] = tt
none_placed (file ∷ files) = (refl, none_placed files)

-- the commands of each file's holes are among those that link the files
each_among : (files : List ImageFile) (commands : List Entry) → AreLinking files commands
    → AllByRecursion (λ (file : ImageFile). AllByRecursion (IsAmong commands) (add_pointers file ++ add_checksums file)) files
each_among files commands linking =
    each_before_flat (IsAmong commands) (λ (file : ImageFile). add_pointers file ++ add_checksums file) files linking.all

-- files that are newly placed stand with all their commands still to come
standing-start : (files : List ImageFile) (commands : List Entry) (pl : List ℕ → ℕ) (places : List ℕ) (placed : List Placed) → AreLinkable files
    → AreLinking files commands → Standing IsNew files places placed → Standing (IsStanding files pl commands placed) files places placed
standing-start files commands pl places placed linkable linking new =
    standing_weaker
    (λ file place p. (IsOneOf files file × AllByRecursion (IsAmong commands) (add_pointers file ++ add_checksums file))
    × (IsNew file place p × (placed_of placed p.name ≡ Some p)))
    (IsStanding files pl commands placed)
    (λ file place p all. record {
      one = all.0.0;
      name = all.1.0.name;
      place_is = all.1.0.place_is;
      found = all.1.1;
      filled = subst (λ (bs : List ℕ). IsFilledBut commands file.name file.blob pl bs) (sym all.1.0.bytes)
          (filled-start commands file.name file.blob pl
          (each_front (IsAmong commands) (add_pointers file) (add_checksums file) all.0.1)
          (each_back (IsAmong commands) (add_pointers file) (add_checksums file) all.0.1));
    })
    (standing_with (λ file place p. IsNew file place p × (placed_of placed p.name ≡ Some p))
    (λ (file : ImageFile). IsOneOf files file × AllByRecursion (IsAmong commands) (add_pointers file ++ add_checksums file))
    (standing_found IsNew (λ file place p is. is.name) new linkable.distinct)
    (each_from (IsOneOf files) (λ (file : ImageFile). AllByRecursion (IsAmong commands) (add_pointers file ++ add_checksums file))
    (λ (file : ImageFile). IsOneOf files file × AllByRecursion (IsAmong commands) (add_pointers file ++ add_checksums file))
    (λ file one among. (one, among)) files (each_one files) (each_among files commands linking)))

-- a file is filled also where the places are said in another way
filled-same : (blob : BlobState) (pl other : List ℕ → ℕ) (bytes : List ℕ) → ((name : List ℕ) → other name ≡ pl name) → IsFilled blob pl bytes
    → IsFilled blob other bytes
filled-same blob pl other bytes same filled = record {
  size = filled.size;
  solid = filled.solid;
  pointers = each_weaker (λ (hole : PointerHole). number_in bytes hole ≡ number_in blob.bytes hole + pl hole.target)
      (λ (hole : PointerHole). number_in bytes hole ≡ number_in blob.bytes hole + other hole.target)
      (λ hole is. is ∙ ap (λ n. number_in blob.bytes hole + n) (sym (same hole.target))) blob.pointers filled.pointers;
  sums = filled.sums;
}

-- files for which no command is still to come are linked
standing-end : (files : List ImageFile) (pl : List ℕ → ℕ) (places : List ℕ) (after : List Placed) → ((name : List ℕ) → place_of after name ≡ pl name)
    → Standing (IsStanding files pl [] after) files places after → AreLinked (place_of after) files places after
standing-end files pl places after same standing =
    standing_linked (place_of after) (standing_weaker (IsStanding files pl [] after) (IsLinked (place_of after))
    (λ file place p is. record {
      name = is.name;
      place_is = is.place_is;
      filled = filled-same file.blob pl (place_of after) p.bytes same (filled-end file.name file.blob pl p.bytes is.filled);
    }) standing)

-- Files are placed and linked, and what follows in the script goes on from there.
pub files_linked : (top : ℕ) (files : List ImageFile) (loaded : List File) (commands later : List Entry) (places : List ℕ)
    → top ≤ 0xC0000000 → AreLinkable files → AreLinking files commands → BeginsWith loaded files → ArePlaces top [] files places
    → (placed : List Placed) × AreLinked (place_of placed) files places placed
    × (run loaded (flat_map allocation files ++ commands ++ later) places
    ≡ run_from (length (flat_map allocation files ++ commands)) later (record { files = loaded; placed = placed; places = [] }))
files_linked top files loaded commands later places at_most linkable linking begins lawful =
    let new = are_allocated top 0 files loaded [] places [] (commands ++ later) at_most begins linkable.each linkable.distinct (none_placed files) lawful in
    let pl : List ℕ → ℕ = place_of new.more in
    let low = place_of-low new.more (standing_each IsNew (λ (p : Placed). p.place < places_end)
    (λ file place p is. subst (λ n. n < places_end) (sym is.place_is) is.low) new.standing) in
    let linked = commands_carried files loaded (place_of new.more) linkable begins low (length (flat_map allocation files)) commands later places new.more
    linking.theirs linking.in_turn (λ name. refl)
    (standing-start files commands (place_of new.more) places new.more linkable linking new.standing) in (
      linked.after,
      standing-end files (place_of new.more) places linked.after linked.places_are linked.standing,
      ap (λ es. run_from 0 es (so_far loaded [] places)) (append_assoc (flat_map allocation files) commands later)
          ∙ new.runs
          ∙ ap (λ n. run_from n (commands ++ later) (all_given loaded new.more)) (omega arith)
          ∙ linked.runs
          ∙ ap (λ n. run_from n later (all_given loaded linked.after)) (sym (length-append (flat_map allocation files) commands)),
    )
