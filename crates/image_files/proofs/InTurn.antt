-- The commands that a script links files with are those for their holes, and are in turn.
use Rattle.std.proofs.Common.{◌≡◌, ℕ, ◌+◌, ◌<◌, ◌≤◌, ◌⊎◌, inl, inr, false, List, [], ◌∷◌, ◌++◌, map, arith, refl}
use Rattle.std.specs.List.{AllByRecursion, flat_map}
use Rattle.std.specs.Str.{bytes_eq}
use Rattle.std.proofs.lemmas.Bool.Decides.{not_from_Decides}
use Rattle.std.proofs.lemmas.Slice.Eq.{bytes_eq-Decides}
use Rattle.vt_outside.proofs.Texts.{other_turned}
use Rattle.vt_bytes.proofs.Each.{each_append, each_weaker, each_from, each_map, each_turned}
use Rattle.blob_holes.specs.declared.hole.PointerHole.{PointerHole}
use Rattle.blob_holes.specs.declared.hole.SumHole.{SumHole}
use Rattle.blob_holes.specs.Blob.{IsBlob, IsOutsideField, AreApart, ArePointers}
use Rattle.blob_holes.specs.Filled.{AreInOrder}
use Rattle.loader_script.specs.declared.entry.Entry.{Entry}
use Rattle.image_files.specs.Files.{ImageFile, by_name}
use Rattle.image_files.specs.Script.{add_pointer, add_checksum, add_pointers, add_checksums, linking}
use Rattle.image_files.specs.Linkable.{AreDistinct, IsLinkableFile, AreLinkable}
use Rattle.image_files.specs.Orders.{IsAmong, MayPrecede, AreInTurn, patches_of, AreLinking}
use Rattle.image_files.proofs.ByName.{each_by_name, each_of_by_name, AreDistinct-by_name}

-- what holds of each element of each part holds of each element of all parts
pub each_flat_map : {X Y : Type 0} (P : Y → Type 0) (f : X → List Y) (xs : List X) → AllByRecursion (λ x. AllByRecursion P (f x)) xs
    → AllByRecursion P (flat_map f xs)
each_flat_map P f [] all = tt
each_flat_map P f (x ∷ xs) all = each_append P (f x) (flat_map f xs) all.0 (each_flat_map P f xs all.1)

-- what follows for an image from what holds of its element holds of each image
pub each_image : {X Y : Type 0} (P : X → Type 0) (Q : Y → Type 0) (f : X → Y) → ((x : X) → P x → Q (f x)) → (xs : List X)
    → AllByRecursion P xs → AllByRecursion Q (map f xs)
each_image P Q f implies [] all = tt
each_image P Q f implies (x ∷ xs) all = (implies x all.0, each_image P Q f implies xs all.1)

-- a command that is one of some is one of them with others behind
pub among_front : (front back : List Entry) (command : Entry) → IsAmong front command → IsAmong (front ++ back) command
among_front [] back command is = absurd is
among_front (first ∷ front) back command is =
    elim is as (λ _. IsAmong (first ∷ front ++ back) command) [ inl same ↦ inl same | inr later ↦ inr (among_front front back command later) ]

-- and with others before
pub among_back : (front back : List Entry) (command : Entry) → IsAmong back command → IsAmong (front ++ back) command
among_back [] back command is = is
among_back (first ∷ front) back command is = inr (among_back front back command is)

-- the same of each of several commands, with others behind
pub each_among_front : (front back commands : List Entry) → AllByRecursion (IsAmong front) commands → AllByRecursion (IsAmong (front ++ back)) commands
each_among_front front back = each_weaker (IsAmong front) (IsAmong (front ++ back)) (among_front front back)

-- and with others before
pub each_among_back : (front back commands : List Entry) → AllByRecursion (IsAmong back) commands → AllByRecursion (IsAmong (front ++ back)) commands
each_among_back front back = each_weaker (IsAmong back) (IsAmong (front ++ back)) (among_back front back)

-- each command is one of them all
pub each_is_among : (commands : List Entry) → AllByRecursion (IsAmong commands) commands
each_is_among [] = tt
each_is_among (command ∷ commands) =
    (inl refl, each_weaker (IsAmong commands) (IsAmong (command ∷ commands)) (λ other is. inr is) commands (each_is_among commands))

-- where the commands of a file are among its part, they are among the parts of all files
pub parts_among : (f part : ImageFile → List Entry) → ((file : ImageFile) → AllByRecursion (IsAmong (part file)) (f file)) → (files : List ImageFile)
    → AllByRecursion (λ (file : ImageFile). AllByRecursion (IsAmong (flat_map part files)) (f file)) files
parts_among f part among [] = tt
parts_among f part among (file ∷ files) = (
  each_among_front (part file) (flat_map part files) (f file) (among file),
  each_weaker (λ (other : ImageFile). AllByRecursion (IsAmong (flat_map part files)) (f other))
      (λ (other : ImageFile). AllByRecursion (IsAmong (flat_map part (file ∷ files))) (f other))
      (λ other all. each_among_back (part file) (flat_map part files) (f other) all) files (parts_among f part among files),
)

-- each command that links files is one for a hole of theirs
links_are_theirs : (files : List ImageFile) → AllByRecursion (IsAmong (patches_of files)) (linking files)
links_are_theirs files =
    let patches = λ (file : ImageFile). add_pointers file ++ add_checksums file in
    let pointers = parts_among add_pointers patches
    (λ file. each_among_front (add_pointers file) (add_checksums file) (add_pointers file) (each_is_among (add_pointers file))) files in
    let checksums = parts_among add_checksums patches
    (λ file. each_among_back (add_pointers file) (add_checksums file) (add_checksums file) (each_is_among (add_checksums file))) files in
    each_append (IsAmong (patches_of files)) (flat_map add_pointers (by_name files)) (flat_map add_checksums files)
    (each_flat_map (IsAmong (patches_of files)) add_pointers (by_name files)
    (each_by_name (λ (file : ImageFile). AllByRecursion (IsAmong (patches_of files)) (add_pointers file)) files pointers))
    (each_flat_map (IsAmong (patches_of files)) add_checksums files checksums)

-- no command for a hole of theirs is left out
links_are_all : (files : List ImageFile) → AllByRecursion (IsAmong (linking files)) (patches_of files)
links_are_all files =
    let front = flat_map add_pointers (by_name files) in
    let back = flat_map add_checksums files in
    let patches = λ (file : ImageFile). add_pointers file ++ add_checksums file in
    let pointers = each_of_by_name (λ (file : ImageFile). AllByRecursion (IsAmong (flat_map add_pointers (by_name files))) (add_pointers file)) files
    (parts_among add_pointers add_pointers (λ file. each_is_among (add_pointers file)) (by_name files)) in
    let checksums = parts_among add_checksums add_checksums (λ file. each_is_among (add_checksums file)) files in
    each_flat_map (IsAmong (linking files)) patches files
    (each_from (λ (file : ImageFile). AllByRecursion (IsAmong front) (add_pointers file))
    (λ (file : ImageFile). AllByRecursion (IsAmong back) (add_checksums file))
    (λ (file : ImageFile). AllByRecursion (IsAmong (linking files)) (patches file))
    (λ file p s. each_append (IsAmong (linking files)) (add_pointers file) (add_checksums file)
    (each_among_front front back (add_pointers file) p) (each_among_back front back (add_checksums file) s)) files pointers checksums)

-- each command of one list may come before each of the other
abbrev pub MayAllPrecede : List Entry → List Entry → Type 0
MayAllPrecede commands later = AllByRecursion (λ (command : Entry). AllByRecursion (MayPrecede command) later) commands

-- two lists in turn, the first of which may come before the other, are in turn one after the other
pub in_turn_append : (front back : List Entry) → AreInTurn front → AreInTurn back → MayAllPrecede front back → AreInTurn (front ++ back)
in_turn_append [] back turn rest precede = rest
in_turn_append (command ∷ front) back turn rest precede =
    (each_append (MayPrecede command) front back turn.0 precede.0, in_turn_append front back turn.1 rest precede.1)

-- commands may come before those of each part, and so before those of all parts
pub precede_parts : (f : ImageFile → List Entry) (commands : List Entry) (files : List ImageFile)
    → AllByRecursion (λ (file : ImageFile). MayAllPrecede commands (f file)) files → MayAllPrecede commands (flat_map f files)
precede_parts f commands files all =
    let turned = each_turned (λ (file : ImageFile) (command : Entry). AllByRecursion (MayPrecede command) (f file)) files commands all in
    each_weaker (λ (command : Entry). AllByRecursion (λ (file : ImageFile). AllByRecursion (MayPrecede command) (f file)) files)
    (λ (command : Entry). AllByRecursion (MayPrecede command) (flat_map f files))
    (λ command each. each_flat_map (MayPrecede command) f files each) commands turned

-- commands of files whose names differ are in turn if those of each file are and those of any two may come before each other
pub in_turn_parts : (f : ImageFile → List Entry) → ((a b : ImageFile) → bytes_eq b.name a.name ≡ false → MayAllPrecede (f a) (f b))
    → (files : List ImageFile) → AreDistinct files → AllByRecursion (λ (file : ImageFile). AreInTurn (f file)) files → AreInTurn (flat_map f files)
in_turn_parts f others [] distinct turn = tt
in_turn_parts f others (file ∷ files) distinct turn =
    in_turn_append (f file) (flat_map f files) turn.0 (in_turn_parts f others files distinct.1 turn.1)
    (precede_parts f (f file) files (each_weaker (λ (other : ImageFile). bytes_eq other.name file.name ≡ false)
    (λ (other : ImageFile). MayAllPrecede (f file) (f other)) (λ other differ. others file other differ) files distinct.0))

-- what holds of each file with itself, and of any two files of different names, holds of each pair of files whose names differ
pub each_pair : (R : ImageFile → ImageFile → Type 0) → ((a b : ImageFile) → bytes_eq b.name a.name ≡ false → R a b) → (files : List ImageFile)
    → AreDistinct files → AllByRecursion (λ (file : ImageFile). R file file) files
    → AllByRecursion (λ (a : ImageFile). AllByRecursion (R a) files) files
each_pair R others [] distinct same = tt
each_pair R others (file ∷ files) distinct same = (
  (same.0, each_weaker (λ (other : ImageFile). bytes_eq other.name file.name ≡ false) (R file) (λ other differ. others file other differ) files distinct.0),
  each_from (λ (other : ImageFile). bytes_eq other.name file.name ≡ false) (λ (other : ImageFile). AllByRecursion (R other) files)
      (λ (other : ImageFile). AllByRecursion (R other) (file ∷ files))
      (λ other differ rest. (others other file (other_turned other.name file.name differ), rest)) files distinct.0
      (each_pair R others files distinct.1 same.1),
)

-- names that are tested to differ aren't one
not_one : (a b : List ℕ) → bytes_eq b a ≡ false → b ≡ a → ⊥
not_one a b differ = not_from_Decides _ (bytes_eq-Decides b a) differ

-- pointers of files of different names may come before each other
other_pointers : (a b : ImageFile) → bytes_eq b.name a.name ≡ false → MayAllPrecede (add_pointers a) (add_pointers b)
other_pointers a b differ =
    each_map (λ (command : Entry). AllByRecursion (MayPrecede command) (add_pointers b)) (add_pointer a.name)
    (λ hole. each_map (MayPrecede (add_pointer a.name hole)) (add_pointer b.name) (λ other same. absurd (not_one a.name b.name differ same))
    b.blob.pointers) a.blob.pointers

-- so may their sums
other_checksums : (a b : ImageFile) → bytes_eq b.name a.name ≡ false → MayAllPrecede (add_checksums a) (add_checksums b)
other_checksums a b differ =
    each_map (λ (command : Entry). AllByRecursion (MayPrecede command) (add_checksums b)) (add_checksum a.name)
    (λ hole. each_map (MayPrecede (add_checksum a.name hole)) (add_checksum b.name) (λ other same. absurd (not_one a.name b.name differ same))
    b.blob.sums) a.blob.sums

-- and the pointers of one before the sums of the other
pointers_before_other : (a b : ImageFile) → bytes_eq b.name a.name ≡ false → MayAllPrecede (add_pointers a) (add_checksums b)
pointers_before_other a b differ =
    each_map (λ (command : Entry). AllByRecursion (MayPrecede command) (add_checksums b)) (add_pointer a.name)
    (λ hole. each_map (MayPrecede (add_pointer a.name hole)) (add_checksum b.name) (λ other same. absurd (not_one a.name b.name differ same))
    b.blob.sums) a.blob.pointers

-- the pointers of a file are in turn
pointers_in_turn : (name bytes : List ℕ) (holes : List PointerHole) → ArePointers bytes holes → AreInTurn (map (add_pointer name) holes)
pointers_in_turn name bytes [] fields = tt
pointers_in_turn name bytes (hole ∷ holes) fields = (
  each_image (AreApart hole) (MayPrecede (add_pointer name hole)) (add_pointer name) (λ other apart same. apart) holes fields.2,
  pointers_in_turn name bytes holes fields.3,
)

-- so are sums, none of whose bytes lies in the range of a sum before it
checksums_in_turn : (name : List ℕ) (holes : List SumHole) → AreInOrder holes → AreInTurn (map (add_checksum name) holes)
checksums_in_turn name [] order = tt
checksums_in_turn name (hole ∷ holes) order = (
  each_image (λ (later : SumHole). (later.at < hole.start) ⊎ (hole.start + hole.length ≤ later.at)) (MayPrecede (add_checksum name hole))
      (add_checksum name)
      (λ other apart same. elim apart as (λ _. (hole.start + hole.length ≤ other.at) ⊎ (other.at + 1 ≤ hole.start)) [
        | inl before ↦ inr (omega arith)
        | inr behind ↦ inl behind
      ]) holes order.0,
  checksums_in_turn name holes order.1,
)

-- the pointers of a file may come before its sums
pointers_before_its : (file : ImageFile) → IsBlob file.blob → MayAllPrecede (add_pointers file) (add_checksums file)
pointers_before_its file blob =
    let outside = each_turned (λ (sum : SumHole) (hole : PointerHole). IsOutsideField sum.at hole) file.blob.sums file.blob.pointers blob.apart in
    each_image (λ (hole : PointerHole). AllByRecursion (λ (sum : SumHole). IsOutsideField sum.at hole) file.blob.sums)
    (λ (command : Entry). AllByRecursion (MayPrecede command) (add_checksums file)) (add_pointer file.name)
    (λ hole apart. each_image (λ (sum : SumHole). IsOutsideField sum.at hole) (MayPrecede (add_pointer file.name hole)) (add_checksum file.name)
    (λ sum beside same. elim beside as (λ _. (hole.at + hole.size ≤ sum.at) ⊎ (sum.at + 1 ≤ hole.at)) [
      | inl before ↦ inr (omega arith)
      | inr behind ↦ inl behind
    ]) file.blob.sums apart) file.blob.pointers outside

-- all pointers may come before all sums
pointers_before_sums : (files : List ImageFile) → AreLinkable files
    → MayAllPrecede (flat_map add_pointers (by_name files)) (flat_map add_checksums files)
pointers_before_sums files linkable =
    let pairs = each_pair (λ a b. MayAllPrecede (add_pointers a) (add_checksums b)) pointers_before_other files linkable.distinct
    (each_weaker IsLinkableFile (λ (file : ImageFile). MayAllPrecede (add_pointers file) (add_checksums file))
    (λ file is. pointers_before_its file is.blob) files linkable.each) in
    let all = each_weaker (λ (a : ImageFile). AllByRecursion (λ b. MayAllPrecede (add_pointers a) (add_checksums b)) files)
    (λ (a : ImageFile). MayAllPrecede (add_pointers a) (flat_map add_checksums files))
    (λ a each. precede_parts add_checksums (add_pointers a) files each) files pairs in
    each_flat_map (λ (command : Entry). AllByRecursion (MayPrecede command) (flat_map add_checksums files)) add_pointers (by_name files)
    (each_by_name (λ (a : ImageFile). MayAllPrecede (add_pointers a) (flat_map add_checksums files)) files all)

-- the commands that link files are in turn
links_in_turn : (files : List ImageFile) → AreLinkable files → AreInTurn (linking files)
links_in_turn files linkable =
    let pointers = each_weaker IsLinkableFile (λ (file : ImageFile). AreInTurn (add_pointers file))
    (λ file is. pointers_in_turn file.name file.blob.bytes file.blob.pointers is.blob.pointers) files linkable.each in
    let checksums = each_weaker IsLinkableFile (λ (file : ImageFile). AreInTurn (add_checksums file))
    (λ file is. checksums_in_turn file.name file.blob.sums is.linkable.ordered) files linkable.each in
    in_turn_append (flat_map add_pointers (by_name files)) (flat_map add_checksums files)
    (in_turn_parts add_pointers other_pointers (by_name files) (AreDistinct-by_name files linkable.distinct)
    (each_by_name (λ (file : ImageFile). AreInTurn (add_pointers file)) files pointers))
    (in_turn_parts add_checksums other_checksums files linkable.distinct checksums)
    (pointers_before_sums files linkable)

-- the commands of a script link its files
pub links : (files : List ImageFile) → AreLinkable files → AreLinking files (linking files)
links files linkable = record { theirs = links_are_theirs files; all = links_are_all files; in_turn = links_in_turn files linkable }
