-- The commands that place and link files fit their entries.
use Rattle.std.proofs.Common.{ℕ, ◌^◌, ◌<◌, inl, inr, List, [], ◌∷◌, ◌++◌, length, map, Option, Some, None, arith, subst}
use Rattle.std.specs.Prelude.{IfSome}
use Rattle.std.specs.List.{flat_map, AllByRecursion}
use Rattle.std.specs.Option.{option_map_or}
use Rattle.vt_outside.specs.Name.{IsName}
use Rattle.vt_bytes.proofs.Each.{each_append}
use Rattle.vt_layout.specs.Rows.{IsPointerSize}
use Rattle.loader_script.specs.declared.entry.Entry.{Entry}
use Rattle.loader_script.specs.declared.entry.Entry.TheVariants.{Allocate}
use Rattle.loader_script.specs.Spelling.{Fits}
use Rattle.blob_holes.specs.declared.hole.PointerHole.{PointerHole}
use Rattle.blob_holes.specs.declared.hole.SumHole.{SumHole}
use Rattle.blob_holes.specs.Blob.{ArePointers, AreSums}
use Rattle.zone_alloc.specs.declared.zone.Zone.{Zone}
use Rattle.zone_alloc.specs.declared.zone.Zone.TheVariants.{High, Fseg}
use Rattle.zone_alloc.specs.Zones.{number_of_zone}
use Rattle.image_files.specs.declared.file.Placing.{Placing}
use Rattle.image_files.specs.Files.{ImageFile, by_name}
use Rattle.image_files.specs.Script.{allocation, add_pointer, add_pointers, add_checksum, add_checksums, linking, script_of}
use Rattle.image_files.specs.Linkable.{IsLinkableFile, IsPlacedName, LeadsAmong, HasFittingPlace, AreLinkable}
use Rattle.image_files.proofs.ByName.{each_by_name}
use Rattle.image_files.proofs.InTurn.{each_flat_map}

-- the number of a zone is small
zone_fits : (zone : Zone) → number_of_zone zone < 256
zone_fits High = omega arith
zone_fits Fseg = omega arith

-- a pointer has at most 8 bytes
size_fits : (size : ℕ) → IsPointerSize size → size < 256
size_fits size is = elim is as (λ _. size < 256) [
  | inl one ↦ omega arith
  | inr more ↦ elim more as (λ _. size < 256) [
    | inl two ↦ omega arith
    | inr others ↦ elim others as (λ _. size < 256) [ inl four ↦ omega arith | inr eight ↦ omega arith ]
  ]
]

-- the command that places a file
allocation_fits : (name : List ℕ) (placing : Option Placing) → IsName name → IfSome placing (λ (p : Placing). p.align < 2 ^ 32)
    → AllByRecursion Fits (option_map_or (λ (p : Placing). Allocate name p.align (number_of_zone p.zone) ∷ []) placing [])
allocation_fits name None is fits = tt
allocation_fits name (Some placing) is fits = (
  ((omega arith, omega arith), (is, ((omega arith, omega (arith, fits)), ((omega arith, zone_fits placing.zone), (tt, tt))))),
  tt,
)

-- one of the files that are placed has a name, and so each placed name is one
placed_name : (files : List ImageFile) (name : List ℕ) → AllByRecursion HasFittingPlace files → IsPlacedName files name → IsName name
placed_name [] name fit placed = absurd placed
placed_name (file ∷ files) name fit placed =
    elim placed as (λ _. IsName name) [ inl here ↦ subst IsName here.0 fit.0.name | inr later ↦ placed_name files name fit.1 later ]

-- the commands for the pointers of a file, and for its sums
pointers_fit : (name bytes : List ℕ) (holes : List PointerHole) → IsName name → length bytes < 2 ^ 32 → ArePointers bytes holes
    → AllByRecursion (λ (hole : PointerHole). IsName hole.target) holes → AllByRecursion Fits (map (add_pointer name) holes)
pointers_fit name bytes [] is short are targets = tt
pointers_fit name bytes (hole ∷ holes) is short are targets =
    let within = are.1 in (
      (
        (omega arith, omega arith),
        (is, (targets.0, ((omega arith, omega arith), ((omega arith, size_fits hole.size are.0), (tt, tt))))),
      ),
      pointers_fit name bytes holes is short are.3 targets.1,
    )

sums_fit : (name bytes : List ℕ) (holes : List SumHole) → IsName name → length bytes < 2 ^ 32 → AreSums bytes holes
    → AllByRecursion Fits (map (add_checksum name) holes)
sums_fit name bytes [] is short are = tt
sums_fit name bytes (hole ∷ holes) is short are =
    let within = are.0 in
    let below = are.2 in (
      (
        (omega arith, omega arith),
        (is, ((omega arith, omega arith), ((omega arith, omega arith), ((omega arith, omega arith), (tt, tt))))),
      ),
      sums_fit name bytes holes is short are.4,
    )

-- the commands of each file
module _ (all : List ImageFile) (fit : AllByRecursion HasFittingPlace all) where
  file_pointers : (file : ImageFile) → HasFittingPlace file → IsLinkableFile file → LeadsAmong all file → AllByRecursion Fits (add_pointers file)
  file_pointers file place linkable leads =
      pointers_fit file.name file.blob.bytes file.blob.pointers place.name linkable.blob.short linkable.blob.pointers
      (names file.blob.pointers leads)
    where
      names : (holes : List PointerHole) → AllByRecursion (λ (hole : PointerHole). IsPlacedName all hole.target) holes
          → AllByRecursion (λ (hole : PointerHole). IsName hole.target) holes
      names [] lead = tt
      names (hole ∷ holes) lead = (placed_name all hole.target fit lead.0, names holes lead.1)

each_allocation : (files : List ImageFile) → AllByRecursion HasFittingPlace files → AllByRecursion (λ file. AllByRecursion Fits (allocation file)) files
each_allocation [] fit = tt
each_allocation (file ∷ files) fit = (allocation_fits file.name file.placing fit.0.name fit.0.align, each_allocation files fit.1)

each_pointer : (all files : List ImageFile) → AllByRecursion HasFittingPlace all → AllByRecursion HasFittingPlace files
    → AllByRecursion IsLinkableFile files → AllByRecursion (LeadsAmong all) files → AllByRecursion (λ file. AllByRecursion Fits (add_pointers file)) files
each_pointer all [] fits fit linkable lead = tt
each_pointer all (file ∷ files) fits fit linkable lead =
    (file_pointers all fits file fit.0 linkable.0 lead.0, each_pointer all files fits fit.1 linkable.1 lead.1)

each_sum : (files : List ImageFile) → AllByRecursion HasFittingPlace files → AllByRecursion IsLinkableFile files
    → AllByRecursion (λ file. AllByRecursion Fits (add_checksums file)) files
each_sum [] fit linkable = tt
each_sum (file ∷ files) fit linkable = (
  sums_fit file.name file.blob.bytes file.blob.sums fit.0.name linkable.0.blob.short linkable.0.blob.sums,
  each_sum files fit.1 linkable.1,
)

-- each command of the script of files that can be linked
pub script_fits : (files : List ImageFile) (later : List Entry) → AreLinkable files → AllByRecursion HasFittingPlace files → AllByRecursion Fits later
    → AllByRecursion Fits (script_of files later)
script_fits files later linkable fit later_fits =
    each_append Fits (flat_map allocation files ++ linking files) later
    (each_append Fits (flat_map allocation files) (linking files) (each_flat_map Fits allocation files (each_allocation files fit))
    (each_append Fits (flat_map add_pointers (by_name files)) (flat_map add_checksums files)
    (each_flat_map Fits add_pointers (by_name files)
    (each_by_name (λ file. AllByRecursion Fits (add_pointers file)) files (each_pointer files files fit fit linkable.each linkable.leads)))
    (each_flat_map Fits add_checksums files (each_sum files fit linkable.each))))
    later_fits
