-- The names of a machine's files: they are, in order, some of a fixed list, and so they differ.
use Rattle.std.proofs.Common.{◌≡◌, ℕ, ◌≤◌, ◌⊎◌, inl, inr, false, List, [], ◌∷◌, ◌++◌, length, Option, Some, None, refl, arith, ap, subst, sym}
use Rattle.std.specs.List.{AllByRecursion}
use Rattle.std.specs.Str.{bytes_eq}
use Rattle.machine_desc.specs.declared.machine.Machine.{Machine}
use Rattle.machine_desc.specs.declared.machine.Acpi.{Acpi}
use Rattle.acpi_model.specs.Kinds.{tables_name}
use Rattle.image_files.specs.Files.{ImageFile}
use Rattle.loader_script.specs.LoaderName.{loader_name}
use Rattle.image_files.specs.Linkable.{HasNoName, AreDistinct}
use Rattle.dsdt_terms.specs.Dsdt.{generation_file}
use Rattle.vm_image.specs.Image.{rsdp_name, address_name, acpi_part, smbios_placed, structures_file, generation_part, image_files}
use Rattle.cfg_directory.specs.SmbiosNames.{anchor_name, structures_name}

-- the names of files are, in order, some of these names
abbrev AreSome : List (List ℕ) → List ImageFile → Type 0
AreSome [] files = files ≡ []
AreSome (name ∷ names) files =
    AreSome names files ⊎ ((file : ImageFile) × (others : List ImageFile) × (files ≡ file ∷ others) × (file.name ≡ name) × AreSome names others)

-- a file that has the first of the names, in front of files that have some of the others
with_name : (name : List ℕ) (names : List (List ℕ)) (file : ImageFile) (files : List ImageFile) → file.name ≡ name → AreSome names files
    → AreSome (name ∷ names) (file ∷ files)
with_name name names file files is some = inr (file, files, refl, is, some)

-- names of files, and names of others behind them
some_append : (names more : List (List ℕ)) (files others : List ImageFile) → AreSome names files → AreSome more others
    → AreSome (names ++ more) (files ++ others)
some_append [] more files others some rest = subst (λ those. AreSome more (those ++ others)) (sym some) rest
some_append (name ∷ names) more files others some rest =
    elim some as (λ _. AreSome (name ∷ names ++ more) (files ++ others)) [
      | inl passed ↦ inl (some_append names more files others passed rest)
      | inr had ↦ inr (had.0, had.1 ++ others, ap (λ those. those ++ others) had.2, had.3, some_append names more had.1 others had.4 rest)
    ]

-- what holds of each of the names holds of the name of each file
each_some : (P : List ℕ → Type 0) (names : List (List ℕ)) (files : List ImageFile) → AllByRecursion P names → AreSome names files
    → AllByRecursion (λ (file : ImageFile). P file.name) files
each_some P [] files all some = subst (AllByRecursion (λ (file : ImageFile). P file.name)) (sym some) tt
each_some P (name ∷ names) files all some =
    elim some as (λ _. AllByRecursion (λ (file : ImageFile). P file.name) files) [
      | inl passed ↦ each_some P names files all.1 passed
      | inr had ↦
          subst (AllByRecursion (λ (file : ImageFile). P file.name)) (sym had.2)
          (subst P (sym had.3) all.0, each_some P names had.1 all.1 had.4)
    ]

-- there are no more files than names
no_more : (names : List (List ℕ)) (files : List ImageFile) → AreSome names files → length files ≤ length names
no_more [] files some = omega (arith, ap length some)
no_more (name ∷ names) files some =
    elim some as (λ _. length files ≤ length (name ∷ names)) [
      | inl passed ↦ omega (arith, no_more names files passed)
      | inr had ↦ omega (arith, no_more names had.1 had.4, ap length had.2)
    ]

-- no two of the names are the same
abbrev Differ : List (List ℕ) → Type 0
Differ [] = Unit {0}
Differ (name ∷ names) = AllByRecursion (λ other. bytes_eq other name ≡ false) names × Differ names

-- then no two of the files have one name
distinct_some : (names : List (List ℕ)) (files : List ImageFile) → Differ names → AreSome names files → AreDistinct files
distinct_some [] files differ some = subst AreDistinct (sym some) tt
distinct_some (name ∷ names) files differ some =
    elim some as (λ _. AreDistinct files) [
      | inl passed ↦ distinct_some names files differ.1 passed
      | inr had ↦
          subst AreDistinct (sym had.2) (
            subst (HasNoName had.1) (sym had.3) (each_some (λ other. bytes_eq other name ≡ false) names had.1 differ.0 had.4),
            distinct_some names had.1 differ.1 had.4,
          )
    ]

-- the names of the files of ACPI tables, in order
abbrev acpi_names : List (List ℕ)
acpi_names = tables_name ∷ rsdp_name ∷ []

-- those of the files of structures
abbrev smbios_names : List (List ℕ)
smbios_names = structures_name ∷ anchor_name ∷ []

-- and those of the files of the id of a generation
abbrev generation_names : List (List ℕ)
generation_names = generation_file ∷ address_name ∷ []

abbrev all_names : List (List ℕ)
all_names = acpi_names ++ smbios_names ++ generation_names

-- they differ, and from that of the script's file
names_differ : Differ (loader_name ∷ all_names)
names_differ = (
  (refl, (refl, (refl, (refl, (refl, (refl, tt)))))),
  (
    (refl, (refl, (refl, (refl, (refl, tt))))),
    ((refl, (refl, (refl, (refl, tt)))), ((refl, (refl, (refl, tt))), ((refl, (refl, tt)), ((refl, tt), (tt, tt))))),
  ),
)

-- the files of ACPI tables have their names, where there are some
acpi_some : (m : Machine) (maker : Option Acpi) → AreSome acpi_names (acpi_part m maker)
acpi_some m None = inl (inl refl)
acpi_some m (Some acpi) = with_name tables_name (rsdp_name ∷ []) _ _ refl (with_name rsdp_name [] _ [] refl refl)

-- the files of structures have theirs
smbios_some : (structures : List ℕ) → AreSome smbios_names (smbios_placed structures)
smbios_some structures = with_name structures_name (anchor_name ∷ []) _ _ refl (with_name anchor_name [] _ [] refl refl)

-- and those of the id of a generation theirs, where there is one
generation_some : (generation : Option ℕ) → AreSome generation_names (generation_part generation)
generation_some None = inl (inl refl)
generation_some (Some id) = with_name generation_file (address_name ∷ []) _ _ refl (with_name address_name [] _ [] refl refl)

-- all files have these names
image_some : (m : Machine) → AreSome all_names (image_files m)
image_some m =
    some_append acpi_names (smbios_names ++ generation_names) (acpi_part m m.acpi) (smbios_placed (structures_file m) ++ generation_part m.generation)
    (acpi_some m m.acpi)
    (some_append smbios_names generation_names (smbios_placed (structures_file m)) (generation_part m.generation) (smbios_some (structures_file m))
    (generation_some m.generation))

-- the names of a machine's files differ
pub image_distinct : (m : Machine) → AreDistinct (image_files m)
image_distinct m = distinct_some all_names (image_files m) names_differ.1 (image_some m)

-- none of them is that of the script's file
pub image_has_no_loader : (m : Machine) → HasNoName (image_files m) loader_name
image_has_no_loader m =
    each_some (λ other. bytes_eq other loader_name ≡ false) all_names (image_files m) names_differ.0 (image_some m)

-- a machine has few files
pub image_few : (m : Machine) → length (image_files m) ≤ 16
image_few m = omega (arith, no_more all_names (image_files m) (image_some m))
