-- The host is told where the id of a machine's generation is, once the machine's files are linked.
use Rattle.std.proofs.Common.{◌≡◌, ℕ, suc, ◌+◌, ◌<◌, ◌≤◌, true, false, List, [], ◌∷◌, ◌++◌, replicate, Option, Some, None, inr, arith, refl, ap, sym}
use Rattle.std.proofs.Common.{subst, ◌∙◌}
use Rattle.std.specs.Option.{option_map_or}
use Rattle.std.specs.List.{AllByRecursion}
use Rattle.vt_outside.specs.File.{File}
use Rattle.vt_bytes.specs.Numbers.{le_bytes}
use Rattle.vt_bytes.specs.Parts.{put_at}
use Rattle.vt_bytes.proofs.Each.{each_back}
use Rattle.loader_script.specs.Run.{Placed, Progress, Done, file_of, placed_of, bytes_of, place_of, files_with, cause_of, carried_out, goes_on, run_from}
use Rattle.loader_script.proofs.Conditions.{conditions_suffice}
use Rattle.machine_desc.specs.declared.machine.Machine.{Machine}
use Rattle.dsdt_terms.specs.Dsdt.{generation_file, id_offset, id_address}
use Rattle.cfg_directory.specs.Files.{files_of}
use Rattle.image_files.specs.Files.{ImageFile}
use Rattle.image_files.specs.Places.{ArePlaces}
use Rattle.image_files.specs.Linked.{BeginsWith, AreLinked}
use Rattle.vm_image.specs.Image.{acpi_part, smbios_placed, structures_file, id_bytes, address_name, generation_part, write_address, telling}
use Rattle.vm_image.specs.Image.{image_files, image_items}
use Rattle.vm_image.specs.Promised.{top_of, told_files}
use Rattle.vm_image.proofs.DistinctNames.{image_distinct}
use Rattle.vm_image.proofs.Named.{named}
use Rattle.vm_image.proofs.Small.{id_size}
use Rattle.vm_image.proofs.Standing.{MayStandSomewhere, all_may_stand}

-- what holds of each of a machine's files holds of those of its id
each_of_generation : (P : ImageFile → Type 0) (m : Machine) → AllByRecursion P (image_files m) → AllByRecursion P (generation_part m.generation)
each_of_generation P m each =
    each_back P (smbios_placed (structures_file m)) (generation_part m.generation)
    (each_back P (acpi_part m m.acpi) (smbios_placed (structures_file m) ++ generation_part m.generation) each)

-- a file stands somewhere, where its place isn't 0
standing : (found : Option Placed) → 0 < option_map_or (λ (p : Placed). p.place) found 0 → (p : Placed) × (found ≡ Some p)
standing None some = absurd (omega (arith, some))
standing (Some p) some = (p, refl)

-- all bytes of the file of the address are put
eight_put : (number : ℕ) → put_at (replicate 8 0) 0 (le_bytes 8 number) ≡ le_bytes 8 number
eight_put number = refl

-- where the files stand, and that fw_cfg has them
record CanBeTold (m : Machine) (placed : List Placed) (id : ℕ) : Type 0 where
  from : 0 < place_of placed generation_file
  below : place_of placed generation_file < 0xC0000000
  source : file_of (files_of (image_items m)) generation_file ≡ Some (record { name = generation_file; bytes = id_bytes id; writable = false })
  there : file_of (files_of (image_items m)) address_name ≡ Some (record { name = address_name; bytes = replicate 8 0; writable = true })

can_be_told : (m : Machine) (placed : List Placed) (places : List ℕ) (id : ℕ) → m.generation ≡ Some id → BeginsWith (files_of (image_items m)) (image_files m)
    → 0x4000000 ≤ top_of m → top_of m ≤ 0xC0000000 → ArePlaces (top_of m) [] (image_files m) places
    → AreLinked (place_of placed) (image_files m) places placed → CanBeTold m placed id
can_be_told m placed places id is begins high low lawful linked =
    let Loaded = λ (file : ImageFile). file_of (files_of (image_items m)) file.name
    ≡ Some (record { name = file.name; bytes = file.blob.bytes; writable = file.writable }) in
    let loaded = subst (λ generation. AllByRecursion Loaded (generation_part generation)) is (each_of_generation Loaded m begins) in
    let May = MayStandSomewhere (top_of m) (place_of placed) in
    let may = subst (λ generation. AllByRecursion May (generation_part generation)) is
    (each_of_generation May m (all_may_stand (top_of m) (place_of placed) [] (image_files m) places lawful
    (named (place_of placed) (image_files m) places placed (image_distinct m) linked))) in
    let stands = may.0.1 in
    record {
      from = omega (arith, stands.from);
      below = omega (arith, stands.within, id_size id);
      source = loaded.0;
      there = loaded.1.0;
    }

-- the command is carried out, and writes the address
address_written : (m : Machine) (placed : List Placed) (id index : ℕ) → CanBeTold m placed id
    → run_from index (write_address ∷ []) (record { files = files_of (image_items m); placed = placed; places = [] })
    ≡ (
      Done,
      record {
        files = files_with (files_of (image_items m)) address_name (le_bytes 8 (id_address (place_of placed)));
        placed = placed;
        places = [];
      },
    )
unfolding carried_out
address_written m placed id index can =
    let files : List File = files_of (image_items m) in
    let p : Progress = record { files = files; placed = placed; places = [] } in
    let stands = standing (placed_of placed generation_file) can.from in
    let place : place_of placed generation_file ≡ stands.0.place = ap (λ found. option_map_or (λ (q : Placed). q.place) found 0) stands.1 in
    let not_refused : cause_of write_address p ≡ None = conditions_suffice write_address p (record {
      file = record { name = address_name; bytes = replicate 8 0; writable = true };
      source = record { name = generation_file; bytes = id_bytes id; writable = false };
      there = can.there;
      source_there = can.source;
      s = stands.0;
      source_placed = stands.1;
      sized = inr (inr (inr refl));
      writable = refl;
      within = omega arith;
      source_within = omega (arith, id_size id);
      fits = omega (arith, place, can.below);
    }) in
    let bytes : bytes_of files address_name ≡ replicate 8 0 = ap (λ found. option_map_or (λ (f : File). f.bytes) found []) can.there in
    let number : place_of placed generation_file + id_offset ≡ id_address (place_of placed) = omega arith in
    let written : put_at (bytes_of files address_name) 0 (le_bytes 8 (place_of placed generation_file + id_offset)) ≡ le_bytes 8
    (id_address (place_of placed)) =
    ap (λ those. put_at those 0 (le_bytes 8 (place_of placed generation_file + id_offset))) bytes
    ∙ eight_put (place_of placed generation_file + id_offset) ∙ ap (le_bytes 8) number in
    ap (λ cause. goes_on index p cause (carried_out write_address p) (run_from (suc index) [])) not_refused
    ∙ ap (λ those. (Done, record { files = files_with files address_name those; placed = placed; places = [] })) written

-- so the host is told, where there is an id: the last command is run, and by it what told_files says is left
abbrev IsTold : (m : Machine) (placed : List Placed) (index : ℕ) → Option ℕ → Type 0
IsTold m placed index generation =
    run_from index (telling generation) (record { files = files_of (image_items m); placed = placed; places = [] })
    ≡ (
      Done,
      record {
        files = option_map_or (λ id. files_with (files_of (image_items m)) address_name (le_bytes 8 (id_address (place_of placed)))) generation
            (files_of (image_items m));
        placed = placed;
        places = [];
      },
    )

told : (m : Machine) (placed : List Placed) (places : List ℕ) (generation : Option ℕ) → m.generation ≡ generation
    → BeginsWith (files_of (image_items m)) (image_files m) → 0x4000000 ≤ top_of m → top_of m ≤ 0xC0000000
    → ArePlaces (top_of m) [] (image_files m) places → AreLinked (place_of placed) (image_files m) places placed → (index : ℕ)
    → IsTold m placed index generation
told m placed places None is begins high low lawful linked index = refl
told m placed places (Some id) is begins high low lawful linked index =
    address_written m placed id index (can_be_told m placed places id is begins high low lawful linked)

pub host_told : (m : Machine) (placed : List Placed) (places : List ℕ) → BeginsWith (files_of (image_items m)) (image_files m)
    → 0x4000000 ≤ top_of m → top_of m ≤ 0xC0000000 → ArePlaces (top_of m) [] (image_files m) places
    → AreLinked (place_of placed) (image_files m) places placed → (index : ℕ)
    → run_from index (telling m.generation) (record { files = files_of (image_items m); placed = placed; places = [] })
    ≡ (Done, record { files = told_files m placed; placed = placed; places = [] })
host_told m placed places begins high low lawful linked index =
    told m placed places m.generation refl begins high low lawful linked index
