-- The id of a machine's generation, where there is one, wherever its file stands in memory.
use Rattle.std.proofs.Common.{◌≡◌, ℕ, ◌+◌, ◌^◌, ◌<◌, ◌≤◌, List, length, take, drop, Option, Some, None, is_some, IsSome, IfSome, option_map, arith}
use Rattle.std.proofs.Common.{refl, ap, ◌∙◌}
use Rattle.std.specs.List.{AllByRecursion}
use Rattle.vt_bytes.specs.Memory.{Memory, seen}
use Rattle.vt_bytes.specs.View.{bytes_in}
use Rattle.vt_bytes.proofs.Views.{bytes_in-holds}
use Rattle.machine_desc.specs.declared.machine.Machine.{Machine}
use Rattle.machine_desc.specs.declared.machine.Acpi.{Acpi}
use Rattle.machine_desc.specs.Rules.{IsAccepted}
use Rattle.machine_desc.specs.Uuids.{uuid_bytes}
use Rattle.machine_desc.proofs.Accepted.{power_needs_acpi, generation_needs_power}
use Rattle.dsdt_terms.specs.Dsdt.{generation_file, id_offset, id_address}
use Rattle.acpi_model.specs.Acpi.{id_of}
use Rattle.vm_image.specs.Image.{id_bytes, generation_part}
use Rattle.vm_image.proofs.Small.{id_size}
use Rattle.vm_image.proofs.Marks.{Mark, IsClearFile}
use Rattle.vm_image.proofs.Clear.{clear_behind}
use Rattle.vm_image.proofs.Standing.{Stands}
use Rattle.vm_image.proofs.Whole.{holds_whole}

-- no maker of ACPI tables is also some
no_maker : (maker : Option Acpi) → IsSome maker → maker ≡ None → ⊥
no_maker None some is = absurd (cc)
no_maker (Some acpi) some is = absurd (cc)

-- a machine without ACPI tables has no id
no_generation : (m : Machine) (generation : Option ℕ) → m.generation ≡ generation → m.acpi ≡ None → IsAccepted m → option_map uuid_bytes generation ≡ None
no_generation m None is none accepted = refl
no_generation m (Some id) is none accepted =
    absurd (no_maker m.acpi (power_needs_acpi m accepted (generation_needs_power m accepted (ap (λ (o : Option ℕ). is_some o) is))) none)

pub no_id : (m : Machine) → m.acpi ≡ None → IsAccepted m → id_of m ≡ None
no_id m none accepted = no_generation m m.generation refl none accepted

-- the bytes of the id in its file
part_of_page : (id : ℕ) → take 16 (drop id_offset (id_bytes id)) ≡ uuid_bytes id
part_of_page id = refl

module _ (m : Memory) (place_of : List ℕ → ℕ) where
  -- the file of the id is clear of each mark, since it stands in high memory
  pub generation_clear : (mark : Mark) (generation : Option ℕ) → 0x4000000 ≤ m.top → mark.limit ≤ 0x100000
      → AllByRecursion (Stands m place_of) (generation_part generation) → AllByRecursion (IsClearFile m mark place_of) (generation_part generation)
  generation_clear mark None high within stand = tt
  generation_clear mark (Some id) high within stand =
      let page = stand.0 in
      (clear_behind m mark (place_of generation_file) (length (id_bytes id)) (omega (arith, page.aligned.1)) (omega (arith, page.from)), (tt, tt))

  module _ (low : m.top ≤ 0xC0000000) where
    -- the id is below 4 GiB
    pub id_below : (generation : Option ℕ) → AllByRecursion (Stands m place_of) (generation_part generation) → IsSome generation
        → id_address place_of < 2 ^ 32
    id_below None stand some = absurd (cc)
    id_below (Some id) stand some =
        let page = stand.0 in
        omega (arith, page.within, id_size id)

    -- and stands there
    pub id_held : (generation : Option ℕ) → AllByRecursion (Stands m place_of) (generation_part generation)
        → IfSome generation (λ id. (id_address place_of < 2 ^ 32) × (bytes_in (seen m) (id_address place_of) 16 ≡ Some (uuid_bytes id)))
    id_held None stand = tt
    id_held (Some id) stand =
        let page = stand.0 in
        let held = holds_whole (seen m) (place_of generation_file) (id_bytes id) place_of page.held in
        let place : id_address place_of ≡ place_of generation_file + id_offset = omega arith in (
          id_below (Some id) stand refl,
          ap (λ address. bytes_in (seen m) address 16) place
              ∙ bytes_in-holds (seen m) (place_of generation_file) (id_bytes id) id_offset 16 held (omega (arith, id_size id))
              ∙ ap Some (part_of_page id),
        )
