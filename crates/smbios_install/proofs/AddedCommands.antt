-- The commands that are added can be written, and are read as they were.
use Rattle.std.proofs.Common.{◌≡◌, ℕ, ◌*◌, ◌^◌, ◌<◌, ◌≤◌, List, length, refl, arith}
use Rattle.std.specs.List.{AllByRecursion}
use Rattle.vt_outside.specs.Name.{IsName}
use Rattle.vt_outside.proofs.Names.{IsName-from_tests}
use Rattle.cfg_directory.specs.SmbiosNames.{anchor_name, structures_name}
use Rattle.loader_script.specs.declared.entry.Entry.TheVariants.{Allocate, AddPointer, AddChecksum}
use Rattle.loader_script.specs.Spelling.{Fits, CanBeWritten, entries_of}
use Rattle.loader_script.proofs.Scripts.{length-script, script-again}
use Rattle.smbios_model.specs.declared.anchor.AnchorForm.{AnchorForm}
use Rattle.smbios_model.specs.declared.anchor.AnchorForm.TheVariants.{Smbios3, Smbios2}
use Rattle.smbios_install.specs.Commands.{added, added_bytes}

pub anchor_is_name : IsName anchor_name
anchor_is_name = IsName-from_tests anchor_name (omega arith) (omega arith) refl

pub structures_is_name : IsName structures_name
structures_is_name = IsName-from_tests structures_name (omega arith) (omega arith) refl

-- a number fits a field of four bytes, and one of one
four : (value : ℕ) → value < 65536 → (4 ≤ 8) × (value < 256 ^ 4)
four value below = (omega arith, omega arith)

one : (value : ℕ) → value < 256 → (1 ≤ 8) × (value < 256 ^ 1)
one value below = (omega arith, omega arith)

allocate_fits : (name : List ℕ) (zone : ℕ) → IsName name → zone < 256 → Fits (Allocate name 16 zone)
allocate_fits name zone is below = (four 1 (omega arith), (is, (four 16 (omega arith), (one zone below, (tt, tt)))))

pointer_fits : (offset size : ℕ) → offset < 65536 → size < 256 → Fits (AddPointer anchor_name structures_name offset size)
pointer_fits offset size small short =
    (four 2 (omega arith), (anchor_is_name, (structures_is_name, (four offset small, (one size short, (tt, tt))))))

sum_fits : (offset start count : ℕ) → offset < 65536 → start < 65536 → count < 65536 → Fits (AddChecksum anchor_name offset start count)
sum_fits offset start count at from few =
    (four 3 (omega arith), (anchor_is_name, (four offset at, (four start from, (four count few, (tt, tt))))))

added_fit : (form : AnchorForm) → AllByRecursion Fits (added form)
added_fit Smbios3 = (
  allocate_fits structures_name 1 structures_is_name (omega arith),
  (
    allocate_fits anchor_name 2 anchor_is_name (omega arith),
    (pointer_fits 0x10 8 (omega arith) (omega arith), (sum_fits 5 0 24 (omega arith) (omega arith) (omega arith), tt)),
  ),
)
added_fit Smbios2 = (
  allocate_fits structures_name 1 structures_is_name (omega arith),
  (
    allocate_fits anchor_name 2 anchor_is_name (omega arith),
    (
      pointer_fits 0x18 4 (omega arith) (omega arith),
      (sum_fits 0x15 0x10 15 (omega arith) (omega arith) (omega arith), (sum_fits 4 0 31 (omega arith) (omega arith) (omega arith), tt)),
    ),
  ),
)

added_can : (form : AnchorForm) → AllByRecursion CanBeWritten (added form)
added_can Smbios3 = (tt, (tt, (tt, (tt, tt))))
added_can Smbios2 = (tt, (tt, (tt, (tt, (tt, tt)))))

pub length-added : (form : AnchorForm) → length (added_bytes form) ≡ 128 * length (added form)
length-added form = length-script (added form) (added_fit form)

pub added_again : (form : AnchorForm) → entries_of (length (added form)) (added_bytes form) ≡ added form
added_again form = script-again (added form) (added_fit form) (added_can form)
