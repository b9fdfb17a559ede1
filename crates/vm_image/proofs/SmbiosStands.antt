-- The files of structures and of their anchor, wherever they stand in memory.
use Rattle.std.proofs.Common.{ℕ, ◌^◌, ◌<◌, ◌≤◌, List, length, refl, arith}
use Rattle.std.specs.List.{AllByRecursion}
use Rattle.vt_bytes.specs.Memory.{Memory, seen}
use Rattle.smbios_model.specs.Anchor.{HasAnchor}
use Rattle.smbios_model.specs.Smbios.{AreStructures}
use Rattle.smbios_model.specs.declared.anchor.AnchorForm.TheVariants.{Smbios3}
use Rattle.smbios_model.specs.declared.smbios.Structure.{Structure}
use Rattle.smbios_model.specs.declared.smbios.SmbiosTable.{SmbiosTable}
use Rattle.table_model.specs.declared.search.AnchorSearch.TheVariants.{One}
use Rattle.table_model.specs.Inventory.{ShowsStructuresOf}
use Rattle.table_model.proofs.SearchOfOne.{structures_of_one}
use Rattle.vm_image.specs.Image.{smbios_placed}
use Rattle.cfg_directory.specs.SmbiosNames.{anchor_name, structures_name}
use Rattle.vm_image.proofs.Whole.{holds_whole}
use Rattle.vm_image.proofs.AnchorShown.{AnchorHeld, anchor_shown, anchor_shows}
use Rattle.vm_image.proofs.Standing.{Stands}
use Rattle.vm_image.proofs.Marks.{IsClearFile}
use Rattle.vm_image.proofs.Clear.{rsdp_mark, anchor_mark, clear_behind, anchor_clear}

module _ (m : Memory) (place_of : List ℕ → ℕ) (high : 0x4000000 ≤ m.top) where
  -- the anchor's file leads to the structures' file
  anchor_held : (structures : List ℕ) → AllByRecursion (Stands m place_of) (smbios_placed structures)
      → AnchorHeld (seen m) (place_of anchor_name) (length structures) (place_of structures_name)
  anchor_held structures stand = record { place_of = place_of; held = stand.1.0.held; leads = refl }

  -- the files of structures and of their anchor have no mark of an RSDP
  pub smbios_clear_of_rsdps : (structures : List ℕ) (limit : ℕ) → length structures < 2 ^ 32 → limit ≤ 0x100000
      → AllByRecursion (Stands m place_of) (smbios_placed structures)
      → AllByRecursion (IsClearFile m (rsdp_mark limit) place_of) (smbios_placed structures)
  smbios_clear_of_rsdps structures limit few within stand =
      let file = stand.0 in
      let anchor = stand.1.0 in (
        clear_behind m (rsdp_mark limit) (place_of structures_name) (length structures) (omega (arith, file.aligned.1)) (omega (arith, file.from)),
        (
          anchor_clear m limit (place_of anchor_name) (length structures) (place_of structures_name) (omega (arith, anchor.aligned.1))
              (omega (arith, file.aligned.1))
              (anchor_shown (seen m) (place_of anchor_name) (length structures) (place_of structures_name) few (anchor_held structures stand)),
          tt,
        ),
      )

  -- they have no mark of an anchor below their own
  pub smbios_clear_of_anchors : (structures : List ℕ) → AllByRecursion (Stands m place_of) (smbios_placed structures)
      → AllByRecursion (IsClearFile m (anchor_mark (place_of anchor_name)) place_of) (smbios_placed structures)
  smbios_clear_of_anchors structures stand =
      let file = stand.0 in
      let anchor = stand.1.0 in (
        clear_behind m (anchor_mark (place_of anchor_name)) (place_of structures_name) (length structures) (omega (arith, file.aligned.1))
            (omega (arith, file.from, anchor.within)),
        (clear_behind m (anchor_mark (place_of anchor_name)) (place_of anchor_name) 24 (omega (arith, anchor.aligned.1)) (omega arith), tt),
      )

  -- structures are shown whose files stand with no anchor below their own
  pub smbios_shown : (bytes : List ℕ) (structures : List Structure) → length bytes < 2 ^ 32 → AreStructures bytes structures
      → AllByRecursion (Stands m place_of) (smbios_placed bytes)
      → ((other : ℕ) → other < place_of anchor_name → HasAnchor (seen m) other → ⊥)
      → ShowsStructuresOf (One Smbios3) (seen m) (record { major = 3; minor = 0; docrev = 0; structures = structures })
  smbios_shown bytes structures few are stand least =
      let anchor = stand.1.0 in
      let table : SmbiosTable = record { major = 3; minor = 0; docrev = 0; structures = structures } in
      structures_of_one Smbios3 (seen m) table
      (anchor_shows (seen m) (place_of anchor_name) (place_of structures_name) bytes structures few (omega (arith, anchor.from))
      (omega (arith, anchor.aligned.1)) (omega (arith, anchor.within))
      (holds_whole (seen m) (place_of structures_name) bytes place_of stand.0.held) (anchor_held bytes stand) least are)
