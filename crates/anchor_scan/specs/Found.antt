-- What a reader finds at an address where an anchor may stand (DMTF DSP0134, version 3.0.0, 5.2.1 and 5.2.2; ACPI 6.5, 5.2.5.3).
use Rattle.std.specs.Prelude.{◌≡◌, ℕ, ◌+◌, ◌%◌, ◌<◌, ◌≤◌, Bool, true, false, List, length, drop, codes, Some}
use Rattle.std.proofs.Common.{arith}
use Rattle.std.specs.Option.{option_map}
use Rattle.vt_bytes.specs.Numbers.{byte_sum}
use Rattle.vt_bytes.specs.View.{View, bytes_in, number_in}
use Rattle.vt_layout.specs.declared.row.Row.TheVariants.{Number}
use Rattle.vt_layout.specs.Shown.{Shown}
use Rattle.acpi_model.specs.declared.form.Form.{Form}
use Rattle.acpi_model.specs.Form.{has_revision, rsdp_size}
use Rattle.acpi_model.specs.Rsdp.{HasRsdpBy}
use Rattle.smbios_model.specs.declared.anchor.Anchor.{Anchor}
use Rattle.smbios_model.specs.declared.anchor.AnchorForm.{AnchorForm}
use Rattle.smbios_model.specs.declared.anchor.AnchorForm.TheVariants.{Smbios3, Smbios2}
use Rattle.smbios_model.specs.Anchor.{anchor_rows, HasAnchorBy}

-- where an anchor may stand: on a multiple of 16 from a start on, below the end of the first MiB
pub record IsPlace (start address : ℕ) : Type 0 where
  pub from : start ≤ address
  pub aligned : address % 16 ≡ 0
  pub below : address < 0x100000

-- a mark stands at the address
abbrev pub HasMark : View → ℕ → List ℕ → Type 0
HasMark view address mark = bytes_in view address (length mark) ≡ Some mark

-- The numbers of an anchor of a form stand at the address, and the address of the structures, whatever its marks and its sums are.
abbrev pub HasNumbers : View → ℕ → Anchor → ℕ → Type 0
HasNumbers view address anchor structures = Shown view address (address + 5 + 1) (drop 2 (anchor_rows anchor (Number 8 structures)))

pub record HasOldNumbers (view : View) (address : ℕ) (anchor : Anchor) (structures : ℕ) : Type 0 where
  pub sized : anchor.length ≡ 31
  pub unrevised : anchor.docrev ≡ 0
  pub major : number_in view (address + 6) 1 ≡ Some anchor.major
  pub minor : number_in view (address + 7) 1 ≡ Some anchor.minor
  pub maximum_size : number_in view (address + 0x16) 2 ≡ Some anchor.maximum_size
  pub leads : number_in view (address + 0x18) 4 ≡ Some structures

abbrev pub HasNumbersBy : AnchorForm → View → ℕ → Anchor → ℕ → Type 0
HasNumbersBy Smbios3 view address anchor structures = HasNumbers view address anchor structures
HasNumbersBy Smbios2 view address anchor structures = HasOldNumbers view address anchor structures

-- Where the length of an old anchor would stand 31 does, and the bytes sum to zero, all 31 and those from offset 0x10 on.
pub record HasLengthAndSums (view : View) (address : ℕ) : Type 0 where
  pub told : number_in view (address + 5) 1 ≡ Some 31
  pub all : option_map byte_sum (bytes_in view address 31) ≡ Some 0
  pub range : option_map byte_sum (bytes_in view (address + 0x10) 15) ≡ Some 0

-- an anchor has 24 bytes or more, and so it stands where one may
pub anchor_place : (form : AnchorForm) (view : View) (address : ℕ) → HasAnchorBy form view address → IsPlace 0xF0000 address
anchor_place Smbios3 view address has =
    record { from = has.2.from; aligned = has.2.aligned; below = Prim.omega (arith, has.2.long_enough, has.2.within) }
anchor_place Smbios2 view address has =
    record { from = has.2.from; aligned = has.2.aligned; below = Prim.omega (arith, has.2.long_enough, has.2.within) }

-- the signature of an RSDP stands at the address
abbrev pub HasRsdpSignature : View → ℕ → Type 0
HasRsdpSignature view address = bytes_in view address 8 ≡ Some (codes "RSD PTR ")

-- Where the revision of an RSDP of a form would stand one stands that it may have, and the bytes sum to zero, the first 20 and all.
pub record HasRevisionAndSums (form : Form) (view : View) (address : ℕ) : Type 0 where
  pub revision : ℕ
  pub told : number_in view (address + 15) 1 ≡ Some revision
  pub revised : has_revision form revision ≡ true
  pub first : option_map byte_sum (bytes_in view address 20) ≡ Some 0
  pub all : option_map byte_sum (bytes_in view address (rsdp_size form)) ≡ Some 0

-- an RSDP has 20 bytes or more, and so it stands where one may
pub some_bytes : (extended : Bool) → 20 ≤ rsdp_size (record { extended = extended; least_fadt = 0 })
some_bytes true = Prim.omega arith
some_bytes false = Prim.omega arith

pub rsdp_place : (form : Form) (view : View) (address : ℕ) → HasRsdpBy form view address → IsPlace 0xE0000 address
rsdp_place form view address has =
    record { from = has.2.from; aligned = has.2.aligned; below = Prim.omega (arith, has.2.within, some_bytes form.extended) }
