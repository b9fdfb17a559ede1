-- An anchor of a form has the numbers that are read, and as many bytes as one has at least lie below 1 MiB.
use Rattle.std.proofs.Common.{ℕ, ◌+◌, ◌≤◌, arith}
use Rattle.vt_bytes.specs.View.{View}
use Rattle.smbios_model.specs.declared.anchor.Anchor.{Anchor}
use Rattle.smbios_model.specs.declared.anchor.AnchorForm.{AnchorForm}
use Rattle.smbios_model.specs.declared.anchor.AnchorForm.TheVariants.{Smbios3, Smbios2}
use Rattle.smbios_model.specs.Anchor.{least_length, IsAnchorBy, HasAnchorBy}
use Rattle.anchor_scan.specs.Found.{HasNumbersBy}
use Rattle.anchor_scan.proofs.Anchors.{anchor_read}
use Rattle.anchor_scan.proofs.OldAnchors.{old_read}

pub read_by : (form : AnchorForm) (view : View) (address : ℕ) (a : Anchor) (structures : ℕ) → HasAnchorBy form view address
    → HasNumbersBy form view address a structures → IsAnchorBy form view address a structures
read_by Smbios3 view address a structures has numbers = anchor_read view address a structures has numbers
read_by Smbios2 view address a structures has numbers = old_read view address a structures has numbers

pub least_within : (form : AnchorForm) (view : View) (address : ℕ) → HasAnchorBy form view address → address + least_length form ≤ 0x100000
least_within form view address has = omega (arith, has.2.long_enough, has.2.within)
