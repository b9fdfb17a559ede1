-- The anchor of a machine's structures as a file with holes.
use Rattle.std.proofs.Common.{◌≡◌, ℕ, ◌<◌, inl, inr, List, length, refl, arith}
use Rattle.vt_layout.specs.Rows.{places_end}
use Rattle.vt_bytes.specs.Numbers.{le}
use Rattle.vt_bytes.specs.Parts.{part}
use Rattle.blob_holes.specs.Blob.{IsBlob}
use Rattle.blob_holes.specs.Filled.{PlacesFit}
use Rattle.blob_holes.specs.Grown.{IsLinkable}
use Rattle.vm_image.specs.Image.{anchor_blob}
use Rattle.cfg_directory.specs.SmbiosNames.{structures_name}

-- it has 24 bytes
pub length-anchor : (size : ℕ) → length (anchor_blob size).bytes ≡ 24
length-anchor size = refl

-- its address is zero still
address-zero : (size : ℕ) → le (part (anchor_blob size).bytes 16 8) ≡ 0
address-zero size = refl

-- its holes are in range and apart
pub anchor_kept : (size : ℕ) → IsBlob (anchor_blob size)
anchor_kept size =
    let long : length (anchor_blob size).bytes ≡ 24 = length-anchor size in
    record {
      short = omega arith;
      pointers = (inr (inr (inr refl)), omega arith, tt, tt);
      sums = (omega arith, omega arith, omega arith, tt, tt);
      apart = ((inl (omega arith), tt), tt);
    }

-- each address below 3 GiB fits
pub anchor_fits : (size : ℕ) (place_of : List ℕ → ℕ) → ((name : List ℕ) → place_of name < places_end) → PlacesFit (anchor_blob size) place_of
anchor_fits size place_of low =
    let below : place_of structures_name < places_end = low structures_name in
    (omega (arith, address-zero size), tt)

-- so it can be linked wherever files stand below 3 GiB
pub anchor_linkable : (size : ℕ) → IsLinkable (anchor_blob size)
anchor_linkable size = record { fit = anchor_fits size; ordered = (tt, tt) }
