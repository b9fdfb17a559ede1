-- Bytes without holes as a file.
use Rattle.std.proofs.Common.{◌≡◌, ℕ, ◌^◌, ◌<◌, List, length, Some, arith, ap, ◌∙◌}
use Rattle.vt_bytes.specs.View.{View, Holds}
use Rattle.blob_holes.specs.Blob.{IsBlob}
use Rattle.blob_holes.specs.Grown.{IsLinkable}
use Rattle.blob_holes.specs.Held.{HoldsFilled}
use Rattle.image_files.specs.Files.{whole}

-- they are lawful
pub whole_kept : (bytes : List ℕ) → length bytes < 2 ^ 32 → IsBlob (whole bytes)
whole_kept bytes short = record { short = short; pointers = tt; sums = tt; apart = tt }

-- they can be linked
pub whole_linkable : (bytes : List ℕ) → IsLinkable (whole bytes)
whole_linkable bytes = record { fit = λ place_of low. tt; ordered = tt }

-- they are held as they are
pub holds_whole : (view : View) (address : ℕ) (bytes : List ℕ) (place_of : List ℕ → ℕ) → HoldsFilled view address (whole bytes) place_of
    → Holds view address bytes
holds_whole view address bytes place_of is =
    let size : length is.bytes ≡ length bytes = is.filled.size in
    λ i below. is.held i (omega arith) ∙ ap Some (is.filled.solid i (record { fields = tt; sum_bytes = tt }))
