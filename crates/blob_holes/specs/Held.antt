-- What a view shows that holds a file with its holes filled.
use Rattle.std.specs.Prelude.{ℕ, List}
use Rattle.vt_bytes.specs.View.{View, Holds}
use Rattle.blob_holes.specs.Blob.{BlobState}
use Rattle.blob_holes.specs.Filled.{IsFilled}
use Rattle.blob_holes.specs.Grown.{Extends}

-- A view holds a file at an address, with its holes filled, where each file stands at its place.
pub record HoldsFilled (view : View) (address : ℕ) (blob : BlobState) (place_of : List ℕ → ℕ) : Type 0 where
  pub bytes : List ℕ
  pub held : Holds view address bytes
  pub filled : IsFilled blob place_of bytes

-- Whatever else the file gets at its end, and wherever a view then holds it filled, this is shown.
abbrev pub WhereHeld : BlobState → (View → ℕ → (List ℕ → ℕ) → Type 0) → Type 0
WhereHeld blob IsShown =
    (later : BlobState) (view : View) (address : ℕ) (place_of : List ℕ → ℕ) → Extends blob later
    → HoldsFilled view address later place_of → IsShown view address place_of
