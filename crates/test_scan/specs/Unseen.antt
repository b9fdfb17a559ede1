-- What lies behind all addresses isn't seen.
use Rattle.std.specs.Prelude.{◌≡◌, ℕ, ◌≤◌, ◌^◌, Bool, if◌then◌else◌, List, find, None}
use Rattle.std.specs.Option.{option_and_then}
use Rattle.std.proofs.Common.{ap}
use Rattle.std.proofs.lemmas.Bool.{le-ltb}
use Rattle.test_scan.specs.declared.pieces.Piece.{Piece}
use Rattle.test_scan.specs.Pieces.{is_in, byte_of, seen_in}

pub unseen_beyond : (pieces : List Piece) (bytes : List ℕ) (address : ℕ) → 2 ^ 64 ≤ address → seen_in pieces bytes address ≡ None
unseen_beyond pieces bytes address beyond =
    ap (λ (below : Bool). if below then option_and_then (byte_of bytes address) (find (λ piece. is_in piece address) pieces) else None)
    (le-ltb address (2 ^ 64) beyond)
