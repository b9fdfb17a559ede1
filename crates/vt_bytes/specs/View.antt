-- What is seen of a memory: a view, from an address to the byte there, or to none where there is no RAM.
use Rattle.std.specs.Prelude.{◌≡◌, ℕ, zero, suc, ◌+◌, ◌<◌, List, [], ◌∷◌, length, slice_get, slice_index, Option, Some}
use Rattle.std.specs.Option.{option_map, option_and_then}
use Rattle.vt_bytes.specs.Numbers.{le}

abbrev pub View : Type 0
View = ℕ → Option ℕ

-- so many bytes from an address on, where all of them are RAM
unfoldable pub bytes_in : View → ℕ → ℕ → Option (List ℕ)
bytes_in view address zero = Some []
bytes_in view address (suc count) =
    option_and_then (λ byte. option_map (λ bytes. byte ∷ bytes) (bytes_in view (address + 1) count)) (view address)

-- the number that so many bytes from an address on spell, low byte first
abbrev pub number_in : View → ℕ → ℕ → Option ℕ
number_in view address width = option_map le (bytes_in view address width)

-- the view holds these bytes from an address on
abbrev pub Holds : View → ℕ → List ℕ → Type 0
Holds view address bytes = (i : ℕ) → i < length bytes → view (address + i) ≡ Some (slice_index bytes i)

-- bytes alone as a view: the first stands at 0, and there is no RAM behind the last
abbrev pub view_of : List ℕ → View
view_of bytes address = slice_get bytes address
