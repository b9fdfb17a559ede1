-- What a view has at an address, and 0 or no bytes where it isn't all RAM. So each test of a table passes or fails, also where one before
-- it fails.
use Rattle.std.specs.Prelude.{ℕ, ◌+◌, Bool, is_some, List, []}
use Rattle.std.specs.Option.{option_map, unwrap_or}
use Rattle.vt_bytes.specs.Numbers.{byte_sum}
use Rattle.vt_bytes.specs.View.{View, bytes_in, number_in}

-- whether so many bytes from an address on are RAM
abbrev pub is_ram : View → ℕ → ℕ → Bool
is_ram view address count = is_some (bytes_in view address count)

-- so many bytes from there on
abbrev pub bytes_from : View → ℕ → ℕ → List ℕ
bytes_from view address count = unwrap_or (bytes_in view address count) []

-- the number that so many bytes spell
abbrev pub number_at : View → ℕ → ℕ → ℕ
number_at view address width = unwrap_or (number_in view address width) 0

-- the sum of so many bytes, modulo 256
abbrev pub sum_at : View → ℕ → ℕ → ℕ
sum_at view address count = unwrap_or (option_map byte_sum (bytes_in view address count)) 0

-- the signature of the table at an address, and how many bytes it tells, with its header
abbrev pub signature_at : View → ℕ → List ℕ
signature_at view address = bytes_from view address 4

abbrev pub total_at : View → ℕ → ℕ
total_at view address = number_at view (address + 4) 4
