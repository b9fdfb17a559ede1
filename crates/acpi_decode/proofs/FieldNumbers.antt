-- Numbers that are read out of bytes fit as many bytes.
use Rattle.std.proofs.Common.{ℕ, ◌+◌, ◌^◌, ◌<◌, List, drop, slice_index, arith, get_or-drop}
use Rattle.vt_bytes.specs.Numbers.{le}
use Rattle.vt_bytes.specs.Parts.{part}
use Rattle.vt_bytes.proofs.Spelt.{le-fits}

pub part_fits : (bytes : List ℕ) (at count : ℕ) → ((i : ℕ) → slice_index bytes i < 256) → le (part bytes at count) < 256 ^ count
part_fits bytes at count each = le-fits count (drop at bytes) (λ i. omega (arith, get_or-drop at bytes i 0, each (at + i)))
