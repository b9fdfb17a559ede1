-- Which addresses are memory, by a machine's ranges. Addresses are in MiB.
use Rattle.std.specs.Prelude.{◌≡◌, ℕ, ◌<◌, ◌≤◌, List, None, Any}
use Rattle.machine_desc.specs.declared.smbios_parts.MemRange.{MemRange}
use Rattle.machine_desc.specs.Rules.{first_failing, is_lawful_range, with_ends, end_of}

-- none is empty, and each begins at or behind the end of the one before
abbrev pub AreInOrder : List MemRange → Type 0
AreInOrder ranges = first_failing is_lawful_range (with_ends ranges) ≡ None

-- the address lies in the range
abbrev pub Holds : MemRange → ℕ → Type 0
Holds r address = (r.base_mib ≤ address) × (address < end_of r)

-- the address lies in a range that begins below 4 GiB
abbrev pub IsLowMemory : List MemRange → ℕ → Type 0
IsLowMemory ranges address = Any (λ r. (r.base_mib < 4096) × Holds r address) ranges
