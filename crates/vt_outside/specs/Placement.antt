-- Where files may be placed in memory: the zones of a machine, and what a lawful placement is.
use Rattle.std.specs.Prelude.{◌≡◌, ℕ, ◌+◌, ◌-◌, ◌*◌, ◌≤◌, ◌⊎◌, List}
use Rattle.std.specs.List.{AllByRecursion}

-- a range of addresses; the end isn't in it
pub record Range : Type 0 where
  pub start : ℕ
  pub end : ℕ

-- high memory below a top: the 16 MiB that end there
abbrev pub high_zone : ℕ → Range
high_zone top = record { start = top - 0x1000000; end = top }

-- the F segment, where a guest looks for an RSDP and an anchor
abbrev pub f_segment : Range
f_segment = record { start = 0xF0000; end = 0x100000 }

-- two ranges have no address in common
abbrev pub Apart : Range → Range → Type 0
Apart a b = (a.end ≤ b.start) ⊎ (b.end ≤ a.start)

-- A place that may be given to a file of this size: it is a multiple of the align, the file lies in the zone, and it is apart from
-- each range that is handed out.
pub record IsFree (zone : Range) (handed : List Range) (size align place : ℕ) : Type 0 where
  pub aligned : (factor : ℕ) × (place ≡ factor * align)
  pub from : zone.start ≤ place
  pub within : place + size ≤ zone.end
  pub apart : AllByRecursion (Apart (record { start = place; end = place + size })) handed
