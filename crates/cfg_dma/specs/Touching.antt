-- Which addresses of memory a transfer touches (QEMU, docs/specs/fw_cfg, "DMA interface").
use Rattle.std.specs.Prelude.{◌≡◌, ℕ, ◌+◌, ◌<◌, ◌≤◌, ◌⊎◌, Option, IsSomeAnd}
use Rattle.cfg_dma.specs.declared.transfer.Kind.TheVariants.{Read}
use Rattle.cfg_dma.specs.declared.transfer.Finished.{Finished}
use Rattle.cfg_dma.specs.declared.transfer.Flight.{Flight}

-- an address is one of so many from a start on
abbrev pub IsAmong : ℕ → ℕ → ℕ → Type 0
IsAmong start count address = (start ≤ address) × (address < start + count)

-- it is one of the 16 bytes of the descriptor that begins there
abbrev pub IsInDescriptor : ℕ → ℕ → Type 0
IsInDescriptor descriptor address = IsAmong descriptor 16 address

-- a transfer moves a byte there: it is a read, and the address lies in its range
abbrev pub IsMovedTo : Finished → ℕ → Type 0
IsMovedTo transfer address = (transfer.kind ≡ Read) × IsAmong transfer.address transfer.length address

-- A transfer in flight may touch an address: it lies in the transfer's descriptor, of which the control word is written in the end, or the
-- transfer moves a byte there.
abbrev pub IsTouchedBy : Flight → ℕ → Type 0
IsTouchedBy flight address = IsInDescriptor flight.descriptor address ⊎ IsMovedTo flight.transfer address

-- what is in flight may touch an address; nothing is touched where nothing is in flight
abbrev pub MayTouch : Option Flight → ℕ → Type 0
MayTouch in_flight address = IsSomeAnd in_flight (λ (flight : Flight). IsTouchedBy flight address)
