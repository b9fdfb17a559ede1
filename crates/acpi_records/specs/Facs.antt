-- The Firmware ACPI Control Structure (ACPI 6.5, 5.2.10).
use Rattle.std.specs.Prelude.{ℕ, ◌+◌, ◌<◌, List, [], ◌∷◌, codes, IsSome}
use Rattle.vt_bytes.specs.View.{View}
use Rattle.vt_layout.specs.declared.row.Row.{Row}
use Rattle.vt_layout.specs.declared.value.Value.{Value}
use Rattle.vt_layout.specs.Shown.{LayoutShown}
use Rattle.vt_layout.specs.Values.{value_at, byte_of, dword_of, qword_of}
use Rattle.vt_layout.specs.Fields.{Field, byte, dword, qword, four, reserved, field_rows}
use Rattle.acpi_records.specs.declared.facs.Facs.{Facs}

-- its signature and its length are among its fields, and always the same
abbrev pub facs_fields : Facs → List Field
facs_fields f =
    four (codes "FACS") ∷ dword 64 ∷ dword f.hardware_signature ∷ dword f.waking ∷ dword f.lock ∷ dword f.flags ∷ qword f.x_waking
    ∷ byte f.version ∷ reserved 3 ∷ dword f.ospm_flags ∷ reserved 24 ∷ []

abbrev pub facs_made : List Value → Facs
facs_made values = record {
  hardware_signature = dword_of (value_at 2 values);
  waking = dword_of (value_at 3 values);
  lock = dword_of (value_at 4 values);
  flags = dword_of (value_at 5 values);
  x_waking = qword_of (value_at 6 values);
  version = byte_of (value_at 7 values);
  ospm_flags = dword_of (value_at 9 values);
}

-- its rows, as they are written
abbrev pub facs_rows : Facs → List Row
facs_rows f = field_rows (facs_fields f)

-- The FACS stands at the address: its signature, its length and what it says, in 64 bytes that are all there. Which the others are is
-- ignored.
pub record IsFacs (view : View) (address : ℕ) (f : Facs) : Type 0 where
  pub there : (offset : ℕ) → offset < 64 → IsSome (view (address + offset))
  pub shown : LayoutShown view address (facs_rows f)

-- the FACS of a machine that hasn't begun
abbrev pub initial_facs : Facs
initial_facs = record { hardware_signature = 0; waking = 0; lock = 0; flags = 0; x_waking = 0; version = 2; ospm_flags = 0 }
