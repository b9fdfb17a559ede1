-- The numbers of the items of an accepted machine fit their rows.
use Rattle.std.proofs.Common.{◌≡◌, ℕ, ◌+◌, ◌^◌, ◌<◌, ◌≤◌, Bool, true, false, not, ◌&&◌, nat_le, nat_lt, List, [], ◌∷◌, arith, map}
use Rattle.std.proofs.lemmas.Bool.{and_parts, leb-true, ltb-true}
use Rattle.std.proofs.lemmas.Nat.{pow_below}
use Rattle.std.specs.List.{list_all, AllByRecursion}
use Rattle.vt_layout.specs.declared.row.Row.TheVariants.{Number}
use Rattle.vt_layout.specs.Rows.{IsRow}
use Rattle.machine_desc.specs.declared.device_parts.Window.{Window}
use Rattle.machine_desc.specs.declared.device_parts.WindowKind.{WindowKind}
use Rattle.machine_desc.specs.declared.device_parts.WindowKind.TheVariants.{Io, Mem32, Mem64}
use Rattle.machine_desc.specs.declared.device_parts.Bridge.{Bridge}
use Rattle.machine_desc.specs.declared.device_parts.Uart.{Uart}
use Rattle.machine_desc.specs.Rules.{ends_within, are_lawful_addresses, is_lawful_window, is_lawful_uart}
use Rattle.resource_items.specs.declared.address_space.WordSpace.{WordSpace}
use Rattle.resource_items.specs.declared.address_space.DwordSpace.{DwordSpace}
use Rattle.resource_items.specs.declared.address_space.QwordSpace.{QwordSpace}
use Rattle.resource_items.specs.declared.resource_item.ResourceItem.TheVariants.{Word, Dword, Qword}
use Rattle.resource_items.specs.Templates.{FitsItem}
use Rattle.dsdt_terms.specs.Bridge.{bus_item, memory_flags, last_of, window_item_of, window_item, bridge_items}
use Rattle.dsdt_terms.specs.Devices.{port_item, irq_item}

-- the numbers of a range in so many bytes
record FitSpace (width kind flags granularity first last translation length : ℕ) : Type 0 where
  kind_fits : kind < 256
  flags_fit : flags < 256
  granularity_fits : granularity < 256 ^ width
  first_fits : first < 256 ^ width
  last_fits : last < 256 ^ width
  translation_fits : translation < 256 ^ width
  length_fits : length < 256 ^ width

fits_word : (s : WordSpace) → FitSpace 2 s.kind s.flags s.granularity s.first s.last s.translation s.length → FitsItem (Word s)
fits_word s fit =
    let b : (n : ℕ) → n < 256 → IsRow (Number 1 n) = λ n l. (omega arith, omega arith) in
    let w : (n : ℕ) → n < 256 ^ 2 → IsRow (Number 2 n) = λ n l. (omega arith, l) in (
      b 0x88 (omega arith),
      (
        w 13 (omega arith),
        (
          b s.kind fit.kind_fits,
          (
            b 0x0C (omega arith),
            (
              b s.flags fit.flags_fit,
              (
                w s.granularity fit.granularity_fits,
                (w s.first fit.first_fits, (w s.last fit.last_fits, (w s.translation fit.translation_fits, (w s.length fit.length_fits, tt)))),
              ),
            ),
          ),
        ),
      ),
    )

fits_dword : (s : DwordSpace) → FitSpace 4 s.kind s.flags s.granularity s.first s.last s.translation s.length → FitsItem (Dword s)
fits_dword s fit =
    let b : (n : ℕ) → n < 256 → IsRow (Number 1 n) = λ n l. (omega arith, omega arith) in
    let w : (n : ℕ) → n < 256 ^ 4 → IsRow (Number 4 n) = λ n l. (omega arith, l) in (
      b 0x87 (omega arith),
      (
        (omega arith, omega arith),
        (
          b s.kind fit.kind_fits,
          (
            b 0x0C (omega arith),
            (
              b s.flags fit.flags_fit,
              (
                w s.granularity fit.granularity_fits,
                (
                  w s.first fit.first_fits,
                  (
                    w s.last fit.last_fits,
                    (
                      w s.translation fit.translation_fits,
                      (w s.length fit.length_fits, tt),
                    ),
                  ),
                ),
              ),
            ),
          ),
        ),
      ),
    )

fits_qword : (s : QwordSpace) → FitSpace 8 s.kind s.flags s.granularity s.first s.last s.translation s.length → FitsItem (Qword s)
fits_qword s fit =
    let b : (n : ℕ) → n < 256 → IsRow (Number 1 n) = λ n l. (omega arith, omega arith) in
    let w : (n : ℕ) → n < 256 ^ 8 → IsRow (Number 8 n) = λ n l. (omega arith, l) in (
      b 0x8A (omega arith),
      (
        (omega arith, omega arith),
        (
          b s.kind fit.kind_fits,
          (
            b 0x0C (omega arith),
            (
              b s.flags fit.flags_fit,
              (
                w s.granularity fit.granularity_fits,
                (
                  w s.first fit.first_fits,
                  (
                    w s.last fit.last_fits,
                    (
                      w s.translation fit.translation_fits,
                      (w s.length fit.length_fits, tt),
                    ),
                  ),
                ),
              ),
            ),
          ),
        ),
      ),
    )

fits_bus : (last : ℕ) → last < 2 ^ 8 → FitsItem (bus_item last)
fits_bus last small = fits_word (record { kind = 2; flags = 0; granularity = 0; first = 0; last = last; translation = 0; length = last + 1 }) (record {
  kind_fits = omega arith;
  flags_fit = omega arith;
  granularity_fits = omega arith;
  first_fits = omega arith;
  last_fits = omega arith;
  translation_fits = omega arith;
  length_fits = omega arith;
})

flags_fit : (prefetch : Bool) → memory_flags prefetch < 256
flags_fit true = omega arith
flags_fit false = omega arith

-- A window that isn't empty and ends so far fits a range.
fits_space : (width kind flags end : ℕ) (w : Window) → kind < 256 → flags < 256 → 1 ≤ w.size → w.base + w.size ≤ end → end ≤ 256 ^ width → w.size < 256 ^ width
    → FitSpace width kind flags 0 w.base (last_of w) 0 w.size
fits_space width kind flags end w kind_fits flags_fit some ends within size = record {
  kind_fits = kind_fits;
  flags_fit = flags_fit;
  granularity_fits = omega arith;
  first_fits = omega arith;
  last_fits = omega arith;
  translation_fits = omega arith;
  length_fits = size;
}

fits_window_of : (kind : WindowKind) (w : Window) → 1 ≤ w.size → are_lawful_addresses kind w ≡ true → FitsItem (window_item_of kind w)
fits_window_of Io w some lawful =
    let both = and_parts (ends_within 0x10000 w && nat_le w.size 0xFFFF) (not w.prefetch) lawful in
    let bounds = and_parts (ends_within 0x10000 w) (nat_le w.size 0xFFFF) both.0 in
    let ends : w.base + w.size ≤ 0x10000 = leb-true (w.base + w.size) 0x10000 bounds.0 in
    let size : w.size ≤ 0xFFFF = leb-true w.size 0xFFFF bounds.1 in
    fits_word (record { kind = 1; flags = 3; granularity = 0; first = w.base; last = last_of w; translation = 0; length = w.size })
    (fits_space 2 1 3 0x10000 w (omega arith) (omega arith) some ends (omega arith) (omega arith))
fits_window_of Mem32 w some lawful =
    let bounds = and_parts (ends_within (2 ^ 32) w) (nat_lt w.size (2 ^ 32)) lawful in
    let ends : w.base + w.size ≤ 2 ^ 32 = leb-true (w.base + w.size) (2 ^ 32) bounds.0 in
    let size : w.size < 2 ^ 32 = ltb-true w.size (2 ^ 32) bounds.1 in
    fits_dword (record { kind = 0; flags = memory_flags w.prefetch; granularity = 0; first = w.base; last = last_of w; translation = 0; length = w.size })
    (fits_space 4 0 (memory_flags w.prefetch) (2 ^ 32) w (omega arith) (flags_fit w.prefetch) some ends (omega arith) (omega arith))
fits_window_of Mem64 w some lawful =
    let ends : w.base + w.size ≤ 2 ^ 52 = leb-true (w.base + w.size) (2 ^ 52) lawful in
    fits_qword (record { kind = 0; flags = memory_flags w.prefetch; granularity = 0; first = w.base; last = last_of w; translation = 0; length = w.size })
    (fits_space 8 0 (memory_flags w.prefetch) (2 ^ 52) w (omega arith) (flags_fit w.prefetch) some ends (omega arith) (omega arith))

fit_windows : (windows : List Window) → list_all is_lawful_window windows ≡ true → AllByRecursion FitsItem (map window_item windows)
fit_windows [] lawful = tt
fit_windows (w ∷ windows) lawful =
    let both = and_parts (is_lawful_window w) (list_all is_lawful_window windows) lawful in
    let here = and_parts (nat_le 1 w.size) (are_lawful_addresses w.kind w) both.0 in
    (fits_window_of w.kind w (leb-true 1 w.size here.0) here.1, fit_windows windows both.1)

-- the items of a bridge
pub fit_bridge : (b : Bridge) → b.last_bus < 2 ^ 8 → list_all is_lawful_window b.windows ≡ true → AllByRecursion FitsItem (bridge_items b)
fit_bridge b small lawful = (fits_bus b.last_bus small, fit_windows b.windows lawful)

-- and those of a serial port
pub fit_uart : (u : Uart) → is_lawful_uart u ≡ true → AllByRecursion FitsItem (port_item u.port 8 ∷ irq_item u.irq ∷ [])
fit_uart u lawful =
    let bounds = and_parts (nat_le u.irq 15) (nat_le u.port 0xFFF8) lawful in
    let irq : u.irq ≤ 15 = leb-true u.irq 15 bounds.0 in
    let port : u.port ≤ 0xFFF8 = leb-true u.port 0xFFF8 bounds.1 in
    let mask : 2 ^ u.irq < 2 ^ 16 = pow_below u.irq 16 (omega arith) in
    let b : (n : ℕ) → n < 256 → IsRow (Number 1 n) = λ n l. (omega arith, omega arith) in
    let w : (n : ℕ) → n < 0x10000 → IsRow (Number 2 n) = λ n l. (omega arith, omega arith) in (
      (b 0x47 (omega arith), (b 1 (omega arith), (w u.port (omega arith), (w u.port (omega arith), (b 1 (omega arith), (b 8 (omega arith), tt)))))),
      ((b 0x22 (omega arith), (w (2 ^ u.irq) (omega arith), tt)), tt),
    )
