-- An anchor that is installed is shown where its bytes stand.
use Rattle.std.proofs.Common.{◌≡◌, ℕ, ◌+◌, ◌≤◌, List, length, Some, option_map, refl, ap, ◌∙◌, arith}
use Rattle.vt_bytes.specs.Numbers.{le, byte_sum}
use Rattle.vt_bytes.specs.Parts.{part}
use Rattle.vt_bytes.specs.View.{View, bytes_in, number_in}
use Rattle.vt_bytes.proofs.Views.{bytes_in-part}
use Rattle.vt_layout.specs.declared.row.Row.TheVariants.{Number}
use Rattle.vt_layout.specs.Shown.{LayoutShown}
use Rattle.smbios_model.specs.declared.anchor.Anchor.{Anchor}
use Rattle.smbios_model.specs.declared.anchor.AnchorForm.TheVariants.{Smbios3, Smbios2}
use Rattle.smbios_model.specs.Anchor.{anchor_rows, old_rows, old_range_rows, AnchorShown}
use Rattle.smbios_install.proofs.AnchorBytes.{StandsSmbios3, StandsSmbios2}

-- Bytes stand at a place of a view.
module _ (view : View) (base : ℕ) (bytes : List ℕ) (there : bytes_in view base (length bytes) ≡ Some bytes) where
  -- so each part of them does
  shown : (address offset count : ℕ) → address ≡ base + offset → offset + count ≤ length bytes → bytes_in view address count ≡ Some (part bytes offset count)
  shown address offset count is within =
      ap (λ a. bytes_in view a count) is ∙ bytes_in-part view base (length bytes) bytes offset count there within

  -- and each number
  number : (address offset count : ℕ) → address ≡ base + offset → offset + count ≤ length bytes
      → number_in view address count ≡ Some (le (part bytes offset count))
  number address offset count is within = ap (option_map le) (shown address offset count is within)

  pub shown_smbios3 : (place : ℕ) → StandsSmbios3 bytes place → (a : Anchor) × AnchorShown Smbios3 view base a place
  shown_smbios3 place is =
      let size = is.size in
      let a : Anchor = record {
        length = 0x18;
        major = le (part bytes 7 1);
        minor = le (part bytes 8 1);
        docrev = le (part bytes 9 1);
        maximum_size = le (part bytes 12 4);
      } in
      let rows : LayoutShown view base (anchor_rows a (Number 8 place)) = (
        shown base 0 5 (omega arith) (omega arith) ∙ ap Some is.mark,
        (
          ap (option_map byte_sum) (shown base 0 0x18 (omega arith) (omega arith)) ∙ ap Some is.sum,
          (
            number _ 6 1 (omega arith) (omega arith) ∙ ap Some is.told,
            (
              number _ 7 1 (omega arith) (omega arith),
              (
                number _ 8 1 (omega arith) (omega arith),
                (
                  number _ 9 1 (omega arith) (omega arith),
                  (
                    tt,
                    (
                      tt,
                      (
                        number _ 12 4 (omega arith) (omega arith),
                        (number _ 0x10 8 (omega arith) (omega arith) ∙ ap Some is.leads, tt),
                      ),
                    ),
                  ),
                ),
              ),
            ),
          ),
        ),
      ) in
      (a, rows)

  pub shown_smbios2 : (place : ℕ) → StandsSmbios2 bytes place → (a : Anchor) × AnchorShown Smbios2 view base a place
  shown_smbios2 place is =
      let size = is.size in
      let a : Anchor = record {
        length = 31;
        major = le (part bytes 6 1);
        minor = le (part bytes 7 1);
        docrev = 0;
        maximum_size = le (part bytes 0x16 2);
      } in
      let front : LayoutShown view base (old_rows a) = (
        shown base 0 4 (omega arith) (omega arith) ∙ ap Some is.mark,
        (
          ap (option_map byte_sum) (shown base 0 31 (omega arith) (omega arith)) ∙ ap Some is.sum,
          (
            number _ 5 1 (omega arith) (omega arith) ∙ ap Some is.told,
            (number _ 6 1 (omega arith) (omega arith), (number _ 7 1 (omega arith) (omega arith), (tt, (tt, (tt, tt))))),
          ),
        ),
      ) in
      let range : LayoutShown view (base + 0x10) (old_range_rows a (Number 4 place)) = (
        shown _ 0x10 5 (omega arith) (omega arith) ∙ ap Some is.second,
        (
          ap (option_map byte_sum) (shown _ 0x10 15 (omega arith) (omega arith)) ∙ ap Some is.second_sum,
          (
            number _ 0x16 2 (omega arith) (omega arith),
            (number _ 0x18 4 (omega arith) (omega arith) ∙ ap Some is.leads, (tt, (tt, tt))),
          ),
        ),
      ) in
      (a, record { sized = refl; unrevised = refl; front = front; range = range })
