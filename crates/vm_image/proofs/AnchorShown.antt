-- An anchor that a view holds with its holes filled.
use Rattle.std.proofs.Common.{◌≡◌, ℕ, ◌+◌, ◌%◌, ◌^◌, ◌<◌, ◌≤◌, inl, inr, List, [], length, refl, arith, rules, sym, subst, append-nil}
use Rattle.vt_bytes.specs.View.{View, Holds}
use Rattle.vt_bytes.proofs.Views.{bytes_in-all}
use Rattle.vt_layout.specs.declared.row.Row.TheVariants.{Number, Pointer}
use Rattle.vt_layout.specs.Shown.{LayoutShown, LayoutHeld}
use Rattle.vt_layout.proofs.Shows.{shown_rows}
use Rattle.smbios_model.specs.declared.smbios.Structure.{Structure}
use Rattle.smbios_model.specs.Anchor.{anchor_rows, anchor_of, IsAnchor, HasAnchor}
use Rattle.smbios_model.specs.Smbios.{AreStructures, ShowsSmbios}
use Rattle.blob_holes.specs.Rows.{AreRows}
use Rattle.blob_holes.specs.Held.{HoldsFilled}
use Rattle.blob_holes.proofs.HeldRows.{held_where_appended}
use Rattle.image_files.specs.Files.{whole}
use Rattle.vm_image.specs.Image.{anchor_blob}
use Rattle.cfg_directory.specs.SmbiosNames.{structures_name}
use Rattle.vm_image.proofs.Whole.{whole_kept}
use Rattle.vm_image.proofs.Grown.{extends_self}

-- an anchor of structures that have so many bytes and stand at a place
pub record AnchorHeld (view : View) (base size place : ℕ) : Type 0 where
  pub place_of : List ℕ → ℕ
  pub held : HoldsFilled view base (anchor_blob size) place_of
  pub leads : place_of structures_name ≡ place

-- its rows can be appended
rows_fit : (size : ℕ) → size < 2 ^ 32 → AreRows (anchor_rows (anchor_of size) (Pointer 8 structures_name 0))
rows_fit size few =
    let one : (value : ℕ) → value < 256 → (1 ≤ 8) × (value < 256 ^ 1) = λ value below. (omega arith, omega arith) in
    record {
      each = (
        refl,
        (
          tt,
          (
            one 0x18 (omega arith),
            (
              one 3 (omega arith),
              (
                one 0 (omega arith),
                (
                  one 0
                      (omega arith),
                  (one 1 (omega arith), (tt, ((omega arith, omega arith), ((inr (inr (inr refl)), omega arith), tt)))),
                ),
              ),
            ),
          ),
        ),
      );
      sums = search rules;
    }

-- they are held
anchor_held : (view : View) (base size place : ℕ) (few : size < 2 ^ 32) (is : AnchorHeld view base size place)
    → LayoutHeld view is.place_of base (anchor_rows (anchor_of size) (Pointer 8 structures_name 0))
anchor_held view base size place few is =
    let here : base + 0 ≡ base = omega arith in
    subst (λ a. LayoutHeld view is.place_of a (anchor_rows (anchor_of size) (Pointer 8 structures_name 0))) here
    (held_where_appended (whole []) (anchor_blob size) (anchor_rows (anchor_of size) (Pointer 8 structures_name 0)) (whole_kept [] (omega arith))
    (rows_fit size few) refl (anchor_blob size) view base is.place_of (extends_self (anchor_blob size)) is.held)

-- so they are shown, with the address of the structures
pub anchor_shown : (view : View) (base size place : ℕ) → size < 2 ^ 32 → AnchorHeld view base size place
    → LayoutShown view base (anchor_rows (anchor_of size) (Number 8 place))
anchor_shown view base size place few is =
    let there : 0 + is.place_of structures_name ≡ place = omega (arith, is.leads) in
    subst (λ p. LayoutShown view base (anchor_rows (anchor_of size) (Number 8 p))) there
    (shown_rows view is.place_of base base (anchor_rows (anchor_of size) (Pointer 8 structures_name 0)) (rows_fit size few).each
    (anchor_held view base size place few is))

-- an anchor in memory, with none below it, and the structures where it says, show them
pub anchor_shows : (view : View) (base place : ℕ) (bytes : List ℕ) (structures : List Structure) → length bytes < 2 ^ 32 → 0xF0000 ≤ base
    → base % 16 ≡ 0 → base + 24 ≤ 0x100000 → Holds view place bytes → AnchorHeld view base (length bytes) place
    → ((other : ℕ) → other < base → HasAnchor view other → ⊥) → AreStructures bytes structures
    → ShowsSmbios view (record { major = 3; minor = 0; docrev = 0; structures = structures })
anchor_shows view base place bytes structures few from aligned within there is least are = record {
  address = base;
  anchor = anchor_of (length bytes);
  structures = place;
  valid = record { from = from; aligned = aligned; long_enough = omega arith; within = within; shown = anchor_shown view base (length bytes) place few is };
  least = least;
  major = refl;
  minor = refl;
  docrev = refl;
  used = bytes;
  unused = [];
  range = subst (λ all. Rattle.smbios_model.specs.Anchor.IsRange view place (length bytes) all) (sym (append-nil bytes))
      (record { at_most = omega arith; there = bytes_in-all view place bytes there; whole = inl refl });
  listed = are;
}
