-- SLITs: their count, and the distances behind it.
use Rattle.std.proofs.Common.{◌≡◌, ℕ, ◌+◌, ◌*◌, ◌≤◌, List, [], ◌∷◌, length, cond, nat_le, Option, Some, None, ◌&&◌, option_map, unwrap_or, arith}
use Rattle.std.proofs.Common.{refl, ap, sym, ◌∙◌}
use Rattle.std.proofs.lemmas.Bool.{le-leb}
use Rattle.std.proofs.lemmas.Nat.{mul-le}
use Rattle.vt_bytes.specs.Numbers.{le}
use Rattle.vt_bytes.specs.View.{View}
use Rattle.vt_bytes.proofs.Numbers.{le-le_bytes}
use Rattle.vt_layout.specs.declared.row.Row.{Row}
use Rattle.vt_layout.specs.declared.row.Row.TheVariants.{Number, Bytes}
use Rattle.vt_layout.specs.Rows.{size}
use Rattle.vt_layout.specs.Shown.{LayoutHeld}
use Rattle.vt_layout.proofs.Shows.{held_back}
use Rattle.acpi_records.specs.declared.slit.Slit.{Slit}
use Rattle.acpi_records.specs.Header.{header_rows}
use Rattle.acpi_model.specs.declared.acpi.Table.TheVariants.{Slit as SlitVariant}
use Rattle.acpi_model.specs.Kinds.{rows_behind, layout_rows}
use Rattle.acpi_model.specs.SlitKind.{most_nodes, counted_shape, count_at, slit_kind, slit_layout}
use Rattle.acpi_model.specs.Acpi.{IsWritable}

-- the count and so many bytes of distances
counted_rows : ℕ → Option (List Row)
counted_rows bytes = Some (Number 8 0 ∷ Bytes bytes [] ∷ [])

-- the shape of a table with few nodes that is long enough
shape-counted : (total count : ℕ) → count ≤ most_nodes → 44 + count * count ≤ total → counted_shape total count ≡ counted_rows (count * count)
unfolding counted_rows
shape-counted total count few long =
    ap (λ is. cond (is && nat_le (44 + count * count) total) (counted_rows (count * count)) None) (le-leb count most_nodes few)
    ∙ ap (λ is. cond is (counted_rows (count * count)) None) (le-leb (44 + count * count) total long)

-- the count stands behind the header
count_held : (view : View) (place_of : List ℕ → ℕ) (address : ℕ) (t : Slit) → t.count ≤ most_nodes
    → LayoutHeld view place_of address (layout_rows (slit_layout t)) → count_at view address ≡ t.count
count_held view place_of address t few held =
    let behind = rows_behind (slit_layout t) in
    ap (λ bytes. unwrap_or (option_map le bytes) 0)
    (held_back view place_of address address (header_rows slit_kind.signature (36 + size behind) t.head) behind held).0
    ∙ le-le_bytes 8 t.count (omega (arith, few))

-- It has 8 bytes behind its header, and its distances.
pub size-slit : (t : Slit) → size (rows_behind (slit_layout t)) ≡ 8 + length t.distances
size-slit t = omega arith

-- It can be written where it tells of few nodes, and has a distance for each two of them.
pub slit_writable : (t : Slit) → t.count ≤ most_nodes → length t.distances ≡ t.count * t.count → IsWritable (SlitVariant t)
unfolding counted_rows
slit_writable t few square = record {
  lawful = record {
    shaped = λ place_of view address held.
        ap (counted_shape (36 + size (rows_behind (slit_layout t)))) (count_held view place_of address t few held)
        ∙ shape-counted (36 + size (rows_behind (slit_layout t))) t.count few (omega (arith, size-slit t, square))
        ∙ ap counted_rows (sym square);
    typed = λ place_of. refl;
    few = omega (arith, size-slit t, square, mul-le t.count t.count most_nodes most_nodes few few);
    rows = (tt, (tt, tt));
  };
  lead = tt;
}
