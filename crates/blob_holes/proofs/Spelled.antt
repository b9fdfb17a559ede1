-- Plain rows, and the bytes that they spell.
use Rattle.std.proofs.Common.{◌≡◌, ℕ, ◌+◌, List, [], ◌∷◌, ◌++◌, length, refl, ap, sym, ◌∙◌, append-nil}
use Rattle.std.specs.List.{AllByRecursion}
use Rattle.vt_bytes.proofs.Each.{each_weaker, each_append}
use Rattle.vt_layout.specs.declared.row.Row.{Row}
use Rattle.vt_layout.specs.declared.row.Row.TheVariants.{Pointer, Sum}
use Rattle.vt_layout.specs.Rows.{IsRow, IsPlain, width_of, size, spelled}
use Rattle.vt_layout.proofs.Sizes.{length-spelled, spelled-append}
use Rattle.blob_holes.specs.Rows.{pointer_of, pointer_holes, IsUnsummed}
use Rattle.blob_holes.specs.Plain.{Spells, bytes_row}

-- one row spells bytes, and none spells none
pub one_row : (bytes : List ℕ) → Spells (bytes_row bytes ∷ []) bytes
one_row bytes = record { plain = (tt, tt); fit = (refl, tt); written = append-nil bytes }

-- rows one after the other spell what each of them spells
pub spells-append : (rows more : List Row) (bytes others : List ℕ) → Spells rows bytes → Spells more others → Spells (rows ++ more) (bytes ++ others)
spells-append rows more bytes others one two = record {
  plain = each_append IsPlain rows more one.plain two.plain;
  fit = each_append IsRow rows more one.fit two.fit;
  written = spelled-append rows more ∙ ap (λ all. all ++ spelled more) one.written ∙ ap (λ all. bytes ++ all) two.written;
}

-- as many bytes as the rows have
pub size_spelled : (rows : List Row) (bytes : List ℕ) → Spells rows bytes → size rows ≡ length bytes
size_spelled rows bytes spells = sym (length-spelled rows spells.fit) ∙ ap length spells.written

-- plain rows have no pointers and no sums
no_pointer : (at : ℕ) (row : Row) → IsPlain row → pointer_of at row ≡ []
no_pointer at (Pointer width target offset) plain = absurd plain
no_pointer at row plain = refl

pub no_pointers : (at : ℕ) (rows : List Row) → AllByRecursion IsPlain rows → pointer_holes at rows ≡ []
no_pointers at [] plain = refl
no_pointers at (row ∷ rows) plain =
    ap (λ holes. holes ++ pointer_holes (at + width_of row) rows) (no_pointer at row plain.0) ∙ no_pointers (at + width_of row) rows plain.1

plain_unsummed : (row : Row) → IsPlain row → IsUnsummed row
plain_unsummed (Sum covers) plain = absurd plain
plain_unsummed row plain = tt

pub are_unsummed : (rows : List Row) → AllByRecursion IsPlain rows → AllByRecursion IsUnsummed rows
are_unsummed rows plain = each_weaker IsPlain IsUnsummed plain_unsummed rows plain
