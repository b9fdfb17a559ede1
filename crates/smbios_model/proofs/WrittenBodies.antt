-- A body of a known kind, as it is written, is read as it was.
use Rattle.std.proofs.Common.{◌≡◌, ℕ, ◌+◌, ◌<◌, ◌≤◌, Bool, true, false, cond, List, [], ◌∷◌, length, Some, ◌==◌, arith, ap, sym, ◌∙◌, subst}
use Rattle.std.specs.List.{AllByRecursion}
use Rattle.vt_layout.specs.declared.row.Row.{Row}
use Rattle.vt_layout.specs.Rows.{IsRow, size, spelled}
use Rattle.vt_layout.proofs.Sizes.{length-spelled}
use Rattle.smbios_model.specs.declared.smbios.Body.{Body}
use Rattle.vt_layout.specs.Strings.{numbers_from, strings_of}
use Rattle.vt_layout.specs.Numbered.{numbered}
use Rattle.smbios_model.specs.StructureKinds.{StructureLayout}
use Rattle.smbios_model.specs.Structures.{kind_for, number_of, area_of, strings_in, layout_of, IsTyped, IsBodyOf, IsBody}
use Rattle.vt_layout.proofs.NumberedRows.{shape-numbered, rows_numbered, plain_numbered, size-shape}
use Rattle.smbios_model.proofs.KnownStructures.{IsKnownBody}
use Rattle.smbios_model.proofs.WrittenAreas.{spelled_area}

-- a number, and those of other texts, where the text is empty or not
more_fit : (empty : Bool) (next most : ℕ) (numbers others : List ℕ) → 0 < most → next < most
    → AllByRecursion (λ n. n < most) numbers → AllByRecursion (λ n. n < most) others
    → AllByRecursion (λ n. n < most) (cond empty (0 ∷ numbers) (next ∷ others))
more_fit true next most numbers others some fits first second = (some, first)
more_fit false next most numbers others some fits first second = (fits, second)

-- the numbers of few texts fit a byte
numbers_fit : (next : ℕ) (texts : List (List ℕ)) → next + length texts ≤ 256 → AllByRecursion (λ n. n < 256) (numbers_from next texts)
numbers_fit next [] few = tt
numbers_fit next (text ∷ texts) few =
    more_fit (length text == 0) next 256 (numbers_from next texts) (numbers_from (next + 1) texts) (omega arith) (omega arith)
    (numbers_fit next texts (omega arith)) (numbers_fit (next + 1) texts (omega arith))

-- the rows of an area fit with the numbers of its texts
pub rows_fit : (texts : List (List ℕ)) (rows : List Row) → length texts ≤ 255 → AllByRecursion IsRow rows
    → AllByRecursion IsRow (numbered (numbers_from 1 texts) rows)
rows_fit texts rows few are = rows_numbered (numbers_from 1 texts) rows (numbers_fit 1 texts (omega arith)) are

-- and as many as the rows of the kind
length-area : (body : Body) (l : StructureLayout) → IsKnownBody body l → AllByRecursion IsRow (numbered (numbers_from 1 l.texts) l.rows)
    → length (spelled (numbered (numbers_from 1 l.texts) l.rows)) ≡ size l.kind.shape
length-area body l known fit =
    let rows : List Row = numbered (numbers_from 1 l.texts) l.rows in
    length-spelled rows fit ∙ sym (size-shape rows) ∙ ap size (shape-numbered (numbers_from 1 l.texts) l.rows ∙ known.shaped)

written_of : (body : Body) (l : StructureLayout) → IsKnownBody body l → AllByRecursion IsRow (numbered (numbers_from 1 l.texts) l.rows)
    → IsTyped l.kind (spelled (numbered (numbers_from 1 l.texts) l.rows)) (strings_of l.texts) body
written_of body l known fit =
    let numbers : List ℕ = numbers_from 1 l.texts in
    record {
      rows = numbered numbers l.rows;
      texts = l.texts;
      shaped = shape-numbered numbers l.rows ∙ known.shaped;
      says = sym (known.back numbers);
      stands = spelled_area (numbered numbers l.rows) (l.kind.named (numbered numbers l.rows)) l.texts fit (plain_numbered numbers l.rows known.plain)
          known.named;
    }

pub written_body : (body : Body) → IsKnownBody body (layout_of body) → AllByRecursion IsRow (layout_of body).rows
    → length (layout_of body).texts ≤ 255 → IsBody (number_of body) (area_of body) (strings_in body) body
written_body body known are few =
    let fit = rows_fit (layout_of body).texts (layout_of body).rows few are in
    let kind : kind_for (number_of body) (length (area_of body)) ≡ Some (layout_of body).kind =
    ap (kind_for (number_of body)) (length-area body (layout_of body) known fit) ∙ known.listed in
    subst (λ k. IsBodyOf k (number_of body) (area_of body) (strings_in body) body) (sym kind) (written_of body (layout_of body) known fit)
