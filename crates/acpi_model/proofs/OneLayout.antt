-- One table of a known kind stands at an address.
use Rattle.std.proofs.Common.{◌≡◌, ℕ, ◌+◌, ◌-◌, List, Option, Some, None, ap, sym, subst, ◌∙◌}
use Rattle.std.proofs.lemmas.Option.{same_Some}
use Rattle.vt_bytes.specs.View.{View}
use Rattle.vt_bytes.proofs.AtMostOne.{IsOne}
use Rattle.vt_layout.specs.declared.row.Row.{Row}
use Rattle.vt_layout.specs.Rows.{size, shape}
use Rattle.vt_layout.specs.Entries.{Entry, Types}
use Rattle.vt_layout.proofs.Entries.{same_entries}
use Rattle.acpi_records.specs.declared.header.Head.{Head}
use Rattle.acpi_model.specs.Kinds.{Kind, TableLayout, EndsWith, IsLayoutAt, table_of}
use Rattle.acpi_model.specs.declared.form.Form.{Form}
use Rattle.acpi_model.specs.Acpi.{kind_by, IsAtBy}
use Rattle.acpi_model.proofs.OneTable.{one_table}

-- tables end with one list of entries
one_end : (types : Option Types) (view : View) (start address count : ℕ) → IsOne (EndsWith types view start address count)
one_end None view start address count a b is also = is ∙ sym also
one_end (Some types) view start address count a b is also = same_entries types view start address count a b is also

-- the layout of these parts
layout_from : Kind → Head → List Row → List Entry → TableLayout
layout_from kind head body entries = record { kind = kind; head = head; body = body; entries = entries }

-- The signature decides the kind; the kind decides the shape of the rows, and the types of the entries.
one_layout : (form : Form) (view : View) (address : ℕ) (l m : TableLayout) → kind_by form l.kind.signature ≡ Some l.kind
    → kind_by form m.kind.signature ≡ Some m.kind
    → IsLayoutAt view address l → IsLayoutAt view address m → l ≡ m
unfolding layout_from
one_layout form view address l m listed also_listed is also =
    let signatures : l.kind.signature ≡ m.kind.signature = cc (is.stands.shown.0, also.stands.shown.0) in
    let kinds : l.kind ≡ m.kind = cc (listed, also_listed, signatures) in
    let same = one_table view address l.kind.signature m.kind.signature is.total also.total l.head m.head l.body m.body is.stands also.stands (λ totals.
    same_Some (shape l.body) (shape m.body)
    (sym is.shaped ∙ ap (λ (kind : Kind). kind.shape view address is.total) kinds ∙ ap (m.kind.shape view address) totals ∙ also.shaped)) in
    let of_kind =
    subst (λ (kind : Kind). EndsWith kind.types view address (address + (36 + size l.body)) (is.total - (36 + size l.body)) l.entries) kinds is.ends in
    let of_total = subst (λ n. EndsWith m.kind.types view address (address + (36 + size l.body)) (n - (36 + size l.body)) l.entries) same.totals of_kind in
    let there = subst (λ b. EndsWith m.kind.types view address (address + (36 + size b)) (also.total - (36 + size b)) l.entries) same.bodies of_total in
    let ends : l.entries ≡ m.entries =
    one_end m.kind.types view address (address + (36 + size m.body)) (also.total - (36 + size m.body)) l.entries m.entries there also.ends in
    ap (λ kind. layout_from kind l.head l.body l.entries) kinds ∙ ap (λ head. layout_from m.kind head l.body l.entries) same.headers
    ∙ ap (λ body. layout_from m.kind m.head body l.entries) same.bodies ∙ ap (layout_from m.kind m.head m.body) ends

pub one_at : (form : Form) (view : View) (address : ℕ) → IsOne (IsAtBy form view address)
one_at form view address t u is also =
    is.says ∙ ap table_of (one_layout form view address is.layout also.layout is.known also.known is.stands also.stands) ∙ sym also.says
