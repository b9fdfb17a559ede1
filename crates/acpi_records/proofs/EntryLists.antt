-- Entries, one after the other, by what is known of each.
use Rattle.std.proofs.Common.{◌≡◌, ℕ, ◌+◌, List, [], ◌∷◌, map, refl, sym, ap₂, ◌∙◌}
use Rattle.std.proofs.lemmas.List.Sums.{sum_by-cons}
use Rattle.std.specs.Prelude.{sum_by}
use Rattle.std.specs.List.{AllByRecursion}
use Rattle.vt_bytes.proofs.Each.{each_append}
use Rattle.vt_layout.specs.declared.row.Row.{Row}
use Rattle.vt_layout.specs.Rows.{size, IsPlain}
use Rattle.vt_layout.specs.Entries.{Entry, entry_rows, entries_rows}
use Rattle.vt_layout.proofs.Sizes.{size-append}

-- how many bytes they have
pub list_sized : {T : Type 0} (entry_of : T → Entry) (size_of : T → ℕ) (Is : T → Type 0)
    → ((t : T) → Is t → size (entry_rows (entry_of t)) ≡ size_of t) → (list : List T) → AllByRecursion Is list
    → size (entries_rows (map entry_of list)) ≡ sum_by size_of list
list_sized entry_of size_of Is sized [] is = refl
list_sized entry_of size_of Is sized (t ∷ ts) is =
    size-append (entry_rows (entry_of t)) (entries_rows (map entry_of ts))
    ∙ ap₂ (λ (a b : ℕ). a + b) (sized t is.0) (list_sized entry_of size_of Is sized ts is.1) ∙ sym (sum_by-cons size_of t ts)

-- what holds of each of their rows
pub list_rows : {T : Type 0} (entry_of : T → Entry) (P : Row → Type 0) (Is : T → Type 0)
    → ((t : T) → Is t → AllByRecursion P (entry_rows (entry_of t))) → (list : List T) → AllByRecursion Is list
    → AllByRecursion P (entries_rows (map entry_of list))
list_rows entry_of P Is rows [] is = tt
list_rows entry_of P Is rows (t ∷ ts) is =
    each_append P (entry_rows (entry_of t)) (entries_rows (map entry_of ts)) (rows t is.0) (list_rows entry_of P Is rows ts is.1)

-- none is a pointer or a sum
pub list_plain : {T : Type 0} (entry_of : T → Entry) → ((t : T) → AllByRecursion IsPlain (entry_rows (entry_of t))) → (list : List T)
    → AllByRecursion IsPlain (entries_rows (map entry_of list))
list_plain entry_of plain [] = tt
list_plain entry_of plain (t ∷ ts) =
    each_append IsPlain (entry_rows (entry_of t)) (entries_rows (map entry_of ts)) (plain t) (list_plain entry_of plain ts)
