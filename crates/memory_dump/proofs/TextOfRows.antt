-- The text of a memory is that of its rows.
use Rattle.std.proofs.Common.{◌≡◌, ℕ, ◌+◌, ◌-◌, ◌*◌, ◌/◌, Bool, true, false, cond, List, [], ◌∷◌, ◌++◌, refl, ap, sym, ◌∙◌}
use Rattle.std.specs.List.{flat_map, range_with_len}
use Rattle.std.proofs.lemmas.Grind.{flat_map-append}
use Rattle.std.proofs.lemmas.List.{append-nil}
use Rattle.std.proofs.lemmas.List.Folds.{flat_map-map}
use Rattle.vt_bytes.specs.declared.memory.AddressRange.{AddressRange}
use Rattle.vt_bytes.specs.Memory.{Memory, bytes_at, ram_ranges}
use Rattle.memory_dump.specs.Dump.{dump, header_line, last_line, range_text, ranges_text, row_line, rows_text}
use Rattle.memory_dump.specs.Rows.{addresses_in, is_fill, row_addresses, row_at, rows_of, text_of, text_of_row}
use Rattle.memory_dump.specs.declared.row.Row.{Row}

-- what is made of each element of what was made of each
flat_flat : {X Y Z : Type 0} (g : Y → List Z) (f : X → List Y) (xs : List X) → flat_map g (flat_map f xs) ≡ flat_map (λ x. flat_map g (f x)) xs
flat_flat g f [] = refl
flat_flat {Z = Z} g f (x ∷ xs) =
    flat_map-append g (f x) (flat_map f xs) ∙ ap (λ (rest : List Z). flat_map g (f x) ++ rest) (flat_flat g f xs)

flat_same : {X Z : Type 0} (f g : X → List Z) → ((x : X) → f x ≡ g x) → (xs : List X) → flat_map f xs ≡ flat_map g xs
flat_same f g same [] = refl
flat_same {Z = Z} f g same (x ∷ xs) =
    ap (λ (first : List Z). first ++ flat_map f xs) (same x) ∙ ap (λ (rest : List Z). g x ++ rest) (flat_same f g same xs)

one_row : (test : Bool) (row : Row) → flat_map text_of_row (cond test [] (row ∷ [])) ≡ cond test [] (text_of_row row)
one_row true row = refl
one_row false row = append-nil (text_of_row row)

row_text_at : (m : Memory) (a : ℕ) → flat_map text_of_row (row_at m a) ≡ row_line m.fill a (bytes_at m a 16)
row_text_at m a = one_row (is_fill m.fill (bytes_at m a 16)) (record { address = a; bytes = bytes_at m a 16 })

range_rows : (m : Memory) (range : AddressRange) → flat_map (λ a. flat_map text_of_row (row_at m a)) (addresses_in range) ≡ range_text m range
unfolding addresses_in rows_text
range_rows m range =
    flat_map-map (λ a. flat_map text_of_row (row_at m a)) (λ k. range.start + 16 * k) (range_with_len 0 ((range.end - range.start) / 16))
    ∙ flat_same (λ k. flat_map text_of_row (row_at m (range.start + 16 * k)))
    (λ k. row_line m.fill (range.start + 16 * k) (bytes_at m (range.start + 16 * k) 16))
    (λ k. row_text_at m (range.start + 16 * k)) (range_with_len 0 ((range.end - range.start) / 16))

all_rows_text : (m : Memory) → flat_map text_of_row (flat_map (row_at m) (row_addresses m.top)) ≡ ranges_text m (ram_ranges m.top)
unfolding row_addresses ranges_text
all_rows_text m =
    flat_flat text_of_row (row_at m) (flat_map addresses_in (ram_ranges m.top))
    ∙ flat_flat (λ a. flat_map text_of_row (row_at m a)) addresses_in (ram_ranges m.top)
    ∙ flat_same (λ range. flat_map (λ a. flat_map text_of_row (row_at m a)) (addresses_in range)) (range_text m) (range_rows m) (ram_ranges m.top)

pub dump_is : (m : Memory) → dump m ≡ text_of (rows_of m)
unfolding dump text_of rows_of
dump_is m = ap (λ (lines : List ℕ). header_line m.top m.fill ++ lines ++ last_line) (sym (all_rows_text m))
