-- A device with one more file.
use Rattle.std.proofs.Common.{◌≡◌, ℕ, ◌+◌, ◌*◌, Bool, true, false, cond, List, [], ◌∷◌, ◌++◌, length, replicate, length-append}
use Rattle.std.proofs.Common.{Some, None, arith, refl, sym, ap, ◌∙◌, subst}
use Rattle.std.specs.Str.{bytes_eq}
use Rattle.std.proofs.lemmas.List.{length_push, length-replicate}
use Rattle.std.proofs.lemmas.List.Sums.{sum_by_push}
use Rattle.cfg_directory.specs.declared.item.Item.{Item}
use Rattle.cfg_directory.specs.Items.{AreNumberedFrom, HasNoName, named}
use Rattle.test_files.specs.Filled.{HasFiles}

-- a name that isn't found is no file's
pub none_named : (items : List Item) (name : List ℕ) → named items name ≡ None → HasNoName items name
none_named [] name none = tt
none_named (item ∷ items) name none = at (bytes_eq item.name name) refl none (none_named items name)
  where
    at : (same : Bool) → bytes_eq item.name name ≡ same → cond same (Some item) (named items name) ≡ None → (named items name ≡ None → HasNoName items name)
        → HasNoName (item ∷ items) name
    at true is found rest = absurd (cc)
    at false is found rest = (is, rest found)

numbered_push : (items : List Item) (item : Item) (next : ℕ) → AreNumberedFrom next items → item.select ≡ next + length items
    → AreNumberedFrom next (items ++ item ∷ [])
numbered_push [] item next numbered is = (omega (arith, is), tt)
numbered_push (first ∷ items) item next numbered is = (numbered.0, numbered_push items item (next + 1) numbered.1 (omega (arith, is)))

-- one more file of the same size
pub one_more : (items all : List Item) (item : Item) (count size : ℕ) → all ≡ items ++ item ∷ [] → item.select ≡ 0x20 + length items
    → length item.bytes ≡ size → HasFiles items count size → HasFiles all (count + 1) size
one_more items all item count size same select long filled =
    let P : List Item → Type 0 = λ files. HasFiles files (count + 1) size in
    subst P (sym same) (record {
      many = omega (arith, length_push items item, filled.many);
      bytes = omega (arith, sum_by_push (λ (i : Item). length i.bytes) items item, filled.bytes, long);
      numbered = numbered_push items item 0x20 filled.numbered select;
    })

-- one more chunk of so many bytes
pub longer : (old new : List ℕ) (byte size count start : ℕ) → new ≡ old ++ replicate size byte → length old ≡ start + count * size
    → length new ≡ start + (count + 1) * size
longer old new byte size count start same long =
    ap length same ∙ length-append old (replicate size byte) ∙ more (length-replicate {A = ℕ} size byte)
  where
    more : length (replicate size byte) ≡ size → length old + length (replicate size byte) ≡ start + (count + 1) * size
    more whole = grind (arith)
