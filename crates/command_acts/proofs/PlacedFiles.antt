-- Placed files after a write to one of them.
use Rattle.std.proofs.Common.{◌≡◌, ℕ, ◌+◌, ◌<◌, ◌≤◌, ◌⊎◌, inl, inr, true, false, List, [], ◌∷◌, length, Some, arith, refl, ap, ap₂, subst, sym, ◌∙◌}
use Rattle.std.specs.List.{AllByRecursion}
use Rattle.std.specs.Str.{bytes_eq}
use Rattle.std.proofs.lemmas.Bool.{cases_Bool, cond-true, cond-false}
use Rattle.std.proofs.lemmas.Option.{same_Some, none-some}
use Rattle.vt_outside.proofs.Texts.{same_text, other_text}
use Rattle.vt_bytes.specs.Parts.{put_at}
use Rattle.vt_bytes.specs.Memory.{Memory, IsRam, IsRamRange, bytes_at, Puts}
use Rattle.command_acts.specs.declared.placed.PlacedFile.{PlacedFile}
use Rattle.loader_script.specs.Run.{Placed, placed_with}
use Rattle.command_acts.specs.FilesInMemory.{EndsLow, placed_named, placed_in, files_in, AreApart, ArePlaced, IsBeside, Stays}
use Rattle.loader_script.proofs.Named.{of_found}
use Rattle.command_acts.proofs.Writes.{stays, written}

-- a write of bytes at an offset of a placed file, inside the file
pub record IsWrite (old new : Memory) (p : PlacedFile) (offset : ℕ) (bytes : List ℕ) : Type 0 where
  pub puts : Puts old new (p.place + offset) bytes
  pub within : offset + length bytes ≤ p.size

-- a placed file stands in RAM and ends low
pub each_is_placed : (top : ℕ) (placed : List PlacedFile) → ArePlaced top placed
    → AllByRecursion (λ (p : PlacedFile). IsRamRange top p.place p.size × EndsLow p) placed
each_is_placed top [] placed = tt
each_is_placed top (p ∷ files) placed = ((placed.0, placed.1), each_is_placed top files placed.3)

-- and so does the one that has the name
pub found_is_placed : (top : ℕ) (placed : List PlacedFile) (name : List ℕ) (p : PlacedFile) → placed_named placed name ≡ Some p
    → ArePlaced top placed → IsRamRange top p.place p.size × EndsLow p
found_is_placed top placed name p found all =
    of_found (λ (p : PlacedFile). IsRamRange top p.place p.size × EndsLow p) (λ (q : PlacedFile). bytes_eq q.name name) placed p found
    (each_is_placed top placed all)

-- a file that is apart from the written one stays
other_stays : (old new : Memory) (p q : PlacedFile) (offset : ℕ) (bytes : List ℕ) → IsWrite old new p offset bytes
    → IsRamRange old.top q.place q.size → (p.place + p.size ≤ q.place) ⊎ (q.place + q.size ≤ p.place) → placed_in new q ≡ placed_in old q
other_stays old new p q offset bytes write ram apart =
    let within = write.within in
    let beside : (q.place + q.size ≤ p.place + offset) ⊎ (p.place + offset + length bytes ≤ q.place) =
    elim apart as (λ _. (q.place + q.size ≤ p.place + offset) ⊎ (p.place + offset + length bytes ≤ q.place)) [
      | inl before ↦ inr (omega arith)
      | inr
          after ↦ inl (omega arith)
    ] in
    ap (λ held. record { name = q.name; place = q.place; bytes = held }) (stays old new (p.place + offset) bytes q.place q.size write.puts ram beside)

-- the files after the written one stay, and have other names
others_stay : (old new : Memory) (p : PlacedFile) (offset : ℕ) (bytes : List ℕ) (name held : List ℕ) (placed : List PlacedFile)
    → IsWrite old new p offset bytes → p.name ≡ name → AllByRecursion (AreApart p) placed → ArePlaced old.top placed
    → files_in new placed ≡ placed_with (files_in old placed) name held
others_stay old new p offset bytes name held [] write named apart placed = refl
others_stay old new p offset bytes name held (q ∷ files) write named apart placed =
    let other : bytes_eq q.name name ≡ false = other_text q.name name (λ same. apart.0.names (named ∙ sym same)) in
    ap₂ (λ (x : Placed) (xs : List Placed). x ∷ xs)
    (other_stays old new p q offset bytes write placed.0 apart.0.ranges ∙ sym (cond-false _ _ _ other))
    (others_stay old new p offset bytes name held files write named apart.1 placed.3)

-- the written file, and those after it
first_written : (old new : Memory) (p : PlacedFile) (offset : ℕ) (bytes : List ℕ) (name : List ℕ) (files : List PlacedFile)
    → IsWrite old new p offset bytes → bytes_eq p.name name ≡ true → ArePlaced old.top (p ∷ files)
    → files_in new (p ∷ files) ≡ placed_with (files_in old (p ∷ files)) name (put_at (bytes_at old p.place p.size) offset bytes)
first_written old new p offset bytes name files write named placed =
    ap₂ (λ (x : Placed) (xs : List Placed). x ∷ xs)
    (ap (λ held. record { name = p.name; place = p.place; bytes = held })
    (written old new p.place p.size offset bytes write.puts placed.0 write.within) ∙ sym (cond-true _ _ _ named))
    (others_stay old new p offset bytes name _ files write (same_text p.name name named) placed.2 placed.3)

-- a write inside the file of a name gives that file other bytes
pub file_written : (old new : Memory) (placed : List PlacedFile) (name : List ℕ) (p : PlacedFile) (offset : ℕ) (bytes : List ℕ)
    → placed_named placed name ≡ Some p → ArePlaced old.top placed → IsWrite old new p offset bytes
    → files_in new placed ≡ placed_with (files_in old placed) name (put_at (bytes_at old p.place p.size) offset bytes)
file_written old new [] name p offset bytes found placed write = absurd (none-some p found)
file_written old new (q ∷ files) name p offset bytes found placed write =
    elim (cases_Bool (bytes_eq q.name name)) as (λ _. files_in new (q ∷ files)
    ≡ placed_with (files_in old (q ∷ files)) name (put_at (bytes_at old p.place p.size) offset bytes)) [
      | inl named ↦
          let is : q ≡ p = same_Some q p (sym (cond-true _ _ _ named) ∙ found) in
          subst (λ (r : PlacedFile). IsWrite old new r offset bytes → files_in new (q ∷ files)
          ≡ placed_with (files_in old (q ∷ files)) name (put_at (bytes_at old r.place r.size) offset bytes)) is
          (λ write. first_written old new q offset bytes name files write named placed) write
      | inr other ↦
          let later : placed_named files name ≡ Some p = sym (cond-false _ _ _ other) ∙ found in
          let apart : AreApart q p = of_found (AreApart q) (λ (r : PlacedFile). bytes_eq r.name name) files p later placed.2 in
          let turned : (p.place + p.size ≤ q.place) ⊎ (q.place + q.size ≤ p.place) = elim apart.ranges as (λ _. (p.place + p.size ≤ q.place)
          ⊎ (q.place + q.size ≤ p.place)) [ inl l ↦ inr l | inr l ↦ inl l ] in
          ap₂ (λ (x : Placed) (xs : List Placed). x ∷ xs)
          (other_stays old new p q offset bytes write placed.0 turned ∙ sym (cond-false _ _ _ other))
          (file_written old new files name p offset bytes later placed.3 write)
    ]

-- other bytes stay
pub stays_written : (old new : Memory) (placed : List PlacedFile) (name : List ℕ) (p : PlacedFile) (offset : ℕ) (bytes : List ℕ)
    → placed_named placed name ≡ Some p → IsWrite old new p offset bytes → Stays old new placed placed
stays_written old new placed name p offset bytes found write = record {
  top = write.puts.top;
  fill = write.puts.fill;
  others = λ a ram beside.
      let ram_before : IsRam old.top a = subst (λ top. IsRam top a) write.puts.top ram in
      let within = write.within in
      let outside : (a < p.place + offset) ⊎ (p.place + offset + length bytes ≤ a) =
      elim (of_found (IsBeside a) (λ (q : PlacedFile). bytes_eq q.name name) placed p found beside) as (λ _. (a < p.place + offset)
      ⊎ (p.place + offset + length bytes ≤ a)) [ inl before ↦ inl (omega arith) | inr after ↦ inr (omega arith) ] in
      (beside, write.puts.elsewhere a ram_before outside);
}
