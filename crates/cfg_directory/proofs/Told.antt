-- What is told of bytes that were fed at once: the items that are contained, or the fault of reading.
use Rattle.std.proofs.Common.{◌≡◌, ℕ, List, [], Result, Ok, Err, sym, ap, subst, ◌∙◌, inl, inr}
use Rattle.std.specs.Prelude.{IfOk, ◌⊎◌}
use Rattle.vt_outside.specs.Readings.{Agrees}
use Rattle.cfg_directory.specs.declared.item.Item.{Item}
use Rattle.cfg_directory.specs.declared.container.ImageFault.{ImageFault}
use Rattle.cfg_directory.specs.declared.container.ImageFault.TheVariants.{Truncated, OutOfMemory}
use Rattle.cfg_directory.specs.Container.{IsContainer, HasEntries, read_so, reported}
use Rattle.cfg_directory.specs.Fed.{Fed, Takes, IsFed, judged_by, answer_of, finished}
use Rattle.cfg_directory.proofs.Refusals.{reading_there}
use Rattle.cfg_directory.proofs.Containers.{contained_is_read, read_is_contained}

-- bytes that were taken
by_taken : (bytes : List ℕ) (read : Result (List Item) ImageFault) (after : Fed) → after ≡ judged_by bytes read → Ok tt ≡ answer_of after
    → after ≡ Takes bytes
by_taken bytes (Ok items) after is told = is
by_taken bytes (Err Truncated) after is told = is
by_taken bytes (Err fault) after is told =
    let said = told ∙ ap answer_of is in
    absurd cc

were_taken : (bytes : List ℕ) (after : Fed) → IsFed (Takes []) bytes after → Ok tt ≡ answer_of after → after ≡ Takes bytes
were_taken bytes after (inl is) told = by_taken bytes (read_so bytes) after is told
were_taken bytes after (inr (lack, entries)) told =
    let said = told ∙ ap answer_of lack in
    absurd cc

-- bytes that were refused
abbrev IsTold : List ℕ → ImageFault → Type 0
IsTold bytes fault = (read_so bytes ≡ Err fault) ⊎ ((fault ≡ OutOfMemory) × HasEntries bytes)

by_refused : (bytes : List ℕ) (read : Result (List Item) ImageFault) (after : Fed) (fault : ImageFault) → after ≡ judged_by bytes read
    → Err fault ≡ answer_of after → read ≡ Err fault
by_refused bytes (Ok items) after fault is told =
    let said = told ∙ ap answer_of is in
    absurd cc
by_refused bytes (Err Truncated) after fault is told =
    let said = told ∙ ap answer_of is in
    absurd cc
by_refused bytes (Err other) after fault is told =
    let said = told ∙ ap answer_of is in
    let same : other ≡ fault = cc in
    ap (λ f. Err f) same

were_refused : (bytes : List ℕ) (after : Fed) (fault : ImageFault) → IsFed (Takes []) bytes after → Err fault ≡ answer_of after → IsTold bytes fault
were_refused bytes after fault (inl is) told = inl (by_refused bytes (read_so bytes) after fault is told)
were_refused bytes after fault (inr (lack, entries)) told =
    let said = told ∙ ap answer_of lack in
    let same : fault ≡ OutOfMemory = cc in
    inr (same, entries)

-- ---- what is answered

-- that is what reading gives
pub record IsRead (bytes : List ℕ) (result : Result (List Item) ImageFault) : Type 0 where
  pub found : IfOk result (λ items. IsContainer bytes items)
  pub only : (items : List Item) → IsContainer bytes items → Agrees reported (λ (read : List Item). read) result (Ok items)
  pub exact : Agrees reported (λ (read : List Item). read) result (read_so bytes)
  pub no_memory : result ≡ Err OutOfMemory → HasEntries bytes

gives_itself : (result read : Result (List Item) ImageFault) → read ≡ result → Agrees reported (λ (items : List Item). items) result read
gives_itself (Ok items) read is = is
gives_itself (Err OutOfMemory) read is = tt
gives_itself (Err fault) read is = is

found_in : (bytes : List ℕ) (result : Result (List Item) ImageFault) → read_so bytes ≡ result → IfOk result (λ items. IsContainer bytes items)
found_in bytes (Ok items) is = read_is_contained bytes items is
found_in bytes (Err fault) is = tt

IsRead-from : (bytes : List ℕ) (result : Result (List Item) ImageFault) → read_so bytes ≡ result → IsRead bytes result
IsRead-from bytes result is = record {
  found = found_in bytes result is;
  only = λ items contains. gives_itself result (Ok items) (sym (contained_is_read bytes items contains) ∙ is);
  exact = gives_itself result (read_so bytes) is;
  no_memory = λ lacks. absurd (reading_there bytes (is ∙ lacks));
}

IsRead-told : (bytes : List ℕ) (fault : ImageFault) → IsTold bytes fault → IsRead bytes (Err fault)
IsRead-told bytes fault (inl is) = IsRead-from bytes (Err fault) is
IsRead-told bytes fault (inr (lack, entries)) = subst (λ f. IsRead bytes (Err f)) (sym lack) (record {
  found = tt;
  only = λ items contains. tt;
  exact = tt;
  no_memory = λ lacks. entries;
})

-- the same of a reader that was fed nothing before
pub read_whole : (before : Fed) (bytes : List ℕ) (after : Fed) (result : Result (List Item) ImageFault) → before ≡ Takes [] → IsFed before bytes after
    → Ok tt ≡ answer_of after → result ≡ finished after → IsRead bytes result
read_whole before bytes after result new fed told is =
    let taken = were_taken bytes after (subst (λ (b : Fed). IsFed b bytes after) new fed) told in
    IsRead-from bytes result (sym (is ∙ ap finished taken))

pub read_refused : (before : Fed) (bytes : List ℕ) (after : Fed) (fault : ImageFault) → before ≡ Takes [] → IsFed before bytes after
    → Err fault ≡ answer_of after → IsRead bytes (Err fault)
read_refused before bytes after fault new fed told =
    IsRead-told bytes fault (were_refused bytes after fault (subst (λ (b : Fed). IsFed b bytes after) new fed) told)
