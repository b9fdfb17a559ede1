-- Each part of a container is judged once it is there whole, so a fault other than an early end stays, whatever follows.
use Rattle.std.proofs.Common.{◌≡◌, ℕ, zero, suc, ◌+◌, ◌*◌, ◌<◌, ◌≤◌, Bool, true, false, cond, ltb, List, [], ◌∷◌, ◌++◌, length, take, drop, Result, Ok, Err}
use Rattle.std.proofs.Common.{arith, refl, sym, ap₂, ◌∙◌, inl, inr}
use Rattle.std.proofs.lemmas.Bool.{cases_lt, ltb-false, le-ltb, lt-ltb, cond-true, cond-false}
use Rattle.std.proofs.lemmas.List.{take-append-le, drop-append-le, length-append, length-drop}
use Rattle.vt_outside.specs.Readings.{◌into◌}
use Rattle.vt_bytes.specs.Numbers.{be}
use Rattle.cfg_directory.specs.declared.item.Item.{Item}
use Rattle.cfg_directory.specs.declared.listed.Listed.{Listed}
use Rattle.cfg_directory.specs.declared.container.ImageFault.{ImageFault}
use Rattle.cfg_directory.specs.declared.container.ImageFault.TheVariants.{Truncated, TooMany}
use Rattle.cfg_directory.specs.declared.container.ImageFault.TheVariants.{TrailingBytes, TooLarge}
use Rattle.cfg_directory.specs.Items.{file_limit, bytes_limit}
use Rattle.cfg_directory.specs.Container.{items_so, entry_so, directory_so, flags_so, contents_so, flagged_so, counted_so, read_so}
use Rattle.cfg_directory.proofs.Contents.{sizes}

-- ---- parts that are there whole, and parts that aren't

pub counted : (bytes : List ℕ) → 4 ≤ length bytes → read_so bytes ≡ counted_so (be (take 4 bytes)) (drop 4 bytes)
unfolding read_so
counted bytes long = cond-false (ltb (length bytes) 4) _ _ (le-ltb (length bytes) 4 long)

pub too_many : (n : ℕ) (bytes : List ℕ) → file_limit < n → counted_so n bytes ≡ Err TooMany
unfolding counted_so
too_many n bytes many = cond-true (ltb file_limit n) _ _ (lt-ltb file_limit n many)

pub entered : (n : ℕ) (bytes : List ℕ) → n ≤ file_limit → 64 * n ≤ length bytes
    → counted_so n bytes ≡ (directory_so n 0 [] bytes into (λ listed. flagged_so n listed (drop (64 * n) bytes)))
unfolding counted_so
entered n bytes few long =
    cond-false (ltb file_limit n) _ _ (le-ltb file_limit n few) ∙ cond-false (ltb (length bytes) (64 * n)) _ _ (le-ltb (length bytes) (64 * n) long)

pub flagged : (n : ℕ) (listed : List Listed) (bytes : List ℕ) → n ≤ length bytes
    → flagged_so n listed bytes ≡ (flags_so 0 (take n bytes) into (λ flags. contents_so listed flags (drop n bytes)))
unfolding flagged_so
flagged n listed bytes long = cond-false (ltb (length bytes) n) _ _ (le-ltb (length bytes) n long)

-- what follows a step may be replaced
bind_same : {A B : Type 0} (step : Result A ImageFault) {f g : A → Result B ImageFault} → ((x : A) → f x ≡ g x) → (step into f) ≡ (step into g)
bind_same (Ok x) same = same x
bind_same (Err fault) same = refl

-- the entries of bytes are those of their front that is long enough
pub directory-append : (n index : ℕ) (before : List Listed) (bytes rest : List ℕ) → 64 * n ≤ length bytes
    → directory_so n index before (bytes ++ rest) ≡ directory_so n index before bytes
unfolding directory_so
directory-append zero index before bytes rest long = refl
directory-append (suc n) index before bytes rest long =
    let one : 64 ≤ length bytes = omega arith in
    let others : 64 * n ≤ length (drop 64 bytes) = omega (arith, length-drop 64 bytes) in
    ap₂ (λ (entry after : List ℕ). entry_so index before entry into (λ listed. directory_so n (index + 1) (before ++ listed ∷ []) after))
    (take-append-le 64 bytes rest one) (drop-append-le 64 bytes rest one)
    ∙ bind_same (entry_so index before (take 64 bytes)) (λ listed. directory-append n (index + 1) (before ++ listed ∷ []) (drop 64 bytes) rest others)

-- ---- a fault stays

abbrev Stays : Result (List Item) ImageFault → Result (List Item) ImageFault → Type 0
Stays short long = (fault : ImageFault) → (fault ≡ Truncated → ⊥) → short ≡ Err fault → long ≡ Err fault

-- a step that is the same, and what follows it
stays_behind : {A : Type 0} (step : Result A ImageFault) {f g : A → Result (List Item) ImageFault} → ((x : A) → Stays (f x) (g x))
    → Stays (step into f) (step into g)
stays_behind (Ok x) stays = stays x
stays_behind (Err other) stays = λ fault late is. is

-- a test that is the same
same_test : (test : Bool) (refusal : ImageFault) (short long : Result (List Item) ImageFault) → Stays short long
    → Stays (cond test (Err refusal) short) (cond test (Err refusal) long)
same_test true refusal short long stays = λ fault late is. is
same_test false refusal short long stays = stays

-- a part that isn't there is no fault that stays
part_there : (test : Bool) (short long : Result (List Item) ImageFault) → (test ≡ false → Stays short long)
    → Stays (cond test (Err Truncated) short) long
part_there true short long stays = λ fault late is.
    let same : fault ≡ Truncated = cc in
    absurd (late same)
part_there false short long stays = stays refl

contents_stay : (listed : List Listed) (flags : List Bool) (bytes rest : List ℕ)
    → Stays (contents_so listed flags bytes) (contents_so listed flags (bytes ++ rest))
unfolding contents_so
contents_stay listed flags bytes rest =
    let total = sizes listed in
    let all : List ℕ → Result (List Item) ImageFault = λ (b : List ℕ). Ok (items_so listed flags b) in
    let exact : List ℕ → Result (List Item) ImageFault = λ (b : List ℕ). cond (ltb total (length b)) (Err TrailingBytes) (all b) in
    let due : List ℕ → Result (List Item) ImageFault = λ (b : List ℕ). cond (ltb (length b) total) (Err Truncated) (exact b) in
    same_test (ltb bytes_limit total) TooLarge (due bytes) (due (bytes ++ rest))
    (part_there (ltb (length bytes) total) (exact bytes) (due (bytes ++ rest)) (λ there.
    elim (cases_lt total (length bytes)) as (λ _. Stays (exact bytes) (due (bytes ++ rest))) [
      | inl over ↦ λ fault late is.
          let trailing : exact bytes ≡ Err TrailingBytes = cond-true (ltb total (length bytes)) _ _ (lt-ltb total (length bytes) over) in
          let long : total < length (bytes ++ rest) = omega (arith, length-append bytes rest) in
          cond-false (ltb (length (bytes ++ rest)) total) _ _ (le-ltb (length (bytes ++ rest)) total (omega arith))
          ∙ cond-true (ltb total (length (bytes ++ rest))) _ _ (lt-ltb total (length (bytes ++ rest)) long)
          ∙ sym trailing ∙ is
      | inr within ↦ λ fault late is.
          let none : exact bytes ≡ all bytes = cond-false (ltb total (length bytes)) _ _ (le-ltb total (length bytes) within) in
          absurd cc
    ]))

flagged_stay : (n : ℕ) (listed : List Listed) (bytes rest : List ℕ) → Stays (flagged_so n listed bytes) (flagged_so n listed (bytes ++ rest))
unfolding flagged_so
flagged_stay n listed bytes rest =
    let next : List ℕ → Result (List Item) ImageFault = λ (b : List ℕ). flags_so 0 (take n b) into (λ flags. contents_so listed flags (drop n b)) in
    part_there (ltb (length bytes) n) (next bytes) (flagged_so n listed (bytes ++ rest)) (λ there.
    let long : n ≤ length bytes = ltb-false (length bytes) n there in
    let split : flagged_so n listed (bytes ++ rest) ≡ (flags_so 0 (take n bytes) into (λ flags. contents_so listed flags (drop n bytes ++ rest))) =
    flagged n listed (bytes ++ rest) (omega (arith, length-append bytes rest))
    ∙ ap₂ (λ (front after : List ℕ). flags_so 0 front into (λ flags. contents_so listed flags after)) (take-append-le n bytes rest long)
    (drop-append-le n bytes rest long) in
    λ fault late is. split ∙ stays_behind (flags_so 0 (take n bytes)) (λ flags. contents_stay listed flags (drop n bytes) rest) fault late is)

counted_stay : (n : ℕ) (bytes rest : List ℕ) → Stays (counted_so n bytes) (counted_so n (bytes ++ rest))
unfolding counted_so
counted_stay n bytes rest =
    let next : List ℕ → Result (List Item) ImageFault = λ (b : List ℕ). directory_so n 0 [] b into (λ listed. flagged_so n listed (drop (64 * n) b)) in
    let due : List ℕ → Result (List Item) ImageFault = λ (b : List ℕ). cond (ltb (length b) (64 * n)) (Err Truncated) (next b) in
    same_test (ltb file_limit n) TooMany (due bytes) (due (bytes ++ rest))
    (part_there (ltb (length bytes) (64 * n)) (next bytes) (due (bytes ++ rest)) (λ there.
    let long : 64 * n ≤ length bytes = ltb-false (length bytes) (64 * n) there in
    let split : due (bytes ++ rest) ≡ (directory_so n 0 [] bytes into (λ listed. flagged_so n listed (drop (64 * n) bytes ++ rest))) =
    cond-false (ltb (length (bytes ++ rest)) (64 * n)) _ _ (le-ltb (length (bytes ++ rest)) (64 * n) (omega (arith, length-append bytes rest)))
    ∙ ap₂ (λ (read : Result (List Listed) ImageFault) (after : List ℕ). read into (λ listed. flagged_so n listed after))
    (directory-append n 0 [] bytes rest long) (drop-append-le (64 * n) bytes rest long) in
    λ fault late is. split ∙ stays_behind (directory_so n 0 [] bytes) (λ listed. flagged_stay n listed (drop (64 * n) bytes) rest) fault late is))

-- a fault other than an early end stays, whatever follows
pub fault_stays : (bytes rest : List ℕ) (fault : ImageFault) → (fault ≡ Truncated → ⊥) → read_so bytes ≡ Err fault → read_so (bytes ++ rest) ≡ Err fault
unfolding read_so
fault_stays bytes rest =
    part_there (ltb (length bytes) 4) (counted_so (be (take 4 bytes)) (drop 4 bytes)) (read_so (bytes ++ rest)) (λ there.
    let long : 4 ≤ length bytes = ltb-false (length bytes) 4 there in
    let split : read_so (bytes ++ rest) ≡ counted_so (be (take 4 bytes)) (drop 4 bytes ++ rest) =
    counted (bytes ++ rest) (omega (arith, length-append bytes rest))
    ∙ ap₂ (λ (front after : List ℕ). counted_so (be front) after) (take-append-le 4 bytes rest long) (drop-append-le 4 bytes rest long) in
    λ fault late is. split ∙ counted_stay (be (take 4 bytes)) (drop 4 bytes) rest fault late is)
