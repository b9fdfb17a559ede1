-- A head, part by part: what lacks, and what the parts say that are there.
use Rattle.std.proofs.Common.{◌≡◌, ℕ, ◌+◌, ◌*◌, ◌<◌, ◌≤◌, Bool, ltb, List, [], ◌++◌, length, take, drop, Result, Ok, Err}
use Rattle.std.proofs.Common.{arith, sym, ap, ap₂, subst, ◌∙◌, inl}
use Rattle.std.proofs.lemmas.Bool.{lt-ltb, le-ltb, cond-true, cond-false}
use Rattle.std.proofs.lemmas.List.{append-nil, take-append-le, drop-append-le, take_at, drop_at, take_all, drop-drop, length-append, length-drop}
use Rattle.vt_outside.specs.Readings.{◌into◌, Agrees}
use Rattle.vt_bytes.specs.Numbers.{be}
use Rattle.cfg_directory.specs.declared.listed.Listed.{Listed}
use Rattle.cfg_directory.specs.declared.container.ImageFault.{ImageFault}
use Rattle.cfg_directory.specs.declared.container.ImageFault.TheVariants.{Truncated, TrailingBytes, TooLarge}
use Rattle.cfg_directory.specs.Items.{bytes_limit}
use Rattle.cfg_directory.specs.Container.{HasEntries, directory_so, flags_so, items_so, contents_so, flagged_so, counted_so, read_so, reported}
use Rattle.cfg_directory.specs.Parts.{directory_at, flags_at}
use Rattle.cfg_directory.specs.Held.{HasCount, HasListed, Opens, IsRefusal, sizes_of}
use Rattle.cfg_directory.proofs.Entries.{entries_said}
use Rattle.cfg_directory.proofs.Parts.{directory_at-long, flags_at-long}
use Rattle.cfg_directory.proofs.Fronts.{short_entries, short_flags}
use Rattle.cfg_directory.proofs.Faults.{counted, entered, flagged, directory-append}
use Rattle.cfg_directory.proofs.Refusals.{refused, judged_fault, directory_there, flags_there}

-- the number of files is read
pub counts : (head : List ℕ) (count : ℕ) → HasCount head count → read_so head ≡ counted_so count (drop 4 head)
counts head count has = counted head has.there ∙ ap (λ n. counted_so n (drop 4 head)) has.is

pub entries_lack : (head : List ℕ) (count : ℕ) → HasCount head count → length head < 4 + 64 * count → read_so head ≡ Err Truncated
entries_lack head count has short =
    counts head count has ∙ short_entries count (drop 4 head) has.few (omega (arith, length-drop 4 head, has.there))

-- a step that gives more with its value
abbrev paired : {A B : Type 0} → B → A → Result (A × B) ImageFault
paired b a = Ok (a, b)

abbrev first : {A B : Type 0} → A → Result (A × B) ImageFault → A
first other (Ok pair) = pair.0
first other (Err fault) = other

first_of : {A B : Type 0} (step : Result A ImageFault) (b : B) (x : A) (y : B) → (step into paired b) ≡ paired y x → step ≡ Ok x
first_of (Ok a) b x y is = ap (λ n. Ok n) (ap (first a) is)
first_of (Err fault) b x y is = absurd cc

fault_of : {A B : Type 0} (step : Result A ImageFault) (b : B) (fault : ImageFault) → (step into paired b) ≡ Err fault → step ≡ Err fault
fault_of (Ok a) b fault is = absurd cc
fault_of (Err other) b fault is =
    let same : other ≡ fault = cc in
    ap (λ f. Err f) same

-- ---- the entries

long_entries : (head : List ℕ) (count : ℕ) → 4 + 64 * count ≤ length head → 64 * count ≤ length (drop 4 head)
long_entries head count there = omega (arith, length-drop 4 head)

pub HasEntries-from : (head : List ℕ) (count : ℕ) → HasCount head count → 4 + 64 * count ≤ length head → HasEntries head
HasEntries-from head count has there =
    (has.there, omega (arith, has.is, has.few), omega (arith, has.is, long_entries head count there))

pub HasListed-from : (head : List ℕ) (count : ℕ) (listed : List Listed) (rest : List ℕ) → HasCount head count → 4 + 64 * count ≤ length head
    → directory_at count (drop 4 head) ≡ Ok (listed, rest) → HasListed head count listed
HasListed-from head count listed rest has there is = record {
  counted = has;
  there = there;
  says = first_of (directory_so count 0 [] (drop 4 head)) (drop (64 * count) (drop 4 head)) listed rest
      (sym (directory_at-long count (drop 4 head) (long_entries head count there)) ∙ is);
}

pub entries_refused : (head bytes : List ℕ) (count : ℕ) (fault : ImageFault) → HasCount head count
    → 4 + 64 * count ≤ length head → bytes ≡ drop 4 head
    → Agrees reported (λ (x : List Listed × List ℕ). x) (Err fault) (directory_at count bytes) → IsRefusal head fault
entries_refused head bytes count fault has there bytes_are told =
    let gives = subst (λ (b : List ℕ). Agrees reported (λ (x : List Listed × List ℕ). x) (Err fault) (directory_at count b)) bytes_are told in
    let long = long_entries head count there in
    let step = directory_so count 0 [] (drop 4 head) in
    let fails : (f : ImageFault) → directory_at count (drop 4 head) ≡ Err f → step ≡ Err f = λ f is.
    fault_of step (drop (64 * count) (drop 4 head)) f (sym (directory_at-long count (drop 4 head) long) ∙ is) in
    refused fault (directory_at count (drop 4 head)) head gives (λ is. directory_there Truncated tt count 0 [] (drop 4 head) (fails Truncated is))
    (λ f is. counts head count has ∙ entered count (drop 4 head) has.few long
    ∙ ap (λ read. read into (λ listed. flagged_so count listed (drop (64 * count) (drop 4 head)))) (fails f is))
    (HasEntries-from head count has there)

-- there are as many entries as files
pub listed_many : (head : List ℕ) (count : ℕ) (listed : List Listed) → HasListed head count listed → length listed ≡ count
listed_many head count listed has =
    let said = entries_said count 0 [] (drop 4 head) listed (long_entries head count has.there) has.says in
    ap length said.are ∙ said.as_many

-- what follows the entries
pub listed_says : (head : List ℕ) (count : ℕ) (listed : List Listed) (rest : List ℕ) → HasListed head count listed
    → read_so (head ++ rest) ≡ flagged_so count listed (drop (4 + 64 * count) head ++ rest)
listed_says head count listed rest has =
    let four = has.counted.there in
    let long = long_entries head count has.there in
    let behind : drop (64 * count) (drop 4 head) ≡ drop (4 + 64 * count) head =
    drop-drop (64 * count) 4 head in
    counted (head ++ rest) (omega (arith, length-append head rest))
    ∙ ap₂ (λ (front after : List ℕ). counted_so (be front) after) (take-append-le 4 head rest four) (drop-append-le 4 head rest four)
    ∙ ap (λ n. counted_so n (drop 4 head ++ rest)) has.counted.is
    ∙ entered count (drop 4 head ++ rest) has.counted.few (omega (arith, length-append (drop 4 head) rest))
    ∙ ap₂ (λ (read : Result (List Listed) ImageFault) (after : List ℕ). read into (λ l. flagged_so count l after))
    (directory-append count 0 [] (drop 4 head) rest long ∙ has.says) (drop-append-le (64 * count) (drop 4 head) rest long)
    ∙ ap (λ (after : List ℕ). flagged_so count listed (after ++ rest)) behind

-- the same where nothing follows
pub listed_alone : (head : List ℕ) (count : ℕ) (listed : List Listed) → HasListed head count listed
    → read_so head ≡ flagged_so count listed (drop (4 + 64 * count) head)
listed_alone head count listed has =
    sym (ap read_so (append-nil head)) ∙ listed_says head count listed [] has ∙ ap (flagged_so count listed) (append-nil (drop (4 + 64 * count) head))

pub flags_lack : (head : List ℕ) (count : ℕ) (listed : List Listed) → HasListed head count listed → length head < 4 + 65 * count
    → read_so head ≡ Err Truncated
flags_lack head count listed has short =
    listed_alone head count listed has
    ∙ short_flags count listed (drop (4 + 64 * count) head) (omega (arith, length-drop (4 + 64 * count) head, has.there))

-- ---- the flags

-- a whole head has as many flags as files
record Whole (head : List ℕ) (count : ℕ) : Type 0 where
  long : count ≤ length (drop (4 + 64 * count) head)
  all : take count (drop (4 + 64 * count) head) ≡ drop (4 + 64 * count) head

Whole-from : (head : List ℕ) (count : ℕ) → length head ≡ 4 + 65 * count → Whole head count
Whole-from head count size =
    let as_many : length (drop (4 + 64 * count) head) ≡ count = omega (arith, length-drop (4 + 64 * count) head) in
    record { long = omega arith; all = take_all count (drop (4 + 64 * count) head) (omega arith) }

pub flags_refused : (head bytes : List ℕ) (count : ℕ) (listed : List Listed) (fault : ImageFault)
    → HasListed head count listed → length head ≡ 4 + 65 * count → bytes ≡ drop (4 + 64 * count) head
    → Agrees reported (λ (x : List Bool × List ℕ). x) (Err fault) (flags_at count bytes) → IsRefusal head fault
flags_refused head bytes count listed fault has size bytes_are told =
    let gives = subst (λ (b : List ℕ). Agrees reported (λ (x : List Bool × List ℕ). x) (Err fault) (flags_at count b)) bytes_are told in
    let tail = drop (4 + 64 * count) head in
    let whole = Whole-from head count size in
    let step = flags_so 0 (take count tail) in
    let fails : (f : ImageFault) → flags_at count tail ≡ Err f → step ≡ Err f = λ f is.
    fault_of step (drop count tail) f (sym (flags_at-long count tail whole.long) ∙ is) in
    refused fault (flags_at count tail) head gives (λ is. flags_there Truncated tt 0 (take count tail) (fails Truncated is))
    (λ f is. listed_alone head count listed has ∙ flagged count listed tail whole.long
    ∙ ap (λ read. read into (λ flags. contents_so listed flags (drop count tail))) (fails f is))
    (HasEntries-from head count has.counted has.there)

-- what follows the flags
opens : (head : List ℕ) (count : ℕ) (listed : List Listed) (flags : List Bool) (after rest : List ℕ) → HasListed head count listed
    → length head ≡ 4 + 65 * count → flags_at count (drop (4 + 64 * count) head) ≡ Ok (flags, after)
    → read_so (head ++ rest) ≡ contents_so listed flags rest
opens head count listed flags after rest has size is =
    let tail = drop (4 + 64 * count) head in
    let whole = Whole-from head count size in
    let as_many : length tail ≡ count = omega (arith, length-drop (4 + 64 * count) head) in
    let said : flags_so 0 tail ≡ Ok flags =
    ap (flags_so 0) (sym whole.all) ∙ first_of (flags_so 0 (take count tail)) (drop count tail) flags after (sym (flags_at-long count tail whole.long) ∙ is) in
    listed_says head count listed rest has
    ∙ flagged count listed (tail ++ rest) (omega (arith, length-append tail rest))
    ∙ ap₂ (λ (front behind : List ℕ). flags_so 0 front into (λ bools. contents_so listed bools behind)) (take_at tail rest count as_many)
    (drop_at tail rest count as_many)
    ∙ ap (λ read. read into (λ bools. contents_so listed bools rest)) said

pub Opens-from : (head : List ℕ) (count : ℕ) (listed : List Listed) (flags : List Bool) (after : List ℕ) → HasListed head count listed
    → length head ≡ 4 + 65 * count → flags_at count (drop (4 + 64 * count) head) ≡ Ok (flags, after) → sizes_of listed ≤ bytes_limit
    → length flags ≡ length listed → Opens head listed flags
Opens-from head count listed flags after has size is small as_many = record {
  entries = HasEntries-from head count has.counted has.there;
  says = λ rest. opens head count listed flags after rest has size is;
  small = small;
  as_many = as_many;
}

-- ---- the sizes

too_large : (listed : List Listed) (flags : List Bool) (contents : List ℕ) → bytes_limit < sizes_of listed → contents_so listed flags contents ≡ Err TooLarge
unfolding contents_so
too_large listed flags contents large = cond-true (ltb bytes_limit (sizes_of listed)) _ _ (lt-ltb bytes_limit (sizes_of listed) large)

pub too_large_refused : (head : List ℕ) (count : ℕ) (listed : List Listed) (flags : List Bool) (after : List ℕ) → HasListed head count listed
    → length head ≡ 4 + 65 * count → flags_at count (drop (4 + 64 * count) head) ≡ Ok (flags, after) → bytes_limit < sizes_of listed
    → IsRefusal head TooLarge
too_large_refused head count listed flags after has size is large =
    inl (judged_fault head TooLarge
    (sym (ap read_so (append-nil head)) ∙ opens head count listed flags after [] has size is ∙ too_large listed flags [] large) (λ late. cc))

-- the files' bytes lack some, are all there, or are too many
pub contents_lack : (listed : List Listed) (flags : List Bool) (contents : List ℕ) → sizes_of listed ≤ bytes_limit → length contents < sizes_of listed
    → contents_so listed flags contents ≡ Err Truncated
unfolding contents_so
contents_lack listed flags contents small short =
    cond-false (ltb bytes_limit (sizes_of listed)) _ _ (le-ltb bytes_limit (sizes_of listed) small)
    ∙ cond-true (ltb (length contents) (sizes_of listed)) _ _ (lt-ltb (length contents) (sizes_of listed) short)

pub contents_whole : (listed : List Listed) (flags : List Bool) (contents : List ℕ) → sizes_of listed ≤ bytes_limit → length contents ≡ sizes_of listed
    → contents_so listed flags contents ≡ Ok (items_so listed flags contents)
unfolding contents_so
contents_whole listed flags contents small whole =
    cond-false (ltb bytes_limit (sizes_of listed)) _ _ (le-ltb bytes_limit (sizes_of listed) small)
    ∙ cond-false (ltb (length contents) (sizes_of listed)) _ _ (le-ltb (length contents) (sizes_of listed) (omega arith))
    ∙ cond-false (ltb (sizes_of listed) (length contents)) _ _ (le-ltb (sizes_of listed) (length contents) (omega arith))

pub contents_over : (listed : List Listed) (flags : List Bool) (contents : List ℕ) → sizes_of listed ≤ bytes_limit → sizes_of listed < length contents
    → contents_so listed flags contents ≡ Err TrailingBytes
unfolding contents_so
contents_over listed flags contents small over =
    cond-false (ltb bytes_limit (sizes_of listed)) _ _ (le-ltb bytes_limit (sizes_of listed) small)
    ∙ cond-false (ltb (length contents) (sizes_of listed)) _ _ (le-ltb (length contents) (sizes_of listed) (omega arith))
    ∙ cond-true (ltb (sizes_of listed) (length contents)) _ _ (lt-ltb (sizes_of listed) (length contents) over)
