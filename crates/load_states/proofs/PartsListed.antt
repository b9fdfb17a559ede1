-- What the entries in a part of a directory list.
use Rattle.std.proofs.Common.{◌≡◌, ℕ, zero, suc, ◌+◌, ◌*◌, ◌≤◌, List, [], ◌∷◌, ◌++◌, length, map, take, drop}
use Rattle.std.proofs.Common.{arith, refl, sym, ap, ap₂, subst, ◌∙◌}
use Rattle.std.specs.List.{AllByRecursion}
use Rattle.std.proofs.lemmas.List.{take-take, take_at, drop_at, take_all, drop-take, drop-drop, length-drop, length-map}
use Rattle.vt_outside.specs.Name.{IsName}
use Rattle.vt_bytes.specs.Numbers.{be_bytes}
use Rattle.vt_bytes.specs.Parts.{part}
use Rattle.vt_layout.specs.Reading.{read_number, read_name}
use Rattle.vt_layout.proofs.InBytes.{number_read, name_read}
use Rattle.cfg_directory.specs.declared.item.Item.{Item}
use Rattle.cfg_directory.specs.declared.listed.Listed.{Listed}
use Rattle.cfg_directory.specs.Items.{IsItems, entry_rows, directory_of}
use Rattle.cfg_directory.specs.Listing.{listed_by, entry_says, listed_in, listed_of, entries_of}
use Rattle.cfg_directory.proofs.Entries.{IsSaid, AreSaid, said, AreSaid-from_entries}
use Rattle.cfg_directory.proofs.Written.{are_entries}
use Rattle.cfg_directory.proofs.Listings.{read_is_listed, directory_is}

-- ---- lists

-- the elements after the first so many stand behind those
take_on : {A : Type 0} (k n : ℕ) (xs : List A) → take k xs ++ take n (drop k xs) ≡ take (k + n) xs
take_on zero n xs = ap (λ m. take m xs) (omega arith)
take_on (suc k) n [] = take_all n [] (omega arith) ∙ sym (take_all (suc k + n) [] (omega arith))
take_on (suc k) n (x ∷ xs) =
    let more : suc k + n ≡ suc (k + n) = omega arith in
    ap (λ rest. x ∷ rest) (take_on k n xs) ∙ sym (ap (λ m. take m (x ∷ xs)) more)

-- ---- entries

-- what bytes list is told by the first 64 of them
same_entry : (bytes others : List ℕ) → take 64 bytes ≡ take 64 others → entry_says bytes ≡ entry_says others
same_entry bytes others same =
    let rows = entry_rows 0 0 [] in
    ap (λ (entry : List ℕ). listed_by (read_number 0 rows entry) (read_number 1 rows entry) (read_name 3 rows entry)) same

-- bytes list what their first entry says
first_listed : (bytes entry : List ℕ) (one : Listed) → IsSaid entry one → take 64 bytes ≡ entry → entry_says bytes ≡ one ∷ []
first_listed bytes entry one is front =
    let rows = entry_rows one.size one.select one.name in
    same_entry bytes entry (front ∙ sym (take_all 64 entry (omega (arith, is.size))))
    ∙ read_is_listed entry one is.size (number_read entry rows 0 4 is.rows refl) (number_read entry rows 1 2 is.rows refl)
    (name_read entry rows 3 is.rows tt)

-- the first so many entries list the first so many files
front_listed : (listed : List Listed) (bytes : List ℕ) (n : ℕ) → AreSaid bytes listed → n ≤ length listed
    → listed_in n (take (64 * n) bytes) ≡ take n listed
front_listed [] bytes zero are within = refl
front_listed (one ∷ listed) bytes zero are within = refl
front_listed [] bytes (suc n) are within = absurd (omega arith)
front_listed (one ∷ listed) bytes (suc n) are within =
    let entry = are.0 in
    let rest = are.1 in
    let most : 64 * suc n ≡ 64 + 64 * n = omega arith in
    let front : take 64 (take (64 * suc n) bytes) ≡ entry =
    take-take 64 (64 * suc n) bytes (omega arith) ∙ ap (take 64) are.2 ∙ take_at entry rest 64 are.3.size in
    let back : drop 64 (take (64 * suc n) bytes) ≡ take (64 * n) rest =
    ap (λ k. drop 64 (take k bytes)) most ∙ drop-take 64 (64 * n) bytes
    ∙ ap (take (64 * n)) (ap (drop 64) are.2 ∙ drop_at entry rest 64 are.3.size) in
    ap₂ (λ (l m : List Listed). l ++ m) (first_listed (take (64 * suc n) bytes) entry one are.3 front)
    (ap (listed_in n) back ∙ front_listed listed rest n are.4 (omega arith))

-- the entries after the first so many say what the others do
later_said : (listed : List Listed) (bytes : List ℕ) (k : ℕ) → AreSaid bytes listed → k ≤ length listed
    → AreSaid (drop (64 * k) bytes) (drop k listed)
later_said [] bytes zero are within = are
later_said (one ∷ listed) bytes zero are within = are
later_said [] bytes (suc k) are within = absurd (omega arith)
later_said (one ∷ listed) bytes (suc k) are within =
    let entry = are.0 in
    let rest = are.1 in
    let most : 64 * suc k ≡ 64 + 64 * k = omega arith in
    let back : drop (64 * suc k) bytes ≡ drop (64 * k) rest =
    ap (λ n. drop n bytes) most ∙ sym (drop-drop (64 * k) 64 bytes)
    ∙ ap (drop (64 * k)) (ap (drop 64) are.2 ∙ drop_at entry rest 64 are.3.size) in
    subst (λ (b : List ℕ). AreSaid b (drop k listed)) (sym back) (later_said listed rest k are.4 (omega arith))

-- as many entries are left
length_left : {A : Type 0} (xs : List A) (k n : ℕ) → k + n ≤ length xs → n ≤ length (drop k xs)
length_left xs k n within = omega (arith, length-drop k xs)

-- so many entries after the first so many list the files that come next
next_listed : (items : List Item) (k n : ℕ) → IsItems items → AllByRecursion (λ (item : Item). IsName item.name) items → k + n ≤ length items
    → listed_in n (part (entries_of items) (64 * k) (64 * n)) ≡ take n (drop k (listed_of items))
next_listed items k n lawful names within =
    let entries = are_entries items names lawful.distinct (omega (arith, lawful.small)) in
    let are = AreSaid-from_entries items (entries_of items) entries in
    let size : length (map said items) ≡ length items = length-map items said in
    front_listed (drop k (map said items)) (drop (64 * k) (entries_of items)) n
    (later_said (map said items) (entries_of items) k are (omega arith)) (length_left (map said items) k n (omega arith))

-- a part of the directory behind the number of files is one of its entries
entries_part : (items : List Item) (start count : ℕ) → part (directory_of items) (4 + start) count ≡ part (entries_of items) start count
entries_part items start count =
    let front = be_bytes 4 (length items) in
    ap (λ bytes. take count bytes)
    (sym (drop-drop start 4 (directory_of items)) ∙ ap (λ bytes. drop start (drop 4 bytes)) (directory_is items)
    ∙ ap (drop start) (drop_at front (entries_of items) 4 refl))

-- The files that were listed so far, and those that so many more entries of the directory list, are the first ones.
pub listed_more : (items : List Item) (k n : ℕ) → IsItems items → AllByRecursion (λ (item : Item). IsName item.name) items → k + n ≤ length items
    → take k (listed_of items) ++ listed_in n (part (directory_of items) (4 + 64 * k) (64 * n)) ≡ take (k + n) (listed_of items)
listed_more items k n lawful names within =
    ap (λ (more : List Listed). take k (listed_of items) ++ more)
    (ap (listed_in n) (entries_part items (64 * k) (64 * n)) ∙ next_listed items k n lawful names within)
    ∙ take_on k n (listed_of items)
