-- What entries list, and that the entries of items list the items.
use Rattle.std.proofs.Common.{◌≡◌, ℕ, suc, ◌+◌, ◌-◌, ◌*◌, ◌<◌, ◌≤◌, List, [], ◌∷◌, ◌++◌, length, map, take, drop, Result, Ok, Err}
use Rattle.std.proofs.Common.{arith, refl, sym, ap, ap₂, ◌∙◌, append_assoc}
use Rattle.std.proofs.lemmas.List.{append-nil, take_at, drop_at, take_all, take-take, length-append, length-map}
use Rattle.std.specs.List.{AllByRecursion}
use Rattle.vt_outside.specs.Name.{IsName}
use Rattle.vt_outside.specs.declared.name.NameFault.{NameFault}
use Rattle.vt_bytes.specs.Numbers.{be, be_bytes}
use Rattle.vt_layout.specs.Rows.{IsRow}
use Rattle.vt_layout.proofs.Sizes.{length-spelled}
use Rattle.vt_layout.proofs.InBytes.{number_read, name_read}
use Rattle.cfg_directory.specs.declared.item.Item.{Item}
use Rattle.cfg_directory.specs.declared.listed.Listed.{Listed}
use Rattle.cfg_directory.specs.Items.{IsItems, entry_rows, entry_bytes, directory_of}
use Rattle.cfg_directory.specs.Listing.{listed_by, entry_says, listed_in, listed_of, entries_of}
use Rattle.cfg_directory.proofs.Entries.{IsSaid, AreSaid, said, size_in, select_in, name_in, AreSaid-from_entries}
use Rattle.cfg_directory.proofs.Written.{AreNamed, are_entries, be-bytes_4}

-- ---- one entry

-- what an entry of just its 64 bytes lists
abbrev lists : List ℕ → List Listed
lists entry = listed_by (size_in entry) (select_in entry) (name_in entry)

-- an entry lists what its fields say
fields_listed : (entry : List ℕ) (listed : Listed) → size_in entry ≡ listed.size → select_in entry ≡ listed.select → name_in entry ≡ Ok listed.name
    → lists entry ≡ listed ∷ []
fields_listed entry listed size select name =
    ap (λ (n : ℕ). listed_by n (select_in entry) (name_in entry)) size
    ∙ ap (λ (n : ℕ). listed_by listed.size n (name_in entry)) select
    ∙ ap (λ (r : Result (List ℕ) NameFault). listed_by listed.size listed.select r) name

-- the same of 64 bytes
pub read_is_listed : (entry : List ℕ) (listed : Listed) → length entry ≡ 64 → size_in entry ≡ listed.size → select_in entry ≡ listed.select
    → name_in entry ≡ Ok listed.name → entry_says entry ≡ listed ∷ []
read_is_listed entry listed long size select name =
    ap lists (take_all 64 entry (omega arith)) ∙ fields_listed entry listed size select name

-- 64 bytes whose name is none list nothing
pub none_is_listed : (entry : List ℕ) (fault : NameFault) → length entry ≡ 64 → name_in entry ≡ Err fault → entry_says entry ≡ []
none_is_listed entry fault long name =
    ap lists (take_all 64 entry (omega arith))
    ∙ ap (λ (r : Result (List ℕ) NameFault). listed_by (size_in entry) (select_in entry) r) name

-- a list with nothing behind it
pub nothing_more : (before more : List Listed) → more ≡ [] → before ≡ before ++ more
nothing_more before more none = sym (ap (λ (m : List Listed). before ++ m) none ∙ append-nil before)

-- ---- one entry after the other

-- the files that are left to be read stand behind those that were
pub one_more_read : (count index : ℕ) (before now all : List Listed) (rest entry after : List ℕ) → index < count → entry ≡ take 64 rest
    → after ≡ drop 64 rest → now ≡ before ++ entry_says entry → before ++ listed_in (count - index) rest ≡ all
    → now ++ listed_in (count - (index + 1)) after ≡ all
one_more_read count index before now all rest entry after more front back read so_far =
    let left = count - (index + 1) in
    let due : count - index ≡ suc left = omega arith in
    let same : entry_says entry ≡ entry_says rest = ap entry_says front ∙ ap lists (take-take 64 64 rest (omega arith)) in
    ap₂ (λ (l : List Listed) (b : List ℕ). l ++ listed_in left b) (read ∙ ap (λ (l : List Listed). before ++ l) same) back
    ∙ append_assoc before (entry_says rest) (listed_in left (drop 64 rest))
    ∙ ap (λ (n : ℕ). before ++ listed_in n rest) (sym due)
    ∙ so_far

-- none is left
pub all_read : (count index : ℕ) (before all : List Listed) (rest : List ℕ) → count ≤ index → before ++ listed_in (count - index) rest ≡ all → before ≡ all
all_read count index before all rest over so_far =
    let none : count - index ≡ 0 = omega arith in
    sym (append-nil before) ∙ ap (λ (n : ℕ). before ++ listed_in n rest) (sym none) ∙ so_far

-- ---- the entries of items

-- an entry that says so lists it
entry_listed : (entry : List ℕ) (listed : Listed) → IsSaid entry listed → lists entry ≡ listed ∷ []
entry_listed entry listed is =
    let rows = entry_rows listed.size listed.select listed.name in
    fields_listed entry listed (number_read entry rows 0 4 is.rows refl) (number_read entry rows 1 2 is.rows refl) (name_read entry rows 3 is.rows tt)

-- entries that say so list them
said_are_listed : (listed : List Listed) (bytes : List ℕ) → AreSaid bytes listed → listed_in (length listed) bytes ≡ listed
said_are_listed [] bytes are = refl
said_are_listed (one ∷ listed) bytes are =
    let entry = are.0 in
    let rest = are.1 in
    let front : take 64 bytes ≡ entry = ap (take 64) are.2 ∙ take_at entry rest 64 are.3.size in
    let back : drop 64 bytes ≡ rest = ap (drop 64) are.2 ∙ drop_at entry rest 64 are.3.size in
    ap₂ (λ (l m : List Listed). l ++ m) (ap lists front ∙ entry_listed entry one are.3)
    (ap (listed_in (length listed)) back ∙ said_are_listed listed rest are.4)

-- the entries of items list the items
pub files_are_listed : (items : List Item) → IsItems items → AreNamed items → listed_in (length items) (entries_of items) ≡ listed_of items
files_are_listed items lawful named =
    let entries = are_entries items named lawful.distinct (omega (arith, lawful.small)) in
    ap (λ (n : ℕ). listed_in n (entries_of items)) (sym (length-map items said))
    ∙ said_are_listed (map said items) (entries_of items) (AreSaid-from_entries items (entries_of items) entries)

-- an entry has 64 bytes, whatever its numbers are
length-entry_bytes : (item : Item) → IsName item.name → length (entry_bytes item) ≡ 64
length-entry_bytes item named =
    let rows = entry_rows 0 0 item.name in
    let are : AllByRecursion IsRow rows = ((omega arith, omega arith), ((omega arith, omega arith), (tt, (named, tt)))) in
    length-spelled rows are

-- 64 bytes for each
pub length-entries_of : (items : List Item) → AreNamed items → length (entries_of items) ≡ 64 * length items
length-entries_of [] named = refl
length-entries_of (item ∷ items) named =
    omega (arith, length-append (entry_bytes item) (entries_of items), length-entry_bytes item named.0, length-entries_of items named.1)

-- the directory is the number of files, and then the entries
pub directory_is : (items : List Item) → directory_of items ≡ be_bytes 4 (length items) ++ entries_of items
directory_is items = refl

-- the number of files comes back from its bytes
pub count_of_files : (items : List Item) → IsItems items → be (be_bytes 4 (length items)) ≡ length items
count_of_files items lawful = be-bytes_4 (length items) (omega (arith, lawful.few))

-- the directory has 64 bytes for each file behind their number
pub length-directory_of : (items : List Item) → AreNamed items → length (directory_of items) ≡ 4 + 64 * length items
length-directory_of items named = omega (arith, length-append (be_bytes 4 (length items)) (entries_of items), length-entries_of items named)
