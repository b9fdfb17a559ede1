-- What the entries of a directory say, and the items that they stand for.
use Rattle.std.proofs.Common.{◌≡◌, ℕ, zero, suc, ◌+◌, ◌*◌, ◌≤◌, ◌==◌, Bool, true, false, ◌&&◌, ◌||◌, not, cond, leb, List, [], ◌∷◌, ◌++◌, length, map, take}
use Rattle.std.proofs.Common.{drop, Some, Result, Ok, Err, arith, refl, sym, ap, ap₂, subst, ◌∙◌, append_assoc}
use Rattle.std.specs.List.{list_any, AllByRecursion}
use Rattle.std.specs.Option.{option_map}
use Rattle.std.specs.Str.{bytes_eq}
use Rattle.std.proofs.lemmas.Bool.{or_parts, or_from, leb-true, le-leb, cond-false, not-false, and_parts}
use Rattle.std.proofs.lemmas.List.{append-nil, take_at, drop_at, length-append, length-drop, length-take-le, take-append-drop, take-take, drop-take}
use Rattle.std.proofs.lemmas.List.Folds.{list_any-append}
use Rattle.vt_outside.specs.Name.{name_of, before_nul}
use Rattle.vt_outside.specs.declared.name.NameFault.{NameFault}
use Rattle.vt_outside.specs.Readings.{◌into◌}
use Rattle.vt_outside.proofs.Texts.{other_turned}
use Rattle.vt_outside.proofs.Readings.{part_read, past_test}
use Rattle.vt_bytes.specs.Numbers.{be}
use Rattle.vt_bytes.specs.View.{view_of}
use Rattle.vt_layout.specs.Shown.{LayoutShown}
use Rattle.vt_layout.specs.Reading.{place_of_row, read_number, read_name}
use Rattle.vt_layout.proofs.InBytes.{part_is_shown, number_read, name_read}
use Rattle.cfg_directory.specs.declared.item.Item.{Item}
use Rattle.cfg_directory.specs.declared.listed.Listed.{Listed}
use Rattle.cfg_directory.specs.declared.container.ImageFault.{ImageFault}
use Rattle.cfg_directory.specs.declared.container.ImageFault.TheVariants.{TwiceNamed, BadSelect, TwiceSelected}
use Rattle.cfg_directory.specs.Items.{entry_rows, IsFileSelect, HasNoName, HasNoSelect, AreDistinct}
use Rattle.cfg_directory.specs.Container.{AreEntries, listed_so, entry_so, directory_so}
use Rattle.cfg_directory.proofs.OneMoreItem.{other_select}

-- whether an entry has the name, and the selector
abbrev pub is_named : List ℕ → Listed → Bool
is_named name other = bytes_eq other.name name

abbrev pub is_selected : ℕ → Listed → Bool
is_selected select other = other.select == select

-- an entry has a name and a selector that none before it has, and a file's selector
pub record IsNew (before : List Listed) (listed : Listed) : Type 0 where
  pub unnamed : list_any (is_named listed.name) before ≡ false
  pub unselected : list_any (is_selected listed.select) before ≡ false

-- the same of entries one by one
abbrev pub AreNew : List Listed → List Listed → Type 0
AreNew before [] = Unit {0}
AreNew before (listed ∷ others) = IsNew before listed × IsFileSelect listed.select × AreNew (before ++ listed ∷ []) others

-- the bytes are an entry that says so
pub record IsSaid (entry : List ℕ) (listed : Listed) : Type 0 where
  pub size : length entry ≡ 64
  pub rows : LayoutShown (view_of entry) 0 (entry_rows listed.size listed.select listed.name)

abbrev pub AreSaid : List ℕ → List Listed → Type 0
AreSaid bytes [] = bytes ≡ []
AreSaid bytes (listed ∷ others) = (entry : List ℕ) × (rest : List ℕ) × (bytes ≡ entry ++ rest) × IsSaid entry listed × AreSaid rest others

-- what the entry of an item says
abbrev pub said : Item → Listed
said item = record { name = item.name; select = item.select; size = length item.bytes }

-- ---- entries and items

pub AreSaid-from_entries : (items : List Item) (bytes : List ℕ) → AreEntries bytes items → AreSaid bytes (map said items)
AreSaid-from_entries [] bytes are = are
AreSaid-from_entries (item ∷ items) bytes are =
    (are.0, are.1, are.2, record { size = are.3.size; rows = are.3.rows }, AreSaid-from_entries items are.1 are.4)

pub AreEntries-from_said : (items : List Item) (bytes : List ℕ) → AreSaid bytes (map said items) → AreEntries bytes items
AreEntries-from_said [] bytes are = are
AreEntries-from_said (item ∷ items) bytes are =
    (are.0, are.1, are.2, record { size = are.3.size; rows = are.3.rows }, AreEntries-from_said items are.1 are.4)

-- 64 bytes for each
pub length-entries : (listed : List Listed) (bytes : List ℕ) → AreSaid bytes listed → length bytes ≡ 64 * length listed
length-entries [] bytes are = ap length are
length-entries (entry ∷ listed) bytes are =
    omega (arith, ap length are.2, length-append are.0 are.1, are.3.size, length-entries listed are.1 are.4)

-- ---- names and selectors that differ

-- of one more that stands before
IsNew-push : (before : List Listed) (one listed : Listed) → IsNew before listed → bytes_eq one.name listed.name ≡ false
    → (one.select == listed.select) ≡ false → IsNew (before ++ one ∷ []) listed
IsNew-push before one listed new name select = record {
  unnamed = list_any-append (is_named listed.name) before (one ∷ [])
      ∙ or_from (list_any (is_named listed.name) before) (is_named listed.name one || false) new.unnamed (or_from (is_named listed.name one) false name refl);
  unselected = list_any-append (is_selected listed.select) before (one ∷ [])
      ∙ or_from (list_any (is_selected listed.select) before) (is_selected listed.select one || false) new.unselected
      (or_from (is_selected listed.select one) false select refl);
}

each_pushed : (before : List Listed) (one : Item) (items : List Item) → AllByRecursion (λ (item : Item). IsNew before (said item)) items
    → HasNoName items one.name → HasNoSelect items one.select → AllByRecursion (λ (item : Item). IsNew (before ++ said one ∷ []) (said item)) items
each_pushed before one [] new names selects = tt
each_pushed before one (item ∷ items) new names selects = (
  IsNew-push before (said one) (said item) new.0 (other_turned item.name one.name names.0) (other_select item.select one.select selects.0),
  each_pushed before one items new.1 names.1 selects.1,
)

-- items that differ are new one by one
pub AreNew-from_distinct : (items : List Item) (before : List Listed) → AreDistinct items → AllByRecursion (λ (item : Item). IsNew before (said item)) items
    → AreNew before (map said items)
AreNew-from_distinct [] before distinct new = tt
AreNew-from_distinct (item ∷ items) before distinct new =
    (new.0, distinct.2, AreNew-from_distinct items (before ++ said item ∷ []) distinct.3 (each_pushed before item items new.1 distinct.0 distinct.1))

-- behind none each is new
pub each_new : (items : List Item) → AllByRecursion (λ (item : Item). IsNew [] (said item)) items
each_new [] = tt
each_new (item ∷ items) = (record { unnamed = refl; unselected = refl }, each_new items)

-- what is new behind one more is new, and differs from it
record IsOther (before : List Listed) (one listed : Listed) : Type 0 where
  new : IsNew before listed
  name : bytes_eq one.name listed.name ≡ false
  select : (one.select == listed.select) ≡ false

IsOther-from : (before : List Listed) (one listed : Listed) → IsNew (before ++ one ∷ []) listed → IsOther before one listed
IsOther-from before one listed new =
    let names = or_parts (list_any (is_named listed.name) before) (is_named listed.name one || false)
    (sym (list_any-append (is_named listed.name) before (one ∷ [])) ∙ new.unnamed) in
    let selects = or_parts (list_any (is_selected listed.select) before) (is_selected listed.select one || false)
    (sym (list_any-append (is_selected listed.select) before (one ∷ [])) ∙ new.unselected) in
    record {
      new = record { unnamed = names.0; unselected = selects.0 };
      name = (or_parts (is_named listed.name one) false names.1).0;
      select = (or_parts (is_selected listed.select one) false selects.1).0;
    }

record Apart (before : List Listed) (one : Item) (items : List Item) : Type 0 where
  new : AllByRecursion (λ (item : Item). IsNew before (said item)) items
  names : HasNoName items one.name
  selects : HasNoSelect items one.select

Apart-from : (before : List Listed) (one : Item) (items : List Item) → AllByRecursion (λ (item : Item). IsNew (before ++ said one ∷ []) (said item)) items
    → Apart before one items
Apart-from before one [] each = record { new = tt; names = tt; selects = tt }
Apart-from before one (item ∷ items) each =
    let other = IsOther-from before (said one) (said item) each.0 in
    let rest = Apart-from before one items each.1 in
    record {
      new = (other.new, rest.new);
      names = (other_turned one.name item.name other.name, rest.names);
      selects = (other_select one.select item.select other.select, rest.selects);
    }

record AreOthers (before : List Listed) (items : List Item) : Type 0 where
  distinct : AreDistinct items
  new : AllByRecursion (λ (item : Item). IsNew before (said item)) items

AreOthers-from : (items : List Item) (before : List Listed) → AreNew before (map said items) → AreOthers before items
AreOthers-from [] before new = record { distinct = tt; new = tt }
AreOthers-from (item ∷ items) before new =
    let rest = AreOthers-from items (before ++ said item ∷ []) new.2 in
    let apart = Apart-from before item items rest.new in
    record {
      distinct = (apart.names, apart.selects, new.1, rest.distinct);
      new = (new.0, apart.new);
    }

-- items that are new one by one differ
pub AreDistinct-from_new : (items : List Item) → AreNew [] (map said items) → AreDistinct items
AreDistinct-from_new items new = (AreOthers-from items [] new).distinct

-- ---- reading entries

-- what is read at the rows of an entry
abbrev pub size_in : List ℕ → ℕ
size_in entry = read_number 0 (entry_rows 0 0 []) entry

abbrev pub select_in : List ℕ → ℕ
select_in entry = read_number 1 (entry_rows 0 0 []) entry

abbrev pub name_in : List ℕ → Result (List ℕ) NameFault
name_in entry = read_name 3 (entry_rows 0 0 []) entry

-- an entry that is new is read
pub entry_read : (index : ℕ) (before : List Listed) (entry : List ℕ) (listed : Listed) → IsSaid entry listed → IsNew before listed
    → IsFileSelect listed.select → entry_so index before entry ≡ Ok listed
unfolding entry_so
entry_read index before entry listed is new file =
    let rows = entry_rows listed.size listed.select listed.name in
    let fields : listed_so index before (size_in entry) (select_in entry) (name_in entry) ≡ listed_so index before listed.size listed.select (Ok listed.name) =
    ap (λ size. listed_so index before size (select_in entry) (name_in entry)) (number_read entry rows 0 4 is.rows refl)
    ∙ ap (λ select. listed_so index before listed.size select (name_in entry)) (number_read entry rows 1 2 is.rows refl)
    ∙ ap (λ name. listed_so index before listed.size listed.select name) (name_read entry rows 3 is.rows tt) in
    let low : leb 0x20 listed.select ≡ true = le-leb 0x20 listed.select file.0 in
    let high : leb listed.select 0x3FFF ≡ true = le-leb listed.select 0x3FFF file.1 in
    let lawful : not (leb 0x20 listed.select && leb listed.select 0x3FFF) ≡ false = ap₂ (λ a b. not (a && b)) low high in
    fields
    ∙ cond-false (list_any (is_named listed.name) before) _ _ new.unnamed
    ∙ cond-false (not (leb 0x20 listed.select && leb listed.select 0x3FFF)) _ _ lawful
    ∙ cond-false (list_any (is_selected listed.select) before) _ _ new.unselected

-- entries that are new are read, whatever follows
pub entries_read : (listed : List Listed) (index : ℕ) (before : List Listed) (bytes rest : List ℕ) → AreSaid bytes listed → AreNew before listed
    → directory_so (length listed) index before (bytes ++ rest) ≡ Ok (before ++ listed)
unfolding directory_so
entries_read [] index before bytes rest said new = ap (λ (l : List Listed). Ok l) (sym (append-nil before))
entries_read (one ∷ listed) index before bytes rest said new =
    let entry = said.0 in
    let others = said.1 in
    let parts : bytes ++ rest ≡ entry ++ (others ++ rest) = ap (λ (b : List ℕ). b ++ rest) said.2 ∙ append_assoc entry others rest in
    let front : take 64 (bytes ++ rest) ≡ entry = ap (take 64) parts ∙ take_at entry (others ++ rest) 64 said.3.size in
    let back : drop 64 (bytes ++ rest) ≡ others ++ rest = ap (drop 64) parts ∙ drop_at entry (others ++ rest) 64 said.3.size in
    let first : entry_so index before (take 64 (bytes ++ rest)) ≡ Ok one = ap (entry_so index before) front
    ∙ entry_read index before entry one said.3 new.0 new.1 in
    ap (λ read. read into (λ l. directory_so (length listed) (index + 1) (before ++ l ∷ []) (drop 64 (bytes ++ rest)))) first
    ∙ ap (directory_so (length listed) (index + 1) (before ++ one ∷ [])) back
    ∙ entries_read listed (index + 1) (before ++ one ∷ []) others rest said.4 new.2
    ∙ ap (λ (l : List Listed). Ok l) (append_assoc before (one ∷ []) listed)

-- ---- what was read

-- the value that an answer has
pub ok_is : {A : Type 0} (x y : A) → ◌≡◌ {A = Result A ImageFault} (Ok x) (Ok y) → x ≡ y
ok_is x y is = cc

-- what the fields of an entry give, if they give something
pub record Fields (before : List Listed) (count number : ℕ) (text : Result (List ℕ) NameFault) (listed : Listed) : Type 0 where
  pub size : count ≡ listed.size
  pub select : number ≡ listed.select
  pub name : text ≡ Ok listed.name
  pub new : IsNew before listed
  pub file : IsFileSelect listed.select

fields_from : (index : ℕ) (before : List Listed) (size select : ℕ) (text : Result (List ℕ) NameFault) (listed : Listed)
    → listed_so index before size select text ≡ Ok listed → Fields before size select text listed
fields_from index before size select (Err fault) listed is = absurd cc
fields_from index before size select (Ok name) listed is =
    let lawful : Bool = leb 0x20 select && leb select 0x3FFF in
    let one : Result Listed ImageFault = Ok (record { name = name; select = select; size = size }) in
    let by_select : Result Listed ImageFault = cond (list_any (is_selected select) before) (Err (TwiceSelected index)) one in
    let by_file : Result Listed ImageFault = cond (not lawful) (Err (BadSelect index)) by_select in
    let names = past_test (list_any (is_named name) before) (TwiceNamed index) by_file listed is in
    let file = past_test (not lawful) (BadSelect index) by_select listed names.1 in
    let selects = past_test (list_any (is_selected select) before) (TwiceSelected index) one listed file.1 in
    let in_range = and_parts (leb 0x20 select) (leb select 0x3FFF) (not-false lawful file.0) in
    subst (λ (l : Listed). Fields before size select (Ok name) l) (ok_is (record { name = name; select = select; size = size }) listed selects.1) (record {
      size = refl;
      select = refl;
      name = refl;
      new = record { unnamed = names.0; unselected = selects.0 };
      file = (leb-true 0x20 select in_range.0, leb-true select 0x3FFF in_range.1);
    })

-- what an entry said that was read
entry_said : (index : ℕ) (before : List Listed) (entry : List ℕ) (listed : Listed) → entry_so index before entry ≡ Ok listed
    → Fields before (size_in entry) (select_in entry) (name_in entry) listed
unfolding entry_so
entry_said index before entry listed is = fields_from index before (size_in entry) (select_in entry) (name_in entry) listed is

-- an entry says what is read at its rows
IsSaid-from : (before : List Listed) (entry : List ℕ) (listed : Listed) → length entry ≡ 64
    → Fields before (size_in entry) (select_in entry) (name_in entry) listed → IsSaid entry listed
IsSaid-from before entry listed long fields =
    let rows = entry_rows 0 0 [] in
    record {
      size = long;
      rows = (
        ap (option_map be) (part_is_shown entry (place_of_row 0 rows) 4 (omega arith)) ∙ ap Some fields.size,
        (
          ap (option_map be) (part_is_shown entry (place_of_row 1 rows) 2 (omega arith)) ∙ ap Some fields.select,
          (
            tt,
            (
              ap (option_map (λ field. name_of (before_nul field))) (part_is_shown entry (place_of_row 3 rows) 56 (omega arith)) ∙ ap Some fields.name,
              tt,
            ),
          ),
        ),
      );
    }

pub take-sum : {A : Type 0} (n m : ℕ) (xs : List A) → take (n + m) xs ≡ take n xs ++ take m (drop n xs)
take-sum {A = A} n m xs =
    let within : n ≤ n + m = omega arith in
    sym (take-append-drop n (take (n + m) xs)) ∙ ap₂ (λ (a b : List A). a ++ b) (take-take n (n + m) xs within) (drop-take n m xs)

-- what entries said that were read
pub record Directory (count : ℕ) (before : List Listed) (bytes : List ℕ) (all : List Listed) : Type 0 where
  pub listed : List Listed
  pub are : all ≡ before ++ listed
  pub as_many : length listed ≡ count
  pub said : AreSaid (take (64 * count) bytes) listed
  pub new : AreNew before listed

pub entries_said : (count index : ℕ) (before : List Listed) (bytes : List ℕ) (all : List Listed) → 64 * count ≤ length bytes
    → directory_so count index before bytes ≡ Ok all → Directory count before bytes all
unfolding directory_so
entries_said zero index before bytes all long is = record {
  listed = [];
  are = sym (ok_is before all is) ∙ sym (append-nil before);
  as_many = refl;
  said = refl;
  new = tt;
}
entries_said (suc count) index before bytes all long is =
    let next : Listed → Result (List Listed) ImageFault = λ l. directory_so count (index + 1) (before ++ l ∷ []) (drop 64 bytes) in
    let first = part_read (entry_so index before (take 64 bytes)) next all is in
    let one = first.0 in
    let fields = entry_said index before (take 64 bytes) one first.1 in
    let said = IsSaid-from before (take 64 bytes) one (length-take-le 64 bytes (omega arith)) fields in
    let rest = entries_said count (index + 1) (before ++ one ∷ []) (drop 64 bytes) all (omega (arith, length-drop 64 bytes)) first.2 in
    let sizes : 64 * suc count ≡ 64 + 64 * count = omega arith in
    let parts : take (64 * suc count) bytes ≡ take 64 bytes ++ take (64 * count) (drop 64 bytes) = ap (λ n. take n bytes) sizes
    ∙ take-sum 64 (64 * count) bytes in
    record {
      listed = one ∷ rest.listed;
      are = rest.are ∙ append_assoc before (one ∷ []) rest.listed;
      as_many = ap suc rest.as_many;
      said = (take 64 bytes, take (64 * count) (drop 64 bytes), parts, said, rest.said);
      new = (fields.new, fields.file, rest.new);
    }
