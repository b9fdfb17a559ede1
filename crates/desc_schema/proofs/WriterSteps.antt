-- The steps of the writer: a node that is put into a table's map, words, texts that are left, and what its loops have written so far.
use Rattle.std.proofs.Common.{◌≡◌, ℕ, zero, suc, ◌+◌, ◌-◌, ◌<◌, ◌≤◌, List, [], ◌∷◌, ◌++◌, length, get_or, drop, Some, None, String, Global, Ordering}
use Rattle.std.proofs.Common.{Less, Equal, Greater, string_bytes, refl, sym, ap, ◌∙◌, arith}
use Rattle.std.proofs.lemmas.List.{drop_all}
use Rattle.std.specs.Borrow.{Bor}
use Rattle.std.specs.BTreeMap.{insert_entry}
use Rattle.std.specs.Ordering.{match_ordering}
use Rattle.std.specs.String.{string_cmp}
use Rattle.toml.proofs.Views.{Entry}
use Rattle.toml.specs.Data.{string, table, Items, no_items, item, Members, no_members}
use Rattle.toml.specs.View.{view, items_view, members_view}
use Rattle.toml.specs.declared.value.Value.{Value as Node}
use Rattle.desc_schema.specs.declared.schema.Key.{Key}
use Rattle.desc_schema.specs.declared.value.Value.{Value}
use Rattle.desc_schema.specs.Form.{Form, Field, texts_of, fields_of, fields_at}
use Rattle.desc_schema.specs.Taken.{first, rest}
use Rattle.desc_schema.specs.Written.{Spelling, AreTexts, word_node, node_of, single_or_empty, Write, tables_written, singles_written}
use Rattle.desc_schema.specs.Written.{put_member, fields_written, written_to}

match_entries : (o : Ordering) (a b c : List Entry)
    → members_view (match_ordering o a b c) ≡ match_ordering o (members_view a) (members_view b) (members_view c)
match_entries Less a b c = refl
match_entries Equal a b c = refl
match_entries Greater a b c = refl

pub put_inserted : (es : List Entry) (k : String Global) (v : Node)
    → members_view (insert_entry string_cmp es k v) ≡ put_member (string_bytes k) (view v) (members_view es)
put_inserted [] k v = refl
put_inserted (e ∷ es) k v = match_entries (string_cmp k e.0) _ _ _ ∙ rw (put_inserted es k v)

pub word_within : (words : List (Bor (List ℕ))) (n : ℕ) (word : Bor (List ℕ)) → n < length words → word ≡ get_or words n word
    → word_node n (texts_of words) ≡ Some (string word.now)
word_within [] n word within is = absurd (omega arith)
word_within (front ∷ words) zero word within is = ap (λ (w : Bor (List ℕ)). Some (string w.now)) (sym is)
word_within (front ∷ words) (suc n) word within is = word_within words n word (omega arith) is

pub word_past : (words : List (Bor (List ℕ))) (n : ℕ) → length words ≤ n → word_node n (texts_of words) ≡ None
word_past [] n past = refl
word_past (front ∷ words) zero past = absurd (omega arith)
word_past (front ∷ words) (suc n) past = word_past words n (omega arith)

-- texts

pub rest_texts : (values : List Value) → AreTexts values → AreTexts (rest values)
rest_texts [] texts = tt
rest_texts (value ∷ values) texts = texts.1

-- nodes of an array so far, and those that are written after them

abbrev pub joined_items : Items → Items → Items
joined_items no_items others = others
joined_items (item node nodes) others = item node (joined_items nodes others)

abbrev pub spliced : List Node → Items × List Value → Items × List Value
spliced nodes others = (joined_items (items_view nodes) others.0, others.1)

joined_push : (nodes : List Node) (node : Node) (others : Items)
    → joined_items (items_view (nodes ++ node ∷ [])) others ≡ joined_items (items_view nodes) (item (view node) others)
joined_push [] node others = refl
joined_push (front ∷ nodes) node others = ap (item (view front)) (joined_push nodes node others)

joined_none : (nodes : List Node) → joined_items (items_view nodes) no_items ≡ items_view nodes
joined_none [] = refl
joined_none (front ∷ nodes) = ap (item (view front)) (joined_none nodes)

pub spliced_none : (nodes : List Node) (values : List Value) → spliced nodes (no_items, values) ≡ (items_view nodes, values)
spliced_none nodes values = rw (joined_none nodes) refl

spliced_push : (nodes : List Node) (node : Node) (others : Items × List Value)
    → spliced (nodes ++ node ∷ []) others ≡ spliced nodes (item (view node) others.0, others.1)
spliced_push nodes node others = rw (joined_push nodes node others.0) refl

-- a node that was pushed was the next one
pub tables_go_on : (write : Write) (number left : ℕ) (values next : List Value) (nodes : List Node) (node : Node) (entries : Members)
    (total : Items × List Value) → 0 < left → (entries, next) ≡ write number values → view node ≡ table entries
    → spliced nodes (tables_written write number left values) ≡ total
    → spliced (nodes ++ node ∷ []) (tables_written write number (left - 1) next) ≡ total
tables_go_on write number zero values next nodes node entries total some is seen so_far = absurd (omega arith)
tables_go_on write number (suc left) values next nodes node entries total some is seen so_far =
    let fewer : suc left - 1 ≡ left = omega arith in
    rw (fewer, spliced_push nodes node (tables_written write number left next), seen) (rw (← is) at so_far)

pub singles_go_on : (spell : Spelling) (form : Form) (left : ℕ) (values : List Value) (nodes : List Node) (node : Node) (total : Items × List Value)
    → 0 < left → view node ≡ single_or_empty (node_of spell form (first values)) → spliced nodes (singles_written spell form left values) ≡ total
    → spliced (nodes ++ node ∷ []) (singles_written spell form (left - 1) (rest values)) ≡ total
singles_go_on spell form zero values nodes node total some seen so_far = absurd (omega arith)
singles_go_on spell form (suc left) values nodes node total some seen so_far =
    let fewer : suc left - 1 ≡ left = omega arith in
    rw (fewer, spliced_push nodes node (singles_written spell form left (rest values)), seen) so_far

pub fields_done : (spell : Spelling) (write : Write) (i : ℕ) (keys : List Key) (values : List Value) (made : Members) (total : Members × List Value)
    → length keys ≤ i → fields_written spell write (fields_of (drop i keys)) values made ≡ total → (made, values) ≡ total
fields_done spell write i keys values made total past so_far = rw (drop_all i keys past) at so_far

-- the keys of a table, with one depth less for the tables inside
pub written_more : (spell : Spelling) (schema : List (List Field)) (depth number : ℕ) (values : List Value) (fields : List Field) → 0 < depth
    → fields ≡ fields_at schema number
    → fields_written spell (written_to spell schema (depth - 1)) fields values no_members ≡ written_to spell schema depth number values
written_more spell schema zero number values fields some is = absurd (omega arith)
written_more spell schema (suc depth) number values fields some is =
    let less : suc depth - 1 ≡ depth = omega arith in
    rw (less, is) refl
