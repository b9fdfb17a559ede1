-- Single values: the text of a UUID that isn't one, words as a loop takes them, and that what is read is of its kind.
use Rattle.std.proofs.Common.{◌≡◌, ℕ, ◌+◌, ◌<◌, ◌≤◌, true, false, List, length, get_or, drop, Option, Some, None, Result}
use Rattle.std.proofs.Common.{Ok, Err, refl, sym}
use Rattle.std.proofs.lemmas.List.{drop_more, drop_all}
use Rattle.std.specs.Borrow.{Bor}
use Rattle.std.specs.Str.{bytes_eq}
use Rattle.desc_schema.specs.declared.value.Value.{Value}
use Rattle.desc_schema.specs.declared.fault.KeyPlace.{KeyPlace}
use Rattle.desc_schema.specs.declared.fault.WalkFault.{WalkFault}
use Rattle.desc_schema.specs.declared.fault.WalkFault.TheVariants.{OutOfRange}
use Rattle.desc_schema.specs.Form.{texts_of}
use Rattle.desc_schema.specs.Single.{uuid_from, word_from}

pub no_uuid : (at : KeyPlace) (read : Option (List ℕ)) → ((bytes : List ℕ) → read ≡ Some bytes → ⊥) → uuid_from at read ≡ Err (OutOfRange at)
no_uuid at None none = refl
no_uuid at (Some bytes) none = absurd (none bytes refl)

-- the next word is the text, or isn't it
pub word_found : (at : KeyPlace) (i : ℕ) (words : List (Bor (List ℕ))) (word : Bor (List ℕ)) (text : List ℕ) (total : Result Value WalkFault) → i < length words
    → bytes_eq (get_or words i word).now text ≡ true → word_from at i (texts_of (drop i words)) text ≡ total → total ≡ Ok (Value.Word i)
unfolding word_from
word_found at i words word text total within same so_far = sym (rw (drop_more words i word within, same) at so_far)

pub word_passed : (at : KeyPlace) (i : ℕ) (words : List (Bor (List ℕ))) (word : Bor (List ℕ)) (text : List ℕ) (total : Result Value WalkFault)
    → i < length words → bytes_eq (get_or words i word).now text ≡ false → word_from at i (texts_of (drop i words)) text ≡ total
    → word_from at (i + 1) (texts_of (drop (i + 1) words)) text ≡ total
unfolding word_from
word_passed at i words word text total within other so_far = rw (drop_more words i word within, other) at so_far

pub no_word : (at : KeyPlace) (i : ℕ) (words : List (Bor (List ℕ))) (text : List ℕ) (total : Result Value WalkFault) → length words ≤ i
    → word_from at i (texts_of (drop i words)) text ≡ total → total ≡ Err (OutOfRange at)
unfolding word_from
no_word at i words text total past so_far = sym (rw (drop_all i words past) at so_far)
