-- A reader of a container that was fed bytes in pieces is one that was fed them at once.
use Rattle.std.proofs.Common.{◌≡◌, ◌≢◌, ℕ, List, [], ◌++◌, Result, Ok, Err, refl, sym, ap, subst, ◌∙◌, inl, inr, arith}
use Rattle.cfg_directory.specs.declared.item.Item.{Item}
use Rattle.cfg_directory.specs.declared.container.ImageFault.{ImageFault}
use Rattle.cfg_directory.specs.declared.container.ImageFault.TheVariants.{Truncated, OutOfMemory}
use Rattle.cfg_directory.specs.Container.{read_so}
use Rattle.cfg_directory.specs.Fed.{Fed, Takes, Refuses, IsFed, answer_of, judged, judged_by, finished}
use Rattle.cfg_directory.proofs.Faults.{fault_stays}
use Rattle.cfg_directory.proofs.Fronts.{short_count}
use Rattle.cfg_directory.proofs.Refusals.{judged_fault}

-- one that takes bytes still
takes_more : (bytes piece : List ℕ) (after : Fed) → IsFed (Takes bytes) piece after → after ≢ Refuses OutOfMemory → after ≡ judged (bytes ++ piece)
takes_more bytes piece after (inl fed) some = fed
takes_more bytes piece after (inr lack) some = absurd (some lack.0)

-- and one that has refused them
refuses_more : (bytes piece : List ℕ) (fault : ImageFault) (before after : Fed) → fault ≢ Truncated → read_so bytes ≡ Err fault → before ≡ judged bytes
    → IsFed before piece after → after ≡ judged (bytes ++ piece)
refuses_more bytes piece fault before after other read is fed =
    let told : after ≡ Refuses fault = subst (λ (b : Fed). IsFed b piece after) (is ∙ judged_fault bytes fault read other) fed in
    told ∙ sym (judged_fault (bytes ++ piece) fault (fault_stays bytes piece fault other read) other)

by_read : (bytes piece : List ℕ) (read : Result (List Item) ImageFault) (before after : Fed) → read_so bytes ≡ read → before ≡ judged bytes
    → IsFed before piece after → after ≢ Refuses OutOfMemory → after ≡ judged (bytes ++ piece)
by_read bytes piece (Ok items) before after read is fed some =
    takes_more bytes piece after (subst (λ (b : Fed). IsFed b piece after) (is ∙ ap (judged_by bytes) read) fed) some
by_read bytes piece (Err Truncated) before after read is fed some =
    takes_more bytes piece after (subst (λ (b : Fed). IsFed b piece after) (is ∙ ap (judged_by bytes) read) fed) some
by_read bytes piece (Err fault) before after read is fed some = refuses_more bytes piece fault before after (λ e. cc) read is fed

fed_more : (bytes piece : List ℕ) (before after : Fed) → before ≡ judged bytes → IsFed before piece after → after ≢ Refuses OutOfMemory
    → after ≡ judged (bytes ++ piece)
fed_more bytes piece before after is fed some = by_read bytes piece (read_so bytes) before after refl is fed some

-- What takes a piece without want of memory was fed it, whether or not it refuses what it was fed.
pub took_more : (bytes piece : List ℕ) (before after : Fed) (result : Result (Unit {0}) ImageFault) → before ≡ judged bytes → IsFed before piece after
    → result ≡ answer_of after → result ≢ Err OutOfMemory → after ≡ judged (bytes ++ piece)
took_more bytes piece before after result is fed answer some = fed_more bytes piece before after is fed (λ e. some (answer ∙ ap answer_of e))

-- one that was fed nothing
pub fed_none : judged [] ≡ Takes []
fed_none = ap (judged_by []) (short_count [] (omega arith))

-- what it gives in the end
finished_by : (bytes : List ℕ) (read : Result (List Item) ImageFault) → read_so bytes ≡ read → finished (judged_by bytes read) ≡ read_so bytes
finished_by bytes (Ok items) is = refl
finished_by bytes (Err Truncated) is = refl
finished_by bytes (Err fault) is = sym is

pub finished_read : (bytes : List ℕ) → finished (judged bytes) ≡ read_so bytes
finished_read bytes = finished_by bytes (read_so bytes) refl
