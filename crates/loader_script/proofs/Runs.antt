-- The run of a script, command by command.
use Rattle.std.proofs.Common.{◌≡◌, ℕ, zero, suc, ◌+◌, List, [], ◌∷◌, ◌++◌, length, take, slice_get, Option, Some, None, refl, ap, sym, ◌∙◌, arith}
use Rattle.std.proofs.lemmas.Option.{same_Some, none-some}
use Rattle.loader_script.specs.declared.entry.Entry.{Entry}
use Rattle.loader_script.specs.declared.refusing.Cause.{Cause}
use Rattle.loader_script.specs.Run.{Progress, End, Done, Command, NoRoom, cause_of, carried_out, goes_on, run_from, run_on}

-- a command that is carried out leads to the rest of the script
pub goes-on : (index : ℕ) (entry : Entry) (script : List Entry) (p next : Progress) → cause_of entry p ≡ None → carried_out entry p ≡ Some next
    → run_from index (entry ∷ script) p ≡ run_from (suc index) script next
goes-on index entry script p next none carried = rw (none, carried) refl

-- what a command comes to
came_to : (index : ℕ) (p : Progress) (run : Progress → End × Progress) (refused : Option Cause) (after : Option Progress) (found : Option Cause)
    (next : Option Progress) → refused ≡ found → after ≡ next → goes_on index p refused after run ≡ goes_on index p found next run
came_to index p run refused after found next refused_is after_is = rw (refused_is, after_is) refl

-- a command of a run that ends as Done is carried out
pub record IsDoneOn (index : ℕ) (entry : Entry) (script : List Entry) (p : Progress) (end : Progress) : Type 0 where
  pub none : cause_of entry p ≡ None
  pub next : Progress
  pub carried : carried_out entry p ≡ Some next
  pub rest : run_from (suc index) script next ≡ (Done, end)

done_on : (index : ℕ) (entry : Entry) (script : List Entry) (p end : Progress) (refused : Option Cause) (after : Option Progress)
    → cause_of entry p ≡ refused → carried_out entry p ≡ after → goes_on index p refused after (run_from (suc index) script) ≡ (Done, end)
    → IsDoneOn index entry script p end
done_on index entry script p end (Some cause) after refused_is after_is ends =
    let first : Command index cause ≡ Done = ap (λ (e : End × Progress). e.0) ends in
    absurd (cc)
done_on index entry script p end None None refused_is after_is ends =
    let first : NoRoom index ≡ Done = ap (λ (e : End × Progress). e.0) ends in
    absurd (cc)
done_on index entry script p end None (Some next) refused_is after_is ends =
    record { none = refused_is; next = next; carried = after_is; rest = ends }

pub done-on : (index : ℕ) (entry : Entry) (script : List Entry) (p end : Progress) → run_from index (entry ∷ script) p ≡ (Done, end)
    → IsDoneOn index entry script p end
done-on index entry script p end ends = done_on index entry script p end (cause_of entry p) (carried_out entry p) refl refl ends

-- how far a run is after its first commands
abbrev pub after_some : ℕ → ℕ → List Entry → Progress → Progress
after_some count index script p = (run_from index (take count script) p).1

after-one : (count index : ℕ) (entry : Entry) (script : List Entry) (p next : Progress) → cause_of entry p ≡ None → carried_out entry p ≡ Some next
    → after_some (suc count) index (entry ∷ script) p ≡ after_some count (suc index) script next
after-one count index entry script p next none carried = ap (λ (e : End × Progress). e.1) (goes-on index entry (take count script) p next none carried)

-- a run that is refused, seen from the command at an index
pub record IsRefusedAt (index at : ℕ) (script : List Entry) (p : Progress) (cause : Cause) : Type 0 where
  pub count : ℕ
  pub at_is : at ≡ index + count
  pub entry : Entry
  pub there : slice_get script count ≡ Some entry
  pub refused : cause_of entry (after_some count index script p) ≡ Some cause
  pub stops : (run_from index script p).1 ≡ after_some count index script p

-- the same after one command more
refused_later : (index at : ℕ) (entry : Entry) (script : List Entry) (p next : Progress) (cause : Cause) → cause_of entry p ≡ None
    → carried_out entry p ≡ Some next → IsRefusedAt (suc index) at script next cause → IsRefusedAt index at (entry ∷ script) p cause
refused_later index at entry script p next cause none carried is =
    let later = after-one is.count index entry script p next none carried in
    record {
      count = suc is.count;
      at_is = omega (arith, is.at_is);
      entry = is.entry;
      there = is.there;
      refused = ap (cause_of is.entry) later ∙ is.refused;
      stops = ap (λ (e : End × Progress). e.1) (goes-on index entry script p next none carried) ∙ is.stops ∙ sym later;
    }

refused_on : (index at : ℕ) (entry : Entry) (script : List Entry) (p : Progress) (cause : Cause) (refused : Option Cause) (after : Option Progress)
    → cause_of entry p ≡ refused → carried_out entry p ≡ after
    → ((next : Progress) → (run_from (suc index) script next).0 ≡ Command at cause → IsRefusedAt (suc index) at script next cause)
    → (goes_on index p refused after (run_from (suc index) script)).0 ≡ Command at cause → IsRefusedAt index at (entry ∷ script) p cause
refused_on index at entry script p cause (Some found) after refused_is after_is rest ends =
    let where_is : at ≡ index = cc in
    let same : found ≡ cause = cc in
    record {
      count = 0;
      at_is = omega arith;
      entry = entry;
      there = refl;
      refused = refused_is ∙ ap Some same;
      stops = ap (λ (e : End × Progress). e.1) (came_to index p (run_from (suc index) script) (cause_of entry p) (carried_out entry p) (Some found) after
          refused_is after_is);
    }
refused_on index at entry script p cause None None refused_is after_is rest ends = absurd (cc)
refused_on index at entry script p cause None (Some next) refused_is after_is rest ends =
    refused_later index at entry script p next cause refused_is after_is (rest next ends)

pub refused_at : (index at : ℕ) (script : List Entry) (p : Progress) (cause : Cause) → (run_from index script p).0 ≡ Command at cause
    → IsRefusedAt index at script p cause
refused_at index at [] p cause ends = absurd (cc)
refused_at index at (entry ∷ script) p cause ends =
    refused_on index at entry script p cause (cause_of entry p) (carried_out entry p) refl refl (λ next. refused_at (suc index) at script next cause) ends

-- a run that finds no place, in the same way
pub record IsWithoutRoom (index at : ℕ) (script : List Entry) (p : Progress) : Type 0 where
  pub count : ℕ
  pub at_is : at ≡ index + count
  pub entry : Entry
  pub there : slice_get script count ≡ Some entry
  pub none : cause_of entry (after_some count index script p) ≡ None
  pub without : carried_out entry (after_some count index script p) ≡ None
  pub stops : (run_from index script p).1 ≡ after_some count index script p

without_later : (index at : ℕ) (entry : Entry) (script : List Entry) (p next : Progress) → cause_of entry p ≡ None
    → carried_out entry p ≡ Some next → IsWithoutRoom (suc index) at script next → IsWithoutRoom index at (entry ∷ script) p
without_later index at entry script p next none carried is =
    let later = after-one is.count index entry script p next none carried in
    record {
      count = suc is.count;
      at_is = omega (arith, is.at_is);
      entry = is.entry;
      there = is.there;
      none = ap (cause_of is.entry) later ∙ is.none;
      without = ap (carried_out is.entry) later ∙ is.without;
      stops = ap (λ (e : End × Progress). e.1) (goes-on index entry script p next none carried) ∙ is.stops ∙ sym later;
    }

without_on : (index at : ℕ) (entry : Entry) (script : List Entry) (p : Progress) (refused : Option Cause) (after : Option Progress)
    → cause_of entry p ≡ refused → carried_out entry p ≡ after
    → ((next : Progress) → (run_from (suc index) script next).0 ≡ NoRoom at → IsWithoutRoom (suc index) at script next)
    → (goes_on index p refused after (run_from (suc index) script)).0 ≡ NoRoom at → IsWithoutRoom index at (entry ∷ script) p
without_on index at entry script p (Some found) after refused_is after_is rest ends = absurd (cc)
without_on index at entry script p None None refused_is after_is rest ends =
    let where_is : at ≡ index = cc in
    record {
      count = 0;
      at_is = omega arith;
      entry = entry;
      there = refl;
      none = refused_is;
      without = after_is;
      stops = ap (λ (e : End × Progress). e.1)
          (came_to index p (run_from (suc index) script) (cause_of entry p) (carried_out entry p) None None refused_is after_is);
    }
without_on index at entry script p None (Some next) refused_is after_is rest ends =
    without_later index at entry script p next refused_is after_is (rest next ends)

pub without_room : (index at : ℕ) (script : List Entry) (p : Progress) → (run_from index script p).0 ≡ NoRoom at → IsWithoutRoom index at script p
without_room index at [] p ends = absurd (cc)
without_room index at (entry ∷ script) p ends =
    without_on index at entry script p (cause_of entry p) (carried_out entry p) refl refl (λ next. without_room (suc index) at script next) ends

-- each command of a run that ends as Done is carried out in its turn
pub done_at : (index count : ℕ) (script : List Entry) (p end : Progress) (entry : Entry) → run_from index script p ≡ (Done, end)
    → slice_get script count ≡ Some entry
    → (cause_of entry (after_some count index script p) ≡ None)
    × (carried_out entry (after_some count index script p) ≡ Some (after_some (suc count) index script p))
done_at index count [] p end entry ends there = absurd (none-some entry there)
done_at index zero (first ∷ script) p end entry ends there =
    let is = done-on index first script p end ends in
    let same : first ≡ entry = same_Some first entry there in
    let next : carried_out first p ≡ Some (after_some 1 index (first ∷ script) p) =
    is.carried ∙ ap Some (sym (after-one 0 index first script p is.next is.none is.carried)) in
    (ap (λ e. cause_of e p) (sym same) ∙ is.none, ap (λ e. carried_out e p) (sym same) ∙ next)
done_at index (suc count) (first ∷ script) p end entry ends there =
    let is = done-on index first script p end ends in
    let later = done_at (suc index) count script is.next end entry is.rest there in
    let before = after-one count index first script p is.next is.none is.carried in
    let after = after-one (suc count) index first script p is.next is.none is.carried in
    (ap (cause_of entry) before ∙ later.0, ap (carried_out entry) before ∙ later.1 ∙ ap Some (sym after))

-- the same by the index of the command in the whole script
pub refused_from : (index : ℕ) (script : List Entry) (p : Progress) (cause : Cause) → IsRefusedAt 0 index script p cause
    → (entry : Entry) × (slice_get script index ≡ Some entry) × (cause_of entry (after_some index 0 script p) ≡ Some cause)
    × ((run_from 0 script p).1 ≡ after_some index 0 script p)
refused_from index script p cause is =
    let same : is.count ≡ index = omega (arith, is.at_is) in (
      is.entry,
      ap (slice_get script) (sym same) ∙ is.there,
      ap (λ k. cause_of is.entry (after_some k 0 script p)) (sym same) ∙ is.refused,
      is.stops ∙ ap (λ k. after_some k 0 script p) same,
    )

pub without_from : (index : ℕ) (script : List Entry) (p : Progress) → IsWithoutRoom 0 index script p
    → (entry : Entry) × (slice_get script index ≡ Some entry) × (cause_of entry (after_some index 0 script p) ≡ None)
    × (carried_out entry (after_some index 0 script p) ≡ None) × ((run_from 0 script p).1 ≡ after_some index 0 script p)
without_from index script p is =
    let same : is.count ≡ index = omega (arith, is.at_is) in (
      is.entry,
      ap (slice_get script) (sym same) ∙ is.there,
      ap (λ k. cause_of is.entry (after_some k 0 script p)) (sym same) ∙ is.none,
      ap (λ k. carried_out is.entry (after_some k 0 script p)) (sym same) ∙ is.without,
      is.stops ∙ ap (λ k. after_some k 0 script p) same,
    )

-- Two scripts, one behind the other.

-- the first of them, whose command at an index is refused, finds no place, or is carried out
joined_on : (index : ℕ) (front back : List Entry) (p : Progress) (refused : Option Cause) (after : Option Progress)
    → ((next : Progress) → run_from (suc index) (front ++ back) next
    ≡ run_on (suc index + length front) back (run_from (suc index) front next).0 (run_from (suc index) front next).1)
    → goes_on index p refused after (run_from (suc index) (front ++ back))
    ≡ run_on (suc index + length front) back (goes_on index p refused after (run_from (suc index) front)).0
    (goes_on index p refused after (run_from (suc index) front)).1
joined_on index front back p (Some cause) after rest = refl
joined_on index front back p None None rest = refl
joined_on index front back p None (Some next) rest = rest next

pub joined : (index : ℕ) (front back : List Entry) (p : Progress)
    → run_from index (front ++ back) p ≡ run_on (index + length front) back (run_from index front p).0 (run_from index front p).1
joined index [] back p =
    let none : index ≡ index + 0 = omega arith in
    ap (λ n. run_from n back p) none
joined index (entry ∷ front) back p =
    let later : suc index + length front ≡ index + suc (length front) = omega arith in
    let run = run_from index (entry ∷ front) p in
    joined_on index front back p (cause_of entry p) (carried_out entry p) (joined (suc index) front back)
    ∙ ap (λ n. run_on n back run.0 run.1) later
