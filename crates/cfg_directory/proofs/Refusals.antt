-- What a refusal is, and that it stays.
use Rattle.std.proofs.Common.{◌≡◌, ℕ, zero, suc, ◌+◌, ◌*◌, Bool, true, false, cond, ltb, List, [], ◌∷◌, ◌++◌, length, take, drop, Result, Ok, Err, not, nat_le}
use Rattle.std.proofs.Common.{arith, refl, sym, ap, subst, ◌∙◌, inl, inr}
use Rattle.std.specs.Prelude.{◌&&◌, ◌==◌}
use Rattle.std.specs.List.{list_any}
use Rattle.std.specs.Str.{bytes_eq}
use Rattle.std.proofs.lemmas.List.{take-append-le, drop-append-le, length-append}
use Rattle.vt_outside.specs.declared.name.NameFault.{NameFault}
use Rattle.vt_outside.specs.Readings.{◌into◌, Agrees}
use Rattle.vt_bytes.specs.Numbers.{be}
use Rattle.vt_layout.specs.Reading.{read_number, read_name}
use Rattle.cfg_directory.specs.declared.item.Item.{Item}
use Rattle.cfg_directory.specs.declared.listed.Listed.{Listed}
use Rattle.cfg_directory.specs.declared.container.ImageFault.{ImageFault}
use Rattle.cfg_directory.specs.declared.container.ImageFault.TheVariants.{Truncated, TooMany, BadName, TwiceNamed, TwiceSelected, BadSelect, BadFlag}
use Rattle.cfg_directory.specs.declared.container.ImageFault.TheVariants.{TrailingBytes, TooLarge, OutOfMemory}
use Rattle.cfg_directory.specs.Items.{file_limit, bytes_limit, entry_rows}
use Rattle.cfg_directory.specs.Container.{HasEntries, listed_so, entry_so, directory_so, flags_so, items_so, contents_so, flagged_so, reported}
use Rattle.cfg_directory.specs.Container.{counted_so, read_so}
use Rattle.cfg_directory.specs.Fed.{Refuses, judged_by, judged}
use Rattle.cfg_directory.specs.Held.{IsRefusal, sizes_of}
use Rattle.cfg_directory.proofs.Faults.{fault_stays}

-- ---- what is judged

by_fault : (bytes : List ℕ) (fault : ImageFault) → (fault ≡ Truncated → ⊥) → judged_by bytes (Err fault) ≡ Refuses fault
by_fault bytes Truncated late = absurd (late refl)
by_fault bytes fault late = refl

pub judged_fault : (bytes : List ℕ) (fault : ImageFault) → read_so bytes ≡ Err fault → (fault ≡ Truncated → ⊥) → judged bytes ≡ Refuses fault
judged_fault bytes fault is late = ap (judged_by bytes) is ∙ by_fault bytes fault late

fault_judged : (bytes : List ℕ) (read : Result (List Item) ImageFault) (fault : ImageFault) → judged_by bytes read ≡ Refuses fault
    → (read ≡ Err fault) × (fault ≡ Truncated → ⊥)
fault_judged bytes (Ok items) fault is = absurd cc
fault_judged bytes (Err Truncated) fault is = absurd cc
fault_judged bytes (Err other) fault is = (cc, λ late. cc)

-- ---- a refusal stays

pub entries_stay : (bytes rest : List ℕ) → HasEntries bytes → HasEntries (bytes ++ rest)
entries_stay bytes rest entries =
    let front : take 4 (bytes ++ rest) ≡ take 4 bytes = take-append-le 4 bytes rest entries.0 in
    let size : length (drop 4 (bytes ++ rest)) ≡ length (drop 4 bytes) + length rest =
    ap length (drop-append-le 4 bytes rest entries.0) ∙ length-append (drop 4 bytes) rest in
    let count : be (take 4 (bytes ++ rest)) ≡ be (take 4 bytes) = ap be front in
    (omega (arith, length-append bytes rest), omega (arith, count, entries.1), omega (arith, count, size, entries.2))

pub refusal_stays : (bytes rest : List ℕ) (fault : ImageFault) → IsRefusal bytes fault → IsRefusal (bytes ++ rest) fault
refusal_stays bytes rest fault (inl is) =
    let read = fault_judged bytes (read_so bytes) fault is in
    inl (judged_fault (bytes ++ rest) fault (fault_stays bytes rest fault read.1 read.0) read.1)
refusal_stays bytes rest fault (inr (lack, entries)) = inr (lack, entries_stay bytes rest entries)

-- ---- parts that are there never end too early, and none needs memory

abbrev IsNoPartFault : ImageFault → Type 0
IsNoPartFault Truncated = Unit {0}
IsNoPartFault OutOfMemory = Unit {0}
IsNoPartFault fault = ⊥

another : (fault other : ImageFault) → (IsNoPartFault fault → ⊥) → IsNoPartFault other → fault ≡ other → ⊥
another fault other is outside same = is (subst IsNoPartFault (sym same) outside)

guarded : {A : Type 0} (other : ImageFault) (test : Bool) (fault : ImageFault) (rest : Result A ImageFault) → (fault ≡ other → ⊥)
    → (rest ≡ Err other → ⊥) → cond test (Err fault) rest ≡ Err other → ⊥
guarded other true fault rest differs behind is =
    let same : fault ≡ other = cc in
    differs same
guarded other false fault rest differs behind is = behind is

bound : {A B : Type 0} (other : ImageFault) (step : Result A ImageFault) (next : A → Result B ImageFault) → (step ≡ Err other → ⊥)
    → ((x : A) → next x ≡ Err other → ⊥) → (step into next) ≡ Err other → ⊥
bound other (Ok x) next first behind is = behind x is
bound other (Err fault) next first behind is =
    let same : fault ≡ other = cc in
    first (ap (λ f. Err f) same)

listed_there : (other : ImageFault) → IsNoPartFault other → (index : ℕ) (before : List Listed) (size select : ℕ) (name : Result (List ℕ) NameFault)
    → listed_so index before size select name ≡ Err other → ⊥
listed_there other outside index before size select (Err fault) is =
    let same : BadName index ≡ other = cc in
    another (BadName index) other (λ no. no) outside same
listed_there other outside index before size select (Ok name) is =
    let listed : Listed = record { name = name; select = select; size = size } in
    let all : Result Listed ImageFault = Ok listed in
    guarded other (list_any (λ (l : Listed). bytes_eq l.name name) before) (TwiceNamed index) _ (another (TwiceNamed index) other (λ no. no) outside)
    (guarded other (not (nat_le 0x20 select && nat_le select 0x3FFF)) (BadSelect index) _ (another (BadSelect index) other (λ no. no) outside)
    (guarded other (list_any (λ (l : Listed). l.select == select) before) (TwiceSelected index) all (another (TwiceSelected index) other (λ no. no) outside)
    (λ late. cc))) is

entry_there : (other : ImageFault) → IsNoPartFault other → (index : ℕ) (before : List Listed) (entry : List ℕ)
    → entry_so index before entry ≡ Err other → ⊥
unfolding entry_so
entry_there other outside index before entry is =
    let rows = entry_rows 0 0 [] in
    listed_there other outside index before (read_number 0 rows entry) (read_number 1 rows entry) (read_name 3 rows entry) is

pub directory_there : (other : ImageFault) → IsNoPartFault other → (n index : ℕ) (before : List Listed) (bytes : List ℕ)
    → directory_so n index before bytes ≡ Err other → ⊥
unfolding directory_so
directory_there other outside zero index before bytes is = cc
directory_there other outside (suc n) index before bytes is =
    bound other (entry_so index before (take 64 bytes)) (λ listed. directory_so n (index + 1) (before ++ listed ∷ []) (drop 64 bytes))
    (entry_there other outside index before (take 64 bytes))
    (λ listed. directory_there other outside n (index + 1) (before ++ listed ∷ []) (drop 64 bytes)) is

pub flags_there : (other : ImageFault) → IsNoPartFault other → (index : ℕ) (flags : List ℕ) → flags_so index flags ≡ Err other → ⊥
unfolding flags_so
flags_there other outside index [] is = cc
flags_there other outside index (zero ∷ flags) is =
    bound other (flags_so (index + 1) flags) (λ rest. Ok (false ∷ rest)) (flags_there other outside (index + 1) flags) (λ rest late. cc) is
flags_there other outside index (suc zero ∷ flags) is =
    bound other (flags_so (index + 1) flags) (λ rest. Ok (true ∷ rest)) (flags_there other outside (index + 1) flags) (λ rest late. cc) is
flags_there other outside index (suc (suc flag) ∷ flags) is =
    let same : BadFlag index ≡ other = cc in
    another (BadFlag index) other (λ no. no) outside same

contents_there : (listed : List Listed) (flags : List Bool) (bytes : List ℕ) → contents_so listed flags bytes ≡ Err OutOfMemory → ⊥
unfolding contents_so
contents_there listed flags bytes is =
    let total = sizes_of listed in
    let all : Result (List Item) ImageFault = Ok (items_so listed flags bytes) in
    guarded OutOfMemory (ltb bytes_limit total) TooLarge _ (λ late. cc)
    (guarded OutOfMemory (ltb (length bytes) total) Truncated _ (λ late. cc)
    (guarded OutOfMemory (ltb total (length bytes)) TrailingBytes all (λ late. cc) (λ late. cc))) is

flagged_there : (n : ℕ) (listed : List Listed) (bytes : List ℕ) → flagged_so n listed bytes ≡ Err OutOfMemory → ⊥
unfolding flagged_so
flagged_there n listed bytes is =
    guarded OutOfMemory (ltb (length bytes) n) Truncated _ (λ late. cc)
    (bound OutOfMemory (flags_so 0 (take n bytes)) (λ flags. contents_so listed flags (drop n bytes)) (flags_there OutOfMemory tt 0 (take n bytes))
    (λ flags. contents_there listed flags (drop n bytes))) is

counted_there : (n : ℕ) (bytes : List ℕ) → counted_so n bytes ≡ Err OutOfMemory → ⊥
unfolding counted_so
counted_there n bytes is =
    guarded OutOfMemory (ltb file_limit n) TooMany _ (λ late. cc)
    (guarded OutOfMemory (ltb (length bytes) (64 * n)) Truncated _ (λ late. cc)
    (bound OutOfMemory (directory_so n 0 [] bytes) (λ listed. flagged_so n listed (drop (64 * n) bytes)) (directory_there OutOfMemory tt n 0 [] bytes)
    (λ listed. flagged_there n listed (drop (64 * n) bytes)))) is

-- reading never lacks memory
pub reading_there : (bytes : List ℕ) → read_so bytes ≡ Err OutOfMemory → ⊥
unfolding read_so
reading_there bytes is =
    guarded OutOfMemory (ltb (length bytes) 4) Truncated _ (λ late. cc) (counted_there (be (take 4 bytes)) (drop 4 bytes)) is

-- ---- what a call that judges a part tells

pub refused : {A : Type 0} (fault : ImageFault) (step : Result A ImageFault) (bytes : List ℕ) → Agrees reported (λ (x : A). x) (Err fault) step
    → (step ≡ Err Truncated → ⊥) → ((f : ImageFault) → step ≡ Err f → read_so bytes ≡ Err f) → HasEntries bytes → IsRefusal bytes fault
refused OutOfMemory step bytes gives there is entries = inr (refl, entries)
refused Truncated step bytes gives there is entries = absurd (there gives)
refused fault step bytes gives there is entries = inl (judged_fault bytes fault (is fault gives) (λ late. cc))
