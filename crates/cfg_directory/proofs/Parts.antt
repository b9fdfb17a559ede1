-- The parts of a container, read one by one.
use Rattle.std.proofs.Common.{◌≡◌, ℕ, zero, suc, ◌+◌, ◌-◌, ◌*◌, ◌<◌, ◌≤◌, Bool, true, false, cond, not, nat_lt, ltb, List, [], ◌∷◌, ◌++◌, length, map, take}
use Rattle.std.proofs.Common.{drop, get_or, Some, None, Result, Ok, Err, arith, refl, sym, ap, ap₂, ◌∙◌, append_assoc, inl, inr}
use Rattle.std.specs.List.{position, position_or_len}
use Rattle.std.proofs.lemmas.Bool.{lt-ltb, le-ltb, ltb-true, ltb-false, cond-true, cond-false, cases_Bool}
use Rattle.std.proofs.lemmas.List.{append-nil, drop_more, drop_all, get_or-map, length-map}
use Rattle.std.proofs.lemmas.Option.{none-some, cond_some}
use Rattle.vt_outside.specs.Readings.{◌into◌}
use Rattle.cfg_directory.specs.declared.item.Item.{Item}
use Rattle.cfg_directory.specs.declared.listed.Listed.{Listed}
use Rattle.cfg_directory.specs.declared.container.ImageFault.{ImageFault}
use Rattle.cfg_directory.specs.declared.container.ImageFault.TheVariants.{Truncated, BadFlag}
use Rattle.cfg_directory.specs.Container.{entry_so, directory_so, flags_so, item_so, items_so}
use Rattle.cfg_directory.specs.Parts.{is_set, directory_at, flags_at}

-- ---- the directory

-- where the entries are there, they are read
pub directory_at-long : (count : ℕ) (bytes : List ℕ) → 64 * count ≤ length bytes
    → directory_at count bytes ≡ (directory_so count 0 [] bytes into (λ listed. Ok (listed, drop (64 * count) bytes)))
unfolding directory_at
directory_at-long count bytes long = cond-false (ltb (length bytes) (64 * count)) _ _ (le-ltb _ _ long)

-- else nothing is read
pub directory_at-short : (count : ℕ) (bytes : List ℕ) → length bytes < 64 * count → directory_at count bytes ≡ Err Truncated
unfolding directory_at
directory_at-short count bytes short = cond-true (ltb (length bytes) (64 * count)) _ _ (lt-ltb _ _ short)

-- one entry more is read
pub entry_goes_on : (count index : ℕ) (before : List Listed) (bytes : List ℕ) (listed : Listed) (total : Result (List Listed) ImageFault) → index < count
    → entry_so index before (take 64 bytes) ≡ Ok listed → directory_so (count - index) index before bytes ≡ total
    → directory_so (count - (index + 1)) (index + 1) (before ++ listed ∷ []) (drop 64 bytes) ≡ total
unfolding directory_so
entry_goes_on count index before bytes listed total within is so_far =
    let one_less : count - index ≡ suc (count - (index + 1)) = omega arith in
    let one : directory_so (count - index) index before bytes ≡ directory_so (count - (index + 1)) (index + 1) (before ++ listed ∷ []) (drop 64 bytes) =
    ap (λ left. directory_so left index before bytes) one_less
    ∙ ap (λ read. read into (λ l. directory_so (count - (index + 1)) (index + 1) (before ++ l ∷ []) (drop 64 bytes))) is in
    sym one ∙ so_far

-- the fault of an entry is the directory's
pub entry_fails : (count index : ℕ) (before : List Listed) (rest bytes : List ℕ) → index < count → 64 * count ≤ length bytes
    → directory_so (count - index) index before rest ≡ directory_so count 0 [] bytes → (fault : ImageFault)
    → entry_so index before (take 64 rest) ≡ Err fault → directory_at count bytes ≡ Err fault
unfolding directory_so
entry_fails count index before rest bytes within long so_far fault is =
    let one_less : count - index ≡ suc (count - (index + 1)) = omega arith in
    let one : directory_so (count - index) index before rest ≡ Err fault =
    ap (λ left. directory_so left index before rest) one_less
    ∙ ap (λ read. read into (λ l. directory_so (count - (index + 1)) (index + 1) (before ++ l ∷ []) (drop 64 rest))) is in
    directory_at-long count bytes long ∙ ap (λ read. read into (λ listed. Ok (listed, drop (64 * count) bytes))) (sym so_far ∙ one)

-- behind the last entry the directory is read
pub entries_done : (count index : ℕ) (listed : List Listed) (rest bytes : List ℕ) → index ≡ count → 64 * count ≤ length bytes
    → directory_so (count - index) index listed rest ≡ directory_so count 0 [] bytes → rest ≡ drop (64 * index) bytes
    → directory_at count bytes ≡ Ok (listed, rest)
unfolding directory_so
entries_done count index listed rest bytes at_end long so_far rest_is =
    let none_left : count - index ≡ 0 = omega arith in
    let one : directory_so (count - index) index listed rest ≡ Ok listed = ap (λ left. directory_so left index listed rest) none_left in
    let rest_at : drop (64 * count) bytes ≡ rest = sym (rest_is ∙ ap (λ n. drop (64 * n) bytes) at_end) in
    directory_at-long count bytes long
    ∙ ap (λ read. read into (λ l. Ok (l, drop (64 * count) bytes))) (sym so_far ∙ one)
    ∙ ap (λ (after : List ℕ). Ok (listed, after)) rest_at

-- ---- the flags

-- a flag that is neither 0 nor 1
abbrev pub is_bad : ℕ → Bool
is_bad flag = nat_lt 1 flag

-- the first such flag is the fault
first_bad : (flags : List ℕ) (index : ℕ) → position_or_len is_bad flags < length flags
    → flags_so index flags ≡ Err (BadFlag (index + position_or_len is_bad flags))
unfolding flags_so
first_bad [] index within = absurd (omega arith)
first_bad (zero ∷ flags) index within =
    let later : index + 1 + position_or_len is_bad flags ≡ index + (1 + position_or_len is_bad flags) = omega arith in
    ap (λ read. read into (λ rest. Ok (false ∷ rest))) (first_bad flags (index + 1) (omega arith)) ∙ ap (λ place. Err (BadFlag place)) later
first_bad (suc zero ∷ flags) index within =
    let later : index + 1 + position_or_len is_bad flags ≡ index + (1 + position_or_len is_bad flags) = omega arith in
    ap (λ read. read into (λ rest. Ok (true ∷ rest))) (first_bad flags (index + 1) (omega arith)) ∙ ap (λ place. Err (BadFlag place)) later
first_bad (suc (suc flag) ∷ flags) index within =
    let first : position_or_len is_bad (suc (suc flag) ∷ flags) ≡ 0 =
    ap (λ bad. cond (not bad) (1 + position_or_len is_bad flags) 0) (lt-ltb 1 (suc (suc flag)) (omega arith)) in
    let here : index ≡ index + position_or_len is_bad (suc (suc flag) ∷ flags) = omega arith in
    ap (λ place. Err (BadFlag place)) here

-- where there is none each flag is read
none_bad : (flags : List ℕ) (index : ℕ) → length flags ≤ position_or_len is_bad flags → flags_so index flags ≡ Ok (map is_set flags)
unfolding flags_so
none_bad [] index none = refl
none_bad (zero ∷ flags) index none =
    ap (λ read. read into (λ rest. Ok (false ∷ rest))) (none_bad flags (index + 1) (omega arith))
none_bad (suc zero ∷ flags) index none =
    ap (λ read. read into (λ rest. Ok (true ∷ rest))) (none_bad flags (index + 1) (omega arith))
none_bad (suc (suc flag) ∷ flags) index none =
    let first : position_or_len is_bad (suc (suc flag) ∷ flags) ≡ 0 =
    ap (λ bad. cond (not bad) (1 + position_or_len is_bad flags) 0) (lt-ltb 1 (suc (suc flag)) (omega arith)) in
    absurd (omega arith)

-- where the flags are there, they are read
pub flags_at-long : (count : ℕ) (bytes : List ℕ) → count ≤ length bytes
    → flags_at count bytes ≡ (flags_so 0 (take count bytes) into (λ flags. Ok (flags, drop count bytes)))
unfolding flags_at
flags_at-long count bytes long = cond-false (ltb (length bytes) count) _ _ (le-ltb _ _ long)

zero_more : (n : ℕ) → 0 + n ≡ n
zero_more n = omega arith

-- where no element passes, none is before the end
no_place : {A : Type 0} (test : A → Bool) (xs : List A) → position test xs ≡ None → ltb (position_or_len test xs) (length xs) ≡ false
no_place test xs none =
    elim (cases_Bool (ltb (position_or_len test xs) (length xs))) as (λ _. ltb (position_or_len test xs) (length xs) ≡ false) [
      | inl within ↦ absurd (none-some _ (sym none ∙ cond-true _ _ _ within))
      | inr past ↦ past
    ]

-- what a search for a bad flag says, of the flags and the rest that stand there
pub flag_fails : (count place : ℕ) (bytes flags : List ℕ) → count ≤ length bytes → flags ≡ take count bytes → position is_bad flags ≡ Some place
    → flags_at count bytes ≡ Err (BadFlag place)
flag_fails count place bytes flags long is found =
    let parts = cond_some _ (position_or_len is_bad flags) place found in
    let bad : flags_so 0 flags ≡ Err (BadFlag place) =
    first_bad flags 0 (ltb-true _ _ parts.0) ∙ ap (λ k. Err (BadFlag k)) (zero_more (position_or_len is_bad flags) ∙ parts.1) in
    flags_at-long count bytes long
    ∙ ap (λ read. read into (λ bools. Ok (bools, drop count bytes))) (ap (flags_so 0) (sym is) ∙ bad)

pub flags_read : (count : ℕ) (bytes flags rest : List ℕ) → count ≤ length bytes → flags ≡ take count bytes → rest ≡ drop count bytes
    → position is_bad flags ≡ None → flags_at count bytes ≡ Ok (map is_set flags, rest)
flags_read count bytes flags rest long is rest_is none =
    let good : flags_so 0 flags ≡ Ok (map is_set flags) = none_bad flags 0 (ltb-false _ _ (no_place is_bad flags none)) in
    flags_at-long count bytes long
    ∙ ap (λ read. read into (λ bools. Ok (bools, drop count bytes))) (ap (flags_so 0) (sym is) ∙ good)
    ∙ ap (λ (after : List ℕ). Ok (map is_set flags, after)) (sym rest_is)

-- ---- the items

-- one more item is taken
pub item_taken : (listed : List Listed) (flags rest : List ℕ) (items new total : List Item) (index : ℕ) (entry : Listed)
    → index < length listed → length flags ≡ length listed → entry ≡ get_or listed index entry
    → items ++ items_so (drop index listed) (drop index (map is_set flags)) rest ≡ total
    → new ≡ items ++ item_so entry (is_set (get_or flags index 0)) (take entry.size rest) ∷ []
    → new ++ items_so (drop (index + 1) listed) (drop (index + 1) (map is_set flags)) (drop entry.size rest) ≡ total
unfolding items_so
item_taken listed flags rest items new total index entry within as_many entry_is so_far new_is =
    let item = item_so entry (is_set (get_or flags index 0)) (take entry.size rest) in
    let others = items_so (drop (index + 1) listed) (drop (index + 1) (map is_set flags)) (drop entry.size rest) in
    let entries : drop index listed ≡ entry ∷ drop (index + 1) listed =
    drop_more listed index entry within ∙ ap (λ (l : Listed). l ∷ drop (index + 1) listed) (sym entry_is) in
    let set : drop index (map is_set flags) ≡ is_set (get_or flags index 0) ∷ drop (index + 1) (map is_set flags) =
    drop_more (map is_set flags) index false (omega (arith, length-map flags is_set))
    ∙ ap (λ b. b ∷ drop (index + 1) (map is_set flags)) (get_or-map is_set flags index 0 false (omega arith)) in
    let one : items_so (drop index listed) (drop index (map is_set flags)) rest ≡ item ∷ others =
    ap₂ (λ (ls : List Listed) (bs : List Bool). items_so ls bs rest) entries set in
    ap (λ (is : List Item). is ++ others) new_is ∙ append_assoc items (item ∷ []) others ∙ ap (λ (is : List Item). items ++ is) (sym one) ∙ so_far

-- behind the last entry all items are taken
pub items_done : (listed : List Listed) (bools : List Bool) (rest : List ℕ) (items total : List Item) (index : ℕ) → length listed ≤ index
    → items ++ items_so (drop index listed) (drop index bools) rest ≡ total → items ≡ total
unfolding items_so
items_done listed bools rest items total index at_end so_far =
    sym (append-nil items)
    ∙ sym (ap (λ (ls : List Listed). items ++ items_so ls (drop index bools) rest) (drop_all index listed at_end))
    ∙ so_far
