-- The unknown key that is named is the least one.
use Rattle.std.proofs.Common.{◌≡◌, ℕ, true, false, ◌⊎◌, inl, inr, List, Option, Some, None, Result, Err, Ordering, Less, Equal, Greater, nat_cmp}
use Rattle.std.proofs.Common.{refl, sym, ap, ◌∙◌, subst, ⊎_elim}
use Rattle.std.proofs.lemmas.Bool.{false≢true, cases_Bool}
use Rattle.std.proofs.lemmas.Cmp.{nat_list_cmp_total}
use Rattle.std.specs.Cmp.{tied_itself}
use Rattle.std.specs.Cmp.Lexicographic.{slice_cmp}
use Rattle.std.specs.Ordering.{is_le, ordering_reverse}
use Rattle.std.proofs.lemmas.Option.{same_Some}
use Rattle.toml.specs.Data.{Members, no_members, member}
use Rattle.desc_schema.specs.declared.fault.Place.{Place}
use Rattle.desc_schema.specs.declared.fault.WalkFault.{WalkFault}
use Rattle.desc_schema.specs.declared.fault.WalkFault.TheVariants.{UnknownKey}
use Rattle.desc_schema.specs.Form.{Field}
use Rattle.desc_schema.specs.Walk.{is_known, lesser, least_unknown, known_or, all_known, IsAtMost, IsKey, IsLeastUnknown}

some_none : (name : List ℕ) → Some name ≡ None → ⊥
some_none name is = cc

pub none_some : (name : List ℕ) → None ≡ Some name → ⊥
none_some name is = cc

same_name : (place : Place) (k name : List ℕ) (given : Result (Unit {0}) WalkFault) → given ≡ Err (UnknownKey place k) → given ≡ Err (UnknownKey place name)
    → k ≡ name
same_name place k name given e is = cc

le_by : (k l m : List ℕ) (o p : Ordering) → slice_cmp nat_cmp k l ≡ o → slice_cmp nat_cmp l m ≡ p → is_le o ≡ true → is_le p ≡ true
    → is_le (slice_cmp nat_cmp k m) ≡ true
le_by k l m Less Less e f first second = rw (nat_list_cmp_total.trans k l m e f) refl
le_by k l m Less Equal e f first second =
    let less : slice_cmp nat_cmp k m ≡ Less =
    nat_list_cmp_total.antisymm k m ∙ ap ordering_reverse (sym (nat_list_cmp_total.congr l m k f)) ∙ sym (nat_list_cmp_total.antisymm k l) ∙ e in
    rw less refl
le_by k l m Less Greater e f first second = absurd (false≢true second)
le_by k l m Equal p e f first second = rw (nat_list_cmp_total.congr k l m e, f) second
le_by k l m Greater p e f first second = absurd (false≢true first)

le_then_le : (k l m : List ℕ) → is_le (slice_cmp nat_cmp k l) ≡ true → is_le (slice_cmp nat_cmp l m) ≡ true → is_le (slice_cmp nat_cmp k m) ≡ true
le_then_le k l m first second = le_by k l m (slice_cmp nat_cmp k l) (slice_cmp nat_cmp l m) refl refl first second

reversed : (o : Ordering) → is_le o ≡ false → is_le (ordering_reverse o) ≡ true
reversed Less h = absurd (false≢true (sym h))
reversed Equal h = absurd (false≢true (sym h))
reversed Greater h = refl

other_le : (k l : List ℕ) → is_le (slice_cmp nat_cmp k l) ≡ false → is_le (slice_cmp nat_cmp l k) ≡ true
other_le k l h = rw (nat_list_cmp_total.antisymm l k) (reversed (slice_cmp nat_cmp k l) h)

at_most_lower : (fields : List Field) (k l : List ℕ) (table : Members) → is_le (slice_cmp nat_cmp k l) ≡ true → IsAtMost fields l table
    → IsAtMost fields k table
at_most_lower fields k l no_members le at_most = tt
at_most_lower fields k l (member m d more) le (here, others) = (λ unknown. le_then_le k l m le (here unknown), at_most_lower fields k l more le others)

at_most_none : (fields : List Field) (k : List ℕ) (table : Members) → least_unknown fields table ≡ None → IsAtMost fields k table
at_most_none fields k no_members none = tt
at_most_none fields k (member m d more) none =
    ⊎_elim
    (λ known. (λ unknown. absurd (false≢true (sym unknown ∙ known)), at_most_none fields k more (rw known at none)))
    (λ unknown. absurd (some_none (lesser m (least_unknown fields more)) (rw unknown at none)))
    (cases_Bool (is_known fields m))

-- the least unknown key of a first one and others
abbrev IsLeastOf : List Field → List ℕ → Members → List ℕ → Type 0
IsLeastOf fields k more name =
    (IsKey name more ⊎ (name ≡ k)) × (is_known fields name ≡ false) × (is_le (slice_cmp nat_cmp name k) ≡ true) × IsAtMost fields name more

least_of : (fields : List Field) (k : List ℕ) (more : Members) (o : Option (List ℕ)) → least_unknown fields more ≡ o → is_known fields k ≡ false
    → ((name : List ℕ) → o ≡ Some name → IsLeastUnknown fields name more) → IsLeastOf fields k more (lesser k o)
least_of fields k more None is unknown others = (inr refl, unknown, rw (tied_itself nat_list_cmp_total k) refl, at_most_none fields k more is)
least_of fields k more (Some other) is unknown others =
    let (key, known, at_most) = others other refl in
    ⊎_elim
    (λ le.
    let same : k ≡ lesser k (Some other) = rw le refl in
    subst (IsLeastOf fields k more) same (inr refl, unknown, rw (tied_itself nat_list_cmp_total k) refl, at_most_lower fields k other more le at_most))
    (λ gt.
    let same : other ≡ lesser k (Some other) = rw gt refl in
    subst (IsLeastOf fields k more) same (inl key, known, other_le k other gt, at_most))
    (cases_Bool (is_le (slice_cmp nat_cmp k other)))

pub least : (fields : List Field) (table : Members) (name : List ℕ) → least_unknown fields table ≡ Some name → IsLeastUnknown fields name table
least fields no_members name is = absurd (none_some name is)
least fields (member k d more) name is =
    ⊎_elim
    (λ known.
    let (key, unknown, at_most) = least fields more name (rw known at is) in
    (inr key, unknown, (λ not_known. absurd (false≢true (sym not_known ∙ known)), at_most)))
    (λ unknown.
    let (key, alone, le, at_most) = least_of fields k more (least_unknown fields more) refl unknown (λ n e. least fields more n e) in
    let same : lesser k (least_unknown fields more) ≡ name = same_Some _ _ (rw unknown at is) in
    subst (λ (n : List ℕ). IsLeastUnknown fields n (member k d more)) same
    (⊎_elim (λ there. inr there) (λ here. inl here) key, alone, (λ not_known. le, at_most)))
    (cases_Bool (is_known fields k))

named : (place : Place) (found : Option (List ℕ)) (name : List ℕ) → known_or place found ≡ Err (UnknownKey place name) → found ≡ Some name
named place None name is = absurd (cc)
named place (Some other) name is = ap (λ (n : List ℕ). Some n) (same_name place other name (known_or place (Some other)) refl is)

pub least_named : (place : Place) (fields : List Field) (table : Members) (name : List ℕ) → all_known place fields table ≡ Err (UnknownKey place name)
    → IsLeastUnknown fields name table
least_named place fields table name is = least fields table name (named place (least_unknown fields table) name is)
