-- A member that is put at its place among others: what is found there, which keys they have, and how deep they are.
use Rattle.std.proofs.Common.{◌≡◌, ℕ, ◌≤◌, true, false, List, Option, Some, None, refl, sym, ap, ◌∙◌, ⊎_elim, arith}
use Rattle.std.proofs.Common.{Ordering, Less, Equal, Greater, nat_cmp}
use Rattle.std.proofs.lemmas.Bool.{false≢true, cases_Bool, and_parts}
use Rattle.std.proofs.lemmas.Cmp.{nat_list_cmp_total}
use Rattle.std.proofs.lemmas.Map.Text.{is_eq-slice_cmp}
use Rattle.std.proofs.lemmas.Slice.Eq.{bytes_eq-Decides}
use Rattle.std.specs.Cmp.{tied_itself}
use Rattle.std.specs.Cmp.Lexicographic.{slice_cmp}
use Rattle.std.specs.Ordering.{is_eq, match_ordering}
use Rattle.std.specs.Str.{bytes_eq}
use Rattle.vt_outside.proofs.Texts.{other_turned}
use Rattle.toml.specs.Data.{Data, Members, no_members, member, get_member, depth, members_depth, has_valid_dates, members_have_valid_dates}
use Rattle.desc_schema.specs.Form.{Field}
use Rattle.desc_schema.specs.Walk.{least_unknown, is_known, lesser}
use Rattle.desc_schema.specs.Written.{put_member, with_member}

-- look-ups

get_by : (o : Ordering) (before here : Option Data) → is_eq o ≡ false → match_ordering o before here before ≡ before
get_by Less before here differ = refl
get_by Equal before here differ = absurd (false≢true (sym differ))
get_by Greater before here differ = refl

get_past : (name other : List ℕ) (before here : Option Data) → bytes_eq name other ≡ false
    → match_ordering (slice_cmp nat_cmp name other) before here before ≡ before
get_past name other before here differ = get_by (slice_cmp nat_cmp name other) before here (is_eq-slice_cmp name other ∙ differ)

put_here-at : (o : Ordering) (name other : List ℕ) (node there : Data) (entries : Members) → o ≡ slice_cmp nat_cmp name other
    → get_member name (put_member name node entries) ≡ Some node
    → get_member name
    (match_ordering o (member name node (member other there entries)) (member other node entries) (member other there (put_member name node entries)))
    ≡ Some node
put_here-at Less name other node there entries same others = rw (tied_itself nat_list_cmp_total name)
put_here-at Equal name other node there entries same others = rw (← same)
put_here-at Greater name other node there entries same others = rw (← same) others

-- the name that was put has its node
put_here : (name : List ℕ) (node : Data) (entries : Members) → get_member name (put_member name node entries) ≡ Some node
put_here name node no_members = rw (tied_itself nat_list_cmp_total name)
put_here name node (member other there entries) =
    put_here-at (slice_cmp nat_cmp name other) name other node there entries refl (put_here name node entries)

put_other-at : (o : Ordering) (name key other : List ℕ) (node there : Data) (entries : Members) → o ≡ slice_cmp nat_cmp key other
    → bytes_eq name key ≡ false
    → get_member name (put_member key node entries) ≡ get_member name entries
    → get_member name
    (match_ordering o (member key node (member other there entries)) (member other node entries) (member other there (put_member key node entries)))
    ≡ get_member name (member other there entries)
put_other-at Less name key other node there entries same differ others =
    get_past name key (get_member name (member other there entries)) (Some node) differ
put_other-at Equal name key other node there entries same differ others =
    let equal : key ≡ other = (bytes_eq-Decides key other).0 (sym (is_eq-slice_cmp key other) ∙ ap is_eq (sym same)) in
    let apart : bytes_eq name other ≡ false = rw equal at differ in
    get_past name other (get_member name entries) (Some node) apart ∙ sym (get_past name other (get_member name entries) (Some there) apart)
put_other-at Greater name key other node there entries same differ others = rw others

-- any other name has what it had
put_other : (name key : List ℕ) (node : Data) (entries : Members) → bytes_eq name key ≡ false
    → get_member name (put_member key node entries) ≡ get_member name entries
put_other name key node no_members differ = get_past name key None (Some node) differ
put_other name key node (member other there entries) differ =
    put_other-at (slice_cmp nat_cmp key other) name key other node there entries refl differ (put_other name key node entries differ)

pub get_here : (name : List ℕ) (node : Option Data) (entries : Members) → get_member name entries ≡ None
    → get_member name (with_member name node entries) ≡ node
get_here name None entries none = none
get_here name (Some node) entries none = put_here name node entries

pub get_other : (name key : List ℕ) (node : Option Data) (entries : Members) → bytes_eq key name ≡ false
    → get_member name (with_member key node entries) ≡ get_member name entries
get_other name key None entries differ = refl
get_other name key (Some node) entries differ = put_other name key node entries (other_turned key name differ)

-- keys

no_some : (name : List ℕ) → Some name ≡ None → ⊥
no_some name is = cc

none_unknown-at : (o : Ordering) (every : List Field) (name other : List ℕ) (node there : Data) (entries : Members) → is_known every name ≡ true
    → least_unknown every (put_member name node entries) ≡ None → least_unknown every (member other there entries) ≡ None
    → least_unknown every
    (match_ordering o (member name node (member other there entries)) (member other node entries) (member other there (put_member name node entries)))
    ≡ None
none_unknown-at Less every name other node there entries known inside none = rw known none
none_unknown-at Equal every name other node there entries known inside none = none
none_unknown-at Greater every name other node there entries known inside none =
    ⊎_elim
    (λ is. rw is inside)
    (λ not. absurd (no_some (lesser other (least_unknown every entries)) (rw not at none)))
    (cases_Bool (is_known every other))

-- among the members that come after, none is unknown either
none_after : (every : List Field) (other : List ℕ) (there : Data) (entries : Members) → least_unknown every (member other there entries) ≡ None
    → least_unknown every entries ≡ None
none_after every other there entries none =
    ⊎_elim
    (λ is. rw is at none)
    (λ not. absurd (no_some (lesser other (least_unknown every entries)) (rw not at none)))
    (cases_Bool (is_known every other))

none_unknown-put : (every : List Field) (name : List ℕ) (node : Data) (entries : Members) → is_known every name ≡ true
    → least_unknown every entries ≡ None → least_unknown every (put_member name node entries) ≡ None
none_unknown-put every name node no_members known none = rw known refl
none_unknown-put every name node (member other there entries) known none =
    none_unknown-at (slice_cmp nat_cmp name other) every name other node there entries known
    (none_unknown-put every name node entries known (none_after every other there entries none)) none

pub none_unknown-with : (every : List Field) (name : List ℕ) (node : Option Data) (entries : Members) → is_known every name ≡ true
    → least_unknown every entries ≡ None → least_unknown every (with_member name node entries) ≡ None
none_unknown-with every name None entries known none = none
none_unknown-with every name (Some node) entries known none = none_unknown-put every name node entries known none

-- depth, and date-times

abbrev pub IsShallow : ℕ → Option Data → Type 0
IsShallow most None = Unit {0}
IsShallow most (Some node) = depth node ≤ most

shallow-at : (o : Ordering) (most : ℕ) (name other : List ℕ) (node there : Data) (entries : Members) → depth node ≤ most
    → members_depth (put_member name node entries) ≤ most → members_depth (member other there entries) ≤ most
    → members_depth
    (match_ordering o (member name node (member other there entries)) (member other node entries) (member other there (put_member name node entries)))
    ≤ most
shallow-at Less most name other node there entries here inside all = omega arith
shallow-at Equal most name other node there entries here inside all = omega arith
shallow-at Greater most name other node there entries here inside all = omega arith

shallow-put : (most : ℕ) (name : List ℕ) (node : Data) (entries : Members) → depth node ≤ most → members_depth entries ≤ most
    → members_depth (put_member name node entries) ≤ most
shallow-put most name node no_members here all = omega arith
shallow-put most name node (member other there entries) here all =
    let after : members_depth entries ≤ most = omega arith in
    shallow-at (slice_cmp nat_cmp name other) most name other node there entries here (shallow-put most name node entries here after) all

pub shallow-with : (most : ℕ) (name : List ℕ) (node : Option Data) (entries : Members) → IsShallow most node → members_depth entries ≤ most
    → members_depth (with_member name node entries) ≤ most
shallow-with most name None entries here all = all
shallow-with most name (Some node) entries here all = shallow-put most name node entries here all

abbrev pub HasDates : Option Data → Type 0
HasDates None = Unit {0}
HasDates (Some node) = has_valid_dates node ≡ true

dates-at : (o : Ordering) (name other : List ℕ) (node there : Data) (entries : Members) → has_valid_dates node ≡ true
    → members_have_valid_dates (put_member name node entries) ≡ true → members_have_valid_dates (member other there entries) ≡ true
    → members_have_valid_dates
    (match_ordering o (member name node (member other there entries)) (member other node entries) (member other there (put_member name node entries)))
    ≡ true
dates-at Less name other node there entries here inside all = rw (here, all)
dates-at Equal name other node there entries here inside all =
    rw (here, (and_parts (has_valid_dates there) (members_have_valid_dates entries) all).1)
dates-at Greater name other node there entries here inside all =
    rw ((and_parts (has_valid_dates there) (members_have_valid_dates entries) all).0, inside)

dates-put : (name : List ℕ) (node : Data) (entries : Members) → has_valid_dates node ≡ true → members_have_valid_dates entries ≡ true
    → members_have_valid_dates (put_member name node entries) ≡ true
dates-put name node no_members here all = rw here
dates-put name node (member other there entries) here all =
    dates-at (slice_cmp nat_cmp name other) name other node there entries here
    (dates-put name node entries here (and_parts (has_valid_dates there) (members_have_valid_dates entries) all).1) all

pub dates-with : (name : List ℕ) (node : Option Data) (entries : Members) → HasDates node → members_have_valid_dates entries ≡ true
    → members_have_valid_dates (with_member name node entries) ≡ true
dates-with name None entries here all = all
dates-with name (Some node) entries here all = dates-put name node entries here all
