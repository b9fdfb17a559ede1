-- A head to which some of a piece was added.
use Rattle.std.proofs.Common.{◌≡◌, ℕ, ◌-◌, ◌*◌, ◌<◌, ◌≤◌, Bool, List, [], ◌++◌, length, take, drop, Result}
use Rattle.std.proofs.Common.{arith, refl, sym, ap, ap₂, subst, ◌∙◌, inl, append_assoc}
use Rattle.std.proofs.lemmas.List.{append-nil, drop_all, take-append-drop, take-append-le, drop-append-le, length-append, length-drop}
use Rattle.vt_bytes.specs.Numbers.{be}
use Rattle.cfg_directory.specs.declared.item.Item.{Item}
use Rattle.cfg_directory.specs.declared.listed.Listed.{Listed}
use Rattle.cfg_directory.specs.declared.held.Held.{Held}
use Rattle.cfg_directory.specs.declared.held.Stage.{Stage}
use Rattle.cfg_directory.specs.declared.container.ImageFault.{ImageFault}
use Rattle.cfg_directory.specs.declared.container.ImageFault.TheVariants.{TooMany}
use Rattle.cfg_directory.specs.Items.{file_limit}
use Rattle.cfg_directory.specs.Container.{directory_so, items_so}
use Rattle.cfg_directory.specs.Held.{HasCount, HasListed, IsOpened, Gathers, IsTaken, IsRefusal, bytes_of, contents_of}
use Rattle.cfg_directory.proofs.Faults.{counted, too_many, directory-append}
use Rattle.cfg_directory.proofs.Refusals.{judged_fault, refusal_stays}
use Rattle.cfg_directory.proofs.Files.{contents_held}
use Rattle.cfg_directory.proofs.Gathered.{nothing_left}
use Rattle.cfg_directory.proofs.States.{head_alone}

-- what a head takes of a piece, up to a size
pub record IsHeadFilled (head piece new left : List ℕ) (size : ℕ) : Type 0 where
  pub more : List ℕ
  pub new_is : new ≡ head ++ more
  pub joined : new ++ left ≡ head ++ piece
  pub within : length new ≤ size
  pub none : length new < size → left ≡ []

pub IsHeadFilled-from : (head piece new left : List ℕ) (size : ℕ) → new ≡ head ++ take (size - length head) piece
    → left ≡ drop (size - length head) piece → length head ≤ size → IsHeadFilled head piece new left size
IsHeadFilled-from head piece new left size new_is left_is fits =
    let n = size - length head in
    let parts = ap length (take-append-drop n piece) in
    let sum = length-append (take n piece) (drop n piece) in
    let rest = length-drop n piece in
    let long = length-append head (take n piece) in
    let new_long = ap length new_is in
    record {
      more = take n piece;
      new_is = new_is;
      joined = ap₂ (λ (a b : List ℕ). a ++ b) new_is left_is ∙ append_assoc head (take n piece) (drop n piece)
          ∙ ap (λ (bytes : List ℕ). head ++ bytes) (take-append-drop n piece);
      within = omega arith;
      none = λ short. left_is ∙ drop_all n piece (omega arith);
    }

-- ---- what a head has stays

pub HasCount-stays : (head more new : List ℕ) (count : ℕ) → HasCount head count → new ≡ head ++ more → HasCount new count
HasCount-stays head more new count has new_is = subst (λ (h : List ℕ). HasCount h count) (sym new_is) (record {
  there = omega (arith, length-append head more, has.there);
  is = ap be (take-append-le 4 head more has.there) ∙ has.is;
  few = has.few;
})

pub HasListed-stays : (head more new : List ℕ) (count : ℕ) (listed : List Listed) → HasListed head count listed → new ≡ head ++ more
    → HasListed new count listed
HasListed-stays head more new count listed has new_is =
    let four = has.counted.there in
    let long : 64 * count ≤ length (drop 4 head) = omega (arith, length-drop 4 head, has.there) in
    subst (λ (h : List ℕ). HasListed h count listed) (sym new_is) (record {
      counted = HasCount-stays head more (head ++ more) count has.counted refl;
      there = omega (arith, length-append head more, has.there);
      says = ap (directory_so count 0 []) (drop-append-le 4 head more four) ∙ directory-append count 0 [] (drop 4 head) more long ∙ has.says;
    })

pub HasListed-at : (head shown : List ℕ) (count : ℕ) (listed given : List Listed) → shown ≡ head → given ≡ listed → HasListed head count listed
    → HasListed shown count given
HasListed-at head shown count listed given shown_is given_is has =
    subst (λ (h : List ℕ). HasListed h count given) (sym shown_is) (subst (HasListed head count) (sym given_is) has)

pub IsOpened-at : (head shown : List ℕ) (listed given : List Listed) (items : List Item) → shown ≡ head → given ≡ listed → IsOpened shown given items
    → IsOpened head listed items
IsOpened-at head shown listed given items shown_is given_is opened =
    subst (λ (h : List ℕ). IsOpened h listed items) shown_is (subst (λ (l : List Listed). IsOpened shown l items) given_is opened)

-- ---- with no files yet, a head is all that is held

pub head_fed : (old : Held) (piece new left : List ℕ) (size : ℕ) → old.items ≡ [] → IsHeadFilled old.head piece new left size
    → new ++ left ≡ bytes_of old ++ piece
head_fed old piece new left size none filled = filled.joined ∙ ap (λ (bytes : List ℕ). bytes ++ piece) (sym (head_alone old none))

-- the head isn't whole yet
pub still_short : (old new : Held) (piece head left : List ℕ) (size : ℕ) → old.items ≡ [] → new.items ≡ [] → new.head ≡ head
    → IsHeadFilled old.head piece head left size → length head < size → bytes_of new ≡ bytes_of old ++ piece
still_short old new piece head left size none none_yet head_is filled short =
    head_alone new none_yet ∙ head_is ∙ nothing_left head left (bytes_of old ++ piece) (head_fed old piece head left size none filled) (filled.none short)

-- a refusal of the head is one of all
pub head_refused : (old : Held) (piece head left : List ℕ) (size : ℕ) (fault : ImageFault) → old.items ≡ []
    → IsHeadFilled old.head piece head left size → IsRefusal head fault → IsRefusal (bytes_of old ++ piece) fault
head_refused old piece head left size fault none filled refusal =
    subst (λ (bytes : List ℕ). IsRefusal bytes fault) (head_fed old piece head left size none filled) (refusal_stays head left fault refusal)

-- what follows a whole head
pub taken_behind : (old mid new : Held) (piece left : List ℕ) (size : ℕ) (result : Result Stage ImageFault) → old.items ≡ []
    → contents_of mid.items ≡ [] → IsHeadFilled old.head piece mid.head left size → IsTaken (bytes_of mid ++ left) new result
    → IsTaken (bytes_of old ++ piece) new result
taken_behind old mid new piece left size result none empty filled is =
    let alone : bytes_of mid ≡ mid.head = ap (λ (bytes : List ℕ). mid.head ++ bytes) empty ∙ append-nil mid.head in
    subst (λ (bytes : List ℕ). IsTaken bytes new result)
    (ap (λ (bytes : List ℕ). bytes ++ left) alone ∙ head_fed old piece mid.head left size none filled) is

-- ---- too many files

pub too_many_refused : (head : List ℕ) → 4 ≤ length head → file_limit < be (take 4 head) → IsRefusal head TooMany
too_many_refused head there many =
    inl (judged_fault head TooMany (counted head there ∙ too_many (be (take 4 head)) (drop 4 head) many) (λ late. cc))

-- ---- files that were just made

pub nothing_held : (listed : List Listed) (flags : List Bool) (items : List Item) → length flags ≡ length listed → items ≡ items_so listed flags []
    → contents_of items ≡ []
nothing_held listed flags items as_many are = ap contents_of are ∙ contents_held listed flags [] as_many (omega arith)

pub gathers_first : (head : List ℕ) (listed : List Listed) (items : List Item)
    → IsOpened head listed items
    → Gathers (record { head = head; listed = listed; items = items; next = 0 })
gathers_first head listed items (flags, opens, are) =
    let none = nothing_held listed flags items opens.as_many are in
    let size : length (contents_of items) ≡ 0 = ap length none in
    record {
      flags = flags;
      opens = opens;
      items = are ∙ ap (items_so listed flags) (sym none);
      begun = omega arith;
      within = omega arith;
    }

pub none_first : (head : List ℕ) (listed : List Listed) (items : List Item)
    → IsOpened head listed items → contents_of items ≡ []
none_first head listed items (flags, opens, are) = nothing_held listed flags items opens.as_many are
