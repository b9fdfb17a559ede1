-- The first reason, group by group.
use Rattle.std.proofs.Common.{◌≡◌, ◌≢◌, ℕ, zero, suc, ◌+◌, ◌/◌, ◌%◌, ◌<◌, ◌≤◌, ◌⊎◌, inl, inr, Bool, true, false, cond, not, ◌&&◌, ◌==◌, nat_lt, nat_le}
use Rattle.std.proofs.Common.{Result, Err, List, [], ◌∷◌, length, take, drop, Option, Some, None, is_some, unwrap_or, refl, ap, ap₂, sym, ◌∙◌, arith}
use Rattle.std.specs.List.{AllByRecursion}
use Rattle.std.specs.Option.{option_map_or}
use Rattle.std.proofs.lemmas.Bool.{cond-true, cond-false, eq-eqb, ne_eqb, lt-ltb, le-leb}
use Rattle.std.proofs.lemmas.Bool.Decides.{nat_tests}
use Rattle.std.proofs.lemmas.Option.{none-some, same_Some}
use Rattle.cfg_directory.specs.declared.item.Item.{Item}
use Rattle.cfg_directory.specs.Items.{named, total_size, file_limit, bytes_limit}
use Rattle.cfg_directory.specs.SmbiosNames.{anchor_name, structures_name}
use Rattle.loader_script.specs.LoaderName.{loader_name}
use Rattle.loader_script.specs.Spelling.{entries_of, is_script_length}
use Rattle.smbios_model.specs.declared.anchor.AnchorForm.{AnchorForm}
use Rattle.smbios_install.specs.Forms.{form_of}
use Rattle.smbios_install.specs.Commands.{added_bytes, bytes_of, placing}
use Rattle.smbios_install.specs.Faults.{is_there, form_in, reasons, first_reason, refusal, files_refusal, script_refusal, limits_refusal}
use Rattle.smbios_install.specs.declared.fault.InstallFault.{InstallFault}
use Rattle.smbios_install.specs.declared.fault.InstallFault.TheVariants.{NoAnchor, NoTables, EmptyTables, BadAnchor, ScriptLength, AlreadyPlaced}
use Rattle.smbios_install.specs.declared.fault.InstallFault.TheVariants.{ScriptFull, TooMany, TooLarge, OutOfMemory}

-- ---- groups of reasons

abbrev Reasons : Type 0
Reasons = List (InstallFault × Bool)

-- the first of the front is the first of all
front_first : (count : ℕ) (reasons : Reasons) (fault : InstallFault) → first_reason (take count reasons) ≡ Some fault → first_reason reasons ≡ Some fault
front_first zero reasons fault first = absurd (none-some fault first)
front_first (suc count) [] fault first = first
front_first (suc count) ((found, true) ∷ reasons) fault first = first
front_first (suc count) ((found, false) ∷ reasons) fault first = front_first count reasons fault first

-- where none of the front applies it is the first of the others
front_none : (count : ℕ) (reasons : Reasons) → first_reason (take count reasons) ≡ None → first_reason reasons ≡ first_reason (drop count reasons)
front_none zero reasons none = refl
front_none (suc count) [] none = refl
front_none (suc count) ((found, true) ∷ reasons) none = absurd (none-some found (sym none))
front_none (suc count) ((found, false) ∷ reasons) none = front_none count reasons none

pub refused_by_files : (items : List Item) (fault : InstallFault) → files_refusal items ≡ Some fault → refusal items ≡ Some fault
unfolding refusal files_refusal
refused_by_files items fault first = front_first 4 (reasons items) fault first

pub refused_by_script : (items : List Item) (fault : InstallFault) → files_refusal items ≡ None → script_refusal items ≡ Some fault
    → refusal items ≡ Some fault
unfolding refusal files_refusal script_refusal
refused_by_script items fault none first = front_none 4 (reasons items) none ∙ front_first 2 (drop 4 (reasons items)) fault first

pub refused_by_limits : (items : List Item) → files_refusal items ≡ None → script_refusal items ≡ None → refusal items ≡ limits_refusal items
unfolding refusal files_refusal script_refusal limits_refusal
refused_by_limits items none script_none = front_none 4 (reasons items) none ∙ front_none 2 (drop 4 (reasons items)) script_none

-- ---- the two files

pub no_anchor : (items : List Item) → named items anchor_name ≡ None → files_refusal items ≡ Some NoAnchor
unfolding files_refusal
no_anchor items none = cond-true _ _ _ (ap (λ (o : Option Item). not (is_some o)) none)

pub no_tables : (items : List Item) (anchor : Item) → named items anchor_name ≡ Some anchor → named items structures_name ≡ None
    → files_refusal items ≡ Some NoTables
unfolding files_refusal
no_tables items anchor there none =
    cond-false _ _ _ (ap (λ (o : Option Item). not (is_some o)) there) ∙ cond-true _ _ _ (ap (λ (o : Option Item). not (is_some o)) none)

-- what is left to test of them where both are there
abbrev left_to_test : List ℕ → List ℕ → Option InstallFault
left_to_test anchor structures =
    cond (length structures == 0) (Some EmptyTables) (cond (not (is_some (form_of anchor))) (Some BadAnchor) None)

bytes_are : (items : List Item) (name : List ℕ) (item : Item) → named items name ≡ Some item → bytes_of items name ≡ item.bytes
bytes_are items name item there = ap (λ o. option_map_or (λ (i : Item). i.bytes) o []) there

both_there : (items : List Item) (anchor structures : Item) → named items anchor_name ≡ Some anchor → named items structures_name ≡ Some structures
    → files_refusal items ≡ left_to_test anchor.bytes structures.bytes
unfolding files_refusal
both_there items anchor structures there structures_there =
    cond-false _ _ _ (ap (λ (o : Option Item). not (is_some o)) there) ∙ cond-false _ _ _ (ap (λ (o : Option Item). not (is_some o)) structures_there)
    ∙ ap₂ left_to_test (bytes_are items anchor_name anchor there) (bytes_are items structures_name structures structures_there)

pub empty_tables : (items : List Item) (anchor structures : Item) → named items anchor_name ≡ Some anchor → named items structures_name ≡ Some structures
    → length structures.bytes ≡ 0 → files_refusal items ≡ Some EmptyTables
empty_tables items anchor structures there structures_there empty =
    both_there items anchor structures there structures_there ∙ cond-true _ _ _ (eq-eqb (length structures.bytes) 0 empty)

pub formed : (items : List Item) (anchor structures : Item) (found : Option AnchorForm) → named items anchor_name ≡ Some anchor
    → named items structures_name ≡ Some structures → length structures.bytes ≢ 0 → form_of anchor.bytes ≡ found
    → files_refusal items ≡ cond (not (is_some found)) (Some BadAnchor) None
formed items anchor structures found there structures_there some is =
    both_there items anchor structures there structures_there ∙ cond-false _ _ _ (ne_eqb (length structures.bytes) 0 some)
    ∙ ap (λ (o : Option AnchorForm). cond (not (is_some o)) (Some BadAnchor) None) is

pub form_in_is : (items : List Item) (anchor : Item) (form : AnchorForm) → named items anchor_name ≡ Some anchor → form_of anchor.bytes ≡ Some form
    → form_in items ≡ Some form
form_in_is items anchor form there is = ap form_of (bytes_are items anchor_name anchor there) ∙ is

-- ---- the script

abbrev script_tests : List ℕ → Option InstallFault
script_tests bytes =
    let placed = placing (entries_of (length bytes / 128) bytes) in
    cond (not (is_script_length (length bytes))) (Some ScriptLength) (cond (is_some placed) (Some (AlreadyPlaced (unwrap_or placed 0))) None)

script_is : (items : List Item) (bytes : List ℕ) → bytes ≡ bytes_of items loader_name → script_refusal items ≡ script_tests bytes
unfolding script_refusal
script_is items bytes is = ap script_tests (sym is)

wrong_length : (n : ℕ) → (n % 128 ≢ 0) ⊎ (1048576 < n) → is_script_length n ≡ false
wrong_length n wrong =
    elim wrong as (λ _. is_script_length n ≡ false) [
      | inl rest ↦ ap (λ t. t && nat_le n 1048576) (ne_eqb (n % 128) 0 rest)
      | inr long ↦ grind (arith, nat_tests)
    ]

pub length_refused : (items : List Item) (bytes : List ℕ) → bytes ≡ bytes_of items loader_name → (length bytes % 128 ≢ 0) ⊎ (1048576 < length bytes)
    → script_refusal items ≡ Some ScriptLength
length_refused items bytes is wrong = script_is items bytes is ∙ cond-true _ _ _ (ap not (wrong_length (length bytes) wrong))

pub lawful_length : (n : ℕ) → n % 128 ≡ 0 → n ≤ 1048576 → is_script_length n ≡ true
lawful_length n rest short = ap₂ (λ a b. a && b) (eq-eqb (n % 128) 0 rest) (le-leb n 1048576 short)

-- a script of a lawful length is refused where a command places either file
pub script_placing : (items : List Item) (bytes : List ℕ) (found : Option ℕ) → bytes ≡ bytes_of items loader_name → length bytes % 128 ≡ 0
    → length bytes ≤ 1048576 → found ≡ placing (entries_of (length bytes / 128) bytes)
    → script_refusal items ≡ cond (is_some found) (Some (AlreadyPlaced (unwrap_or found 0))) None
script_placing items bytes found is rest short placed =
    script_is items bytes is ∙ cond-false _ _ _ (ap not (lawful_length (length bytes) rest short))
    ∙ ap (λ (o : Option ℕ). cond (is_some o) (Some (AlreadyPlaced (unwrap_or o 0))) None) (sym placed)

-- ---- the limits

abbrev limit_tests : List Item → List ℕ → ℕ → Option InstallFault
limit_tests items script added =
    cond (nat_lt 1048576 (length script + added)) (Some ScriptFull)
    (cond (not (is_there items loader_name) && nat_lt file_limit (suc (length items))) (Some TooMany)
    (cond (nat_lt bytes_limit (total_size items + added)) (Some TooLarge) None))

limits_are : (items : List Item) (form : AnchorForm) → form_in items ≡ Some form
    → limits_refusal items ≡ limit_tests items (bytes_of items loader_name) (length (added_bytes form))
unfolding limits_refusal
limits_are items form is =
    ap (limit_tests items (bytes_of items loader_name)) (ap (λ o. option_map_or (λ (f : AnchorForm). length (added_bytes f)) o 0) is)

-- What the limits are tested with.
pub record IsTested (items : List Item) (form : AnchorForm) (script : List ℕ) (added : ℕ) : Type 0 where
  pub formed : form_in items ≡ Some form
  pub script_is : script ≡ bytes_of items loader_name
  pub added_is : added ≡ length (added_bytes form)

tests_are : (items : List Item) (form : AnchorForm) (script : List ℕ) (added : ℕ) → IsTested items form script added
    → limits_refusal items ≡ limit_tests items script added
tests_are items form script added is =
    limits_are items form is.formed ∙ ap₂ (limit_tests items) (sym is.script_is) (sym is.added_is)

pub script_full : (items : List Item) (form : AnchorForm) (script : List ℕ) (added : ℕ) → IsTested items form script added
    → 1048576 < length script + added → limits_refusal items ≡ Some ScriptFull
script_full items form script added is full = tests_are items form script added is ∙ cond-true _ _ _ (lt-ltb 1048576 (length script + added) full)

within : (limit n : ℕ) → n ≤ limit → nat_lt limit n ≡ false
within limit n few = grind (arith, nat_tests)

pub too_many : (items : List Item) (form : AnchorForm) (script : List ℕ) (added : ℕ) → IsTested items form script added → length script + added ≤ 1048576
    → (not (is_there items loader_name) && nat_lt file_limit (suc (length items))) ≡ true → limits_refusal items ≡ Some TooMany
too_many items form script added is fits many =
    tests_are items form script added is ∙ cond-false _ _ _ (within 1048576 (length script + added) fits) ∙ cond-true _ _ _ many

pub large : (items : List Item) (form : AnchorForm) (script : List ℕ) (added : ℕ) → IsTested items form script added → length script + added ≤ 1048576
    → (not (is_there items loader_name) && nat_lt file_limit (suc (length items))) ≡ false → bytes_limit < total_size items + added
    → limits_refusal items ≡ Some TooLarge
large items form script added is fits room over =
    tests_are items form script added is ∙ cond-false _ _ _ (within 1048576 (length script + added) fits) ∙ cond-false _ _ _ room
    ∙ cond-true _ _ _ (lt-ltb bytes_limit (total_size items + added) over)

pub small : (items : List Item) (form : AnchorForm) (script : List ℕ) (added : ℕ) → IsTested items form script added → length script + added ≤ 1048576
    → (not (is_there items loader_name) && nat_lt file_limit (suc (length items))) ≡ false → total_size items + added ≤ bytes_limit
    → limits_refusal items ≡ None
small items form script added is fits room few =
    tests_are items form script added is ∙ cond-false _ _ _ (within 1048576 (length script + added) fits) ∙ cond-false _ _ _ room
    ∙ cond-false _ _ _ (within bytes_limit (total_size items + added) few)

-- ---- want of memory is no reason

abbrev another : Reasons → Type 0
another reasons = AllByRecursion (λ (reason : InstallFault × Bool). reason.0 ≢ OutOfMemory) reasons

never_first : (reasons : Reasons) → another reasons → first_reason reasons ≡ Some OutOfMemory → ⊥
never_first [] others first = absurd (none-some OutOfMemory first)
never_first ((fault, true) ∷ reasons) others first = others.0 (same_Some fault OutOfMemory first)
never_first ((fault, false) ∷ reasons) others first = never_first reasons others.1 first

pub memory_is_no_reason : (items : List Item) → refusal items ≡ Some OutOfMemory → ⊥
unfolding refusal
memory_is_no_reason items first =
    never_first (reasons items) (
      (λ is. absurd (cc)),
      (
        (λ is. absurd (cc)),
        (
          (λ is. absurd (cc)),
          (
            (λ is. absurd (cc)),
            (
              (λ is. absurd (cc)),
              (
                (λ is. absurd (cc)),
                (
                  (λ is. absurd (cc)),
                  ((λ is. absurd (cc)), ((λ is. absurd (cc)), tt)),
                ),
              ),
            ),
          ),
        ),
      ),
    )
    first

pub memory_not_told : {T : Type 0} (items : List Item) (result : Result T InstallFault) (told fault : InstallFault) → result ≡ Err told → told ≡ fault
    → refusal items ≡ Some fault → result ≡ Err OutOfMemory → refusal items ≡ None
memory_not_told items result told fault is same first memory =
    let told_is : told ≡ OutOfMemory = cc in
    absurd (memory_is_no_reason items (first ∙ ap Some (sym same ∙ told_is)))
