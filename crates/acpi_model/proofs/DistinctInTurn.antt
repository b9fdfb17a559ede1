-- Lists of tables no two of which have one signature, and tables behind them that are the first of their kinds.
use Rattle.std.proofs.Common.{◌≡◌, Bool, true, false, not, cond, List, [], ◌∷◌, ◌++◌, Option, Some, is_some, refl, ap, sym, ◌∙◌}
use Rattle.std.proofs.Common.{true≢false}
use Rattle.std.specs.Str.{bytes_eq}
use Rattle.std.proofs.lemmas.Bool.{false_from_ne_true}
use Rattle.std.proofs.lemmas.Slice.Eq.{bytes_eq-Decides}
use Rattle.vt_bytes.proofs.Each.{each_push, each_front, each_midst}
use Rattle.acpi_model.specs.declared.acpi.Table.{Table}
use Rattle.acpi_model.specs.Acpi.{signature_of, AreDistinct, first_with, is_first}

-- none is found where the one in front isn't it, and none is found behind
first_parts : (is : Bool) (t : Table) (rest : Option Table) → not (is_some (cond is (Some t) rest)) ≡ true
    → (is ≡ false) × (not (is_some rest) ≡ true)
first_parts true t rest none = absurd (true≢false (sym none))
first_parts false t rest none = (refl, none)

-- one more, which is the first of its kind
pub distinct_more : (tables : List Table) (t : Table) → AreDistinct tables → is_first (signature_of t) tables ≡ true
    → AreDistinct (tables ++ t ∷ [])
distinct_more [] t distinct first = (tt, tt)
distinct_more (x ∷ tables) t distinct first =
    let parts = first_parts (bytes_eq (signature_of x) (signature_of t)) x (first_with (signature_of t) tables) first in
    let differ : signature_of t ≡ signature_of x → ⊥ =
    λ same. true≢false (sym ((bytes_eq-Decides (signature_of x) (signature_of t)).1 (sym same)) ∙ parts.0) in (
      each_push (λ other. signature_of other ≡ signature_of x → ⊥) tables t distinct.0 differ,
      distinct_more tables t distinct.1 parts.1,
    )

-- the first of two lists
pub distinct_front : (front back : List Table) → AreDistinct (front ++ back) → AreDistinct front
distinct_front [] back distinct = tt
distinct_front (x ∷ front) back distinct = (
  each_front (λ other. signature_of other ≡ signature_of x → ⊥) front back distinct.0,
  distinct_front front back distinct.1,
)

-- one in the midst is the first of its kind
pub first_behind : (front back : List Table) (t : Table) → AreDistinct (front ++ t ∷ back) → is_first (signature_of t) front ≡ true
first_behind [] back t distinct = refl
first_behind (x ∷ front) back t distinct =
    let differ : signature_of t ≡ signature_of x → ⊥ = each_midst (λ other. signature_of other ≡ signature_of x → ⊥) front t back distinct.0 in
    let test : bytes_eq (signature_of x) (signature_of t) ≡ false =
    false_from_ne_true (bytes_eq (signature_of x) (signature_of t))
    (λ is. differ (sym ((bytes_eq-Decides (signature_of x) (signature_of t)).0 is))) in
    ap (λ is. not (is_some (cond is (Some x) (first_with (signature_of t) front)))) test ∙ first_behind front back t distinct.1
