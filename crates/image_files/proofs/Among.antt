-- The elements of lists, and the commands among others.
use Rattle.std.proofs.Common.{◌≡◌, ◌⊎◌, inl, inr, List, [], ◌∷◌, ◌++◌, map, refl, subst}
use Rattle.std.specs.List.{AllByRecursion, flat_map}
use Rattle.vt_bytes.proofs.Each.{each_weaker, each_front, each_back}
use Rattle.loader_script.specs.declared.entry.Entry.{Entry}
use Rattle.image_files.specs.Orders.{IsAmong}

-- one of the elements is this one
abbrev pub IsOneOf : {X : Type 0} → List X → X → Type 0
IsOneOf [] x = ⊥
IsOneOf (first ∷ xs) x = (first ≡ x) ⊎ IsOneOf xs x

-- what holds of each element holds of this one
pub of_one : {X : Type 0} (P : X → Type 0) (xs : List X) (x : X) → IsOneOf xs x → AllByRecursion P xs → P x
of_one P [] x one all = absurd one
of_one P (first ∷ xs) x one all = elim one [ inl is ↦ subst P is all.0 | inr later ↦ of_one P xs x later all.1 ]

-- and the same of commands
pub of_among : (P : Entry → Type 0) (commands : List Entry) (command : Entry) → IsAmong commands command → AllByRecursion P commands → P command
of_among P [] command among all = absurd among
of_among P (first ∷ commands) command among all =
    elim among [ inl is ↦ subst P is all.0 | inr later ↦ of_among P commands command later all.1 ]

-- each element of a list is one of them
pub each_one : {X : Type 0} (xs : List X) → AllByRecursion (IsOneOf xs) xs
each_one [] = tt
each_one (first ∷ xs) = (inl refl, each_weaker (IsOneOf xs) (IsOneOf (first ∷ xs)) (λ x one. inr one) xs (each_one xs))

-- what holds of each element of a mapped list, seen from the list
pub each_before_map : {X Y : Type 0} (P : Y → Type 0) (f : X → Y) (xs : List X) → AllByRecursion P (map f xs) → AllByRecursion (λ x. P (f x)) xs
each_before_map P f [] all = tt
each_before_map P f (x ∷ xs) all = (all.0, each_before_map P f xs all.1)

-- and of a list's lists
pub each_before_flat : {X Y : Type 0} (P : Y → Type 0) (f : X → List Y) (xs : List X) → AllByRecursion P (flat_map f xs)
    → AllByRecursion (λ x. AllByRecursion P (f x)) xs
each_before_flat P f [] all = tt
each_before_flat P f (x ∷ xs) all =
    (each_front P (f x) (flat_map f xs) all, each_before_flat P f xs (each_back P (f x) (flat_map f xs) all))

-- a command that is among those of a mapped list is an element's
pub among_map : {X : Type 0} (f : X → Entry) (xs : List X) (command : Entry) → IsAmong (map f xs) command → (x : X) × IsOneOf xs x × (f x ≡ command)
among_map f [] command among = absurd among
among_map f (first ∷ xs) command among =
    elim among as (λ _. (x : _) × IsOneOf (first ∷ xs) x × (f x ≡ command)) [
      | inl is ↦ (first, inl refl, is)
      | inr later ↦ let rest = among_map f xs command later in (rest.0, inr rest.1, rest.2)
    ]

-- a command is among the first or among the second
pub among_either : (first second : List Entry) (command : Entry) → IsAmong (first ++ second) command → IsAmong first command ⊎ IsAmong second command
among_either [] second command among = inr among
among_either (entry ∷ first) second command among =
    elim among as (λ _. IsAmong (entry ∷ first) command ⊎ IsAmong second command) [
      | inl is ↦ inl (inl is)
      | inr later ↦ elim (among_either first second command later) [ inl a ↦ inl (inr a) | inr b ↦ inr b ]
    ]

-- a command that is among those of a list's elements is one of an element's
pub among_flat : {X : Type 0} (f : X → List Entry) (xs : List X) (command : Entry) → IsAmong (flat_map f xs) command
    → (x : X) × IsOneOf xs x × IsAmong (f x) command
among_flat f [] command among = absurd among
among_flat f (first ∷ xs) command among =
    elim (among_either (f first) (flat_map f xs) command among) as (λ _. (x : _) × IsOneOf (first ∷ xs) x × IsAmong (f x) command) [
      | inl here ↦ (first, inl refl, here)
      | inr later ↦ let rest = among_flat f xs command later in (rest.0, inr rest.1, rest.2)
    ]
