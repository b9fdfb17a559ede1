-- The first table of a kind in lists that stand one after the other, as the record of its kind.
use Rattle.std.proofs.Common.{◌≡◌, ℕ, Bool, true, false, not, cond, List, [], ◌∷◌, ◌++◌, Option, Some, None, is_some, option_and_then, refl, ap, sym, ◌∙◌}
use Rattle.std.proofs.Common.{subst, true≢false}
use Rattle.std.specs.Prelude.{IfSome}
use Rattle.std.specs.Option.{option_or}
use Rattle.std.specs.Str.{bytes_eq}
use Rattle.std.proofs.lemmas.Bool.{not-true}
use Rattle.std.proofs.lemmas.List.Folds.{find-append}
use Rattle.std.proofs.lemmas.Slice.Eq.{bytes_eq-Decides}
use Rattle.vt_outside.proofs.Results.{none_from}
use Rattle.acpi_model.specs.declared.acpi.Table.{Table}
use Rattle.acpi_model.specs.declared.acpi.Table.TheVariants.{Fadt, Madt, Srat, Slit, Mcfg, Hpet}
use Rattle.acpi_model.specs.Kinds.{Kind}
use Rattle.acpi_model.specs.FadtKind.{fadt_kind, as_fadt, links_of}
use Rattle.acpi_model.specs.MadtKind.{madt_kind, as_madt}
use Rattle.acpi_model.specs.SratKind.{srat_kind, as_srat}
use Rattle.acpi_model.specs.SlitKind.{slit_kind, as_slit}
use Rattle.acpi_model.specs.McfgKind.{mcfg_kind, as_mcfg}
use Rattle.acpi_model.specs.HpetKind.{hpet_kind, as_hpet}
use Rattle.acpi_model.specs.Acpi.{signature_of, first_with, first_of, is_first}

-- a record is told of the tables with the signature of the kind, and of no others
abbrev pub Tells : {T : Type 0} → Kind → (Table → Option T) → Type 0
Tells kind as_kind = (t : Table) → is_some (as_kind t) ≡ bytes_eq (signature_of t) kind.signature

pub fadt_tells : Tells fadt_kind as_fadt
fadt_tells (Fadt t links) = refl
fadt_tells (Madt t) = refl
fadt_tells (Srat t) = refl
fadt_tells (Slit t) = refl
fadt_tells (Mcfg t) = refl
fadt_tells (Hpet t) = refl

pub links_tell : Tells fadt_kind links_of
links_tell (Fadt t links) = refl
links_tell (Madt t) = refl
links_tell (Srat t) = refl
links_tell (Slit t) = refl
links_tell (Mcfg t) = refl
links_tell (Hpet t) = refl

pub madt_tells : Tells madt_kind as_madt
madt_tells (Fadt t links) = refl
madt_tells (Madt t) = refl
madt_tells (Srat t) = refl
madt_tells (Slit t) = refl
madt_tells (Mcfg t) = refl
madt_tells (Hpet t) = refl

pub srat_tells : Tells srat_kind as_srat
srat_tells (Fadt t links) = refl
srat_tells (Madt t) = refl
srat_tells (Srat t) = refl
srat_tells (Slit t) = refl
srat_tells (Mcfg t) = refl
srat_tells (Hpet t) = refl

pub slit_tells : Tells slit_kind as_slit
slit_tells (Fadt t links) = refl
slit_tells (Madt t) = refl
slit_tells (Srat t) = refl
slit_tells (Slit t) = refl
slit_tells (Mcfg t) = refl
slit_tells (Hpet t) = refl

pub mcfg_tells : Tells mcfg_kind as_mcfg
mcfg_tells (Fadt t links) = refl
mcfg_tells (Madt t) = refl
mcfg_tells (Srat t) = refl
mcfg_tells (Slit t) = refl
mcfg_tells (Mcfg t) = refl
mcfg_tells (Hpet t) = refl

pub hpet_tells : Tells hpet_kind as_hpet
hpet_tells (Fadt t links) = refl
hpet_tells (Madt t) = refl
hpet_tells (Srat t) = refl
hpet_tells (Slit t) = refl
hpet_tells (Mcfg t) = refl
hpet_tells (Hpet t) = refl

some_stays : {T : Type 0} (o later : Option T) → is_some o ≡ true → o ≡ option_or o later
some_stays None later is = absurd (true≢false (sym is))
some_stays (Some x) later is = refl

or_none : {T : Type 0} (o : Option T) → option_or o None ≡ o
or_none None = refl
or_none (Some x) = refl

-- either may come first where not both are there
turned : {T : Type 0} (o later : Option T) → (is_some later ≡ true → o ≡ None) → option_or o later ≡ option_or later o
turned o None alone = or_none o
turned o (Some x) alone = ap (λ before. option_or before (Some x)) (alone refl)

-- a table with the signature, where one is there
abbrev IsSigned : List ℕ → Option Table → Type 0
IsSigned signature found = IfSome found (λ t. bytes_eq (signature_of t) signature ≡ true)

either_signed : (signature : List ℕ) (t : Table) (is : Bool) (rest : Option Table) → bytes_eq (signature_of t) signature ≡ is → IsSigned signature rest
    → IsSigned signature (cond is (Some t) rest)
either_signed signature t true rest has later = has
either_signed signature t false rest has later = later

first_signed : (signature : List ℕ) (tables : List Table) → IsSigned signature (first_with signature tables)
first_signed signature [] = tt
first_signed signature (t ∷ tables) =
    either_signed signature t (bytes_eq (signature_of t) signature) (first_with signature tables) refl (first_signed signature tables)

module _ {T : Type 0} (kind : Kind) (as_kind : Table → Option T) (tells : Tells kind as_kind) where
  -- a table with the signature has a record, which stays the first
  record_there : (first : Option Table) → IsSigned kind.signature first → is_some (option_and_then as_kind first) ≡ is_some first
  record_there None signed = refl
  record_there (Some t) signed = tells t ∙ signed

  record_or : (first later : Option Table) → IsSigned kind.signature first
      → option_and_then as_kind (option_or first later) ≡ option_or (option_and_then as_kind first) (option_and_then as_kind later)
  record_or None later signed = refl
  record_or (Some t) later signed = some_stays (as_kind t) (option_and_then as_kind later) (tells t ∙ signed)

  -- so a table is the first of its kind where no record of the kind is told
  pub told_apart : (tables : List Table) → is_first kind.signature tables ≡ not (is_some (first_of kind as_kind tables))
  told_apart tables = ap not (sym (record_there (first_with kind.signature tables) (first_signed kind.signature tables)))

  -- the record of two lists
  pub first_of-append : (front back : List Table)
      → first_of kind as_kind (front ++ back) ≡ option_or (first_of kind as_kind front) (first_of kind as_kind back)
  first_of-append front back =
      ap (option_and_then as_kind) (find-append (λ table. bytes_eq (signature_of table) kind.signature) front back)
      ∙ record_or (first_with kind.signature front) (first_with kind.signature back) (first_signed kind.signature front)

  alone : (t : Table) (is : Bool) → is_some (as_kind t) ≡ is → option_and_then as_kind (cond is (Some t) None) ≡ as_kind t
  alone t true told = refl
  alone t false told = sym (none_from (as_kind t) told)

  -- and of a list with one more table, which is the first of its kind
  pub first_of-more : (tables : List Table) (t : Table) → is_first (signature_of t) tables ≡ true
      → first_of kind as_kind (tables ++ t ∷ []) ≡ option_or (as_kind t) (first_of kind as_kind tables)
  first_of-more tables t first =
      first_of-append tables (t ∷ [])
      ∙ ap (option_or (first_of kind as_kind tables)) (alone t (bytes_eq (signature_of t) kind.signature) (tells t))
      ∙ turned (first_of kind as_kind tables) (as_kind t) (λ told.
      let same : signature_of t ≡ kind.signature = (bytes_eq-Decides (signature_of t) kind.signature).0 (sym (tells t) ∙ told) in
      let none : not (is_some (first_of kind as_kind tables)) ≡ true =
      sym (told_apart tables) ∙ subst (λ signature. is_first signature tables ≡ true) same first in
      none_from (first_of kind as_kind tables) (not-true (is_some (first_of kind as_kind tables)) none))
