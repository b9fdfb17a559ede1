-- Which signatures are known doesn't depend on the form.
use Rattle.std.proofs.Common.{◌≡◌, ℕ, Bool, true, false, cond, List, Option, Some, None, codes}
use Rattle.std.specs.Str.{bytes_eq}
use Rattle.acpi_model.specs.declared.form.Form.{Form}
use Rattle.acpi_model.specs.Kinds.{Kind}
use Rattle.acpi_model.specs.Acpi.{kind_by}

-- with one more kind in front
none_first : (is_first : Bool) (a b : Kind) (rest : Option Kind) → cond is_first (Some a) rest ≡ None → cond is_first (Some b) rest ≡ None
none_first true a b rest unknown = absurd (cc)
none_first false a b rest unknown = unknown

with_first : (is_first : Bool) (a b k : Kind) (rest : Option Kind) → cond is_first (Some a) rest ≡ Some k → cond is_first (Some b) rest ≡ None → ⊥
with_first true a b k rest known unknown = absurd (cc)
with_first false a b k rest known unknown = absurd (cc)

pub same_known : (form other : Form) (signature : List ℕ) (kind : Kind) → kind_by form signature ≡ Some kind → kind_by other signature ≡ None → ⊥
same_known form other signature kind known unknown =
    with_first (bytes_eq signature (codes "FACP")) _ _ kind _ known unknown

pub none_known : (form other : Form) (signature : List ℕ) → kind_by form signature ≡ None → kind_by other signature ≡ None
none_known form other signature unknown = none_first (bytes_eq signature (codes "FACP")) _ _ _ unknown
