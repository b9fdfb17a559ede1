-- The items that are loaded of a container's.
use Rattle.std.proofs.Common.{◌≡◌, inl, inr, Bool, true, false, ℕ, List, Result, Ok, Err, IfErr, refl, ap, sym, ◌∙◌}
use Rattle.std.specs.Result.{IsErrAnd}
use Rattle.cfg_directory.specs.declared.item.Item.{Item}
use Rattle.cfg_directory.specs.Container.{IsContainer}
use Rattle.cfg_directory.specs.Fed.{Fed, finished, judged}
use Rattle.cfg_directory.proofs.Containers.{read_is_contained}
use Rattle.smbios_install.specs.declared.fault.InstallFault.{InstallFault}
use Rattle.smbios_install.specs.declared.fault.InstallFault.TheVariants as install
use Rattle.smbios_install.specs.Faults.{OrNoMemory}
use Rattle.smbios_install.specs.Installed.{install_so}
use Rattle.vmtables.specs.Causes.{IsOfInstalling}
use Rattle.vmtables.specs.Load.{CannotBeRead, IsNotInstalled, IsToLoad}
use Rattle.vmtables.specs.declared.fault.Fault.{Fault}
use Rattle.vmtables.proofs.Judged.{finished_read}

-- the bytes that a reader was fed which gives items are a container of these
pub contained : (container : Fed) (bytes : List ℕ) (items : List Item) → finished container ≡ Ok items → container ≡ judged bytes
    → IsContainer bytes items
contained container bytes items gives fed =
    read_is_contained bytes items (sym (finished_read bytes) ∙ ap finished (sym fed) ∙ gives)

pub loads_them : (installs : Bool) (bytes : List ℕ) (items : List Item) → installs ≡ false → IsContainer bytes items → IsToLoad installs bytes items
loads_them false bytes items is container = record { contained = items; container = container; loaded = refl }
loads_them true bytes items is container = absurd (cc)

pub loads_installed : (installs : Bool) (bytes : List ℕ) (items now : List Item) → installs ≡ true → IsContainer bytes items
    → OrNoMemory (Ok now) (install_so items) → IsToLoad installs bytes now
loads_installed false bytes items now is container exact = absurd (cc)
loads_installed true bytes items now is container (inl exact) = record { contained = items; container = container; loaded = sym exact }
loads_installed true bytes items now is container (inr memory) = absurd (cc memory)

-- what refuses to install is a reason against it, unless memory ran out
not_installed : (bytes : List ℕ) (items : List Item) (why : InstallFault) → IsContainer bytes items → (why ≡ install.OutOfMemory → ⊥)
    → OrNoMemory (Err why) (install_so items) → IsNotInstalled true bytes why
not_installed bytes items why container other (inl exact) = record { contained = items; container = container; refused = sym exact }
not_installed bytes items why container other (inr memory) = absurd (other (cc memory))

cannot_be_read : (bytes : List ℕ) (items : List Item) (why : InstallFault) (f : Fault) → IsContainer bytes items
    → OrNoMemory (Err why) (install_so items) → IsOfInstalling why f → CannotBeRead true bytes f
cannot_be_read bytes items install.OutOfMemory f container exact is = rw is tt
cannot_be_read bytes items why f container exact is = rw is (not_installed bytes items why container (λ same. cc same) exact)

pub refused_when : {A : Type 0} (installs : Bool) (container : Fed) (items : List Item) (why : InstallFault) (r : Result A Fault) → installs ≡ true
    → finished container ≡ Ok items → OrNoMemory (Err why) (install_so items) → IsErrAnd r (IsOfInstalling why)
    → IfErr r (λ f. (bytes : List ℕ) → container ≡ judged bytes → CannotBeRead installs bytes f)
refused_when false container items why r asked gives exact is = absurd (cc)
refused_when true container items why (Ok done) asked gives exact is = absurd is
refused_when true container items why (Err f) asked gives exact is = λ bytes fed.
    cannot_be_read bytes items why f (contained container bytes items gives fed) exact is
