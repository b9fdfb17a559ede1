-- What a memory shows where its first anchor leads to bytes that are read, or refused.
use Rattle.std.proofs.Common.{◌≡◌, ℕ, ◌++◌, List, refl, ap, subst, sym, ◌∙◌}
use Rattle.vt_bytes.specs.View.{View}
use Rattle.smbios_model.specs.declared.anchor.Anchor.{Anchor}
use Rattle.smbios_model.specs.declared.anchor.AnchorForm.{AnchorForm}
use Rattle.smbios_model.specs.declared.smbios.Structure.{Structure}
use Rattle.smbios_model.specs.declared.smbios.SmbiosTable.{SmbiosTable}
use Rattle.smbios_model.specs.Anchor.{IsRange}
use Rattle.smbios_model.specs.Smbios.{ShowsSmbiosBy}
use Rattle.smbios_model.proofs.OneSmbios.{Leads, leads_of, one_leads, same_table}
use Rattle.smbios_decode.specs.declared.fault.SmbiosFault.{SmbiosFault}
use Rattle.smbios_decode.specs.Faults.{IsRead, IsRefused}
use Rattle.table_model.specs.declared.search.AnchorSearch.{AnchorSearch}
use Rattle.table_model.specs.Inventory.{ShowsStructuresOf}
use Rattle.anchor_scan.specs.Shown.{RefusesSmbiosBy}
use Rattle.anchor_scan.specs.Scan.{RefusesSmbiosOf}
use Rattle.anchor_scan.specs.First.{IsFirstAnchorOf}
use Rattle.anchor_scan.specs.Found.{HasNumbersBy}
use Rattle.anchor_scan.proofs.AnchorsByForm.{read_by}

-- the first anchor that is looked for, its numbers as they were read, and the bytes that were copied
pub record IsReadSo (search : AnchorSearch) (view : View) (form : AnchorForm) (address : ℕ) (anchor : Anchor) (place : ℕ) (bytes : List ℕ) : Type 0 where
  pub first : IsFirstAnchorOf search view form address
  pub numbers : HasNumbersBy form view address anchor place
  pub range : IsRange view place anchor.maximum_size bytes

leads_from : (search : AnchorSearch) (view : View) (form : AnchorForm) (address : ℕ) (anchor : Anchor) (place : ℕ) (bytes : List ℕ)
    → IsReadSo search view form address anchor place bytes → Leads form view address anchor place bytes
leads_from search view form address anchor place bytes is =
    let first = is.first in
    record {
      valid = read_by form view address anchor place first.stands is.numbers;
      least = λ other below has. first.first form first.sought other below has;
      range = is.range;
    }

-- the table of an anchor and structures
abbrev pub table_of : Anchor → List Structure → SmbiosTable
table_of anchor structures = record { major = anchor.major; minor = anchor.minor; docrev = anchor.docrev; structures = structures }

-- the structures that are read of these bytes are shown, with what the anchor tells
pub read_is_shown : (search : AnchorSearch) (view : View) (form : AnchorForm) (address : ℕ) (anchor : Anchor) (place : ℕ) (bytes : List ℕ)
    (structures : List Structure) → IsReadSo search view form address anchor place bytes → IsRead bytes structures
    → ShowsStructuresOf search view (table_of anchor structures)
read_is_shown search view form address anchor place bytes structures is read =
    let leads = leads_from search view form address anchor place bytes is in
    record {
      form = form;
      sought = is.first.sought;
      shown = record {
        address = address;
        anchor = anchor;
        structures = place;
        valid = leads.valid;
        least = leads.least;
        major = refl;
        minor = refl;
        docrev = refl;
        used = read.used;
        unused = read.unused;
        range = subst (IsRange view place anchor.maximum_size) read.split leads.range;
        listed = read.listed;
      };
      first = is.first.first;
    }

-- and their first fault is the memory's
pub fault_is_told : (search : AnchorSearch) (view : View) (form : AnchorForm) (address : ℕ) (anchor : Anchor) (place : ℕ) (bytes : List ℕ)
    (fault : SmbiosFault) → IsReadSo search view form address anchor place bytes → IsRefused bytes fault → RefusesSmbiosOf search view fault
fault_is_told search view form address anchor place bytes fault is refused =
    let leads = leads_from search view form address anchor place bytes is in
    record {
      form = form;
      sought = is.first.sought;
      refuses = record {
        address = address;
        anchor = anchor;
        structures = place;
        valid = leads.valid;
        least = leads.least;
        bytes = bytes;
        range = leads.range;
        refused = refused;
      };
      first = is.first.first;
    }

-- what is shown is what is read of the bytes
pub record IsThere (anchor : Anchor) (bytes : List ℕ) (t : SmbiosTable) : Type 0 where
  pub read : IsRead bytes t.structures
  pub table : table_of anchor t.structures ≡ t

pub shown_is_read : (form : AnchorForm) (view : View) (address : ℕ) (anchor : Anchor) (place : ℕ) (bytes : List ℕ) (t : SmbiosTable)
    → Leads form view address anchor place bytes → ShowsSmbiosBy form view t → IsThere anchor bytes t
shown_is_read form view address anchor place bytes t leads is =
    let same = one_leads form view address is.address anchor is.anchor place is.structures bytes (is.used ++ is.unused) leads (leads_of form view t is) in
    record {
      read = record { used = is.used; unused = is.unused; split = same.1; listed = is.listed };
      table = same_table (table_of anchor t.structures) t (ap (λ (a : Anchor). a.major) same.0 ∙ sym is.major)
          (ap (λ (a : Anchor). a.minor) same.0 ∙ sym is.minor) (ap (λ (a : Anchor). a.docrev) same.0 ∙ sym is.docrev) refl;
    }

-- the fault that the memory tells is that of the bytes
pub told_is_refused : (form : AnchorForm) (view : View) (address : ℕ) (anchor : Anchor) (place : ℕ) (bytes : List ℕ) (fault : SmbiosFault)
    → Leads form view address anchor place bytes → RefusesSmbiosBy form view fault → IsRefused bytes fault
told_is_refused form view address anchor place bytes fault leads is =
    let also : Leads form view is.address is.anchor is.structures is.bytes =
    record { valid = is.valid; least = is.least; range = is.range } in
    let same = one_leads form view address is.address anchor is.anchor place is.structures bytes is.bytes leads also in
    subst (λ all. IsRefused all fault) (sym same.1) is.refused
