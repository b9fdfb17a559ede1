-- The SMBIOS structures of a memory are scanned in one way by each search: what it shows of them, or one first fault.
use Rattle.std.proofs.Common.{◌≡◌, ◌⊎◌, inl, inr, ⊎_elim, Option, Some, None, Result, Ok, Err, IfOk, IfErr, IfSome, refl, ap, subst}
use Rattle.vt_bytes.specs.View.{View}
use Rattle.vt_bytes.proofs.AtMostOne.{IsOne}
use Rattle.smbios_model.specs.declared.anchor.AnchorForm.{AnchorForm}
use Rattle.smbios_model.specs.declared.smbios.SmbiosTable.{SmbiosTable}
use Rattle.smbios_model.specs.Anchor.{HasAnchorBy}
use Rattle.smbios_model.specs.Smbios.{ShowsSmbiosBy}
use Rattle.smbios_model.proofs.OneSmbios.{Leads}
use Rattle.smbios_decode.specs.declared.fault.SmbiosFault.{SmbiosFault}
use Rattle.smbios_decode.specs.declared.fault.SmbiosFault.TheVariants.{OutOfMemory}
use Rattle.smbios_decode.proofs.OneReading.{one_meaning}
use Rattle.table_model.specs.declared.search.AnchorSearch.{AnchorSearch}
use Rattle.table_model.specs.declared.search.AnchorSearch.TheVariants.{One}
use Rattle.table_model.specs.Search.{HasNoAnchorOf}
use Rattle.table_model.specs.Inventory.{ShowsStructuresOf, ShowsStructuresBy}
use Rattle.table_model.proofs.OneSearch.{one_anchor}
use Rattle.table_model.proofs.OneInventory.{shown_anchor, one_table_or_none}
use Rattle.anchor_scan.specs.Shown.{RefusesSmbiosBy, OrNoMemory}
use Rattle.anchor_scan.specs.Scan.{RefusesSmbiosOf}
use Rattle.anchor_scan.proofs.Scanned.{shown_is_read, told_is_refused}

-- bytes with a fault are those to which an anchor leads
refused_anchor : (form : AnchorForm) (view : View) (fault : SmbiosFault) (is : RefusesSmbiosBy form view fault) → HasAnchorBy form view is.address
refused_anchor form view fault is = (is.anchor, is.structures, is.valid)

leads_refused : (form : AnchorForm) (view : View) (fault : SmbiosFault) (is : RefusesSmbiosBy form view fault)
    → Leads form view is.address is.anchor is.structures is.bytes
leads_refused form view fault is = record { valid = is.valid; least = is.least; range = is.range }

-- what is shown has no fault
never_both_by : (form : AnchorForm) (view : View) (t : SmbiosTable) (fault : SmbiosFault) → ShowsSmbiosBy form view t
    → RefusesSmbiosBy form view fault → ⊥
never_both_by form view t fault shows refuses =
    let there = shown_is_read form view refuses.address refuses.anchor refuses.structures refuses.bytes t (leads_refused form view fault refuses) shows in
    let same = one_meaning refuses.bytes (Ok t.structures) (Err fault) there.read refuses.refused in
    absurd (cc same)

pub smbios_never_both : (search : AnchorSearch) (view : View) (found : Option SmbiosTable) (fault : SmbiosFault) → ShowsStructuresBy search view found
    → RefusesSmbiosOf search view fault → ⊥
smbios_never_both search view None fault none refuses =
    none refuses.form refuses.sought refuses.refuses.address (refused_anchor refuses.form view fault refuses.refuses)
smbios_never_both search view (Some t) fault shows refuses =
    let same =
    one_anchor search view shows.form refuses.form shows.shown.address refuses.refuses.address shows.sought refuses.sought
    (shown_anchor shows.form view t shows.shown) (refused_anchor refuses.form view fault refuses.refuses) shows.first refuses.first in
    never_both_by refuses.form view t fault (subst (λ form. ShowsSmbiosBy form view t) same.1 shows.shown) refuses.refuses

-- and there is one fault
one_fault_by : (form : AnchorForm) (view : View) (f g : SmbiosFault) → RefusesSmbiosBy form view f → RefusesSmbiosBy form view g → f ≡ g
one_fault_by form view f g is also =
    let told = told_is_refused form view is.address is.anchor is.structures is.bytes g (leads_refused form view f is) also in
    let same : Err f ≡ Err g = one_meaning is.bytes (Err f) (Err g) is.refused told in
    cc same

pub one_smbios_fault : (search : AnchorSearch) (view : View) → IsOne (RefusesSmbiosOf search view)
one_smbios_fault search view f g is also =
    let same =
    one_anchor search view is.form also.form is.refuses.address also.refuses.address is.sought also.sought (refused_anchor is.form view f is.refuses)
    (refused_anchor also.form view g also.refuses) is.first also.first in
    one_fault_by also.form view f g (subst (λ form. RefusesSmbiosBy form view f) same.1 is.refuses) also.refuses

-- what a memory is read as
abbrev pub Means : AnchorSearch → View → Result (Option SmbiosTable) SmbiosFault → Type 0
Means search view (Ok found) = ShowsStructuresBy search view found
Means search view (Err fault) = RefusesSmbiosOf search view fault

one_reading : (search : AnchorSearch) (view : View) → IsOne (Means search view)
one_reading search view (Ok s) (Ok t) is also = ap Ok (one_table_or_none search view s t is also)
one_reading search view (Ok s) (Err g) is also = absurd (smbios_never_both search view s g is also)
one_reading search view (Err f) (Ok t) is also = absurd (smbios_never_both search view t f also is)
one_reading search view (Err f) (Err g) is also = ap Err (one_smbios_fault search view f g is also)

-- the part of an inventory that is read from the first anchor
pub structures_part : (search : AnchorSearch) (view : View) (found : Option SmbiosTable) → IfSome found (ShowsStructuresOf search view)
    → (found ≡ None → HasNoAnchorOf search view) → ShowsStructuresBy search view found
structures_part search view None shows none = none refl
structures_part search view (Some t) shows none = shows

-- what is read by the search for one form is what the memory means by that form, unless memory runs out
pub as_read : (form : AnchorForm) (view : View) (result meant : Result (Option SmbiosTable) SmbiosFault)
    → (result ≡ Ok None → HasNoAnchorOf (One form) view) → IfOk result (λ found. IfSome found (ShowsStructuresOf (One form) view))
    → IfErr result (λ fault. (fault ≡ OutOfMemory) ⊎ RefusesSmbiosOf (One form) view fault) → Means (One form) view meant → OrNoMemory result meant
as_read form view (Ok found) meant none shows refused means =
    let part = structures_part (One form) view found shows (λ (is : found ≡ None). none (ap Ok is)) in
    inl (one_reading (One form) view (Ok found) meant part means)
as_read form view (Err fault) meant none shows refused means =
    ⊎_elim (λ memory. inr (ap Err memory)) (λ is. inl (one_reading (One form) view (Err fault) meant is means)) refused

-- a fault by one form is one by the search for it, and the other way round
pub refuses_of_one : (form : AnchorForm) (view : View) (fault : SmbiosFault) → RefusesSmbiosBy form view fault
    → RefusesSmbiosOf (One form) view fault
refuses_of_one form view fault is = record {
  form = form;
  sought = refl;
  refuses = is;
  first = λ other same address below has. is.least address below (subst (λ f. HasAnchorBy f view address) same has);
}

pub read_by_form : (form : AnchorForm) (view : View) (result : Result (Option SmbiosTable) SmbiosFault)
    → IfOk result (λ found. IfSome found (ShowsStructuresOf (One form) view)) → IfOk result (λ found. IfSome found (ShowsSmbiosBy form view))
read_by_form form view (Ok None) shows = tt
read_by_form form view (Ok (Some t)) shows = subst (λ f. ShowsSmbiosBy f view t) shows.sought shows.shown
read_by_form form view (Err fault) shows = tt

pub refused_by_form : (form : AnchorForm) (view : View) (result : Result (Option SmbiosTable) SmbiosFault)
    → IfErr result (λ fault. (fault ≡ OutOfMemory) ⊎ RefusesSmbiosOf (One form) view fault)
    → IfErr result (λ fault. (fault ≡ OutOfMemory) ⊎ RefusesSmbiosBy form view fault)
refused_by_form form view (Ok found) refused = tt
refused_by_form form view (Err fault) refused =
    ⊎_elim (λ memory. inl memory) (λ is. inr (subst (λ f. RefusesSmbiosBy f view fault) is.sought is.refuses)) refused
