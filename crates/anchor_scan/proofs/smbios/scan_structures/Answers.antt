use Rattle.std.proofs.Common.{◌≡◌, inl, inr, ⊎_elim, ◌↔◌, ℕ, Option, None, Result, Ok, Err, refl, sym, subst}
use Rattle.std.proofs.lemmas.Result.{err_from_is_err_and}
use Rattle.vt_bytes.specs.Memory.{seen}
use Rattle.smbios_model.specs.Anchor.{IsRange}
use Rattle.vt_bytes.specs.View.{View}
use Rattle.smbios_model.specs.declared.anchor.AnchorForm.{AnchorForm}
use Rattle.smbios_model.specs.declared.smbios.SmbiosTable.{SmbiosTable}
use Rattle.smbios_decode.specs.declared.fault.SmbiosFault.{SmbiosFault}
use Rattle.table_model.specs.declared.search.AnchorSearch.{AnchorSearch}
use Rattle.table_model.specs.Search.{HasNoAnchorOf}
use Rattle.anchor_scan.specs.First.{IsFirstAnchorOf, IsFoundAnchor}
use Rattle.anchor_scan.proofs.AnchorsByForm.{least_within}
use Rattle.anchor_scan.proofs.Scanned.{IsReadSo, read_is_shown, fault_is_told}
use Rattle.anchor_scan.proofs.smbios.scan_structures.Goals as goal

-- where an anchor was found, it isn't told that there is none
never_none : (search : AnchorSearch) (view : View) (form : AnchorForm) (address : ℕ) (result : Result (Option SmbiosTable) SmbiosFault)
    → IsFirstAnchorOf search view form address → (result ≡ Ok None → ⊥) → result ≡ Ok None ↔ HasNoAnchorOf search view
never_none search view form address result is differs =
    (λ same. absurd (differs same), λ none. absurd (none form is.sought address is.stands))

fault_is_told_so : (result : Result (Option SmbiosTable) SmbiosFault) (fault : SmbiosFault) → result ≡ Err fault → result ≡ Ok None → ⊥
fault_is_told_so result fault tells none = cc (tells, none)

pub returns-in_default-clause-none : goal.returns-in_default-clause-none
returns-in_default-clause-none c =
    (λ _. subst (IsFoundAnchor c.args.search (seen c.args.memory.now.memory)) c.in_default.is c.first_anchor.ensures, λ _. refl)

pub read_anchor-found-requires-clause-within : goal.read_anchor-found-requires-clause-within
read_anchor-found-requires-clause-within c =
    least_within c.in-Some.first.form (seen c.args.memory.now.memory) c.in-Some.first.address c.in-Some.ensures.stands

pub returns-in_err-bytes-clause-none : goal.returns-in_err-bytes-clause-none
returns-in_err-bytes-clause-none c =
    let p = err_from_is_err_and c.from_residual.result c.from_residual.ensures.1 in
    never_none c.args.search (seen c.args.memory.now.memory) c.in-Some.first.form c.in-Some.first.address c.from_residual.result c.in-Some.ensures
    (fault_is_told_so c.from_residual.result p.0 p.1)

pub returns-in_err-structures-clause-none : goal.returns-in_err-structures-clause-none
returns-in_err-structures-clause-none c =
    let result = c.from_residual-in_err-structures.result in
    let p = err_from_is_err_and result c.from_residual-in_err-structures.ensures.1 in
    never_none c.args.search (seen c.args.memory.now.memory) c.in-Some.first.form c.in-Some.first.address result c.in-Some.ensures
    (fault_is_told_so result p.0 p.1)

pub returns-clause-none : goal.returns-clause-none
returns-clause-none c =
    never_none c.args.search (seen c.args.memory.now.memory) c.in-Some.first.form c.in-Some.first.address _ c.in-Some.ensures (λ same. cc same)

pub returns-in_err-structures-clause-refused : goal.returns-in_err-structures-clause-refused
returns-in_err-structures-clause-refused c =
    let view = seen c.args.memory.now.memory in
    let anchor = c.read_anchor-found.result.anchor in
    let place = c.read_anchor-found.result.structures in
    let bytes = c.deref.result.now in
    let is : IsReadSo c.args.search view c.in-Some.first.form c.in-Some.first.address anchor place bytes =
    record {
      first = c.in-Some.ensures;
      numbers = c.read_anchor-found.ensures;
      range = subst (IsRange view place anchor.maximum_size) (sym c.deref.ensures.value) c.in_ok-bytes.ensures;
    } in
    let p = err_from_is_err_and c.from_residual-in_err-structures.result c.from_residual-in_err-structures.ensures.1 in
    rw (p.1, p.2) (⊎_elim (λ memory. inl memory)
    (λ refused. inr (fault_is_told c.args.search view c.in-Some.first.form c.in-Some.first.address anchor place bytes
    c.in_err-structures.field-0.0 is refused)) c.in_err-structures.ensures.refused)

pub returns-clause-shown : goal.returns-clause-shown
returns-clause-shown c =
    let view = seen c.args.memory.now.memory in
    let anchor = c.read_anchor-found.result.anchor in
    let place = c.read_anchor-found.result.structures in
    let bytes = c.deref.result.now in
    let is : IsReadSo c.args.search view c.in-Some.first.form c.in-Some.first.address anchor place bytes =
    record {
      first = c.in-Some.ensures;
      numbers = c.read_anchor-found.ensures;
      range = subst (IsRange view place anchor.maximum_size) (sym c.deref.ensures.value) c.in_ok-bytes.ensures;
    } in
    read_is_shown c.args.search view c.in-Some.first.form c.in-Some.first.address anchor place bytes c.in_ok-structures.structures is
    c.in_ok-structures.ensures.read
