-- A view shows one table of SMBIOS structures by each form of its anchor.
use Rattle.std.proofs.Common.{◌≡◌, ℕ, ◌+◌, ◌<◌, List, [], ◌∷◌, ◌++◌, Some, length, arith, refl, ap, sym, ◌∙◌, subst, ⊎_elim}
use Rattle.std.proofs.lemmas.Bool.{cases_order}
use Rattle.vt_bytes.specs.View.{View, bytes_in}
use Rattle.vt_bytes.proofs.Views.{ram-shown}
use Rattle.vt_bytes.proofs.AtMostOne.{IsOne, one_least}
use Rattle.vt_layout.specs.declared.row.Row.{Row}
use Rattle.vt_layout.specs.declared.row.Row.TheVariants.{Number, Bytes, Ignored, Reserved, Sum}
use Rattle.vt_layout.specs.Rows.{shape, number}
use Rattle.vt_layout.proofs.Same.{same_rows}
use Rattle.smbios_model.specs.declared.anchor.Anchor.{Anchor}
use Rattle.smbios_model.specs.declared.anchor.AnchorForm.{AnchorForm}
use Rattle.smbios_model.specs.declared.anchor.AnchorForm.TheVariants.{Smbios3, Smbios2}
use Rattle.smbios_model.specs.declared.smbios.Structure.{Structure}
use Rattle.smbios_model.specs.declared.smbios.SmbiosTable.{SmbiosTable}
use Rattle.smbios_model.specs.Anchor.{anchor_rows, old_rows, old_range_rows, IsAnchorBy, HasAnchorBy, IsRange}
use Rattle.smbios_model.specs.Smbios.{ShowsSmbiosBy}
use Rattle.smbios_model.proofs.OneStructures.{one_list_of_structures}

-- the anchor of these rows
anchor_of_rows : List Row → Anchor
anchor_of_rows rows = record {
  length = number 2 rows;
  major = number 3 rows;
  minor = number 4 rows;
  docrev = number 5 rows;
  maximum_size = number 8 rows;
}

-- the shape of an anchor of so many bytes
abbrev anchor_shape : ℕ → List Row
anchor_shape covers =
    Bytes 5 [] ∷ Sum covers ∷ Number 1 0 ∷ Number 1 0 ∷ Number 1 0 ∷ Number 1 0 ∷ Ignored 1 1 ∷ Reserved 1 ∷ Number 4 0 ∷ Number 8 0 ∷ []

-- the old anchor of a length and a revision of the document, and of these rows
old_anchor_of : ℕ → ℕ → List Row → List Row → Anchor
old_anchor_of length docrev rows range = record {
  length = length;
  major = number 3 rows;
  minor = number 4 rows;
  docrev = docrev;
  maximum_size = number 2 range;
}

-- one anchor of a form stands at an address, and tells one address of the structures
one_anchor : (form : AnchorForm) (view : View) (address : ℕ) (a b : Anchor) (s t : ℕ) → IsAnchorBy form view address a s
    → IsAnchorBy form view address b t → (a ≡ b) × (s ≡ t)
unfolding anchor_of_rows old_anchor_of
one_anchor Smbios3 view address a b s t is also =
    let lengths : a.length ≡ b.length = cc (is.shown.1.1.0, also.shown.1.1.0) in
    let shapes : shape (anchor_rows a (Number 8 s)) ≡ shape (anchor_rows b (Number 8 t)) =
    ap anchor_shape lengths in
    let same = same_rows view address address (anchor_rows a (Number 8 s)) (anchor_rows b (Number 8 t)) is.shown also.shown shapes in
    (ap anchor_of_rows same, ap (number 9) same)
one_anchor Smbios2 view address a b s t is also =
    let same = same_rows view address address (old_rows a) (old_rows b) is.shown.front also.shown.front refl in
    let place = address + 0x10 in
    let ranges =
    same_rows view place place (old_range_rows a (Number 4 s)) (old_range_rows b (Number 4 t)) is.shown.range also.shown.range refl in (
      ap (λ n. old_anchor_of n a.docrev (old_rows a) (old_range_rows a (Number 4 s))) (is.shown.sized ∙ sym also.shown.sized)
          ∙ ap (λ n. old_anchor_of b.length n (old_rows a) (old_range_rows a (Number 4 s))) (is.shown.unrevised ∙ sym also.shown.unrevised)
          ∙ ap (λ rows. old_anchor_of b.length b.docrev rows (old_range_rows a (Number 4 s))) same
          ∙ ap (old_anchor_of b.length b.docrev (old_rows b)) ranges,
      ap (number 3) ranges,
    )

-- where a range ends in a gap, no other one goes on
no_longer : (view : View) (address maximum : ℕ) (a b : List ℕ) → IsRange view address maximum a → IsRange view address maximum b
    → length b < length a → ⊥
no_longer view address maximum a b is also longer =
    ⊎_elim (λ full. omega (arith, is.at_most, full))
    (λ gap. let there = ram-shown view address (length a) a (length b) is.there longer in
    cc) also.whole

one_range : (view : View) (address maximum : ℕ) → IsOne (IsRange view address maximum)
one_range view address maximum a b is also =
    let sizes : length a ≡ length b =
    ⊎_elim (λ same. same)
    (λ differ.
    ⊎_elim (λ below. absurd (no_longer view address maximum b a also is below)) (λ above. absurd (no_longer view address maximum a b is also above))
    differ)
    (cases_order (length a) (length b)) in
    let shown : Some a ≡ Some b = sym is.there ∙ ap (bytes_in view address) sizes ∙ also.there in
    cc

-- the table of these parts
table_from : ℕ → ℕ → ℕ → List Structure → SmbiosTable
table_from major minor docrev structures = record { major = major; minor = minor; docrev = docrev; structures = structures }

pub same_table : (s t : SmbiosTable) → s.major ≡ t.major → s.minor ≡ t.minor → s.docrev ≡ t.docrev → s.structures ≡ t.structures → s ≡ t
unfolding table_from
same_table s t major minor docrev structures =
    ap (λ n. table_from n s.minor s.docrev s.structures) major ∙ ap (λ n. table_from t.major n s.docrev s.structures) minor
    ∙ ap (λ n. table_from t.major t.minor n s.structures) docrev ∙ ap (table_from t.major t.minor t.docrev) structures

-- the least valid anchor of a form in a view tells of the structures, and leads to these bytes
pub record Leads (form : AnchorForm) (view : View) (address : ℕ) (anchor : Anchor) (structures : ℕ) (bytes : List ℕ) : Type 0 where
  pub valid : IsAnchorBy form view address anchor structures
  pub least : (other : ℕ) → other < address → HasAnchorBy form view other → ⊥
  pub range : IsRange view structures anchor.maximum_size bytes

-- one anchor does, to the same bytes
pub one_leads : (form : AnchorForm) (view : View) (p q : ℕ) (a b : Anchor) (s t : ℕ) (bytes others : List ℕ) → Leads form view p a s bytes
    → Leads form view q b t others → (a ≡ b) × (bytes ≡ others)
one_leads form view p q a b s t bytes others is also =
    let place : p ≡ q = one_least (HasAnchorBy form view) p q (a, s, is.valid) (b, t, also.valid) is.least also.least in
    let valid = subst (λ address. IsAnchorBy form view address a s) place is.valid in
    let told = one_anchor form view q a b s t valid also.valid in
    let at_place = subst (λ address. IsRange view address a.maximum_size bytes) told.1 is.range in
    let at_most = subst (λ (anchor : Anchor). IsRange view t anchor.maximum_size bytes) told.0 at_place in
    (told.0, one_range view t b.maximum_size bytes others at_most also.range)

-- a table that is shown stands in them
pub leads_of : (form : AnchorForm) (view : View) (t : SmbiosTable) (is : ShowsSmbiosBy form view t)
    → Leads form view is.address is.anchor is.structures (is.used ++ is.unused)
leads_of form view t is = record { valid = is.valid; least = is.least; range = is.range }

pub one_smbios : (form : AnchorForm) (view : View) → IsOne (ShowsSmbiosBy form view)
one_smbios form view s t is also =
    let same =
    one_leads form view is.address also.address is.anchor also.anchor is.structures also.structures (is.used ++ is.unused)
    (also.used ++ also.unused) (leads_of form view s is) (leads_of form view t also) in
    same_table s t (is.major ∙ ap (λ (a : Anchor). a.major) same.0 ∙ sym also.major) (is.minor ∙ ap (λ (a : Anchor). a.minor) same.0 ∙ sym also.minor)
    (is.docrev ∙ ap (λ (a : Anchor). a.docrev) same.0 ∙ sym also.docrev)
    (one_list_of_structures s.structures t.structures is.used also.used is.unused also.unused is.listed also.listed same.1)
