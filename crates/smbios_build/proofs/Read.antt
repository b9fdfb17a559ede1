-- A reader finds in the bytes of structures these structures.
use Rattle.std.proofs.Common.{◌≡◌, ◌≢◌, ℕ, List, [], ◌∷◌, ◌++◌, arith, refl, ap, sym, subst}
use Rattle.std.specs.List.{AllByRecursion}
use Rattle.std.proofs.lemmas.List.{append-nil}
use Rattle.vt_bytes.proofs.Each.{each_weaker}
use Rattle.vt_layout.specs.Rows.{IsRow}
use Rattle.smbios_model.specs.declared.smbios.Body.{Body}
use Rattle.smbios_model.specs.declared.smbios.Body.TheVariants.{OemStrings, End, Raw}
use Rattle.smbios_model.specs.declared.smbios.Structure.{Structure}
use Rattle.vt_layout.specs.Strings.{HasNoNul, IsString}
use Rattle.smbios_model.specs.Structures.{number_of, area_of, strings_in, layout_of, IsBodyOf, IsBody}
use Rattle.smbios_model.specs.Smbios.{IsStructure, AreStructures}
use Rattle.vt_layout.proofs.NamedTexts.{texts_strings}
use Rattle.smbios_model.proofs.KnownStructures.{is_known}
use Rattle.smbios_model.proofs.WrittenBodies.{written_body}
use Rattle.smbios_model.proofs.OneStructures.{one_list_of_structures}
use Rattle.smbios_build.specs.Spelling.{structure_bytes, structures_bytes}
use Rattle.smbios_build.specs.Buildable.{IsRaw, IsBuildable, AreBuildable, HasFittingNumbers}
use Rattle.smbios_build.proofs.Texts.{strings_of-strings}

-- no text of a body that can be written holds a NUL
pub no_nuls : (body : Body) → IsBuildable body → AllByRecursion HasNoNul (layout_of body).texts
no_nuls (Raw number area strings) able = each_weaker IsString HasNoNul (λ text is. is.1) strings able.texts
no_nuls (OemStrings texts) able = each_weaker IsString HasNoNul (λ text is. is.1) texts able.0
no_nuls body able = able

-- a raw structure is read as it stands
raw_body : (number : ℕ) (area : List ℕ) (strings : List (List ℕ)) → IsRaw number area strings
    → IsBody number (area_of (Raw number area strings)) (strings_in (Raw number area strings)) (Raw number area strings)
raw_body number area strings raw =
    subst (λ a. IsBody number a (strings_in (Raw number area strings)) (Raw number area strings)) (sym (append-nil area))
    (subst (λ all. IsBody number area all (Raw number area strings)) (sym (strings_of-strings strings raw.texts))
    (subst (λ kind. IsBodyOf kind number area strings (Raw number area strings)) (sym raw.untyped) refl))

-- what can be written, and fits its fields, is read as it was
built_body : (body : Body) → IsBuildable body → AllByRecursion IsRow (layout_of body).rows
    → IsBody (number_of body) (area_of body) (strings_in body) body
built_body (Raw number area strings) able are = raw_body number area strings able
built_body (OemStrings texts) able are = written_body (OemStrings texts) (is_known (OemStrings texts) able.0) are able.1
built_body body able are = written_body body (is_known body tt) are (omega arith)

-- a structure as a reader finds it in its bytes
pub built_structure : (s : Structure) → IsBuildable s.body → HasFittingNumbers s → IsStructure (structure_bytes s) (number_of s.body) s
built_structure s able fits = record {
  area = area_of s.body;
  strings = strings_in s.body;
  spelled = refl;
  handle_fits = fits.handle;
  are_strings = texts_strings (layout_of s.body).texts (no_nuls s.body able);
  body = built_body s.body able fits.rows;
}

-- what isn't the end has another type
not_end : (body : Body) → IsBuildable body → body ≢ End → number_of body ≢ 127
not_end End able other = absurd (other refl)
not_end (Raw number area strings) able other = able.not_end
not_end body able other = λ same. absurd (omega arith)

-- where structures can be built, each of them can be
pub each_buildable : (structures : List Structure) → AreBuildable structures → AllByRecursion (λ s. IsBuildable s.body) structures
each_buildable [] able = absurd able
each_buildable (s ∷ []) able = (subst IsBuildable (sym able) tt, tt)
each_buildable (s ∷ next ∷ others) able = (able.1, each_buildable (next ∷ others) able.2)

-- structures are read one after the other
pub built_structures : (structures : List Structure) → AreBuildable structures → AllByRecursion HasFittingNumbers structures
    → AreStructures (structures_bytes structures) structures
built_structures [] able each = absurd able
built_structures (s ∷ []) able each =
    subst (λ bytes. IsStructure bytes 127 s) (sym (append-nil (structure_bytes s)))
    (subst (λ number. IsStructure (structure_bytes s) number s) (ap number_of able) (built_structure s (subst IsBuildable (sym able) tt) each.0))
built_structures (s ∷ next ∷ others) able each = (
  structure_bytes s,
  structures_bytes (next ∷ others),
  number_of s.body,
  refl,
  not_end s.body able.1 able.0,
  built_structure s able.1 each.0,
  built_structures (next ∷ others) able.2 each.1,
)

-- no other structures are spelled by the front of what structures are spelled by
pub one_spelling : (a b : List Structure) (x y : List ℕ) → AreBuildable a → AreBuildable b → AllByRecursion HasFittingNumbers a
    → AllByRecursion HasFittingNumbers b → structures_bytes a ++ x ≡ structures_bytes b ++ y → a ≡ b
one_spelling a b x y a_able b_able a_fits b_fits =
    one_list_of_structures a b (structures_bytes a) (structures_bytes b) x y (built_structures a a_able a_fits) (built_structures b b_able b_fits)
