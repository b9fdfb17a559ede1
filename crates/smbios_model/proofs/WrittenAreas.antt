-- The area and the strings of a structure, as they are written, are read as its texts.
use Rattle.std.proofs.Common.{◌≡◌, ℕ, List, sym, subst}
use Rattle.std.specs.List.{AllByRecursion}
use Rattle.vt_layout.specs.declared.row.Row.{Row}
use Rattle.vt_layout.specs.Rows.{IsRow, IsPlain, spelled}
use Rattle.vt_layout.specs.Strings.{AreNamed, numbers_from, strings_of}
use Rattle.vt_layout.proofs.Sizes.{length-spelled}
use Rattle.vt_layout.proofs.Spelled.{spelled_shown}
use Rattle.vt_layout.proofs.NamedTexts.{texts_named}
use Rattle.smbios_model.specs.Structures.{IsArea}

-- rows with the numbers of texts, as they are written, are the area of these texts
pub spelled_area : (rows : List Row) (numbers : List ℕ) (texts : List (List ℕ)) → AllByRecursion IsRow rows → AllByRecursion IsPlain rows
    → numbers ≡ numbers_from 1 texts → IsArea (spelled rows) (strings_of texts) rows numbers texts
spelled_area rows numbers texts are plain named = record {
  filled = length-spelled rows are;
  shown = spelled_shown rows are plain;
  named = subst (λ given. AreNamed (strings_of texts) given texts) (sym named) (texts_named texts);
}
