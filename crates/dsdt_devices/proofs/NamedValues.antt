-- The values of names among the values in a device, and the items that one tells.
use Rattle.std.proofs.Common.{◌≡◌, ℕ, Bool, true, false, List, ◌∷◌, codes, cond, map, Option, Some, None, refl, ap, ◌∙◌}
use Rattle.std.specs.List.{AllByRecursion}
use Rattle.std.specs.Option.{option_or}
use Rattle.std.specs.Str.{bytes_eq}
use Rattle.aml_terms.specs.declared.term.Term.{Term}
use Rattle.aml_terms.specs.declared.term.Term.TheVariants.{Buffer}
use Rattle.aml_terms.specs.Trees.{Tree, view}
use Rattle.resource_items.specs.declared.resource_item.ResourceItem.{ResourceItem}
use Rattle.resource_items.specs.Templates.{FitsItem, template_of}
use Rattle.dsdt_terms.specs.Names.{path_to, name}
use Rattle.dsdt_terms.proofs.Views.{view-buffer}
use Rattle.resource_decode.proofs.AllItems.{template_back}
use Rattle.dsdt_devices.specs.BusTerms.{first_told, value_in}
use Rattle.dsdt_devices.specs.Told.{items_of, resources_in}
use Rattle.dsdt_devices.proofs.Views.{value_in-name}

-- the first value of a name, among named values
abbrev pub first_value : List ℕ → List Term → Option Tree
first_value segment ts = first_told (value_in segment) (map view ts)

-- a value that is taken or passed
either : (is : Bool) (value : Tree) (others : Option Tree) → option_or (cond is (Some value) None) others ≡ cond is (Some value) others
either true value others = refl
either false value others = refl

-- it is the one in front, or one of the others
pub first_value-name : (segment other : List ℕ) (value : Term) (ts : List Term)
    → first_value segment (name other value ∷ ts) ≡ cond (bytes_eq other segment) (Some (view value)) (first_value segment ts)
first_value-name segment other value ts =
    ap (λ one. option_or one (first_value segment ts)) (value_in-name segment (path_to other) value)
    ∙ either (bytes_eq other segment) (view value) (first_value segment ts)

-- the items of a template that is a device's first `_CRS`
pub resources_there : (ts : List Term) (items : List ResourceItem) → first_value (codes "_CRS") ts ≡ Some (view (Buffer (template_of items)))
    → AllByRecursion FitsItem items → resources_in (map view ts) ≡ items
resources_there ts items is fit =
    ap items_of is ∙ ap (λ seen. items_of (Some seen)) (view-buffer (template_of items)) ∙ template_back items fit
