-- The tables of a machine, one part after the other.
use Rattle.std.proofs.Common.{◌≡◌, List, ◌++◌, Option, Some, None, option_map, refl, ap, ◌∙◌}
use Rattle.std.specs.Prelude.{option_to_list}
use Rattle.acpi_model.specs.declared.acpi.Table.{Table}

-- the table of a part's record is that of the part
option_map-twice : {X Y Z : Type 0} (f : Y → Z) (g : X → Y) (part : Option X) → option_map f (option_map g part) ≡ option_map (λ x. f (g x)) part
option_map-twice f g None = refl
option_map-twice f g (Some x) = refl

-- behind the tables before it, that of the next part
pub part_pushed : {Part T : Type 0} (variant : T → Table) (of : Part → T) (seen new before : List Table) (part : Option Part) (record_of : Option T)
    → seen ≡ before → record_of ≡ option_map of part → new ≡ seen ++ option_to_list (option_map variant record_of)
    → new ≡ before ++ option_to_list (option_map (λ p. variant (of p)) part)
part_pushed variant of seen new before part record_of was record_is is =
    is ∙ ap (λ those. those ++ option_to_list (option_map variant record_of)) was
    ∙ ap (λ t. before ++ option_to_list (option_map variant t)) record_is
    ∙ ap (λ table. before ++ option_to_list table) (option_map-twice variant of part)
