-- Files that are added to those of a machine.
use Rattle.std.proofs.Common.{◌≡◌, List, [], ◌∷◌, ◌++◌, Result, Ok, Err, OnOk, ap, ◌∙◌, append_assoc}
use Rattle.image_files.specs.Files.{ImageFile}

-- two files, one after the other
pub two_more : (files middle last : List ImageFile) (first second : ImageFile) → middle ≡ files ++ first ∷ [] → last ≡ middle ++ second ∷ []
    → last ≡ files ++ first ∷ second ∷ []
two_more files middle last first second once again =
    again ∙ ap (λ (those : List ImageFile). those ++ second ∷ []) once ∙ append_assoc files (first ∷ []) (second ∷ [])

-- what holds at all holds where they were added
pub on_ok : {T E : Type 0} (r : Result T E) (P : Type 0) → P → OnOk r P
on_ok (Ok x) P holds = holds
on_ok (Err e) P holds = tt
