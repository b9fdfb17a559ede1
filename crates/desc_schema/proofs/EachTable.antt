-- What holds of each table of a schema.
use Rattle.std.proofs.Common.{◌≡◌, ℕ, zero, suc, Bool, true, List, [], ◌∷◌}
use Rattle.std.specs.List.{list_all}
use Rattle.std.proofs.lemmas.Bool.{and_parts}
use Rattle.desc_schema.specs.Form.{Field, fields_at}

-- a test that passes of no keys, and of those of each table, passes of those of the table of a number
pub at_each : (test : List Field → Bool) → test [] ≡ true → (tables : List (List Field)) (table : ℕ) → list_all test tables ≡ true
    → test (fields_at tables table) ≡ true
at_each test none [] table all = none
at_each test none (fields ∷ tables) zero all = (and_parts (test fields) (list_all test tables) all).0
at_each test none (fields ∷ tables) (suc table) all = at_each test none tables table (and_parts (test fields) (list_all test tables) all).1
