-- A record is what its rows and its texts say.
use Rattle.std.proofs.Common.{◌≡◌, ◌↔◌, ℕ, Bool, IsTrue, List, [], ap, sym, ◌∙◌}
use Rattle.vt_layout.specs.declared.row.Row.{Row}
use Rattle.vt_layout.specs.declared.value.Value.{Value}
use Rattle.vt_layout.specs.Strings.{numbers_from}
use Rattle.vt_layout.specs.Values.{values_of}
use Rattle.vt_layout.specs.Fields.{Field, field_texts, numbered_rows}
use Rattle.vt_layout.specs.Records.{IsLawful}
use Rattle.vt_layout.proofs.WrittenRecords.{values_back}

-- records of one type with the same rows and the same texts are one
same_record : {T : Type 0} (count : ℕ) (fields : T → List Field) (made : List Value → T) (t u : T) → IsLawful count fields made t (made [])
    → IsLawful count fields made u (made []) → numbered_rows (fields t) ≡ numbered_rows (fields u) → field_texts (fields t) ≡ field_texts (fields u)
    → t ≡ u
same_record count fields made t u lawful also rows texts =
    sym (values_back count fields made t (made []) lawful (numbers_from 1 (field_texts (fields t))))
    ∙ ap (λ (these : List Row). made (values_of these (field_texts (fields t)))) rows
    ∙ ap (λ these. made (values_of (numbered_rows (fields u)) these)) texts
    ∙ values_back count fields made u (made []) also (numbers_from 1 (field_texts (fields u)))

-- so a test of the rows and the texts of two is one of the records
pub record_test : {T : Type 0} (count : ℕ) (fields : T → List Field) (made : List Value → T) (t u : T) → IsLawful count fields made t (made [])
    → IsLawful count fields made u (made []) → (rows others : List Row) (texts more : List (List ℕ)) (test : Bool)
    → rows ≡ numbered_rows (fields t) → others ≡ numbered_rows (fields u) → texts ≡ field_texts (fields t) → more ≡ field_texts (fields u)
    → IsTrue test ↔ ((rows ≡ others) × (texts ≡ more)) → IsTrue test ↔ (t ≡ u)
record_test count fields made t u lawful also rows others texts more test rows_are others_are texts_are more_are tested = (
  λ yes.
      let parts = tested.0 yes in
      same_record count fields made t u lawful also (sym rows_are ∙ parts.0 ∙ others_are) (sym texts_are ∙ parts.1 ∙ more_are),
  λ same.
      tested.1 (
        rows_are ∙ ap (λ which. numbered_rows (fields which)) same ∙ sym others_are,
        texts_are ∙ ap (λ which. field_texts (fields which)) same ∙ sym more_are,
      ),
)
