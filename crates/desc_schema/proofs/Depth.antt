-- The walk of a table, by the depth that is left.
use Rattle.std.proofs.Common.{◌≡◌, ℕ, zero, suc, ◌<◌, ◌-◌, List, Ok, refl, ◌∙◌, arith}
use Rattle.vt_outside.specs.Readings.{◌into◌, IsFaultOf}
use Rattle.desc_schema.specs.Faults.{reported}
use Rattle.toml.specs.Data.{Members}
use Rattle.desc_schema.specs.declared.value.Value.{Value}
use Rattle.desc_schema.specs.declared.fault.Place.{Place}
use Rattle.desc_schema.specs.declared.fault.WalkError.{WalkError}
use Rattle.desc_schema.specs.Form.{Field, fields_at}
use Rattle.desc_schema.specs.Walk.{after, all_known, at_fields, table_walked}
use Rattle.desc_schema.proofs.Parts.{is_done, fails_bound}

pub walked_none : (front : List Value) (schema : List (List Field)) (depth : ℕ) (place : Place) (table : Members) (positions : List ℕ) → depth ≡ 0
    → after front (table_walked schema depth place table positions) ≡ Ok (front, positions)
unfolding table_walked
walked_none front schema depth place table positions is = rw is (is_done front positions _ refl)

walked_more : (schema : List (List Field)) (depth : ℕ) (place : Place) (table : Members) (positions : List ℕ) (fields : List Field) → 0 < depth
    → fields ≡ fields_at schema place.table
    → table_walked schema depth place table positions ≡
    (all_known place fields table into λ known. at_fields (table_walked schema (depth - 1)) place fields table positions)
unfolding table_walked
walked_more schema zero place table positions fields within is = absurd (omega arith)
walked_more schema (suc depth) place table positions fields within is =
    let k : suc depth - 1 ≡ depth = omega arith in
    rw (is, k) refl

pub walked_known : (schema : List (List Field)) (depth : ℕ) (place : Place) (table : Members) (positions : List ℕ) (fields : List Field) (known : Unit {0})
    → 0 < depth
    → fields ≡ fields_at schema place.table → all_known place fields table ≡ Ok known
    → table_walked schema depth place table positions ≡ at_fields (table_walked schema (depth - 1)) place fields table positions
walked_known schema depth place table positions fields known within is all = walked_more schema depth place table positions fields within is ∙ rw all refl

pub walked_unknown : (error : WalkError) (front : List Value) (schema : List (List Field)) (depth : ℕ) (place : Place) (table : Members) (positions : List ℕ)
    (fields : List Field) → 0 < depth
    → fields ≡ fields_at schema place.table → IsFaultOf (reported error) (all_known place fields table)
    → IsFaultOf (reported error) (after front (table_walked schema depth place table positions))
walked_unknown error front schema depth place table positions fields within is fails =
    rw (walked_more schema depth place table positions fields within is)
    (fails_bound error front (all_known place fields table) (λ known. at_fields (table_walked schema (depth - 1)) place fields table positions) fails)
