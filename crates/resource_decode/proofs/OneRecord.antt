-- A record is read exactly of bytes that begin as it is written.
use Rattle.std.proofs.Common.{◌≡◌, ℕ, Bool, true, false, eqb, List, [], ◌++◌, length, drop, Result, Ok, Err, Some, None, cond, refl, sym, ap, ◌∙◌}
use Rattle.std.specs.List.{starts_with, AllByRecursion}
use Rattle.std.proofs.lemmas.Bool.Decides.{Decides-eqb}
use Rattle.std.proofs.lemmas.Slice.Eq.{starts_is}
use Rattle.vt_layout.specs.declared.value.Value.{Value}
use Rattle.vt_layout.specs.declared.record_reader.RecordFault.{RecordFault}
use Rattle.vt_layout.specs.Rows.{IsRow}
use Rattle.vt_layout.specs.Fields.{Field, field_strings, numbered_rows, field_bytes}
use Rattle.vt_layout.specs.Records.{are_readable, IsLawful, record_in}
use Rattle.vt_layout.proofs.WrittenRecords.{written_read}
use Rattle.resource_decode.specs.Items.{as_written, laid_at}

-- bytes begin with what stands in front of others, and with nothing else
begins : (front more : List ℕ) → starts_with eqb (front ++ more) front ≡ true
begins front more = (starts_is Decides-eqb (front ++ more) front (starts_with eqb (front ++ more) front) refl).1 more refl

-- bytes that begin so are parted there
parted : (bytes front : List ℕ) → starts_with eqb bytes front ≡ true → (more : List ℕ) × (bytes ≡ front ++ more)
parted bytes front is = (drop (length front) bytes, (starts_is Decides-eqb bytes front (starts_with eqb bytes front) refl).0 is)

-- the bytes of a record without texts are read as it, whatever follows them
pub laid_back : {T : Type 0} (count : ℕ) (fields : T → List Field) (made : List Value → T) (t : T) → IsLawful count fields made t (made [])
    → are_readable (fields (made [])) ≡ true → field_strings (fields t) ≡ [] → (more : List ℕ) → AllByRecursion IsRow (numbered_rows (fields t))
    → laid_at fields made (field_bytes (fields t) ++ more) ≡ Some t
laid_back count fields made t lawful readable textless more fits =
    let bytes = field_bytes (fields t) ++ more in
    let read : record_in fields made bytes [] ≡ Ok t =
    ap (λ strings. record_in fields made bytes strings) (sym textless) ∙ written_read count fields made t lawful readable more fits in
    ap (as_written fields bytes) read ∙ ap (λ is. cond is (Some t) None) (begins (field_bytes (fields t)) more)

-- what is read stands there as it is written
as_written_stands : {T : Type 0} (fields : T → List Field) (bytes : List ℕ) (said : Result T RecordFault) (t : T)
    → as_written fields bytes said ≡ Some t → starts_with eqb bytes (field_bytes (fields t)) ≡ true
as_written_stands fields bytes (Err fault) t is = absurd (cc is)
as_written_stands fields bytes (Ok u) t is =
    tested (starts_with eqb bytes (field_bytes (fields u))) u t (λ v. starts_with eqb bytes (field_bytes (fields v))) refl is
  where
    tested : {T : Type 0} (test : Bool) (u t : T) (of : T → Bool) → test ≡ of u → cond test (Some u) None ≡ Some t → of t ≡ true
    tested true u t of same is = let equal : u ≡ t = cc is in sym (same ∙ ap of equal)
    tested false u t of same is = absurd (cc is)

-- so its bytes are the front of those that it was read of
pub laid_stands : {T : Type 0} (fields : T → List Field) (made : List Value → T) (bytes : List ℕ) (t : T)
    → laid_at fields made bytes ≡ Some t → (more : List ℕ) × (bytes ≡ field_bytes (fields t) ++ more)
laid_stands fields made bytes t is =
    parted bytes (field_bytes (fields t)) (as_written_stands fields bytes (record_in fields made bytes []) t is)
