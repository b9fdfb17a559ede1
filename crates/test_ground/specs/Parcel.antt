-- A made-up record, with a row of each kind that a record can have, with texts and with a part.
use Rattle.std.specs.Prelude.{List, [], ◌∷◌, ◌++◌}
use Rattle.vt_layout.specs.declared.row.Row.TheVariants.{Ignored}
use Rattle.vt_layout.specs.declared.value.Value.{Value}
use Rattle.vt_layout.specs.Values.{skip, value_at, byte_of, word_of, dword_of, qword_of, four_of, six_of, eight_of, sixteen_of, text_of}
use Rattle.vt_layout.specs.Fields.{Field, Plain, Text, byte, word, dword, qword, big_word, big_dword, big_qword, four, six, eight, sixteen, reserved}
use Rattle.test_ground.specs.declared.layouts.parcel.Extent.{Extent}
use Rattle.test_ground.specs.declared.layouts.parcel.Parcel.{Parcel}

abbrev pub extent_fields : Extent → List Field
extent_fields e = byte e.unit ∷ reserved 1 ∷ dword e.volume ∷ []

abbrev pub extent_in : List Value → Extent
extent_in values = record { unit = byte_of (value_at 0 values); volume = dword_of (value_at 2 values) }

abbrev pub parcel_fields : Parcel → List Field
parcel_fields p =
    Text p.sender ∷ byte p.kind ∷ word p.weight ∷ extent_fields p.extent ++ Text p.receiver ∷ four p.carrier ∷ six p.depot ∷ eight p.route
    ∷ sixteen p.label ∷ qword p.number ∷ big_word p.customs ∷ big_dword p.postcode ∷ big_qword p.tracking ∷ Plain (Ignored 1 7) ∷ Text p.note
    ∷ []

abbrev pub parcel_in : List Value → Parcel
parcel_in values = record {
  sender = text_of (value_at 0 values);
  kind = byte_of (value_at 1 values);
  weight = word_of (value_at 2 values);
  extent = extent_in (skip 3 values);
  receiver = text_of (value_at 6 values);
  carrier = four_of (value_at 7 values);
  depot = six_of (value_at 8 values);
  route = eight_of (value_at 9 values);
  label = sixteen_of (value_at 10 values);
  number = qword_of (value_at 11 values);
  customs = word_of (value_at 12 values);
  postcode = dword_of (value_at 13 values);
  tracking = qword_of (value_at 14 values);
  note = text_of (value_at 16 values);
}
