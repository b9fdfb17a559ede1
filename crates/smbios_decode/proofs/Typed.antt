-- What an area as long as the rows of a kind and strings say of it.
use Rattle.std.proofs.Common.{◌≡◌, ℕ, ◌+◌, ◌≤◌, Bool, true, false, List, [], ◌∷◌, length, take, drop, Result, Ok, Err, nat_lt}
use Rattle.std.proofs.Common.{if◌then◌else◌, arith, refl, ap, sym, ◌∙◌, subst}
use Rattle.std.proofs.lemmas.Bool.Decides.{nat_tests}
use Rattle.vt_bytes.specs.Numbers.{le}
use Rattle.vt_layout.specs.declared.row.Row.{Row}
use Rattle.vt_layout.specs.declared.row.Row.TheVariants.{Number, BigEndian, Bytes, Named, StringNumber, Ignored, Reserved, Pointer, Sum}
use Rattle.vt_layout.specs.declared.value.Value.{Value}
use Rattle.vt_layout.specs.declared.record_reader.RecordFault.{RecordFault}
use Rattle.vt_layout.specs.declared.record_reader.RecordFault.TheVariants.{TooShort, NoSuchString, OutOfMemory}
use Rattle.vt_layout.specs.Rows.{size, shape, string_numbers}
use Rattle.vt_layout.specs.Strings.{IsFirstMissing}
use Rattle.vt_layout.specs.Reading.{rows_in}
use Rattle.vt_layout.specs.Fields.{Field}
use Rattle.vt_layout.specs.Records.{are_readable, kinds_of, record_in}
use Rattle.vt_layout.proofs.NumberedRows.{size-shape}
use Rattle.vt_layout.proofs.AsRows.{bytes_shown}
use Rattle.vt_layout.proofs.ReadRecords.{read_stands}
use Rattle.vt_layout.proofs.MissingStrings.{short_is_told, missing_is_told}
use Rattle.smbios_model.specs.declared.smbios.Body.{Body}
use Rattle.smbios_model.specs.declared.smbios.Body.TheVariants as bodies
use Rattle.smbios_model.specs.StructureKinds.{kind_with}
use Rattle.smbios_model.specs.BiosInformation.{bios_fields, bios_in}
use Rattle.smbios_model.specs.SystemInformation.{system_fields, system_in}
use Rattle.smbios_model.specs.ChassisInformation.{chassis_fields, chassis_in}
use Rattle.smbios_model.specs.ProcessorInformation.{processor_fields, processor_in}
use Rattle.smbios_model.specs.SlotInformation.{slot_fields, slot_in}
use Rattle.smbios_model.specs.OemStrings.{oem_strings_kind}
use Rattle.smbios_model.specs.MemoryArray.{array_fields, array_in}
use Rattle.smbios_model.specs.MemoryDevice.{device_fields, device_in}
use Rattle.smbios_model.specs.MappedAddress.{mapped_fields, mapped_in}
use Rattle.smbios_model.specs.BootInformation.{boot_fields, boot_in}
use Rattle.smbios_decode.specs.declared.kind.Kind.{Kind}
use Rattle.smbios_decode.specs.declared.kind.Kind.TheVariants.{Bios, System, Chassis, Processor, Slot, OemStrings, Array, Device, Mapped, Boot, End}
use Rattle.smbios_decode.specs.Kinds.{kind_of, as_body, body_in, IsTypedOr}
use Rattle.smbios_decode.proofs.Counted.{counted_named, counted_missing}

-- a shape asks for the same strings as its rows
numbers_shaped : (rows : List Row) (bytes : List ℕ) → string_numbers (rows_in (shape rows) bytes) ≡ string_numbers (rows_in rows bytes)
numbers_shaped [] bytes = refl
numbers_shaped (Number width n ∷ rows) bytes = numbers_shaped rows (drop width bytes)
numbers_shaped (BigEndian width n ∷ rows) bytes = numbers_shaped rows (drop width bytes)
numbers_shaped (Bytes width text ∷ rows) bytes = numbers_shaped rows (drop width bytes)
numbers_shaped (Named name ∷ rows) bytes = numbers_shaped rows (drop 56 bytes)
numbers_shaped (StringNumber n ∷ rows) bytes = ap (λ numbers. le (take 1 bytes) ∷ numbers) (numbers_shaped rows (drop 1 bytes))
numbers_shaped (Ignored width n ∷ rows) bytes = numbers_shaped rows (drop width bytes)
numbers_shaped (Reserved width ∷ rows) bytes = numbers_shaped rows (drop width bytes)
numbers_shaped (Pointer width target offset ∷ rows) bytes = numbers_shaped rows (drop width bytes)
numbers_shaped (Sum covers ∷ rows) bytes = numbers_shaped rows (drop 1 bytes)

-- what is read of a record's kind
typed_record : {Info : Type 0} (number : ℕ) (fields : Info → List Field) (made : List Value → Info) (body_of : Info → Body) (area : List ℕ)
    (strings : List (List ℕ)) (read : Result Info RecordFault) → record_in fields made area strings ≡ read
    → are_readable (fields (made [])) ≡ true → length area ≡ size (shape (kinds_of fields made))
    → IsTypedOr (kind_with number fields made body_of) area strings (as_body body_of read)
typed_record number fields made body_of area strings (Ok info) is readable long =
    let laid = read_stands fields made area strings info readable is in
    record {
      rows = laid.rows;
      texts = laid.texts;
      shaped = laid.shaped;
      says = ap body_of laid.says;
      stands = record {
        filled = long ∙ ap size (sym laid.shaped) ∙ size-shape laid.rows;
        shown = laid.shown;
        named = laid.named;
      };
    }
typed_record number fields made body_of area strings (Err (NoSuchString missing)) is readable long =
    let whole : size (kinds_of fields made) ≤ length area = omega (arith, long, size-shape (kinds_of fields made)) in
    subst (λ numbers. IsFirstMissing strings numbers missing) (sym (numbers_shaped (kinds_of fields made) area))
    ((missing_is_told fields made area strings missing whole).0 is)
typed_record number fields made body_of area strings (Err TooShort) is readable long =
    absurd (omega (arith, long, size-shape (kinds_of fields made), (short_is_told fields made area strings).0 is))
typed_record number fields made body_of area strings (Err OutOfMemory) is readable long = tt

-- OEM Strings, whose area is one byte
typed_strings : (area : List ℕ) (strings : List (List ℕ)) (few : Bool) → nat_lt (length strings) (le (take 1 area)) ≡ few → length area ≡ 1
    → IsTypedOr oem_strings_kind area strings
    (if few then Err (NoSuchString (length strings + 1)) else Ok (bodies.OemStrings (take (le (take 1 area)) strings)))
typed_strings area strings true few one = counted_missing strings (le (take 1 area)) (grind (arith, nat_tests, few))
typed_strings area strings false few one = record {
  rows = rows_in oem_strings_kind.shape area;
  texts = take (le (take 1 area)) strings;
  shaped = refl;
  says = refl;
  stands = record {
    filled = omega (arith, one);
    shown = bytes_shown oem_strings_kind.shape area (tt, tt) (omega (arith, one));
    named = counted_named strings (le (take 1 area)) (grind (arith, nat_tests, few));
  };
}

-- what is read of each kind
pub typed : (kind : Kind) (area : List ℕ) (strings : List (List ℕ)) → length area ≡ size (kind_of kind).shape
    → IsTypedOr (kind_of kind) area strings (body_in kind area strings)
typed Bios area strings long = typed_record 0 bios_fields bios_in bodies.Bios area strings _ refl refl long
typed System area strings long = typed_record 1 system_fields system_in bodies.System area strings _ refl refl long
typed Chassis area strings long = typed_record 3 chassis_fields chassis_in bodies.Chassis area strings _ refl refl long
typed Processor area strings long = typed_record 4 processor_fields processor_in bodies.Processor area strings _ refl refl long
typed Slot area strings long = typed_record 9 slot_fields slot_in bodies.Slot area strings _ refl refl long
typed OemStrings area strings long = typed_strings area strings (nat_lt (length strings) (le (take 1 area))) refl long
typed Array area strings long = typed_record 16 array_fields array_in bodies.Array area strings _ refl refl long
typed Device area strings long = typed_record 17 device_fields device_in bodies.Device area strings _ refl refl long
typed Mapped area strings long = typed_record 19 mapped_fields mapped_in bodies.Mapped area strings _ refl refl long
typed Boot area strings long = typed_record 32 boot_fields boot_in bodies.Boot area strings _ refl refl long
typed End area strings long = record {
  rows = [];
  texts = [];
  shaped = refl;
  says = refl;
  stands = record { filled = long; shown = tt; named = tt };
}
