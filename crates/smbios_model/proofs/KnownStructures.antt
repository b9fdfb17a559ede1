-- What holds of each body of a known kind: a line for each.
use Rattle.std.proofs.Common.{◌≡◌, ℕ, ◌+◌, List, [], ◌∷◌, length, Some, arith, refl, ap, sym, ◌∙◌}
use Rattle.std.specs.List.{AllByRecursion}
use Rattle.vt_layout.specs.declared.row.Row.{Row}
use Rattle.vt_layout.specs.declared.value.Value.{Value}
use Rattle.vt_layout.specs.Rows.{size, shape, string_numbers, IsPlain}
use Rattle.vt_layout.specs.Fields.{Field, field_rows, field_texts}
use Rattle.vt_layout.specs.Records.{IsLawful, kinds_of}
use Rattle.smbios_model.specs.declared.smbios.Body.{Body}
use Rattle.smbios_model.specs.declared.smbios.Body.TheVariants.{Bios, System, Chassis, Processor, Slot, OemStrings}
use Rattle.smbios_model.specs.declared.smbios.Body.TheVariants.{Array, Device, Mapped, Boot, End, Raw}
use Rattle.vt_layout.specs.Strings.{IsString, numbers_from}
use Rattle.vt_layout.specs.Numbered.{numbered}
use Rattle.smbios_model.specs.StructureKinds.{StructureLayout, kind_with, layout_with}
use Rattle.smbios_model.specs.BiosInformation.{bios_fields, bios_in}
use Rattle.smbios_model.specs.SystemInformation.{system_fields, system_in}
use Rattle.smbios_model.specs.ChassisInformation.{chassis_fields, chassis_in}
use Rattle.smbios_model.specs.ProcessorInformation.{processor_fields, processor_in}
use Rattle.smbios_model.specs.SlotInformation.{slot_fields, slot_in}
use Rattle.smbios_model.specs.OemStrings.{counted_from}
use Rattle.smbios_model.specs.MemoryArray.{array_fields, array_in}
use Rattle.smbios_model.specs.MemoryDevice.{device_fields, device_in}
use Rattle.smbios_model.specs.MappedAddress.{mapped_fields, mapped_in}
use Rattle.smbios_model.specs.BootInformation.{boot_fields, boot_in}
use Rattle.smbios_model.specs.Structures.{kind_for, layout_of}
use Rattle.vt_layout.proofs.NumberedRows.{string_numbers-numbered, shape-numbered}
use Rattle.vt_layout.proofs.ReadableFields.{all_readable}
use Rattle.vt_layout.proofs.WrittenRecords.{all_fields, values_back}
use Rattle.vt_layout.proofs.NamedTexts.{numbers_from-next, length-numbers_from}

-- Its kind is that of its type and of the length of its area, its rows have the shape of the kind and stand as they are written, and with
-- the numbers of its texts they say what it says, and name these texts.
pub record IsKnownBody (body : Body) (l : StructureLayout) : Type 0 where
  pub listed : kind_for l.kind.number (size l.kind.shape) ≡ Some l.kind
  pub shaped : shape l.rows ≡ l.kind.shape
  pub plain : AllByRecursion IsPlain l.rows
  pub back : (numbers : List ℕ) → l.kind.body (numbered numbers l.rows) l.texts ≡ body
  pub named : l.kind.named (numbered (numbers_from 1 l.texts) l.rows) ≡ numbers_from 1 l.texts

-- as many rows for numbers as there are texts name these
names : (texts : List (List ℕ)) (rows : List Row) → length (string_numbers rows) ≡ length texts
    → string_numbers (numbered (numbers_from 1 texts) rows) ≡ numbers_from 1 texts
names texts rows long = string_numbers-numbered (numbers_from 1 texts) rows (long ∙ sym (length-numbers_from 1 texts))

-- texts that aren't empty have as many numbers as they are
counted_texts : (first : ℕ) (texts : List (List ℕ)) → AllByRecursion IsString texts → counted_from first (length texts) ≡ numbers_from first texts
counted_texts first [] each = refl
counted_texts first ([] ∷ texts) each = absurd (omega (arith, each.0.0))
counted_texts first ((byte ∷ text) ∷ texts) each =
    ap (λ numbers. first ∷ numbers) (counted_texts (first + 1) texts each.1) ∙ sym (numbers_from-next first byte text texts)

-- A body of a known kind. OEM Strings are all the strings of their structure, of which none is empty.
abbrev pub IsOfKind : Body → Type 0
IsOfKind (Raw number area strings) = ⊥
IsOfKind (OemStrings texts) = AllByRecursion IsString texts
IsOfKind body = Unit {0}

-- a kind of records
known_record : {Info : Type 0} (count number : ℕ) (fields : Info → List Field) (made : List Value → Info) (body_of : Info → Body) (i : Info)
    → IsLawful count fields made i (made [])
    → kind_for number (size (shape (kinds_of fields made))) ≡ Some (kind_with number fields made body_of)
    → IsKnownBody (body_of i) (layout_with (kind_with number fields made body_of) (fields i))
known_record count number fields made body_of i lawful listed =
    let are = all_fields (fields i) (all_readable (fields i) lawful.readable) in
    record {
      listed = listed;
      shaped = lawful.shaped ∙ sym (shape-numbered (numbers_from 1 (field_texts (fields (made [])))) (field_rows (fields (made []))));
      plain = are.plain;
      back = λ numbers. ap body_of (values_back count fields made i (made []) lawful numbers);
      named = names (field_texts (fields i)) (field_rows (fields i)) are.counted;
    }

pub is_known : (body : Body) → IsOfKind body → IsKnownBody body (layout_of body)
is_known (Bios i) known = known_record 12 0 bios_fields bios_in Bios i (record { back = refl; shaped = refl; counted = refl; readable = refl }) refl
is_known (System i) known = known_record 8 1 system_fields system_in System i (record { back = refl; shaped = refl; counted = refl; readable = refl }) refl
is_known (Chassis i) known = known_record 15 3 chassis_fields chassis_in Chassis i (record { back = refl; shaped = refl; counted = refl; readable = refl }) refl
is_known (Processor i) known = known_record 26 4 processor_fields processor_in Processor i
    (record { back = refl; shaped = refl; counted = refl; readable = refl }) refl
is_known (Slot i) known = known_record 11 9 slot_fields slot_in Slot i (record { back = refl; shaped = refl; counted = refl; readable = refl }) refl
is_known (OemStrings texts) known =
    record { listed = refl; shaped = refl; plain = (tt, tt); back = λ numbers. refl; named = counted_texts 1 texts known }
is_known (Array i) known = known_record 7 16 array_fields array_in Array i (record { back = refl; shaped = refl; counted = refl; readable = refl }) refl
is_known (Device i) known = known_record 22 17 device_fields device_in Device i (record { back = refl; shaped = refl; counted = refl; readable = refl }) refl
is_known (Mapped i) known = known_record 6 19 mapped_fields mapped_in Mapped i (record { back = refl; shaped = refl; counted = refl; readable = refl }) refl
is_known (Boot i) known = known_record 2 32 boot_fields boot_in Boot i (record { back = refl; shaped = refl; counted = refl; readable = refl }) refl
is_known End known = record { listed = refl; shaped = refl; plain = tt; back = λ numbers. refl; named = refl }
is_known (Raw number area strings) known = absurd known
