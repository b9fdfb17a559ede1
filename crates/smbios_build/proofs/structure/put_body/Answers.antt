use Rattle.std.proofs.Common.{◌∷◌, [], length, arith, refl, ap, sym, subst, append-nil}
use Rattle.vt_layout.specs.declared.row.Row.TheVariants.{Number, Bytes}
use Rattle.smbios_build.specs.Buildable.{IsBuildable}
use Rattle.smbios_build.proofs.PutStructures.{area_put, one_byte}
use Rattle.smbios_build.proofs.structure.put_body.Goals as goal

pub returns-in-Bios : goal.returns-in-Bios
returns-in-Bios c = rw c.in-Bios.is c.put_record.ensures

pub returns-in-Chassis : goal.returns-in-Chassis
returns-in-Chassis c = rw c.in-Chassis.is c.put_record-in-Chassis.ensures

pub returns-in-Processor : goal.returns-in-Processor
returns-in-Processor c = rw c.in-Processor.is c.put_record-in-Processor.ensures

pub returns-in-Slot : goal.returns-in-Slot
returns-in-Slot c = rw c.in-Slot.is c.put_record-in-Slot.ensures

pub returns-in-Device : goal.returns-in-Device
returns-in-Device c = rw c.in-Device.is c.put_record-in-Device.ensures

pub returns-in-OemStrings : goal.returns-in-OemStrings
returns-in-OemStrings c =
    let texts = c.in-OemStrings.texts in
    let able = subst IsBuildable c.in-OemStrings.is c.requires in
    rw c.in-OemStrings.is
    (area_put 11 c.args.handle (length texts ∷ []) (c.len.result ∷ []) _ texts (Number 1 (length texts) ∷ []) c.args.bytes.now c.put_raw.new.bytes
    c.put_raw.result able.0 c.as_slice.ensures (ap (λ count. count ∷ []) c.len.ensures) (one_byte (length texts) able.1)
    ((omega arith, omega (arith, able.1)), tt) c.put_raw.ensures)

pub returns-in-Raw : goal.returns-in-Raw
returns-in-Raw c =
    let able = subst IsBuildable c.in-Raw.is c.requires in
    rw c.in-Raw.is
    (area_put c.in-Raw.kind c.args.handle c.in-Raw.area _ _ c.in-Raw.strings (Bytes (length c.in-Raw.area) c.in-Raw.area ∷ []) c.args.bytes.now
    c.put_raw-in-Raw.new.bytes c.put_raw-in-Raw.result able.texts c.as_slice-in-Raw-2.ensures c.as_slice-in-Raw.ensures
    (sym (append-nil c.in-Raw.area)) (refl, tt) c.put_raw-in-Raw.ensures)
