use Rattle.std.proofs.Common.{◌-◌, [], ◌∷◌, length, take, arith, ap, sym, subst, refl, length-take}
use Rattle.std.proofs.lemmas.Result.{on_ok_weaker}
use Rattle.vt_layout.specs.declared.row.Row.TheVariants.{Bytes, Pointer}
use Rattle.dsdt_terms.specs.Dsdt.{generation_file, id_offset, front_bytes}
use Rattle.dsdt_terms.proofs.MachineTerms.{few_bytes}
use Rattle.blob_holes.specs.Plain.{Spells, bytes_row}
use Rattle.acpi_append.specs.DsdtPut.{IsDsdtPut}
use Rattle.aml_devices.proofs.BlockRows.{row_spells, leading, body_leading, address_fits}
use Rattle.aml_devices.proofs.dsdt.put_block.Goals as goal

pub put_dsdt-requires-clause-few : goal.put_dsdt-requires-clause-few
put_dsdt-requires-clause-few c = omega (arith, ap length c.requires.block, few_bytes c.args.machine.now c.requires.accepted)

pub slice_bounds-front-count : goal.slice_bounds-front-count
slice_bounds-front-count c =
    omega (arith, ap length c.requires.block, address_fits c.args.machine.now c.in-Some.field-0 c.in-Some.is)

pub put_dsdt-requires-in-Some-clause-few : goal.put_dsdt-requires-in-Some-clause-few
put_dsdt-requires-in-Some-clause-few c =
    let block = c.args.block.now in
    omega (arith, length-take (length block - 5) block, ap length c.requires.block, few_bytes c.args.machine.now c.requires.accepted)

pub returns-in-Some-clause-put : goal.returns-in-Some-clause-put
returns-in-Some-clause-put c =
    let m = c.args.machine.now in
    let before = c.args.blob.now in
    let after = c.put_dsdt-in-Some.new.blob in
    let first = bytes_row (front_bytes m) ∷ [] in
    let last = Bytes 1 (0 ∷ []) ∷ [] in
    let pointer = ap (λ name. Pointer 4 name id_offset ∷ last) (sym c.generation_name.ensures) in
    let front : Spells first (take (length c.args.block.now - 5) c.args.block.now) =
    subst (λ block. Spells first (take (length block - 5) block)) (sym c.requires.block) (row_spells (front_bytes m)) in
    on_ok_weaker c.put_dsdt-in-Some.result (λ put.
    subst (IsDsdtPut before after c.args.head.now) (sym (body_leading m c.in-Some.field-0 c.in-Some.is))
    (put (leading m) (first, Pointer 4 generation_file id_offset ∷ last, refl, front, (last, pointer, (last, [], refl, row_spells (0 ∷ []), refl)))))
    c.put_dsdt-in-Some.ensures.put
