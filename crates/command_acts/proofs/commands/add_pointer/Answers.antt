use Rattle.std.proofs.Common.{◌≡◌, ◌+◌, IsSome, arith, ap, refl, subst, sym, ◌∙◌}
use Rattle.vt_bytes.proofs.Memories.{puts_number_with}
use Rattle.command_acts.specs.FilesInMemory.{placed_ranges}
use Rattle.command_acts.proofs.NamedInMemory.{some_named}
use Rattle.command_acts.proofs.Placings.{standing, there_standing, place_low}
use Rattle.command_acts.proofs.Pointers.{IsPointer, OnOk-map, number_within, fits_from, far_from, pointer_ram, pointer_number, pointer_after}
use Rattle.command_acts.proofs.Pointers.{pointer_stands, pointer_stays, pointed_from}
use Rattle.guest_memory.proofs.Touching.{touches_put}
use Rattle.command_acts.specs.Touching.{IsInOne}
use Rattle.command_acts.proofs.Touching.{in_named}
use Rattle.command_acts.proofs.commands.add_pointer.Goals as goal

pub place_of-requires-clause-placed : goal.place_of-requires-clause-placed
place_of-requires-clause-placed c =
    some_named c.args.memory.now.memory c.args.placements.now.placed.items c.args.dest.now (subst IsSome (sym c.requires.lawful.found) refl)

pub overflow_add-field : goal.overflow_add-field
overflow_add-field c =
    let m = c.args.memory.now.memory in
    let placed = c.args.placements.now.placed.items in
    let dest = c.args.dest.now in
    let named = there_standing m placed dest c.place_of.result c.requires.lawful.d c.requires.lawful.found c.place_of.ensures in
    omega (arith, place_low m placed dest c.place_of.result c.requires.placed named)

pub place_of-amount-requires-clause-placed : goal.place_of-amount-requires-clause-placed
place_of-amount-requires-clause-placed c =
    some_named c.args.memory.now.memory c.args.placements.now.placed.items c.args.src.now (subst IsSome (sym c.requires.lawful.source_found) refl)

pub patch_add-requires-clause-ram : goal.patch_add-requires-clause-ram
patch_add-requires-clause-ram c =
    let pointer = pointer_stands c.args.memory.now.memory c.args.placements.now.placed.items c.args.dest.now c.args.src.now c.args.offset c.args.size
    c.place_of.result c.place_of-amount.result c.requires.placed c.requires.lawful c.place_of.ensures c.place_of-amount.ensures in
    pointer_ram _ _ _ _ _ _ _ _ _ (ap (λ offset. c.place_of.result + offset) c.from.ensures) pointer

pointer_of : (c : goal.After-patch_add)
    → IsPointer c.args.memory.now.memory c.args.placements.now.placed.items c.args.dest.now c.args.src.now c.args.offset c.args.size
    (standing c.args.placements.now.placed.items c.args.dest.now c.place_of.result)
    (standing c.args.placements.now.placed.items c.args.src.now c.place_of-amount.result)
pointer_of c =
    pointer_stands c.args.memory.now.memory c.args.placements.now.placed.items c.args.dest.now c.args.src.now c.args.offset c.args.size
    c.place_of.result c.place_of-amount.result c.requires.placed c.requires.lawful c.place_of.ensures c.place_of-amount.ensures

field_is : (c : goal.After-patch_add) → c.place_of.result + c.from.result ≡ c.place_of.result + c.args.offset
field_is c = ap (λ offset. c.place_of.result + offset) c.from.ensures

pub returns-clause-fits : goal.returns-clause-fits
returns-clause-fits c =
    fits_from c.patch_add.result _ _ _ c.patch_add.ensures.too_far
    (pointer_number _ _ _ _ _ _ (c.place_of.result + c.from.result) _ _ (field_is c) (pointer_of c))

pub returns-clause-far : goal.returns-clause-far
returns-clause-far c =
    far_from c.patch_add.result _ _ _ c.patch_add.ensures.too_far
    (pointer_number _ _ _ _ _ _ (c.place_of.result + c.from.result) _ _ (field_is c) (pointer_of c))

pub returns-clause-after : goal.returns-clause-after
returns-clause-after c =
    OnOk-map c.patch_add.result
    (λ with. pointer_after _ _ _ _ _ _ _ (c.place_of.result + c.from.result) _ _ (field_is c) (pointer_of c)
    (puts_number_with _ _ _ _ _ c.patch_add.ensures.lawful (pointer_ram _ _ _ _ _ _ _ _ _ (field_is c) (pointer_of c)) with))
    c.patch_add.ensures.ok

pub returns-clause-stays : goal.returns-clause-stays
returns-clause-stays c =
    OnOk-map c.patch_add.result
    (λ with. pointer_stays _ _ _ _ _ _ _ (c.place_of.result + c.from.result) _ _ (field_is c) (pointer_of c)
    (puts_number_with _ _ _ _ _ c.patch_add.ensures.lawful (pointer_ram _ _ _ _ _ _ _ _ _ (field_is c) (pointer_of c)) with))
    c.patch_add.ensures.ok

pub returns-clause-exact : goal.returns-clause-exact
returns-clause-exact c =
    OnOk-map c.patch_add.result
    (λ with. with ∙ pointed_from c.args.memory.now.memory c.args.placements.now.placed.items c.args.dest.now c.args.src.now c.args.offset c.args.size
    (c.place_of.result + c.from.result) _ _ (field_is c) (pointer_of c).dest_is (pointer_of c).src_is)
    c.patch_add.ensures.ok

pub returns-clause-touches : goal.returns-clause-touches
returns-clause-touches c =
    let within = number_within _ _ _ _ _ _ _ _ (pointer_of c) in
    touches_put (IsInOne (placed_ranges c.args.placements.now.placed.items)) c.args.memory.now.memory.top (c.place_of.result + c.from.result) c.args.size
    _ _ c.patch_add.ensures.touched
    (λ address its. in_named c.args.placements.now.placed.items c.args.dest.now _ address (pointer_of c).dest_is
    (omega (arith, its.0), omega (arith, its.1, within, c.from.ensures)))
