use Rattle.std.proofs.Common.{◌≡◌, ◌+◌, ◌-◌, ◌%◌, IsSome, arith, ap, ap₂, refl, subst, sym, ◌∙◌}
use Rattle.vt_bytes.specs.Numbers.{byte_sum}
use Rattle.vt_bytes.specs.Memory.{at, bytes_at}
use Rattle.vt_bytes.proofs.Memories.{puts_byte_with}
use Rattle.command_acts.specs.FilesInMemory.{placed_ranges}
use Rattle.command_acts.proofs.NamedInMemory.{some_named}
use Rattle.command_acts.proofs.Placings.{standing, there_standing, place_low}
use Rattle.command_acts.proofs.Checksums.{IsSum, byte_within, sum_ram, byte_ram, sum_after, sum_stands, sum_stays, summed_from}
use Rattle.guest_memory.proofs.Touching.{touches_put}
use Rattle.command_acts.specs.Touching.{IsInOne}
use Rattle.command_acts.proofs.Touching.{in_named}
use Rattle.command_acts.proofs.commands.add_checksum.Goals as goal

pub place_of-place-requires-clause-placed : goal.place_of-place-requires-clause-placed
place_of-place-requires-clause-placed c =
    some_named c.args.memory.now.memory c.args.placements.now.placed.items c.args.name.now (subst IsSome (sym c.requires.lawful.found) refl)

pub overflow_add-field : goal.overflow_add-field
overflow_add-field c =
    let m = c.args.memory.now.memory in
    let placed = c.args.placements.now.placed.items in
    let name = c.args.name.now in
    let named = there_standing m placed name c.place_of-place.result c.requires.lawful.d c.requires.lawful.found c.place_of-place.ensures in
    omega (arith, place_low m placed name c.place_of-place.result c.requires.placed named)

pub overflow_add-range : goal.overflow_add-range
overflow_add-range c =
    let m = c.args.memory.now.memory in
    let placed = c.args.placements.now.placed.items in
    let name = c.args.name.now in
    let named = there_standing m placed name c.place_of-place.result c.requires.lawful.d c.requires.lawful.found c.place_of-place.ensures in
    omega (arith, place_low m placed name c.place_of-place.result c.requires.placed named)

pub read-byte-requires : goal.read-byte-requires
read-byte-requires c =
    let sum = sum_stands c.args.memory.now.memory c.args.placements.now.placed.items c.args.name.now c.args.offset c.args.start c.args.length
    c.place_of-place.result c.requires.placed c.requires.lawful c.place_of-place.ensures in
    byte_ram _ _ _ _ _ _ _ _ (ap (λ offset. c.place_of-place.result + offset) c.from.ensures) sum

pub sum_range-sum-requires : goal.sum_range-sum-requires
sum_range-sum-requires c =
    let sum = sum_stands c.args.memory.now.memory c.args.placements.now.placed.items c.args.name.now c.args.offset c.args.start c.args.length
    c.place_of-place.result c.requires.placed c.requires.lawful c.place_of-place.ensures in
    sum_ram _ _ _ _ _ _ _ _ (ap (λ start. c.place_of-place.result + start) c.from-2.ensures) sum

pub write-requires : goal.write-requires
write-requires c =
    let sum = sum_stands c.args.memory.now.memory c.args.placements.now.placed.items c.args.name.now c.args.offset c.args.start c.args.length
    c.place_of-place.result c.requires.placed c.requires.lawful c.place_of-place.ensures in
    byte_ram _ _ _ _ _ _ _ _ (ap (λ offset. c.place_of-place.result + offset) c.from.ensures) sum

sum_of : (c : goal.After-write)
    → IsSum c.args.memory.now.memory c.args.placements.now.placed.items c.args.name.now c.args.offset c.args.start c.args.length
    (standing c.args.placements.now.placed.items c.args.name.now c.place_of-place.result)
sum_of c =
    sum_stands c.args.memory.now.memory c.args.placements.now.placed.items c.args.name.now c.args.offset c.args.start c.args.length
    c.place_of-place.result c.requires.placed c.requires.lawful c.place_of-place.ensures

field_is : (c : goal.After-write) → c.place_of-place.result + c.from.result ≡ c.place_of-place.result + c.args.offset
field_is c = ap (λ offset. c.place_of-place.result + offset) c.from.ensures

range_is : (c : goal.After-write) → c.place_of-place.result + c.from-2.result ≡ c.place_of-place.result + c.args.start
range_is c = ap (λ start. c.place_of-place.result + start) c.from-2.ensures

-- the byte that is written
byte_is : (c : goal.After-write)
    → (c.read-byte.result + (256 - c.sum_range-sum.result)) % 256
    ≡ (at c.args.memory.now.memory (c.place_of-place.result + c.from.result) + (256 - byte_sum
    (bytes_at c.args.memory.now.memory (c.place_of-place.result + c.from-2.result) c.args.length))) % 256
byte_is c = ap₂ (λ byte range. (byte + (256 - range)) % 256) c.read-byte.ensures c.sum_range-sum.ensures

pub returns-clause-after : goal.returns-clause-after
returns-clause-after c =
    sum_after _ _ _ _ _ _ _ _ _ _ _ (field_is c) (range_is c) (sum_of c) (byte_is c)
    (puts_byte_with _ _ _ _ c.write.ensures.lawful (byte_ram _ _ _ _ _ _ _ _ (field_is c) (sum_of c)) c.write.ensures.after)

pub returns-clause-stays : goal.returns-clause-stays
returns-clause-stays c =
    sum_stays _ _ _ _ _ _ _ _ _ _ (field_is c) (sum_of c)
    (puts_byte_with _ _ _ _ c.write.ensures.lawful (byte_ram _ _ _ _ _ _ _ _ (field_is c) (sum_of c)) c.write.ensures.after)

pub returns-clause-exact : goal.returns-clause-exact
returns-clause-exact c =
    c.write.ensures.after
    ∙ summed_from c.args.memory.now.memory c.args.placements.now.placed.items c.args.name.now c.args.offset c.args.start c.args.length
    (c.place_of-place.result + c.from.result) (c.place_of-place.result + c.from-2.result) _ _ (field_is c) (range_is c) (sum_of c).found (byte_is c)

pub returns-clause-touches : goal.returns-clause-touches
returns-clause-touches c =
    let within = byte_within _ _ _ _ _ _ _ (sum_of c) in
    touches_put (IsInOne (placed_ranges c.args.placements.now.placed.items)) c.args.memory.now.memory.top (c.place_of-place.result + c.from.result) 1 _ _
    c.write.ensures.touched
    (λ address its. in_named c.args.placements.now.placed.items c.args.name.now _ address (sum_of c).found
    (omega (arith, its.0), omega (arith, its.1, within, c.from.ensures)))
