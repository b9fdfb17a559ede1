use Rattle.std.proofs.Common.{◌≡◌, ◌≤◌, ℕ, ◌+◌, ◌-◌, ◌++◌, true, List, length, take, drop, Some, refl, arith, ap, subst, sym, ◌∙◌}
use Rattle.std.proofs.lemmas.List.{length-append, length-drop, length-take-le, take_at}
use Rattle.vt_bytes.specs.View.{View, bytes_in}
use Rattle.vt_bytes.proofs.Views.{length-bytes_in}
use Rattle.acpi_decode.specs.Seen.{is_ram, bytes_from}
use Rattle.acpi_decode.proofs.InRam.{ram_bytes, part_ram, address_fits}
use Rattle.acpi_decode.proofs.ReadBytes.{bytes_read, no_bytes, bytes_both}
use Rattle.acpi_decode.proofs.block.read_block.Goals as goal

-- the bytes that a part behind those before it makes longer
part_behind : (view : View) (table from place end size : ℕ) (bytes piece rest : List ℕ) → is_ram view table end ≡ true → from ≤ place
    → place + size ≤ end → bytes ≡ bytes_from view (table + from) (place - from) → bytes_in view (table + place) size ≡ Some piece
    → bytes ++ take size (piece ++ rest) ≡ bytes_from view (table + from) (place + size - from)
part_behind view table from place end size bytes piece rest ram before within so_far there =
    let behind = part_ram view table end from (end - from) ram (omega (arith, before, within)) in
    let at : table + from + (place - from) ≡ table + place = omega (arith, before) in
    let more : place - from + size ≡ place + size - from = omega (arith, before) in
    ap (λ last. bytes ++ last) (take_at piece rest size (length-bytes_in view (table + place) size piece there)
    ∙ bytes_read view (table + place) size piece there ∙ ap (λ a. bytes_from view a size) (sym at))
    ∙ ap (λ first. first ++ bytes_from view (table + from + (place - from)) size) so_far
    ∙ sym (bytes_both view (table + from) (end - from) (place - from) size behind (omega (arith, before, within)))
    ∙ ap (bytes_from view (table + from)) more

-- all of them, once the last part is behind
all_read : (view : View) (table from place end : ℕ) (bytes : List ℕ) → is_ram view table end ≡ true → from ≤ end → place ≡ end
    → bytes ≡ bytes_from view (table + from) (place - from) → bytes_in view (table + from) (end - from) ≡ Some bytes
all_read view table from place end bytes ram within ends so_far =
    ram_bytes view (table + from) (end - from) (part_ram view table end from (end - from) ram (omega (arith, within)))
    ∙ ap (λ last. Some (bytes_from view (table + from) (last - from))) (sym ends) ∙ ap Some (sym so_far)

pub loop-place-init : goal.loop-place-init
loop-place-init g c = record {
  from = omega arith;
  within = c.requires.within;
  part = refl;
  read = c.in_ok-bytes.ensures ∙ sym (no_bytes (g.V.MemView.seen c.args.view.now) (c.args.table + c.args.from) (c.args.from - c.args.from) (omega arith));
}

pub overflow_add-table : goal.overflow_add-table
overflow_add-table g c =
    let seen = g.V.MemView.seen c.args.view.now in
    omega (
      arith,
      address_fits seen c.args.table c.args.end c.loop-place.place (g.met.V.MemView.bounded c.args.view.now) c.requires.ram
          c.loop-place-test.true,
    )

pub copy_out-requires : goal.copy_out-requires
copy_out-requires g c =
    let seen = g.V.MemView.seen c.args.view.now in
    let size = length (take c.min-size.result c.loop-place.part) in
    let fits = length-take-le c.min-size.result c.loop-place.part (omega arith) in
    subst (λ place. is_ram seen (c.args.table + place) size ≡ true) (sym c.from.ensures)
    (part_ram seen c.args.table c.args.end c.loop-place.place size c.requires.ram (omega (arith, fits)))

pub loop-place-preserved : goal.loop-place-preserved
loop-place-preserved g c =
    let seen = g.V.MemView.seen c.args.view.now in
    let size = c.min-size.result in
    let piece = c.copy_out.new.bytes in
    let rest = drop size c.loop-place.part in
    let fits : length (take size c.loop-place.part) ≡ size = length-take-le size c.loop-place.part (omega arith) in
    let there : bytes_in seen (c.args.table + c.loop-place.place) size ≡ Some piece =
    ap (bytes_in seen (c.args.table + c.loop-place.place)) (sym fits)
    ∙ ap (λ place. bytes_in seen (c.args.table + place) (length (take size c.loop-place.part))) (sym c.from.ensures) ∙ c.copy_out.ensures in
    let long : length piece ≡ size = length-bytes_in seen (c.args.table + c.loop-place.place) size piece there in
    record {
      from = omega arith;
      within = omega arith;
      part = omega (arith, length-append piece rest, length-drop size c.loop-place.part, long);
      read = c.in_ok-extend.ensures.ok
          ∙ part_behind seen c.args.table c.args.from c.loop-place.place c.args.end size c.loop-place.bytes piece rest c.requires.ram
          c.loop-place.invariant.from (omega arith) c.loop-place.invariant.read there;
    }

pub returns : goal.returns
returns g c =
    all_read (g.V.MemView.seen c.args.view.now) c.args.table c.args.from c.loop-place.place c.args.end c.loop-place.bytes c.requires.ram
    c.requires.within (omega (arith, c.loop-place-test.false, c.loop-place.invariant.within)) c.loop-place.invariant.read
