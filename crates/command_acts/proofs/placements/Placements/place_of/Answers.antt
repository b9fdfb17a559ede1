use Rattle.std.proofs.Common.{IsSome, arith, refl, sym, subst}
use Rattle.command_acts.proofs.Placings.{found_there, placed_there, placed_index, place_at_found, place_is_there, place_is}
use Rattle.command_acts.proofs.placements.Placements.place_of.Goals as goal

pub unwrap-index-requires : goal.unwrap-index-requires
unwrap-index-requires c =
    let p = c.args.self.now in
    let name = c.args.name.now in
    let there = placed_there p name c.requires.are c.requires.placed in
    subst IsSome (sym (found_there p.infos.items name c.index_of.result there c.index_of.ensures)) refl

pub index-requires : goal.index-requires
index-requires c =
    let p = c.args.self.now in
    let name = c.args.name.now in
    let there = placed_there p name c.requires.are c.requires.placed in
    let within = (placed_index p name c.index_of.result c.requires.are there c.index_of.ensures c.unwrap-index.result c.unwrap-index.ensures).1 in
    omega (arith, within, p.places.ok.0)

pub unwrap-requires : goal.unwrap-requires
unwrap-requires c =
    place_is_there c.args.self.now c.args.name.now _ c.requires.placed
    (place_at_found c.args.self.now c.args.name.now _ c.requires.are c.requires.placed c.index_of.ensures _ c.unwrap-index.ensures _ c.index.ensures)

pub returns : goal.returns
returns c =
    place_is c.args.self.now.placed.items c.args.name.now _ _
    (place_at_found c.args.self.now c.args.name.now _ c.requires.are c.requires.placed c.index_of.ensures _ c.unwrap-index.ensures _ c.index.ensures)
    c.unwrap.ensures
