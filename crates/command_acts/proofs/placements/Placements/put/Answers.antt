use Rattle.std.proofs.Common.{IsSome, arith, refl, sym, subst}
use Rattle.command_acts.proofs.Placings.{found_there, few_placed, are_put, placed_index}
use Rattle.command_acts.proofs.placements.Placements.put.Goals as goal

pub unwrap-index-requires : goal.unwrap-index-requires
unwrap-index-requires c =
    subst IsSome (sym (found_there c.args.self.now.infos.items c.args.file.name c.index_of.result c.requires.there c.index_of.ensures)) refl

pub push_reserved-requires : goal.push_reserved-requires
push_reserved-requires c =
    omega (arith, few_placed c.args.self.now c.args.file.name c.requires.are c.requires.there c.requires.fresh, c.requires.are.room)

pub returns-clause-are : goal.returns-clause-are
returns-clause-are c =
    are_put c.args.self.now _ c.args.file c.unwrap-index.result c.requires.are c.requires.distinct c.requires.there c.requires.fresh
    (placed_index c.args.self.now c.args.file.name c.index_of.result c.requires.are c.requires.there c.index_of.ensures c.unwrap-index.result
    c.unwrap-index.ensures).0 refl refl c.push_reserved.ensures.items c.push_reserved.ensures.capacity refl
