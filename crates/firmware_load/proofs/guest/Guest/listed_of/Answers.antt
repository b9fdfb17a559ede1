use Rattle.std.proofs.Common.{IsSome, refl, sym, subst}
use Rattle.firmware_load.proofs.Listings.{listed_found, listed_within, listed_at}
use Rattle.firmware_load.proofs.Allocating.{distinct_placements}
use Rattle.firmware_load.proofs.guest.Guest.listed_of.Goals as goal

pub index_of-requires-clause-distinct : goal.index_of-requires-clause-distinct
index_of-requires-clause-distinct c =
    distinct_placements c.args.self.now.placements c.args.self.now.device.items c.requires.ready.items c.requires.ready.infos

pub unwrap-index-requires : goal.unwrap-index-requires
unwrap-index-requires c =
    subst IsSome
    (sym (listed_found c.args.self.now c.args.listed.now c.args.name.now c.index_of.result c.requires.ready c.requires.there c.index_of.ensures)) refl

pub bounds-listed-index : goal.bounds-listed-index
bounds-listed-index c =
    listed_within c.args.listed.now c.args.name.now c.index_of.result c.unwrap-index.result c.requires.there
    (listed_found c.args.self.now c.args.listed.now c.args.name.now c.index_of.result c.requires.ready c.requires.there c.index_of.ensures)
    c.unwrap-index.ensures

pub returns : goal.returns
returns c =
    listed_at c.args.listed.now c.args.name.now c.index_of.result c.unwrap-index.result _ c.requires.there
    (listed_found c.args.self.now c.args.listed.now c.args.name.now c.index_of.result c.requires.ready c.requires.there c.index_of.ensures)
    c.unwrap-index.ensures c.index-listed-index.is
