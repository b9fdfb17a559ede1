use Rattle.cfg_directory.proofs.OneChanged.{Finds-from, always_found}
use Rattle.cfg_directory.proofs.BytesPut.{IsExtended-from}
use Rattle.cfg_directory.proofs.items.Items.extend.Goals as goal

pub invariant_of-self : goal.invariant_of-self
invariant_of-self c =
    (IsExtended-from c.extend.result c.self.inside.items c.args.self.now c.args.select c.in-Some.place c.get_mut.result.now c.args.bytes.now c.extend.new.self
    (Finds-from c.self.inside.items c.args.self.now c.as_slice.result.now c.index_of.result c.args.select c.in-Some.place c.get_mut.result.now
    c.self.invariant c.self.view_is c.index_of.ensures c.as_slice.ensures c.in-Some.is c.get_mut.ensures.item) c.requires.small c.extend.ensures.ok
    c.extend.ensures.err).lawful

pub returns-in-Some-clause-ok : goal.returns-in-Some-clause-ok
returns-in-Some-clause-ok c =
    (IsExtended-from c.extend.result c.self.inside.items c.args.self.now c.args.select c.in-Some.place c.get_mut.result.now c.args.bytes.now c.extend.new.self
    (Finds-from c.self.inside.items c.args.self.now c.as_slice.result.now c.index_of.result c.args.select c.in-Some.place c.get_mut.result.now
    c.self.invariant c.self.view_is c.index_of.ensures c.as_slice.ensures c.in-Some.is c.get_mut.ensures.item) c.requires.small c.extend.ensures.ok
    c.extend.ensures.err).ok

pub returns-in-Some-clause-err : goal.returns-in-Some-clause-err
returns-in-Some-clause-err c =
    (IsExtended-from c.extend.result c.self.inside.items c.args.self.now c.args.select c.in-Some.place c.get_mut.result.now c.args.bytes.now c.extend.new.self
    (Finds-from c.self.inside.items c.args.self.now c.as_slice.result.now c.index_of.result c.args.select c.in-Some.place c.get_mut.result.now
    c.self.invariant c.self.view_is c.index_of.ensures c.as_slice.ensures c.in-Some.is c.get_mut.ensures.item) c.requires.small c.extend.ensures.ok
    c.extend.ensures.err).err

pub returns-in-None-clause-ok : goal.returns-in-None-clause-ok
returns-in-None-clause-ok c =
    absurd (always_found c.self.inside.items c.args.self.now c.as_slice.result.now c.index_of.result c.args.select c.self.view_is c.index_of.ensures
    c.as_slice.ensures c.requires.there c.in-None.is)
