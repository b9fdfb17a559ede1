use Rattle.std.proofs.Common.{Option, length, ◌+◌, ◌≤◌, subst}
use Rattle.std.specs.Prelude.{IsSomeAnd}
use Rattle.cfg_directory.specs.declared.item.Item.{Item}
use Rattle.cfg_directory.proofs.OneChanged.{Finds-from, of_found, always_found}
use Rattle.cfg_directory.proofs.BytesPut.{put_there}
use Rattle.cfg_directory.proofs.items.Items.write_at.Goals as goal

pub put-requires : goal.put-requires
put-requires c =
    of_found (λ (item : Item). c.args.offset + length c.args.bytes.now ≤ length item.bytes) c.self.inside.items c.args.self.now c.args.select c.in-Some.place
    c.get_mut-item.result.now (Finds-from c.self.inside.items c.args.self.now c.as_slice.result.now c.index_of.result c.args.select c.in-Some.place
    c.get_mut-item.result.now c.self.invariant c.self.view_is c.index_of.ensures c.as_slice.ensures c.in-Some.is c.get_mut-item.ensures.item) c.requires

pub invariant_of-self : goal.invariant_of-self
invariant_of-self c =
    (put_there c.self.inside.items c.args.self.now c.args.select c.in-Some.place c.get_mut-item.result.now c.args.offset c.args.bytes.now c.put.new.self
    (Finds-from c.self.inside.items c.args.self.now c.as_slice.result.now c.index_of.result c.args.select c.in-Some.place c.get_mut-item.result.now
    c.self.invariant c.self.view_is c.index_of.ensures c.as_slice.ensures c.in-Some.is c.get_mut-item.ensures.item) c.requires c.put.ensures).lawful

pub returns-in-Some : goal.returns-in-Some
returns-in-Some c =
    (put_there c.self.inside.items c.args.self.now c.args.select c.in-Some.place c.get_mut-item.result.now c.args.offset c.args.bytes.now c.put.new.self
    (Finds-from c.self.inside.items c.args.self.now c.as_slice.result.now c.index_of.result c.args.select c.in-Some.place c.get_mut-item.result.now
    c.self.invariant c.self.view_is c.index_of.ensures c.as_slice.ensures c.in-Some.is c.get_mut-item.ensures.item) c.requires c.put.ensures).is

pub returns-in_default : goal.returns-in_default
returns-in_default c =
    let Fits : Option Item → Type 0 = λ o. IsSomeAnd o (λ (item : Item). c.args.offset + length c.args.bytes.now ≤ length item.bytes) in
    absurd (always_found c.self.inside.items c.args.self.now c.as_slice.result.now c.index_of.result c.args.select c.self.view_is c.index_of.ensures
    c.as_slice.ensures (λ none. subst Fits none c.requires) c.in_default.is)
