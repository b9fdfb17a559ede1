use Rattle.std.proofs.Common.{◌++◌, arith, ◌∙◌}
use Rattle.cfg_directory.specs.Listing.{listed_in}
use Rattle.cfg_directory.proofs.Listings.{one_more_read, all_read}
use Rattle.cfg_directory.proofs.listing.list_entries.Goals as goal

pub loop-index-preserved : goal.loop-index-preserved
loop-index-preserved c = record {
  listed = one_more_read c.args.count c.loop-index._index c.loop-index.listed.items c.list_entry.new.listed.items
      (c.args.listed.now.items ++ listed_in c.args.count c.args.entries.now) c.loop-index.rest.now c.split_at.result.0.now c.split_at.result.1.now
      c.loop-index-test.true c.split_at.ensures.front c.split_at.ensures.back c.list_entry.ensures.after c.loop-index.invariant.listed;
  there = omega arith;
  room = omega arith;
  capacity = c.list_entry.ensures.capacity ∙ c.loop-index.invariant.capacity;
}

pub returns-clause-after : goal.returns-clause-after
returns-clause-after c =
    all_read c.args.count c.loop-index._index c.loop-index.listed.items (c.args.listed.now.items ++ listed_in c.args.count c.args.entries.now)
    c.loop-index.rest.now (omega arith) c.loop-index.invariant.listed
