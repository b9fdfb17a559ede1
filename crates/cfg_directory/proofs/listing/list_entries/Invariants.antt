use Rattle.std.proofs.Common.{◌≡◌, ◌+◌, ◌-◌, ◌*◌, ◌≤◌, ◌++◌, length, vec_len, vec_capacity}
use Rattle.cfg_directory.specs.Listing.{listed_in}
use Rattle.cfg_directory.proofs.listing.list_entries.Given as goal

abbrev pub invariant-loop-index : goal.invariant-loop-index
invariant-loop-index l = record {
  listed : l.listed.items ++ listed_in (l.count - l._index) l.rest ≡ l.fn.listed.items ++ listed_in l.count l.entries;
  there : 64 * (l.count - l._index) ≤ length l.rest;
  room : vec_len l.listed + (l.count - l._index) ≤ vec_capacity l.listed;
  capacity : vec_capacity l.listed ≡ vec_capacity l.fn.listed;
}
