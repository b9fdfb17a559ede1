use Rattle.std.proofs.Common.{◌≡◌, true, arith, sym, ◌∙◌, eq-eqb}
use Rattle.vt_bytes.specs.Memory.{IsRamRange}
use Rattle.guest_memory.proofs.RamRuns.{in_a_range, ram_from, ram_range_is, ram_range_none}
use Rattle.guest_memory.proofs.memory.GuestMemory.is_ram_range.Goals as goal

pub returns-then-len-eq0-clause-value : goal.returns-then-len-eq0-clause-value
returns-then-len-eq0-clause-value c =
    eq-eqb c.args.len 0 c.if-len-eq0.true ∙ sym (ram_range_none c.args.self.now.memory.top c.args.address c.args.len c.if-len-eq0.true)

pub returns-else-len-eq0 : goal.returns-else-len-eq0
returns-else-len-eq0 c =
    let from = λ (is : c.lie_in_a_range.result ≡ true). ram_from c.args.self.now.memory.top c.args.address c.args.len (c.lie_in_a_range.ensures.range.0 is) in
    let to = λ (ram : IsRamRange c.args.self.now.memory.top c.args.address c.args.len).
    c.lie_in_a_range.ensures.range.1
    (in_a_range c.args.self.now.memory.top c.args.address c.args.len c.lie_in_a_range.ensures.lawful.top (omega (arith, c.if-len-eq0.false)) ram) in
    record {
      value = ram_range_is c.args.self.now.memory.top c.args.address c.args.len c.lie_in_a_range.result from to;
      ram = (from, to);
    }
