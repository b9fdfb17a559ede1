use Rattle.std.proofs.Common.{◌≡◌, ℕ, ap, subst, ◌∙◌}
use Rattle.guest_memory.specs.Touched.{TouchesOnly}
use Rattle.cfg_dma.specs.Transfers.{attached, start}
use Rattle.cfg_dma.specs.Events.{with_low}
use Rattle.cfg_dma.specs.Touching.{IsInDescriptor}
use Rattle.cfg_dma.proofs.Kept.{start_keeps, kept_so}
use Rattle.cfg_dma.proofs.device.Device.write_address_low.Goals as goal

pub returns : goal.returns
returns c =
    let before = attached c.args.self.now c.args.memory.now.memory in
    let after : attached c.start.new.self c.start.new.memory.memory ≡ start (with_low c.args.self.now.address c.args.word) before =
    c.start.ensures.after ∙ ap (λ address. start address before) c.with_low-address.ensures in
    let kept = kept_so before (attached c.start.new.self c.start.new.memory.memory) (start (with_low c.args.self.now.address c.args.word) before) after
    (start_keeps (with_low c.args.self.now.address c.args.word) before (record { room = c.requires.room; idle = c.requires.idle })) in
    record {
      after = after;
      can_move = kept.can_move;
      room = kept.room;
      top = kept.top;
      fill = kept.fill;
      touches = subst (λ (address : ℕ). TouchesOnly (IsInDescriptor address) c.args.memory.now.memory.top c.args.memory.now.touched c.start.new.memory.touched)
          c.with_low-address.ensures c.start.ensures.touches;
    }
