use Rattle.cfg_dma.proofs.Kept.{event_keeps}
use Rattle.cfg_dma.proofs.laws.events_keep_the_room.Goals as goal

pub returns : goal.returns
returns c = λ e a device can_move may. let kept = event_keeps e a device can_move may in (kept.can_move, kept.room, kept.opening, kept.top, kept.fill)
