use Rattle.vmtables.proofs.top_call.top.Goals as goal

pub returns-clause-too_long : goal.returns-clause-too_long
returns-clause-too_long g c = rw c.tell.ensures.status c.carry_out-ended.ensures.streams.too_long
