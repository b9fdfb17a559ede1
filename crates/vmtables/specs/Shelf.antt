-- A shelf as the allocator of a call.
use Rattle.zone_alloc.specs.Allocators.{AllocState, shelf_gives}
use Rattle.command_acts.specs.Allocators.{MayAnswer}
use Rattle.vmtables.specs.Calls.{Answering}

-- how a shelf may answer
abbrev pub shelf_answers : Answering
shelf_answers = MayAnswer (λ (s : AllocState). s) shelf_gives
