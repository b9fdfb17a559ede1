use Rattle.zone_alloc.specs.Ranges.{range_of}
use Rattle.zone_alloc.proofs.Chosen.{first_in_zone}
use Rattle.zone_alloc.proofs.chooser.first_from.Goals as goal

pub returns-in-None-clause-first : goal.returns-in-None-clause-first
returns-in-None-clause-first c =
    first_in_zone c.args.goal (range_of c.args.zone) c.args.handed.now c.args.size c.args.align c.least_from-in-None.result c.in-None.ensures.least
    c.least_from-in-None.ensures.least
