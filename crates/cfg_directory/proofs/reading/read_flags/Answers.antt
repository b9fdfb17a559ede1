use Rattle.std.proofs.Common.{sym, ◌∙◌}
use Rattle.cfg_directory.proofs.Parts.{flag_fails, flags_read}
use Rattle.cfg_directory.proofs.reading.read_flags.Goals as goal

pub returns-in-Some-clause-exact : goal.returns-in-Some-clause-exact
returns-in-Some-clause-exact c =
    flag_fails c.args.count c.in-Some.index c.args.bytes.now c.split_at.result.0.now c.if-bytes-count.false c.split_at.ensures.front
    (sym c.bad_flag.ensures ∙ c.in-Some.is)

pub returns-clause-exact : goal.returns-clause-exact
returns-clause-exact c =
    flags_read c.args.count c.args.bytes.now c.split_at.result.0.now c.split_at.result.1.now c.if-bytes-count.false c.split_at.ensures.front
    c.split_at.ensures.back (sym c.bad_flag.ensures ∙ c.in_default.is)
