use Rattle.std.proofs.Common.{rules, tests}
use Rattle.std.proofs.lemmas.Iterator.{IsFirst-from_position}
use Rattle.smbios_decode.proofs.Pairs.{windows_yield, IsEnd, IsNoEnd, IsFirstPair, first_end, no_end}
use Rattle.smbios_decode.proofs.strings.end_of_strings.Goals as goal

first_pair : (c : goal.After-position) → IsFirstPair c.args.bytes.now c.position.result
first_pair c =
    IsFirst-from_position _ _ _ IsEnd IsNoEnd c.position.ensures.ran (windows_yield c.args.bytes.now c.windows.ensures.rest c.windows.ensures.size)
    (λ x q k. search (rules, tests)) (λ x q k. search (rules, tests))

pub returns-clause-some : goal.returns-clause-some
returns-clause-some c = first_end c.args.bytes.now c.position.result (first_pair c)

pub returns-clause-none : goal.returns-clause-none
returns-clause-none c = no_end c.args.bytes.now c.position.result (first_pair c)
