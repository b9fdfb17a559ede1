use Rattle.std.proofs.Common.{◌∙◌}
use Rattle.memory_dump.proofs.Spelled.{header_of-only}
use Rattle.memory_dump.proofs.Said.{header_fits}
use Rattle.memory_dump.proofs.ReadAgain.{read_only}
use Rattle.memory_dump.proofs.Given.{begun, handed, no_text, not_want, read_so_only}
use Rattle.memory_dump.proofs.reading.read_dump.Goals as goal

pub returns-in_err-header-clause-only : goal.returns-in_err-header-clause-only
returns-in_err-header-clause-only c = λ m lawful holds is. no_text _ _ _ m lawful holds is c.in_err-header.ensures.err

pub returns-in_err-header-clause-no_memory : goal.returns-in_err-header-clause-no_memory
returns-in_err-header-clause-no_memory c =
    λ want. absurd (not_want _ _ _ c.from_residual.ensures.1 c.in_err-header.ensures.err want)

pub begin-requires : goal.begin-requires
begin-requires c = (header_of-only _ _ c.in_ok-header.ensures.header).top

pub split_at-requires : goal.split_at-requires
split_at-requires c = header_fits _ _ c.in_ok-header.ensures.header

pub returns-in_err-read_rows-clause-only : goal.returns-in_err-read_rows-clause-only
returns-in_err-read_rows-clause-only c = λ m lawful holds is.
    let said = begun c.args.bytes.now _ _ _ c.in_ok-header.ensures.header c.split_at.ensures.back c.in_ok-memory.ensures.lawful
    c.in_ok-memory.ensures.top c.in_ok-memory.ensures.fill c.in_ok-memory.ensures.filled in
    no_text _ _ _ m lawful holds is (said ∙ c.in_err-read_rows.ensures.err)

pub returns-in_err-read_rows-clause-exact : goal.returns-in_err-read_rows-clause-exact
returns-in_err-read_rows-clause-exact c =
    let said = begun c.args.bytes.now _ _ _ c.in_ok-header.ensures.header c.split_at.ensures.back c.in_ok-memory.ensures.lawful
    c.in_ok-memory.ensures.top c.in_ok-memory.ensures.fill c.in_ok-memory.ensures.filled in
    handed _ _ _ c.from_residual-in_err-read_rows.ensures.1 (said ∙ c.in_err-read_rows.ensures.err)

pub returns-clause-found : goal.returns-clause-found
returns-clause-found c =
    let said = begun c.args.bytes.now _ _ _ c.in_ok-header.ensures.header c.split_at.ensures.back c.in_ok-memory.ensures.lawful
    c.in_ok-memory.ensures.top c.in_ok-memory.ensures.fill c.in_ok-memory.ensures.filled in
    (read_only _ _ (said ∙ c.in_ok-read_rows.ensures.ok)).text

pub returns-clause-lawful : goal.returns-clause-lawful
returns-clause-lawful c =
    let said = begun c.args.bytes.now _ _ _ c.in_ok-header.ensures.header c.split_at.ensures.back c.in_ok-memory.ensures.lawful
    c.in_ok-memory.ensures.top c.in_ok-memory.ensures.fill c.in_ok-memory.ensures.filled in
    (read_only _ _ (said ∙ c.in_ok-read_rows.ensures.ok)).lawful

pub returns-clause-holds : goal.returns-clause-holds
returns-clause-holds c =
    let said = begun c.args.bytes.now _ _ _ c.in_ok-header.ensures.header c.split_at.ensures.back c.in_ok-memory.ensures.lawful
    c.in_ok-memory.ensures.top c.in_ok-memory.ensures.fill c.in_ok-memory.ensures.filled in
    (read_only _ _ (said ∙ c.in_ok-read_rows.ensures.ok)).holds

pub returns-clause-only : goal.returns-clause-only
returns-clause-only c = λ m lawful holds is.
    let said = begun c.args.bytes.now _ _ _ c.in_ok-header.ensures.header c.split_at.ensures.back c.in_ok-memory.ensures.lawful
    c.in_ok-memory.ensures.top c.in_ok-memory.ensures.fill c.in_ok-memory.ensures.filled in
    read_so_only _ _ m (said ∙ c.in_ok-read_rows.ensures.ok) lawful holds is

pub returns-clause-exact : goal.returns-clause-exact
returns-clause-exact c =
    let said = begun c.args.bytes.now _ _ _ c.in_ok-header.ensures.header c.split_at.ensures.back c.in_ok-memory.ensures.lawful
    c.in_ok-memory.ensures.top c.in_ok-memory.ensures.fill c.in_ok-memory.ensures.filled in
    said ∙ c.in_ok-read_rows.ensures.ok
