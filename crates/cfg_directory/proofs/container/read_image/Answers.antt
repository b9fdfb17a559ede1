use Rattle.std.proofs.lemmas.Result.{err_from_is_err_and}
use Rattle.cfg_directory.proofs.Told.{read_whole, read_refused}
use Rattle.cfg_directory.proofs.container.read_image.Goals as goal

pub returns-in_err-feed-clause-only : goal.returns-in_err-feed-clause-only
returns-in_err-feed-clause-only c =
    let p = err_from_is_err_and c.from_residual.result c.from_residual.ensures.1 in
    rw (p.1, p.2) ((read_refused c.new-reader.result c.args.bytes.now c.feed.new.self c.in_err-feed.field-0.0 c.new-reader.ensures c.in_err-feed.ensures.fed
    c.in_err-feed.ensures.answer).only)

pub returns-in_err-feed-clause-no_memory : goal.returns-in_err-feed-clause-no_memory
returns-in_err-feed-clause-no_memory c =
    let p = err_from_is_err_and c.from_residual.result c.from_residual.ensures.1 in
    rw (p.1, p.2) ((read_refused c.new-reader.result c.args.bytes.now c.feed.new.self c.in_err-feed.field-0.0 c.new-reader.ensures c.in_err-feed.ensures.fed
    c.in_err-feed.ensures.answer).no_memory)

pub returns-clause-found : goal.returns-clause-found
returns-clause-found c =
    (read_whole c.new-reader.result c.args.bytes.now c.feed.new.self c.finish.result c.new-reader.ensures c.in_ok-feed.ensures.fed
    c.in_ok-feed.ensures.answer c.finish.ensures).found

pub returns-clause-only : goal.returns-clause-only
returns-clause-only c =
    (read_whole c.new-reader.result c.args.bytes.now c.feed.new.self c.finish.result c.new-reader.ensures c.in_ok-feed.ensures.fed
    c.in_ok-feed.ensures.answer c.finish.ensures).only
