use Rattle.std.proofs.Common.{◌≡◌, None}
use Rattle.loader_script.specs.Refusal.{info_of}
use Rattle.loader_script.proofs.Found.{none-from_position, found-from_position, position_within}
use Rattle.loader_script.proofs.refusing.file_of.Goals as goal

pub returns-in_err-index : goal.returns-in_err-index
returns-in_err-index c =
    let found = c.index_of.ensures c.args.files.now c.requires.order c.requires.distinct in
    let none : info_of c.args.files.now c.args.name.now ≡ None =
    none-from_position c.args.files.now c.args.name.now c.index_of.result found c.in_err-index.was in
    rw c.from_residual.ensures none

pub bounds-files-index : goal.bounds-files-index
bounds-files-index c =
    position_within c.args.files.now c.args.name.now c.index_of.result (c.index_of.ensures c.args.files.now c.requires.order c.requires.distinct)
    c.in_ok-index.index c.in_ok-index.was

pub returns : goal.returns
returns c =
    let found = c.index_of.ensures c.args.files.now c.requires.order c.requires.distinct in
    found-from_position c.args.files.now c.args.placed.now c.args.name.now c.index_of.result c.in_ok-index.index _ c.requires.places found c.in_ok-index.was
    c.index-files-index.is
