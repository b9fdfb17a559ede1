use Rattle.std.proofs.Common.{◌+◌, ◌*◌, ◌<◌, ℕ, List, length, refl, subst, arith}
use Rattle.std.proofs.lemmas.Result.{err_from_is_err_and}
use Rattle.cfg_directory.specs.declared.held.Held.{Held}
use Rattle.cfg_directory.specs.Held.{IsRefusal}
use Rattle.cfg_directory.proofs.HeadFilled.{IsHeadFilled-from, HasListed-stays, HasListed-at, IsOpened-at, still_short, head_refused, taken_behind}
use Rattle.cfg_directory.proofs.HeadFilled.{gathers_first, none_first}
use Rattle.cfg_directory.proofs.gathering.take_flags.Goals as goal

pub returns-then-len-size : goal.returns-then-len-size
returns-then-len-size c =
    let old = c.args.held.now in
    let head = c.fill-left.new.self in
    let size = 4 + 65 * c.args.count in
    let filled = IsHeadFilled-from old.head c.args.piece.now head c.fill-left.result.now size c.fill-left.ensures.taken c.fill-left.ensures.left
    c.requires.within in
    let short : length head < size = omega (arith, c.len.ensures, c.if-len-size.true) in
    let new : Held = record { head = head; listed = old.listed; items = old.items; next = old.next } in (
      (HasListed-stays old.head filled.more head c.args.count old.listed c.requires.listed filled.new_is, short, c.requires.none),
      still_short old new c.args.piece.now head c.fill-left.result.now size c.requires.none c.requires.none refl filled short,
    )

pub opened_items-requires-clause-listed : goal.opened_items-requires-clause-listed
opened_items-requires-clause-listed c =
    let old = c.args.held.now in
    let head = c.fill-left.new.self in
    let size = 4 + 65 * c.args.count in
    let filled = IsHeadFilled-from old.head c.args.piece.now head c.fill-left.result.now size c.fill-left.ensures.taken c.fill-left.ensures.left
    c.requires.within in
    HasListed-at head c.as_slice.result.now c.args.count old.listed c.as_slice-2.result.now c.as_slice.ensures c.as_slice-2.ensures
    (HasListed-stays old.head filled.more head c.args.count old.listed c.requires.listed filled.new_is)

pub returns-in_err-held : goal.returns-in_err-held
returns-in_err-held c =
    let p = err_from_is_err_and c.from_residual.result c.from_residual.ensures.1 in
    let old = c.args.held.now in
    let head = c.fill-left.new.self in
    let size = 4 + 65 * c.args.count in
    let filled = IsHeadFilled-from old.head c.args.piece.now head c.fill-left.result.now size c.fill-left.ensures.taken c.fill-left.ensures.left
    c.requires.within in
    rw (p.1, p.2) (head_refused old c.args.piece.now head c.fill-left.result.now size c.in_err-held.field-0.0 c.requires.none filled
    (subst (λ (h : List ℕ). IsRefusal h c.in_err-held.field-0.0) c.as_slice.ensures c.in_err-held.ensures.err))

pub take_contents-requires : goal.take_contents-requires
take_contents-requires c =
    let head = c.fill-left.new.self in
    let listed = c.args.held.now.listed in
    gathers_first head listed c.in_ok-held.field-0 (IsOpened-at head c.as_slice.result.now listed c.as_slice-2.result.now c.in_ok-held.field-0
    c.as_slice.ensures c.as_slice-2.ensures c.in_ok-held.ensures.ok)

pub returns : goal.returns
returns c =
    let old = c.args.held.now in
    let head = c.fill-left.new.self in
    let size = 4 + 65 * c.args.count in
    let filled = IsHeadFilled-from old.head c.args.piece.now head c.fill-left.result.now size c.fill-left.ensures.taken c.fill-left.ensures.left
    c.requires.within in
    let mid : Held = record { head = head; listed = old.listed; items = c.in_ok-held.field-0; next = 0 } in
    let empty = none_first head old.listed c.in_ok-held.field-0 (IsOpened-at head c.as_slice.result.now old.listed c.as_slice-2.result.now c.in_ok-held.field-0
    c.as_slice.ensures c.as_slice-2.ensures c.in_ok-held.ensures.ok) in
    taken_behind old mid c.take_contents.new.held c.args.piece.now c.fill-left.result.now size c.take_contents.result c.requires.none empty filled
    c.take_contents.ensures
