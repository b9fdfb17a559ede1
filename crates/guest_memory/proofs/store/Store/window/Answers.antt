use Rattle.std.proofs.Common.{◌≡◌, ◌+◌, ◌-◌, get_or, take, drop, None, sym, ap, ◌∙◌, arith}
use Rattle.guest_memory.specs.Store.{Stored, or_blank, in_frame}
use Rattle.vt_bytes.specs.Parts.{part}
use Rattle.guest_memory.proofs.StoreFlags.{told, empty_at, filled_at}
use Rattle.guest_memory.proofs.store.Store.window.Goals as goal

pub window-requires-clause-filled : goal.window-requires-clause-filled
window-requires-clause-filled c =
    let s = c.self.inside in let i = c.args.frame in
    filled_at s.frames i (told s.frames s.flags.items i c.index.result.now c.self.invariant.tells
    (omega (arith, c.self.invariant.all.count, c.requires.some)) c.index.ensures ∙ c.if-index.true)

pub returns-else-index-clause-value : goal.returns-else-index-clause-value
returns-else-index-clause-value c =
    let s = c.self.inside in let i = c.args.frame in let p = c.args.place in
    let empty : get_or s.frames i None ≡ None = empty_at s.frames i (told s.frames s.flags.items i c.index.result.now c.self.invariant.tells
    (omega (arith, c.self.invariant.all.count, c.requires.some)) c.index.ensures ∙ c.if-index.false) in
    let count : p + c.args.len - p ≡ c.args.len = omega arith in
    ap (λ n. take n (drop p c.deref.result.now)) count
    ∙ ap (λ l. part l p c.args.len) (c.deref.ensures.value ∙ c.self.invariant.fills ∙ ap (or_blank s.fill) (sym empty)
    ∙ ap (λ (h : Stored). in_frame h i) c.self.view_is)
