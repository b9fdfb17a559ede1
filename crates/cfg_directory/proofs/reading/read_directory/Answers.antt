use Rattle.std.proofs.Common.{◌≡◌, ℕ, ◌+◌, ◌-◌, ◌*◌, List, [], length, drop, ap, ap₂, sym, ◌∙◌, arith}
use Rattle.std.proofs.lemmas.List.{drop-drop, length_push}
use Rattle.std.proofs.lemmas.Result.{err_from_is_err_and}
use Rattle.vt_outside.proofs.Readings.{fault_of_whole}
use Rattle.cfg_directory.specs.declared.listed.Listed.{Listed}
use Rattle.cfg_directory.specs.Container.{entry_so, directory_so, reported}
use Rattle.cfg_directory.specs.Parts.{directory_at}
use Rattle.cfg_directory.proofs.Parts.{directory_at-short, entry_goes_on, entry_fails, entries_done}
use Rattle.cfg_directory.proofs.reading.read_directory.Goals as goal

pub returns-then-bytes-count-clause-exact : goal.returns-then-bytes-count-clause-exact
returns-then-bytes-count-clause-exact c = directory_at-short c.args.count c.args.bytes.now c.if-bytes-count.true

pub returns-in_err-entry-clause-exact : goal.returns-in_err-entry-clause-exact
returns-in_err-entry-clause-exact c =
    let p = err_from_is_err_and c.from_residual.result c.from_residual.ensures.1 in
    let shown = ap₂ (entry_so c.loop-index.index) c.as_slice.ensures c.split_at.ensures.front in
    rw (p.1, p.2) (fault_of_whole (reported c.in_err-entry.field-0.0) (entry_so c.loop-index.index c.as_slice.result.now c.split_at.result.0.now)
    (directory_at c.args.count c.args.bytes.now)
    (λ fault is. entry_fails c.args.count c.loop-index.index c.loop-index.listed c.loop-index.rest.now c.args.bytes.now c.loop-index-test.true
    c.if-bytes-count.false c.loop-index.invariant.said fault (sym shown ∙ is)) c.in_err-entry.ensures.exact)

pub loop-index-preserved : goal.loop-index-preserved
loop-index-preserved c =
    let shown = ap₂ (entry_so c.loop-index.index) c.as_slice.ensures c.split_at.ensures.front in
    let pushed = c.in_ok-push.ensures.ok in
    let place : 64 * c.loop-index.index + 64 ≡ 64 * (c.loop-index.index + 1) = omega arith in
    record {
      said = ap₂ (λ (listed : List Listed) (rest : List ℕ). directory_so (c.args.count - (c.loop-index.index + 1)) (c.loop-index.index + 1) listed rest)
          pushed c.split_at.ensures.back
          ∙ entry_goes_on c.args.count c.loop-index.index c.loop-index.listed c.loop-index.rest.now c.in_ok-entry.entry
          (directory_so c.args.count 0 [] c.args.bytes.now) c.loop-index-test.true (sym shown ∙ c.in_ok-entry.ensures.exact) c.loop-index.invariant.said;
      rest = c.split_at.ensures.back ∙ ap (drop 64) c.loop-index.invariant.rest ∙ drop-drop 64 (64 * c.loop-index.index) c.args.bytes.now
          ∙ ap (λ n. drop n c.args.bytes.now) place;
      count = omega (arith, ap length pushed, length_push c.loop-index.listed c.in_ok-entry.entry, c.loop-index.invariant.count);
    }

pub returns-clause-exact : goal.returns-clause-exact
returns-clause-exact c =
    entries_done c.args.count c.loop-index.index c.loop-index.listed c.loop-index.rest.now c.args.bytes.now (omega arith) c.if-bytes-count.false
    c.loop-index.invariant.said c.loop-index.invariant.rest
