use Rattle.std.proofs.Common.{subst}
use Rattle.std.proofs.lemmas.Result.{on_ok_weaker, on_err_weaker}
use Rattle.vt_outside.specs.Stream.{Took}
use Rattle.vt_outside.proofs.Taken.{took_then, front_then}
use Rattle.vt_outside.proofs.Results.{on_err}
use Rattle.memory_dump.proofs.Parts.{header_is, header_failed, lines_failed, last_failed, all_taken}
use Rattle.memory_dump.proofs.FewLines.{few_lines}
use Rattle.memory_dump.proofs.writing.dump_to.Goals as goal

pub returns-in_err-write_all-clause-front : goal.returns-in_err-write_all-clause-front
returns-in_err-write_all-clause-front g c =
    let header = header_is c.args.memory.now.memory _ _ _ c.header_text.ensures c.top.ensures.value c.fill.ensures in
    on_err c.from_residual.result _ (header_failed _ _ c.args.memory.now.memory _ header c.in_err-write_all.ensures.front)

pub returns-in_err-dump_ranges-clause-front : goal.returns-in_err-dump_ranges-clause-front
returns-in_err-dump_ranges-clause-front g c =
    let header = header_is c.args.memory.now.memory _ _ _ c.header_text.ensures c.top.ensures.value c.fill.ensures in
    let first = subst (λ text. Took text (g.K.Sink.seen c.args.out.now) (g.K.Sink.seen c.write_all.new.out)) header c.in_ok-write_all.ensures.ok in
    on_err c.from_residual-in_err-dump_ranges.result _
    (lines_failed _ _ c.args.memory.now.memory (front_then _ _ _ _ _ first c.in_err-dump_ranges.ensures.front))

pub returns-clause-ok : goal.returns-clause-ok
returns-clause-ok g c =
    let header = header_is c.args.memory.now.memory _ _ _ c.header_text.ensures c.top.ensures.value c.fill.ensures in
    let first = subst (λ text. Took text (g.K.Sink.seen c.args.out.now) (g.K.Sink.seen c.write_all.new.out)) header c.in_ok-write_all.ensures.ok in
    let lines = took_then _ _ _ _ _ first c.in_ok-dump_ranges.ensures.ok in
    on_ok_weaker c.write_all-2.result (all_taken _ _ _ c.args.memory.now.memory lines) c.write_all-2.ensures.ok

pub returns-clause-front : goal.returns-clause-front
returns-clause-front g c =
    let header = header_is c.args.memory.now.memory _ _ _ c.header_text.ensures c.top.ensures.value c.fill.ensures in
    let first = subst (λ text. Took text (g.K.Sink.seen c.args.out.now) (g.K.Sink.seen c.write_all.new.out)) header c.in_ok-write_all.ensures.ok in
    let lines = took_then _ _ _ _ _ first c.in_ok-dump_ranges.ensures.ok in
    on_err_weaker c.write_all-2.result (last_failed _ _ _ c.args.memory.now.memory lines) c.write_all-2.ensures.front

pub returns-in_err-write_all-clause-few : goal.returns-in_err-write_all-clause-few
returns-in_err-write_all-clause-few g c = few_lines c.args.memory.now c.top.ensures.lawful c.holds_bytes.ensures c.top.ensures.held

pub returns-in_err-dump_ranges-clause-few : goal.returns-in_err-dump_ranges-clause-few
returns-in_err-dump_ranges-clause-few g c = few_lines c.args.memory.now c.top.ensures.lawful c.holds_bytes.ensures c.top.ensures.held

pub returns-clause-few : goal.returns-clause-few
returns-clause-few g c = few_lines c.args.memory.now c.top.ensures.lawful c.holds_bytes.ensures c.top.ensures.held
