use Rattle.std.proofs.Common.{◌-◌, ℕ, List, [], ◌∷◌, ◌++◌, rules, ap, ◌∙◌}
use Rattle.std.proofs.lemmas.Result.{on_ok_weaker}
use Rattle.vt_layout.specs.declared.row.Row.TheVariants.{Number, Reserved}
use Rattle.vt_layout.specs.Rows.{spelled}
use Rattle.vt_layout.specs.Entries.{Other, entry_rows}
use Rattle.acpi_append.proofs.EntryPut.{rows_put}
use Rattle.acpi_append.proofs.entries.put_other.Goals as goal

pub returns : goal.returns
returns c =
    let kind = c.args.kind in
    let length = c.args.length in
    let written : ℕ → ℕ → List ℕ = λ a b. c.args.bytes.now ++ spelled (Number 1 a ∷ Number 1 b ∷ Reserved (length - 2) ∷ []) in
    on_ok_weaker c.put_rows.result (λ put.
    rows_put (entry_rows (Other kind length)) c.args.bytes.now c.put_rows.new.bytes (tt, (tt, (tt, tt))) (search rules)
    (put ∙ ap (λ n. written n c.from-2.result) c.from.ensures ∙ ap (written kind) c.from-2.ensures)) c.put_rows.ensures
