use Rattle.std.proofs.Common.{◌≡◌, ◌+◌, ap, subst, sym, ◌∙◌}
use Rattle.std.proofs.lemmas.Result.{on_ok_weaker}
use Rattle.std.specs.List.{AllByRecursion}
use Rattle.vt_layout.specs.Rows.{IsPlain, size}
use Rattle.vt_layout.specs.Entries.{Known, entry_head}
use Rattle.vt_layout.specs.Fields.{numbered_rows}
use Rattle.acpi_append.specs.EntryPut.{IsEntryPut}
use Rattle.acpi_append.proofs.EntryPut.{known_put}
use Rattle.acpi_append.proofs.entries.put_entry.Goals as goal

pub returns : goal.returns
returns g c =
    let rows = numbered_rows (g.T.Laid.fields c.args.laid.now) in
    let are : c.rows-3.result.now ≡ rows = c.rows-3.ensures.rows ∙ c.in_ok-rows.ensures.rows in
    let also : c.rows-2.result.now ≡ rows = c.rows-2.ensures.rows ∙ c.in_ok-rows.ensures.rows in
    on_ok_weaker c.put_rows-2.result (λ put.
    subst (λ those. IsEntryPut c.args.bytes.now c.put_rows-2.new.bytes (Known c.args.kind those)) are
    (known_put c.args.kind c.rows-3.result.now c.entry_head.result c.args.bytes.now c.put_rows.new.bytes c.put_rows-2.new.bytes
    (subst (AllByRecursion IsPlain) (sym are) c.requires.plain) (subst (AllByRecursion _) (sym c.rows-3.ensures.rows) c.rows-3.ensures.fit)
    (c.entry_head.ensures.rows ∙ ap (λ those. entry_head c.args.kind (2 + size those)) (also ∙ sym are)) c.entry_head.ensures.fit
    c.in_ok-put_rows.ensures put)) c.put_rows-2.ensures
