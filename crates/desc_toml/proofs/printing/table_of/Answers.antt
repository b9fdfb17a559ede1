use Rattle.std.proofs.Common.{◌≡◌, IfOk, subst}
use Rattle.toml.specs.View.{table_view}
use Rattle.desc_schema.specs.Written.{hyphenated, written}
use Rattle.desc_toml.specs.Keys.{schema}
use Rattle.desc_toml.specs.Printed.{document_of}
use Rattle.desc_toml.proofs.ValuedMachine.{values_texts}
use Rattle.desc_toml.proofs.printing.table_of.Goals as goal

pub write_document-requires : goal.write_document-requires
write_document-requires c = rw c.in_ok-values.ensures (values_texts c.args.machine.now c.requires c.numbers_of_a_machine_fit.ensures)

pub returns : goal.returns
unfolding document_of
returns c =
    subst (λ values. IfOk c.write_document.result (λ table. table_view table ≡ written hyphenated schema values)) c.in_ok-values.ensures
    c.write_document.ensures
