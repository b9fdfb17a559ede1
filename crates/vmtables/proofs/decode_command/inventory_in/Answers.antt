use Rattle.std.proofs.Common.{subst}
use Rattle.std.proofs.lemmas.Result.{err_from_is_err_and}
use Rattle.vmtables.specs.Decode.{CannotBeListed}
use Rattle.vmtables.proofs.decode_command.inventory_in.Goals as goal

pub returns-in_err-memory-clause-err : goal.returns-in_err-memory-clause-err
returns-in_err-memory-clause-err c =
    let told = err_from_is_err_and c.from_residual.result c.from_residual.ensures.1 in
    rw (told.1, told.2) (subst (λ bytes. CannotBeListed c.args.search bytes c.in_err-memory.field-0.0) c.as_slice.ensures
    (c.in_err-memory.ensures.err c.args.search))
