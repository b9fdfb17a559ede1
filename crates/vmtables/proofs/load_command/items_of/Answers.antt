use Rattle.std.proofs.Common.{sym}
use Rattle.vmtables.proofs.ItemsToLoad.{contained, loads_installed, loads_them, refused_when}
use Rattle.vmtables.proofs.load_command.items_of.Goals as goal

pub returns-in_err-install-clause-err : goal.returns-in_err-install-clause-err
returns-in_err-install-clause-err c =
    refused_when c.args.installs c.args.container c.in_ok-items.items c.in_err-install.field-0.0 c.from_residual-in_err-install.result c.if-installs.true
    (sym c.in_ok-items.ensures) c.in_err-install.ensures.exact c.from_residual-in_err-install.ensures.1

pub returns-in_ok-install-clause-ok : goal.returns-in_ok-install-clause-ok
returns-in_ok-install-clause-ok c bytes is =
    loads_installed c.args.installs bytes c.in_ok-items.items c.in_ok-install.field-0 c.if-installs.true
    (contained c.args.container bytes c.in_ok-items.items (sym c.in_ok-items.ensures) is) c.in_ok-install.ensures.exact

pub returns-else-installs-clause-ok : goal.returns-else-installs-clause-ok
returns-else-installs-clause-ok c bytes is =
    loads_them c.args.installs bytes c.in_ok-items.items c.if-installs.false
    (contained c.args.container bytes c.in_ok-items.items (sym c.in_ok-items.ensures) is)
