use Rattle.vt_layout.proofs.MissingStrings.{short_is_told, missing_is_told}
use Rattle.vt_layout.proofs.record_laws.first_fault_is_told.Goals as goal

pub returns : goal.returns
returns g c =
    record { short = short_is_told g.T.Laid.fields g.T.Laid.made; missing = missing_is_told g.T.Laid.fields g.T.Laid.made }
