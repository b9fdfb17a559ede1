use Rattle.std.proofs.Common.{Ok, Some, Err, refl}
use Rattle.vt_bytes.specs.Memory.{seen}
use Rattle.table_model.proofs.SearchOfOne.{structures_of_one, no_anchor_of_one}
use Rattle.anchor_scan.proofs.OneSmbiosScan.{as_read, refuses_of_one, read_by_form, refused_by_form}
use Rattle.anchor_scan.proofs.smbios.scan_smbios_by.Goals as goal

pub returns : goal.returns
returns c =
    let form = c.args.form in
    let view = seen c.args.memory.now.memory in
    let result = c.scan_structures.result in
    let read = c.scan_structures.ensures in
    record {
      none = (
        λ is address. read.none.0 is form refl address,
        λ none. read.none.1 (no_anchor_of_one form view none),
      );
      shown = read_by_form form view result read.shown;
      shows = λ table is. as_read form view result (Ok (Some table)) read.none.0 read.shown read.refused (structures_of_one form view table is);
      refused = refused_by_form form view result read.refused;
      refuses = λ fault is. as_read form view result (Err fault) read.none.0 read.shown read.refused (refuses_of_one form view fault is);
    }
