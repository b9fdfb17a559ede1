use Rattle.smbios_build.proofs.Counted.{record_counted}
use Rattle.smbios_build.proofs.sizes.record_size.Goals as goal

pub returns : goal.returns
returns g c =
    record_counted 0 0 (g.T.Laid.fields c.args.info.now) c.record_size_of-size.result.area c.record_size_of-size.result.strings c.whole_size.result
    0xFFFFFFFFFFFFFFFF c.requires c.record_size_of-size.ensures.area c.record_size_of-size.ensures.strings c.whole_size.ensures
