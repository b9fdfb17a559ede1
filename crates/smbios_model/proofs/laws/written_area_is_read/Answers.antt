use Rattle.vt_layout.proofs.NamedTexts.{texts_named, texts_strings}
use Rattle.smbios_model.proofs.WrittenAreas.{spelled_area}
use Rattle.smbios_model.proofs.laws.written_area_is_read.Goals as goal

pub returns : goal.returns
returns c = record { named = texts_named; strings = texts_strings; area = spelled_area }
