use Rattle.std.proofs.Common.{[], ◌∙◌}
use Rattle.vt_layout.proofs.ReadableFields.{kinds_small}
use Rattle.vt_layout.proofs.record_reader.RecordReader.read.Goals as goal

pub size_of-requires : goal.size_of-requires
size_of-requires g c =
    let blank = g.T.Laid.made [] in
    kinds_small (g.T.Laid.fields blank) c.as_slice.result.now (c.as_slice.ensures.value ∙ c.self.invariant) (g.met.T.Laid.lawful blank blank).readable
