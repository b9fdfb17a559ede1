use Rattle.std.proofs.Common.{arith, ap, length, length-append}
use Rattle.aml_terms.specs.Paths.{beginning, joined}
use Rattle.aml_terms.specs.Written.{segment_bytes}
use Rattle.aml_encode.proofs.Paths.{joined_size}
use Rattle.aml_encode.proofs.path.path_size.Goals as goal

pub returns-clause-size : goal.returns-clause-size
returns-clause-size c =
    let path = c.args.path.now in
    let same = c.as_slice-segments.ensures in
    let names = ap (λ ss. length (segment_bytes ss)) same in
    let parts = ap (λ ss. length (joined ss)) same in
    let whole = length-append (beginning path) (segment_bytes path.segments) in
    omega (arith, names, parts, ap length same, whole, joined_size path.segments c.requires.0.segments)
