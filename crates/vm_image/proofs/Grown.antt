-- Files with holes that have grown.
use Rattle.std.proofs.Common.{◌≤◌, [], ◌++◌, length, ap, sym, ◌∙◌, arith, append-nil, append_assoc, length-append}
use Rattle.vt_bytes.proofs.Each.{each_append, each_weaker}
use Rattle.blob_holes.specs.declared.hole.PointerHole.{PointerHole}
use Rattle.blob_holes.specs.declared.hole.SumHole.{SumHole}
use Rattle.blob_holes.specs.Blob.{BlobState}
use Rattle.blob_holes.specs.Grown.{Extends}

-- a file extends itself
pub extends_self : (blob : BlobState) → Extends blob blob
extends_self blob = record {
  bytes = ([], sym (append-nil blob.bytes));
  pointers = ([], sym (append-nil blob.pointers), tt);
  sums = ([], sym (append-nil blob.sums), tt);
}

-- a file that has grown twice has grown
pub extends_twice : (first second third : BlobState) → Extends first second → Extends second third → Extends first third
extends_twice first second third once again =
    let longer : length first.bytes ≤ length second.bytes = omega (arith, ap length once.bytes.1, length-append first.bytes once.bytes.0) in
    record {
      bytes = (
        once.bytes.0 ++ again.bytes.0,
        again.bytes.1 ∙ ap (λ b. b ++ again.bytes.0) once.bytes.1 ∙ append_assoc first.bytes once.bytes.0 again.bytes.0,
      );
      pointers = (
        once.pointers.0 ++ again.pointers.0,
        again.pointers.1 ∙ ap (λ p. p ++ again.pointers.0) once.pointers.1 ∙ append_assoc first.pointers once.pointers.0 again.pointers.0,
        each_append (λ (hole : PointerHole). length first.bytes ≤ hole.at) once.pointers.0 again.pointers.0 once.pointers.2
            (each_weaker (λ (hole : PointerHole). length second.bytes ≤ hole.at) (λ (hole : PointerHole). length first.bytes ≤ hole.at)
            (λ hole behind. omega arith) again.pointers.0 again.pointers.2),
      );
      sums = (
        once.sums.0 ++ again.sums.0,
        again.sums.1 ∙ ap (λ s. s ++ again.sums.0) once.sums.1 ∙ append_assoc first.sums once.sums.0 again.sums.0,
        each_append (λ (hole : SumHole). length first.bytes ≤ hole.at) once.sums.0 again.sums.0 once.sums.2
            (each_weaker (λ (hole : SumHole). length second.bytes ≤ hole.at) (λ (hole : SumHole). length first.bytes ≤ hole.at)
            (λ hole behind. omega arith) again.sums.0 again.sums.2),
      );
    }
