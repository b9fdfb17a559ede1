-- Paths that are written are spellings, no spelling is shorter, and a path that bytes spell can be written (ACPI 6.5, 20.2.2).
use Rattle.std.proofs.Common.{ℕ, ◌+◌, ◌<◌, ◌≤◌, List, [], ◌∷◌, ◌++◌, length, refl, ap, arith, length-append, append-nil}
use Rattle.aml_terms.specs.declared.term.Path.{Path}
use Rattle.aml_terms.specs.Paths.{joined, beginning, IsGoodPath, AreSegments, one, two, many, IsPath}
use Rattle.aml_terms.specs.Written.{segment_bytes, path_bytes}
use Rattle.aml_terms.proofs.ByteLists.{AreBytes, parts_of_bytes, byte_and_rest}

segments_are : (segments : List (List ℕ)) → 1 ≤ length segments → AreSegments segments (segment_bytes segments)
segments_are [] some = absurd (omega arith)
segments_are (s ∷ []) some = one s refl refl
segments_are (s ∷ t ∷ []) some = two s t refl (ap (λ last. 0x2E ∷ (s ++ last)) (append-nil t))
segments_are (s ∷ t ∷ u ∷ segments) some = many refl

-- a path that is written
pub path_is : (path : Path) → IsGoodPath path → IsPath path (path_bytes path)
path_is path good = record {
  placed = good.0;
  names = segment_bytes path.segments;
  spelled = refl;
  are = segments_are path.segments good.0.some;
}

segment_bytes-most : (segments : List (List ℕ)) → length (segment_bytes segments) ≤ 2 + length (joined segments)
segment_bytes-most [] = omega arith
segment_bytes-most (s ∷ []) = omega (arith, length-append s [])
segment_bytes-most (s ∷ t ∷ []) = omega arith
segment_bytes-most (s ∷ t ∷ u ∷ segments) = omega arith

segments-least : (segments : List (List ℕ)) (bytes : List ℕ) → AreSegments segments bytes → length (segment_bytes segments) ≤ length bytes
segments-least segments bytes (one s are is) = rw are (omega (arith, ap length is))
segments-least segments bytes (two s t are is) =
    rw are (omega (arith, ap length is, length-append s t, length-append s (t ++ []), ap length (append-nil t)))
segments-least segments bytes (many is) = omega (arith, ap length is, segment_bytes-most segments)

-- no spelling of a path is shorter
pub path-least : (path : Path) (bytes : List ℕ) → IsPath path bytes → length (path_bytes path) ≤ length bytes
path-least path bytes is =
    omega (
      arith,
      ap length is.spelled,
      length-append (beginning path) is.names,
      length-append (beginning path) (segment_bytes path.segments),
      segments-least path.segments is.names is.are,
    )

segments-count : (segments : List (List ℕ)) (bytes : List ℕ) → AreBytes bytes → AreSegments segments bytes → length segments < 256
segments-count segments bytes h (one s are is) = omega (arith, ap length are)
segments-count segments bytes h (two s t are is) = omega (arith, ap length are)
segments-count segments bytes h (many is) =
    let behind : (0x2F < 256) × AreBytes (length segments ∷ joined segments) = byte_and_rest bytes 0x2F (length segments ∷ joined segments) is h in
    behind.1.0

-- a path that bytes spell can be written
pub path_is_good : (path : Path) (bytes : List ℕ) → AreBytes bytes → IsPath path bytes → IsGoodPath path
path_is_good path bytes h is =
    let parts : AreBytes (beginning path) × AreBytes is.names = parts_of_bytes bytes (beginning path) is.names is.spelled h in
    (is.placed, segments-count path.segments is.names parts.1 is.are)
