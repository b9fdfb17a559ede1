-- What a source gave that had few bytes.
use Rattle.std.proofs.Common.{◌≡◌, ℕ, ◌<◌, ◌≤◌, List, [], ◌++◌, length, Option, Some, None, IfSome, arith, ap, ◌∙◌, append-nil}
use Rattle.vt_outside.specs.Stream.{in_front}
use Rattle.vmtables.specs.Outcome.{input_limit, given_count}

-- the bytes that were read are those that the source had
pub same_bytes : (bytes read : List ℕ) (left left_after : Option (List ℕ)) → left ≡ Some bytes → left ≡ in_front read left_after
    → IfSome left_after (λ rest. rest ≡ []) → bytes ≡ read
same_bytes bytes read left None had given none_left = absurd (cc)
same_bytes bytes read left (Some rest) had given none_left =
    let whole : bytes ≡ read ++ rest = cc in
    whole ∙ ap (λ (r : List ℕ). read ++ r) none_left ∙ append-nil read

-- no more bytes are given than the source had
pub few_given : (bytes : List ℕ) (left left_after : Option (List ℕ)) → left ≡ Some bytes → length bytes ≤ input_limit
    → IfSome left (λ _. input_limit < given_count left left_after) → ⊥
few_given bytes None left_after had within long = absurd (cc)
few_given bytes (Some all) None had within long = absurd (omega arith)
few_given bytes (Some all) (Some rest) had within long =
    let same : all ≡ bytes = cc in
    let size : length all ≡ length bytes = ap length same in
    absurd (omega arith)
