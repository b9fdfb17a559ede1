-- What a write to memory does to the bytes of a range.
use Rattle.std.proofs.Common.{◌≡◌, ℕ, ◌+◌, ◌-◌, ◌<◌, ◌≤◌, ◌⊎◌, inl, inr, List, ◌++◌, length, take, drop, arith, ap, subst, sym, ◌∙◌, append_assoc}
use Rattle.vt_bytes.specs.Parts.{put_at}
use Rattle.vt_bytes.specs.Memory.{Memory, IsRam, IsRamRange, bytes_at, Puts}
use Rattle.vt_bytes.proofs.Bytes.{take-bytes_at, drop-bytes_at, bytes_at-same, bytes_at-parts}

-- a part of a range of RAM is one
pub ram_part : (top a n k len : ℕ) → IsRamRange top a n → k + len ≤ n → IsRamRange top (a + k) len
ram_part top a n k len ram within = λ i l.
    let place : a + (k + i) ≡ a + k + i = omega arith in
    subst (IsRam top) place (ram (k + i) (omega arith))

-- a range beside the write stays
pub stays : (old new : Memory) (place : ℕ) (bytes : List ℕ) (a n : ℕ) → Puts old new place bytes → IsRamRange old.top a n
    → (a + n ≤ place) ⊎ (place + length bytes ≤ a) → bytes_at new a n ≡ bytes_at old a n
stays old new place bytes a n puts ram beside =
    bytes_at-same new old a n (λ i l. puts.elsewhere (a + i) (ram i l)
    (elim beside as (λ _. (a + i < place) ⊎ (place + length bytes ≤ a + i)) [ inl below ↦ inl (omega arith) | inr past ↦ inr (omega arith) ]))

-- a range in three parts
three_parts : (m : Memory) (a k n rest : ℕ) → bytes_at m a (k + (n + rest)) ≡ bytes_at m a k ++ bytes_at m (a + k) n ++ bytes_at m (a + k + n) rest
three_parts m a k n rest =
    bytes_at-parts m a k (n + rest) ∙ ap (λ bytes. bytes_at m a k ++ bytes) (bytes_at-parts m (a + k) n rest)
    ∙ sym (append_assoc (bytes_at m a k) (bytes_at m (a + k) n) (bytes_at m (a + k + n) rest))

-- the range that has the write holds the new bytes in place of as many
pub written : (old new : Memory) (a n offset : ℕ) (bytes : List ℕ) → Puts old new (a + offset) bytes → IsRamRange old.top a n
    → offset + length bytes ≤ n → bytes_at new a n ≡ put_at (bytes_at old a n) offset bytes
written old new a n offset bytes puts ram within =
    let rest = n - (offset + length bytes) in
    let in_three : n ≡ offset + (length bytes + rest) = omega arith in
    let in_two : n ≡ offset + length bytes + rest = omega arith in
    let place : a + (offset + length bytes) ≡ a + offset + length bytes = omega arith in
    let front : bytes_at new a offset ≡ bytes_at old a offset =
    stays old new (a + offset) bytes a offset puts (λ i l. ram i (omega arith)) (inl (omega arith)) in
    let back : bytes_at new (a + offset + length bytes) rest ≡ bytes_at old (a + offset + length bytes) rest =
    stays old new (a + offset) bytes (a + offset + length bytes) rest puts
    (subst (λ b. IsRamRange old.top b rest) place (ram_part old.top a n (offset + length bytes) rest ram (omega arith))) (inr (omega arith)) in
    let parts : bytes_at new a n ≡ bytes_at new a offset ++ bytes_at new (a + offset) (length bytes) ++ bytes_at new (a + offset + length bytes) rest =
    ap (bytes_at new a) in_three ∙ three_parts new a offset (length bytes) rest in
    let middle = puts.there in
    let first : take offset (bytes_at old a n) ≡ bytes_at old a offset = take-bytes_at old a offset n (omega arith) in
    let last : drop (offset + length bytes) (bytes_at old a n) ≡ bytes_at old (a + offset + length bytes) rest =
    ap (λ all. drop (offset + length bytes) (bytes_at old a all)) in_two ∙ drop-bytes_at old a (offset + length bytes) rest
    ∙ ap (λ b. bytes_at old b rest) place in
    cc
