-- Lists of the bytes of a memory.
use Rattle.std.proofs.Common.{◌≡◌, ℕ, zero, suc, ◌+◌, ◌-◌, ◌<◌, ◌≤◌, List, [], ◌∷◌, ◌++◌, length, slice_index, take, drop, arith, refl, ap, sym, ◌∙◌}
use Rattle.std.proofs.Common.{add-zero, length-take, length-drop, get_or-take, get_or-drop}
use Rattle.vt_bytes.specs.Memory.{Memory, at, bytes_at}

-- there are as many as were asked for
pub length-bytes_at : (m : Memory) (a n : ℕ) → length (bytes_at m a n) ≡ n
unfolding bytes_at
length-bytes_at m a zero = refl
length-bytes_at m a (suc n) = ap suc (length-bytes_at m (a + 1) n)

-- a memory that holds each byte of a list holds the list
pub bytes_at-each : (m : Memory) (a : ℕ) (bytes : List ℕ) → ((i : ℕ) → i < length bytes → at m (a + i) ≡ slice_index bytes i)
    → bytes_at m a (length bytes) ≡ bytes
unfolding bytes_at
bytes_at-each m a [] h = refl
bytes_at-each m a (byte ∷ bytes) h =
    let first : at m a ≡ byte = ap (at m) (sym (add-zero a)) ∙ h 0 (omega arith) in
    let rest : (i : ℕ) → i < length bytes → at m ((a + 1) + i) ≡ slice_index bytes i =
    λ i l. let place : (a + 1) + i ≡ a + suc i = omega arith in ap (at m) place ∙ h (suc i) (omega arith) in
    ap (λ b. b ∷ bytes_at m (a + 1) (length bytes)) first ∙ ap (λ bs. byte ∷ bs) (bytes_at-each m (a + 1) bytes rest)

-- a part of a window is the bytes of the range that it holds
pub bytes_at-window : (m : Memory) (a n place : ℕ) (window : List ℕ) → place + n ≤ length window
    → ((i : ℕ) → i < n → at m (a + i) ≡ slice_index window (place + i)) → take n (drop place window) ≡ bytes_at m a n
bytes_at-window m a n place window within same =
    let size : length (take n (drop place window)) ≡ n = simp (length-take, length-drop) (omega arith) in
    let each : (i : ℕ) → i < length (take n (drop place window)) → at m (a + i) ≡ slice_index (take n (drop place window)) i =
    λ i l. let below : i < n = omega arith in same i below ∙ sym (get_or-take n (drop place window) i 0 below ∙ get_or-drop place window i 0) in
    sym (ap (bytes_at m a) (sym size) ∙ bytes_at-each m a (take n (drop place window)) each)

-- no bytes
pub bytes_at-none : (m : Memory) (a n : ℕ) → n ≡ 0 → [] ≡ bytes_at m a n
unfolding bytes_at
bytes_at-none m a n none = ap (bytes_at m a) (sym none)

-- the first ones
pub take-bytes_at : (m : Memory) (a k n : ℕ) → k ≤ n → take k (bytes_at m a n) ≡ bytes_at m a k
unfolding bytes_at
take-bytes_at m a zero n l = refl
take-bytes_at m a (suc k) zero l = absurd (omega arith)
take-bytes_at m a (suc k) (suc n) l = ap (λ bytes. at m a ∷ bytes) (take-bytes_at m (a + 1) k n (omega arith))

-- the last ones
pub drop-bytes_at : (m : Memory) (a k n : ℕ) → drop k (bytes_at m a (k + n)) ≡ bytes_at m (a + k) n
unfolding bytes_at
drop-bytes_at m a zero n = let count : zero + n ≡ n = omega arith in let place : a + zero ≡ a = omega arith in rw (count, place)
drop-bytes_at m a (suc k) n =
    let count : suc k + n ≡ suc (k + n) = omega arith in
    let place : a + 1 + k ≡ a + suc k = omega arith in
    ap (λ all. drop (suc k) (bytes_at m a all)) count ∙ drop-bytes_at m (a + 1) k n ∙ ap (λ b. bytes_at m b n) place

-- memories that agree at each address of a range hold the same there
pub bytes_at-same : (m other : Memory) (a n : ℕ) → ((i : ℕ) → i < n → at m (a + i) ≡ at other (a + i)) → bytes_at m a n ≡ bytes_at other a n
unfolding bytes_at
bytes_at-same m other a zero same = refl
bytes_at-same m other a (suc n) same =
    let first : at m a ≡ at other a = ap (at m) (sym (add-zero a)) ∙ same 0 (omega arith) ∙ ap (at other) (add-zero a) in
    let rest : (i : ℕ) → i < n → at m (a + 1 + i) ≡ at other (a + 1 + i) =
    λ i l. let place : a + 1 + i ≡ a + suc i = omega arith in ap (at m) place ∙ same (suc i) (omega arith) ∙ ap (at other) (sym place) in
    ap (λ b. b ∷ bytes_at m (a + 1) n) first ∙ ap (λ bytes. at other a ∷ bytes) (bytes_at-same m other (a + 1) n rest)

-- a range in two parts
pub bytes_at-parts : (m : Memory) (a k n : ℕ) → bytes_at m a (k + n) ≡ bytes_at m a k ++ bytes_at m (a + k) n
unfolding bytes_at
bytes_at-parts m a zero n = let count : zero + n ≡ n = omega arith in let place : a + zero ≡ a = omega arith in rw (count, place)
bytes_at-parts m a (suc k) n =
    let count : suc k + n ≡ suc (k + n) = omega arith in
    let place : a + 1 + k ≡ a + suc k = omega arith in
    ap (bytes_at m a) count ∙ ap (λ bytes. at m a ∷ bytes) (bytes_at-parts m (a + 1) k n ∙ ap (λ b. bytes_at m (a + 1) k ++ bytes_at m b n) place)

-- a part of a range
pub part-bytes_at : (m : Memory) (a n offset size : ℕ) → offset + size ≤ n → take size (drop offset (bytes_at m a n)) ≡ bytes_at m (a + offset) size
part-bytes_at m a n offset size within =
    let in_two : n ≡ offset + (n - offset) = omega arith in
    ap (λ all. take size (drop offset (bytes_at m a all))) in_two ∙ ap (take size) (drop-bytes_at m a offset (n - offset))
    ∙ take-bytes_at m (a + offset) size (n - offset) (omega arith)

-- one byte of a range
pub index-bytes_at : (m : Memory) (a n k : ℕ) → k < n → slice_index (bytes_at m a n) k ≡ at m (a + k)
unfolding bytes_at
index-bytes_at m a zero k l = absurd (omega arith)
index-bytes_at m a (suc n) zero l = ap (at m) (sym (add-zero a))
index-bytes_at m a (suc n) (suc k) l =
    let place : a + 1 + k ≡ a + suc k = omega arith in
    index-bytes_at m (a + 1) n k (omega arith) ∙ ap (at m) place

-- one byte alone
pub bytes_at-one : (m : Memory) (a : ℕ) → bytes_at m a 1 ≡ at m a ∷ []
unfolding bytes_at
bytes_at-one m a = refl
