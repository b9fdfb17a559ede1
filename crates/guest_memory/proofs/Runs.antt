-- Runs of bytes, piece by piece.
use Rattle.std.proofs.Common.{◌≡◌, ℕ, ◌+◌, ◌*◌, ◌%◌, ◌<◌, ◌≤◌, List, [], ◌++◌, length, replicate, sum, take, drop, rules, arith, ap, sym, ◌∙◌}
use Rattle.std.proofs.lemmas.List.{places, same_lists}
use Rattle.std.proofs.lemmas.List.Sums.{sum_by-append}
use Rattle.std.proofs.lemmas.List.Folds.{sum_by-replicate}
use Rattle.vt_bytes.specs.Memory.{Memory, IsTop, IsRam, IsRamRange, IsMemory, with_bytes, bytes_at}
use Rattle.vt_bytes.specs.Numbers.{byte_sum}
use Rattle.vt_bytes.proofs.Bytes.{bytes_at-parts}
use borrow.Rule.Slice.PartMut.{put_mid}
use Rattle.vt_bytes.proofs.Memories.{with_both, with_none}

-- an address of RAM is below 4 GiB
pub ram_below : (top a : ℕ) → IsTop top → IsRam top a → a < 0xC0000000
ram_below top a lawful ram = grind arith

-- the first bytes in two pieces
pub take-pieces : (bytes : List ℕ) (k n : ℕ) → k + n ≤ length bytes → take (k + n) bytes ≡ take k bytes ++ take n (drop k bytes)
take-pieces bytes k n within = same_lists _ _ (search (rules, places)) (λ i d h. grind (arith, places))

-- one more piece that was put behind those before it
pub one_more_put : (m now after : Memory) (address : ℕ) (bytes : List ℕ) (k n : ℕ) → IsMemory m → IsRamRange m.top address (length bytes)
    → k + n ≤ length bytes → now ≡ with_bytes m address (take k bytes) → after ≡ with_bytes now (address + k) (take n (drop k bytes))
    → after ≡ with_bytes m address (take (k + n) bytes)
one_more_put m now after address bytes k n lawful ram within so_far more =
    let pieces = take-pieces bytes k n within in
    let size : length (take k bytes) ≡ k = search (rules, places) in
    let all : length (take k bytes ++ take n (drop k bytes)) ≡ k + n = search (rules, places) in
    more ∙ ap (λ before. with_bytes before (address + k) (take n (drop k bytes))) so_far
    ∙ ap (λ at. with_bytes (with_bytes m address (take k bytes)) (address + at) (take n (drop k bytes))) (sym size)
    ∙ with_both m address (take k bytes) (take n (drop k bytes)) lawful (λ i below. ram i (omega arith))
    ∙ ap (with_bytes m address) (sym pieces)

-- no piece was put yet
pub none_put : (m : Memory) (address : ℕ) → m ≡ with_bytes m address []
none_put m address = sym (with_none m address)

-- one more piece that was read behind those before it
pub front_read : (bytes part : List ℕ) (k n r : ℕ) → k ≤ length bytes → r ≤ length part → take (k + r) (put_mid k n bytes part) ≡ take k bytes ++ take r part
front_read bytes part k n r within fits = same_lists _ _ (search (rules, places)) (λ i d h. grind (arith, places))

pub length_read : (bytes part : List ℕ) (k n : ℕ) → k + n ≡ length bytes → length part ≡ n → length (put_mid k n bytes part) ≡ length bytes
length_read bytes part k n within fits = grind (arith, places)

pub one_more_read : (m : Memory) (address : ℕ) (bytes part : List ℕ) (k n r : ℕ) → k ≤ length bytes → r ≤ length part
    → take k bytes ≡ bytes_at m address k → take r part ≡ bytes_at m (address + k) r → take (k + r) (put_mid k n bytes part) ≡ bytes_at m address (k + r)
one_more_read m address bytes part k n r within fits so_far more =
    front_read bytes part k n r within fits ∙ ap (λ front. front ++ take r part) so_far ∙ ap (λ back. bytes_at m address k ++ back) more
    ∙ sym (bytes_at-parts m address k r)

-- one more piece that was added to the sum of those before it
pub one_more_summed : (m : Memory) (address so_far more k n : ℕ) → so_far ≡ byte_sum (bytes_at m address k)
    → more ≡ byte_sum (bytes_at m (address + k) n) → (so_far + more) % 256 ≡ byte_sum (bytes_at m address (k + n))
one_more_summed m address so_far more k n summed sum_is =
    let total : sum (bytes_at m address (k + n)) ≡ sum (bytes_at m address k) + sum (bytes_at m (address + k) n) =
    ap sum (bytes_at-parts m address k n) ∙ sum_by-append (λ (byte : ℕ). byte) (bytes_at m address k) (bytes_at m (address + k) n) in
    omega arith

-- a frame of one byte sums to nothing, whatever the byte is
pub blank_summed : (fill : ℕ) → byte_sum (replicate 4096 fill) ≡ 0
blank_summed fill = let all : sum (replicate 4096 fill) ≡ 4096 * fill = sum_by-replicate (λ (byte : ℕ). byte) 4096 fill in omega (arith, all)
