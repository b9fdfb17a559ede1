-- A memory as its three lists of bytes: how each of them is read and written.
use Rattle.std.proofs.Common.{◌≡◌, ℕ, Bool, ◌+◌, ◌-◌, ◌*◌, ◌%◌, if◌then◌else◌, ◌<◌, ◌≤◌, inl, inr, List, [], ◌∷◌, length, slice_index, take, drop}
use Rattle.std.proofs.Common.{rules, arith, refl, ap, subst, sym, ◌∙◌}
use Rattle.std.proofs.lemmas.List.{places, same_lists, take_all}
use Rattle.vt_bytes.specs.Parts.{part, put_at}
use Rattle.vt_bytes.specs.Memory.{Memory, IsTop, IsRam, IsMemory, high_start, ram_ranges, at, bytes_at, with_bytes, put_in}
use Rattle.guest_memory.specs.Store.{Filled, IsPlaceOf, memory_of, parts_of}
use Rattle.vt_bytes.proofs.Bytes.{bytes_at-window, bytes_at-one}
use Rattle.std.proofs.lemmas.Bool.{cases_lt, lt-ltb, le-ltb}
use Rattle.guest_memory.specs.Frames.{frame_start}
use Rattle.guest_memory.proofs.Laid.{part_byte}
use Rattle.vt_bytes.proofs.Ranges.{byte_here, byte_later, put_here, put_later}

abbrev pub held : ℕ → ℕ → List ℕ → List ℕ → List ℕ → Memory
held top fill low bios high = record { top = top; fill = fill; parts = low ∷ bios ∷ high ∷ [] }

-- RAM past 1 MiB is in the third range
pub in_high : (top a : ℕ) → IsTop top → IsRam top a → 0x100000 ≤ a → (high_start top ≤ a) × (a < top)
in_high top a lawful ram past = (grind arith, grind arith)

-- the byte at an address of each range
pub at_low : (top fill : ℕ) (low bios high : List ℕ) (a : ℕ) → a < 0xA0000 → at (held top fill low bios high) a ≡ slice_index low a
at_low top fill low bios high a below =
    let place : a - 0 ≡ a = omega arith in
    byte_here _ _ low (bios ∷ high ∷ []) a (omega arith, below) ∙ ap (slice_index low) place

pub at_bios : (top fill : ℕ) (low bios high : List ℕ) (a : ℕ) → 0xE0000 ≤ a → a < 0x100000
    → at (held top fill low bios high) a ≡ slice_index bios (a - 0xE0000)
at_bios top fill low bios high a from below =
    byte_later _ _ low (bios ∷ high ∷ []) a (inr (omega arith)) ∙ byte_here _ _ bios (high ∷ []) a (from, below)

pub at_high : (top fill : ℕ) (low bios high : List ℕ) (a : ℕ) → IsTop top → high_start top ≤ a → a < top
    → at (held top fill low bios high) a ≡ slice_index high (a - high_start top)
at_high top fill low bios high a lawful from below =
    byte_later _ _ low (bios ∷ high ∷ []) a (inr (omega arith)) ∙ byte_later _ _ bios (high ∷ []) a (inr (omega arith))
    ∙ byte_here _ _ high [] a (from, below)

-- as many bytes as a part has
length_part : (bytes : List ℕ) (from size : ℕ) → from + size ≤ length bytes → length (part bytes from size) ≡ size
length_part bytes from size within = search (rules, places)

-- a part of a part
part_within : (bytes : List ℕ) (from size place n : ℕ) → place + n ≤ size → part (part bytes from size) place n ≡ part bytes (from + place) n
part_within bytes from size place n fits = same_lists _ _ (search (rules, places)) (λ k d h. grind (arith, places))

-- a part of bytes, of which others are put there, or elsewhere
part_put : (bytes put : List ℕ) (from size place : ℕ) → from ≤ place → place + length put ≤ from + size → from + size ≤ length bytes
    → part (put_at bytes place put) from size ≡ put_at (part bytes from size) (place - from) put
part_put bytes put from size place past fits within = same_lists _ _ (search (rules, places)) (λ k d h. grind (arith, places))

part_before : (bytes put : List ℕ) (from size place : ℕ) → from + size ≤ place → place + length put ≤ length bytes
    → part (put_at bytes place put) from size ≡ part bytes from size
part_before bytes put from size place before within = same_lists _ _ (search (rules, places)) (λ k d h. grind (arith, places))

part_past : (bytes put : List ℕ) (from size place : ℕ) → place + length put ≤ from → from + size ≤ length bytes
    → part (put_at bytes place put) from size ≡ part bytes from size
part_past bytes put from size place past within = same_lists _ _ (search (rules, places)) (λ k d h. grind (arith, places))

-- bytes of one frame are a part of one list
part_low : (top fill : ℕ) (low bios high : List ℕ) (m : Memory) (a n : ℕ) → held top fill low bios high ≡ m → length low ≡ 0xA0000
    → a < 0xA0000 → a % 4096 + n ≤ 4096 → take n (drop a low) ≡ bytes_at m a n
part_low top fill low bios high m a n is size below frame =
    bytes_at-window (held top fill low bios high) a n a low (omega arith) (λ i l. at_low top fill low bios high (a + i) (omega arith))
    ∙ ap (λ other. bytes_at other a n) is

part_bios : (top fill : ℕ) (low bios high : List ℕ) (m : Memory) (a n : ℕ) → held top fill low bios high ≡ m → length bios ≡ 0x20000
    → 0xE0000 ≤ a → a < 0x100000 → a % 4096 + n ≤ 4096 → take n (drop (a - 0xE0000) bios) ≡ bytes_at m a n
part_bios top fill low bios high m a n is size from below frame =
    bytes_at-window (held top fill low bios high) a n (a - 0xE0000) bios (omega arith) (λ i l.
    let place : a + i - 0xE0000 ≡ a - 0xE0000 + i = omega arith in
    at_bios top fill low bios high (a + i) (omega arith) (omega arith) ∙ ap (slice_index bios) place)
    ∙ ap (λ other. bytes_at other a n) is

part_high : (top fill : ℕ) (low bios high : List ℕ) (m : Memory) (a n place : ℕ) → held top fill low bios high ≡ m → IsTop top
    → length high ≡ 0x2000000 → place + high_start top ≡ a → a < top → a % 4096 + n ≤ 4096 → take n (drop place high) ≡ bytes_at m a n
part_high top fill low bios high m a n place is lawful size at_place below frame =
    let ends : a + n ≤ top = omega (arith, lawful.whole) in
    bytes_at-window (held top fill low bios high) a n place high (omega arith) (λ i l.
    let index : a + i - high_start top ≡ place + i = omega arith in
    at_high top fill low bios high (a + i) lawful (omega arith) (omega arith) ∙ ap (slice_index high) index)
    ∙ ap (λ other. bytes_at other a n) is

-- bytes that are put into one list
all_fit : (room : ℕ) (bytes : List ℕ) → length bytes ≤ room → take room bytes ≡ bytes
all_fit room bytes fit = take_all room bytes fit

with_low : (top fill : ℕ) (low bios high bytes : List ℕ) (a : ℕ) → a + length bytes ≤ 0xA0000 → a < 0xA0000
    → held top fill (put_at low a bytes) bios high ≡ with_bytes (held top fill low bios high) a bytes
with_low top fill low bios high bytes a fits below =
    let put : put_in (ram_ranges top) (low ∷ bios ∷ high ∷ []) a bytes ≡ put_at low (a - 0) (take (0xA0000 - a) bytes) ∷ bios ∷ high ∷ [] =
    put_here _ _ low (bios ∷ high ∷ []) a bytes (omega arith, below) in
    let place : a ≡ a - 0 = omega arith in
    ap (λ (all : List (List ℕ)). record { top = top; fill = fill; parts = all })
    (ap (λ p. put_at low p bytes ∷ bios ∷ high ∷ []) place
    ∙ ap (λ w. put_at low (a - 0) w ∷ bios ∷ high ∷ []) (sym (all_fit (0xA0000 - a) bytes (omega arith))) ∙ sym put)

with_bios : (top fill : ℕ) (low bios high bytes : List ℕ) (a : ℕ) → 0xE0000 ≤ a → a + length bytes ≤ 0x100000 → a < 0x100000
    → held top fill low (put_at bios (a - 0xE0000) bytes) high ≡ with_bytes (held top fill low bios high) a bytes
with_bios top fill low bios high bytes a from fits below =
    let put : put_in (ram_ranges top) (low ∷ bios ∷ high ∷ []) a bytes ≡ low ∷ put_at bios (a - 0xE0000) (take (0x100000 - a) bytes) ∷ high ∷ [] =
    put_later _ _ low (bios ∷ high ∷ []) a bytes (inr (omega arith))
    ∙ ap (λ (rest : List (List ℕ)). low ∷ rest) (put_here _ _ bios (high ∷ []) a bytes (from, below)) in
    ap (λ (all : List (List ℕ)). record { top = top; fill = fill; parts = all })
    (ap (λ w. low ∷ put_at bios (a - 0xE0000) w ∷ high ∷ []) (sym (all_fit (0x100000 - a) bytes (omega arith))) ∙ sym put)

with_high : (top fill : ℕ) (low bios high bytes : List ℕ) (a : ℕ) → IsTop top → high_start top ≤ a → a + length bytes ≤ top → a < top
    → held top fill low bios (put_at high (a - high_start top) bytes) ≡ with_bytes (held top fill low bios high) a bytes
with_high top fill low bios high bytes a lawful from fits below =
    let put : put_in (ram_ranges top) (low ∷ bios ∷ high ∷ []) a bytes ≡ low ∷ bios ∷ put_at high (a - high_start top) (take (top - a) bytes) ∷ [] =
    put_later _ _ low (bios ∷ high ∷ []) a bytes (inr (omega (arith, lawful.at_least)))
    ∙ ap (λ (rest : List (List ℕ)). low ∷ rest) (put_later _ _ bios (high ∷ []) a bytes (inr (omega (arith, lawful.at_least)))
    ∙ ap (λ (rest : List (List ℕ)). bios ∷ rest) (put_here _ _ high [] a bytes (from, below))) in
    ap (λ (all : List (List ℕ)). record { top = top; fill = fill; parts = all })
    (ap (λ w. low ∷ bios ∷ put_at high (a - high_start top) w ∷ []) (sym (all_fit (top - a) bytes (omega arith))) ∙ sym put)

-- all bytes in a row are a memory
pub lawful_held : (top : ℕ) (row : Filled) → IsTop top → length row.bytes ≡ 0x2100000 → IsMemory (memory_of top row)
unfolding parts_of
lawful_held top row lawful size =
    let all : top - high_start top ≡ 0x2000000 = omega (arith, lawful.at_least) in
    record {
      top = lawful;
      parts = (
        length_part row.bytes 0 0xA0000 (omega (arith, size)),
        (length_part row.bytes 0xE0000 0x20000 (omega (arith, size)), (length_part row.bytes 0x100000 0x2000000 (omega (arith, size)) ∙ sym all, tt)),
      );
    }

-- bytes of one frame are a part of all bytes in a row
pub part_held : (top : ℕ) (row : Filled) (m : Memory) (a n place : ℕ) → memory_of top row ≡ m → IsTop top → length row.bytes ≡ 0x2100000
    → IsRam top a → IsPlaceOf top a place → a % 4096 + n ≤ 4096 → part row.bytes place n ≡ bytes_at m a n
unfolding parts_of
part_held top row m a n place is lawful size ram at frame =
    let bytes = row.bytes in
    let low = part bytes 0 0xA0000 in
    let bios = part bytes 0xE0000 0x20000 in
    let high = part bytes 0x100000 0x2000000 in
    elim ram as (λ _. part bytes place n ≡ bytes_at m a n) [
      | inl here ↦
          let same : 0 + a ≡ place = omega (arith, at.low (omega (arith, here.1))) in
          ap (λ p. part bytes p n) (sym same) ∙ sym (part_within bytes 0 0xA0000 a n (omega (arith, here.1)))
          ∙ part_low top row.fill low bios high m a n is (length_part bytes 0 0xA0000 (omega (arith, size))) here.1 frame
      | inr later ↦ elim later as (λ _. part bytes place n ≡ bytes_at m a n) [
        | inl here ↦
            let same : 0xE0000 + (a - 0xE0000) ≡ place = omega (arith, here.0, at.low here.1) in
            ap (λ p. part bytes p n) (sym same) ∙ sym (part_within bytes 0xE0000 0x20000 (a - 0xE0000) n (omega (arith, here.0, here.1)))
            ∙ part_bios top row.fill low bios high m a n is (length_part bytes 0xE0000 0x20000 (omega (arith, size))) here.0 here.1 frame
        | inr last ↦ elim last as (λ _. part bytes place n ≡ bytes_at m a n) [
          | inl here ↦
              let past : 0x100000 ≤ a = omega (arith, here.0, lawful.at_least) in
              let same : 0x100000 + (a - high_start top) ≡ place = omega (arith, here.0, at.high past) in
              let from : a - high_start top + high_start top ≡ a = omega (arith, here.0) in
              ap (λ p. part bytes p n) (sym same)
              ∙ sym (part_within bytes 0x100000 0x2000000 (a - high_start top) n (omega (arith, here.0, here.1, lawful.whole, lawful.at_least)))
              ∙ part_high top row.fill low bios high m a n (a - high_start top) is lawful (length_part bytes 0x100000 0x2000000 (omega (arith, size))) from
              here.1 frame
          | inr none ↦ absurd none
        ]
      ]
    ]

-- memories whose lists are the same
same_held : (top fill : ℕ) (low other_low bios other_bios high other_high : List ℕ) → low ≡ other_low → bios ≡ other_bios → high ≡ other_high
    → held top fill low bios high ≡ held top fill other_low other_bios other_high
same_held top fill low other_low bios other_bios high other_high is_low is_bios is_high =
    ap (λ all. held top fill all bios high) is_low ∙ ap (λ all. held top fill other_low all high) is_bios
    ∙ ap (λ all. held top fill other_low other_bios all) is_high

-- what all bytes in a row are once others were put among them
pub put_held : (top : ℕ) (row : Filled) (m : Memory) (a place : ℕ) (bytes : List ℕ) → memory_of top row ≡ m → IsTop top
    → length row.bytes ≡ 0x2100000 → IsRam top a → IsPlaceOf top a place → a % 4096 + length bytes ≤ 4096
    → memory_of top (record row { bytes = put_at row.bytes place bytes }) ≡ with_bytes m a bytes
unfolding parts_of
put_held top row m a place bytes is lawful size ram at fits =
    let all = row.bytes in
    let low = part all 0 0xA0000 in
    let bios = part all 0xE0000 0x20000 in
    let high = part all 0x100000 0x2000000 in
    elim ram as (λ _. memory_of top (record row { bytes = put_at all place bytes }) ≡ with_bytes m a bytes) [
      | inl here ↦
          let same : place - 0 ≡ a = omega (arith, at.low (omega (arith, here.1))) in
          same_held top row.fill _ (put_at low a bytes) _ bios _ high
          (part_put all bytes 0 0xA0000 place (omega arith) (omega (arith, same, here.1)) (omega (arith, size)) ∙ ap (λ p. put_at low p bytes) same)
          (part_past all bytes 0xE0000 0x20000 place (omega (arith, same, here.1)) (omega (arith, size)))
          (part_past all bytes 0x100000 0x2000000 place (omega (arith, same, here.1)) (omega (arith, size)))
          ∙ with_low top row.fill low bios high bytes a (omega (arith, here.1)) here.1 ∙ ap (λ other. with_bytes other a bytes) is
      | inr later ↦ elim later as (λ _. memory_of top (record row { bytes = put_at all place bytes }) ≡ with_bytes m a bytes) [
        | inl here ↦
            let same : place - 0xE0000 ≡ a - 0xE0000 = omega (arith, at.low here.1) in
            let at_place : place ≡ a = at.low here.1 in
            same_held top row.fill _ low _ (put_at bios (a - 0xE0000) bytes) _ high
            (part_before all bytes 0 0xA0000 place (omega (arith, at_place, here.0)) (omega (arith, at_place, here.1, size)))
            (part_put all bytes 0xE0000 0x20000 place (omega (arith, at_place, here.0)) (omega (arith, at_place, here.1)) (omega (arith, size))
            ∙ ap (λ p. put_at bios p bytes) same)
            (part_past all bytes 0x100000 0x2000000 place (omega (arith, at_place, here.1)) (omega (arith, size)))
            ∙ with_bios top row.fill low bios high bytes a here.0 (omega (arith, here.1)) here.1 ∙ ap (λ other. with_bytes other a bytes) is
        | inr last ↦ elim last as (λ _. memory_of top (record row { bytes = put_at all place bytes }) ≡ with_bytes m a bytes) [
          | inl here ↦
              let past : 0x100000 ≤ a = omega (arith, here.0, lawful.at_least) in
              let at_place : place + high_start top ≡ a + 0x100000 = at.high past in
              let same : place - 0x100000 ≡ a - high_start top = omega (arith, at_place, here.0) in
              let ends : a + length bytes ≤ top = omega (arith, here.1, lawful.whole, fits) in
              same_held top row.fill _ low _ bios _ (put_at high (a - high_start top) bytes)
              (part_before all bytes 0 0xA0000 place (omega (arith, at_place, here.0)) (omega (arith, at_place, here.0, ends, size)))
              (part_before all bytes 0xE0000 0x20000 place (omega (arith, at_place, here.0)) (omega (arith, at_place, here.0, ends, size)))
              (part_put all bytes 0x100000 0x2000000 place (omega (arith, at_place, here.0)) (omega (arith, at_place, here.0, ends)) (omega (arith, size))
              ∙ ap (λ p. put_at high p bytes) same)
              ∙ with_high top row.fill low bios high bytes a lawful here.0 ends here.1 ∙ ap (λ other. with_bytes other a bytes) is
          | inr none ↦ absurd none
        ]
      ]
    ]

-- a byte of RAM is one of all bytes in a row
pub at_held : (top : ℕ) (row : Filled) (a place : ℕ) → IsTop top → length row.bytes ≡ 0x2100000 → IsRam top a → IsPlaceOf top a place
    → at (memory_of top row) a ≡ slice_index row.bytes place
at_held top row a place lawful size ram is_place =
    let one = part_held top row (memory_of top row) a 1 place refl lawful size ram is_place (omega arith) in
    sym (ap (λ bytes. slice_index bytes 0) (bytes_at-one (memory_of top row) a)) ∙ sym (ap (λ bytes. slice_index bytes 0) one)
    ∙ part_byte row.bytes place 1 (omega arith)

-- a place is one of all bytes, and as far from the end of its frame as its address
pub place_within : (top a place : ℕ) → IsTop top → IsRam top a → IsPlaceOf top a place → place < 0x2100000
place_within top a place lawful ram is = elim (cases_lt a 0x100000) as (λ _. place < 0x2100000) [
  | inl low ↦ omega (arith, is.low low)
  | inr past ↦ omega (arith, is.high past, in_high top a lawful ram past)
]

pub same_room : (top a place : ℕ) → IsTop top → IsRam top a → IsPlaceOf top a place → place % 4096 ≡ a % 4096
same_room top a place lawful ram is = elim (cases_lt a 0x100000) as (λ _. place % 4096 ≡ a % 4096) [
  | inl low ↦ ap (λ p. p % 4096) (is.low low)
  | inr past ↦ omega (arith, is.high past, lawful.whole, lawful.at_least)
]

-- what holds of each of all bytes in a row holds of the one at each address of RAM
pub each_held : (P : ℕ → Type 0) (top : ℕ) (row : Filled) → IsTop top → length row.bytes ≡ 0x2100000
    → ((place : ℕ) → place < 0x2100000 → P (slice_index row.bytes place)) → (a : ℕ) → IsRam top a → P (at (memory_of top row) a)
each_held P top row lawful size each a ram = elim (cases_lt a 0x100000) as (λ _. P (at (memory_of top row) a)) [
  | inl low ↦
      let is : IsPlaceOf top a a = record { low = λ _. refl; high = λ past. absurd (omega arith) } in
      subst P (sym (at_held top row a a lawful size ram is)) (each a (place_within top a a lawful ram is))
  | inr past ↦
      let place = a - high_start top + 0x100000 in
      let is : IsPlaceOf top a place = record { low = λ low. absurd (omega arith); high = λ _. omega (arith, in_high top a lawful ram past) } in
      subst P (sym (at_held top row a place lawful size ram is)) (each place (place_within top a place lawful ram is))
]

-- where all bytes in a row have those of a frame
pub frame_place : (top frame i : ℕ) → IsTop top → i < 4096 → IsPlaceOf top (frame_start top frame + i) (frame * 4096 + i)
frame_place top frame i lawful within = elim (cases_lt frame 256) as (λ _. IsPlaceOf top (frame_start top frame + i) (frame * 4096 + i)) [
  | inl low ↦
      let start : frame_start top frame ≡ frame * 4096 = ap (λ (b : Bool). if b then frame * 4096 else high_start top + (frame - 256) * 4096)
      (lt-ltb frame 256 low) in
      record { low = λ _. omega (arith, start); high = λ past. absurd (omega (arith, start)) }
  | inr later ↦
      let start : frame_start top frame ≡ high_start top + (frame - 256) * 4096 =
      ap (λ (b : Bool). if b then frame * 4096 else high_start top + (frame - 256) * 4096) (le-ltb frame 256 later) in
      record { low = λ below. absurd (omega (arith, start, lawful.at_least)); high = λ _. omega (arith, start, lawful.at_least) }
]
