-- A piece of the files' bytes, taken file by file.
use Rattle.std.proofs.Common.{◌≡◌, ℕ, suc, ◌<◌, ◌≤◌, false, List, [], ◌∷◌, ◌++◌, length, Ok, Err}
use Rattle.std.proofs.Common.{arith, sym, ap, ◌∙◌, inl, append_assoc}
use Rattle.std.specs.Prelude.{◌==◌}
use Rattle.std.proofs.lemmas.List.{append-nil, take_all, length-append}
use Rattle.cfg_directory.specs.declared.item.Item.{Item}
use Rattle.cfg_directory.specs.declared.held.Held.{Held}
use Rattle.cfg_directory.specs.declared.container.ImageFault.TheVariants.{Truncated, TrailingBytes}
use Rattle.cfg_directory.specs.Container.{read_so}
use Rattle.cfg_directory.specs.Held.{Gathers, LacksBytes, IsRefusal, bytes_of, contents_of, sizes_of}
use Rattle.cfg_directory.proofs.Refusals.{judged_fault}
use Rattle.cfg_directory.proofs.Heads.{contents_lack, contents_whole, contents_over}
use Rattle.cfg_directory.proofs.Files.{sizes_front}

-- behind the last file all are whole
pub all_whole : (held : Held) → (gathers : Gathers held) → length held.listed ≤ held.next → length (contents_of held.items) ≡ sizes_of held.listed
all_whole held gathers past =
    let before = ap sizes_of (take_all held.next held.listed past) in
    omega (arith, before, gathers.begun, gathers.within, sizes_front held.listed (suc held.next))

-- and what is left is too much
pub left_over : (held : Held) (left bytes : List ℕ) → Gathers held → bytes_of held ++ left ≡ bytes → length held.listed ≤ held.next → 0 < length left
    → IsRefusal bytes TrailingBytes
left_over held left bytes gathers joined past some =
    let contents = contents_of held.items in
    let over : sizes_of held.listed < length (contents ++ left) = omega (arith, all_whole held gathers past, length-append contents left) in
    inl (judged_fault bytes TrailingBytes
    (ap read_so (sym joined ∙ append_assoc held.head contents left) ∙ gathers.opens.says (contents ++ left)
    ∙ contents_over held.listed gathers.flags (contents ++ left) gathers.opens.small over) (λ late. cc))

pub nothing_left : (bytes left all : List ℕ) → bytes ++ left ≡ all → left ≡ [] → bytes ≡ all
nothing_left bytes left all joined none = sym (append-nil bytes) ∙ sym (ap (λ (rest : List ℕ). bytes ++ rest) none) ∙ joined

-- ---- what is read in the end

pub read_lacks : (held : Held) → Gathers held → LacksBytes held → held.next < length held.listed → read_so (bytes_of held) ≡ Err Truncated
read_lacks held gathers lacks some =
    gathers.opens.says (contents_of held.items)
    ∙ contents_lack held.listed gathers.flags (contents_of held.items) gathers.opens.small
    (omega (arith, lacks some, sizes_front held.listed (suc held.next)))

pub read_whole : (held : Held) → Gathers held → length held.listed ≤ held.next → read_so (bytes_of held) ≡ Ok held.items
read_whole held gathers past =
    gathers.opens.says (contents_of held.items)
    ∙ contents_whole held.listed gathers.flags (contents_of held.items) gathers.opens.small (all_whole held gathers past)
    ∙ ap (λ (items : List Item). Ok items) (sym gathers.items)

pub some_left : (bytes : List ℕ) → (length bytes == 0) ≡ false → 0 < length bytes
some_left [] is = absurd cc
some_left (byte ∷ bytes) is = omega arith
