-- The values and devices of a DSDT as parts that can be written.
use Rattle.std.proofs.Common.{◌≡◌, ℕ, suc, ◌+◌, ◌*◌, ◌^◌, ◌<◌, ◌≤◌, true, ◌&&◌, ◌==◌, nat_le, nat_lt, List, [], ◌∷◌, length, codes, refl, sym}
use Rattle.std.proofs.Common.{arith, subst, length-append, ltb-true, ltb-false}
use Rattle.std.proofs.lemmas.Bool.{cond_both, le-leb, or_left, or_right, and_from, and_parts, leb-true}
use Rattle.std.specs.List.{flat_map, list_all, AllByRecursion}
use Rattle.aml_terms.specs.declared.term.Term.{Term}
use Rattle.aml_terms.specs.declared.term.Term.TheVariants.{Int, Buffer, Package}
use Rattle.aml_terms.specs.Trees.{view}
use Rattle.aml_terms.specs.Paths.{is_lead_char, is_name_char, IsSegment}
use Rattle.aml_terms.specs.Grammar.{IsChar}
use Rattle.aml_terms.specs.WellFormed.{IsGood, IsGoodValue}
use Rattle.aml_terms.specs.Written.{most_enclosed}
use Rattle.resource_items.specs.declared.resource_item.ResourceItem.{ResourceItem}
use Rattle.resource_items.specs.declared.resource_item.ResourceItem.TheVariants.{Port, Irq, Memory, Word, Dword, Qword}
use Rattle.resource_items.specs.Templates.{item_bytes, end_tag, template_of}
use Rattle.dsdt_terms.specs.Names.{path_to, name, device, resources}
use Rattle.dsdt_terms.specs.Devices.{hex_digit}
use Rattle.dsdt_terms.proofs.Limits.{item_size}
use Rattle.dsdt_terms.proofs.Sizes.{integer-most, integer-small}
use Rattle.dsdt_terms.proofs.Views.{view-int, view-buffer, view-package, view-named, view-device}
use Rattle.dsdt_terms.proofs.WrittenParts.{Premises, IsPart, AreParts, int_part, buffer_part, package_part, name_part, device_part}

-- each character of a name that is given passes its test
pub four_true : (true ≡ true) × ((true ≡ true) × ((true ≡ true) × ((true ≡ true) × Unit {0})))
four_true = (refl, (refl, (refl, (refl, tt))))

-- and so does each one of a text
pub is_text : (text : List ℕ) → list_all (λ c. nat_le 1 c && nat_lt c 0x80) text ≡ true → AllByRecursion IsChar text
is_text [] all = tt
is_text (c ∷ text) all =
    let both = and_parts (nat_le 1 c && nat_lt c 0x80) (list_all (λ c. nat_le 1 c && nat_lt c 0x80) text) all in
    let bounds = and_parts (nat_le 1 c) (nat_lt c 0x80) both.0 in
    ((leb-true 1 c bounds.0, ltb-true c 0x80 bounds.1), is_text text both.1)

-- a value with a name
pub named_part : (P : Premises) (room most : ℕ) (segment : List ℕ) (value : Term) → IsSegment segment → IsPart IsGoodValue P room most (view value)
    → IsPart IsGood P room (most + 5) (view (name segment value))
named_part P room most segment value is part =
    subst (IsPart IsGood P room (most + 5)) (sym (view-named (path_to segment) value)) (name_part P room most segment (view value) is part)

-- an integer, and one of at most two bytes
pub number : (P : Premises) (room n : ℕ) → (P.fit → n < 2 ^ 64) → IsPart IsGoodValue P room 9 (view (Int n))
number P room n fits = subst (IsPart IsGoodValue P room 9) (sym (view-int n)) (int_part P room 9 n fits (integer-most n))

pub small_number : (P : Premises) (room n : ℕ) → n < 0x10000 → IsPart IsGoodValue P room 3 (view (Int n))
small_number P room n small =
    subst (IsPart IsGoodValue P room 3) (sym (view-int n)) (int_part P room 3 n (λ fit. omega arith) (integer-small n small))

-- a package of values
pub packed : (P : Premises) (room most : ℕ) (values : List Term) → length values < 256 → AreParts IsGoodValue P room most values
    → most + 1 ≤ most_enclosed → IsPart IsGoodValue P (suc room) (most + 6) (view (Package values))
packed P room most values few parts enclosed =
    subst (IsPart IsGoodValue P (suc room) (most + 6)) (sym (view-package values)) (package_part P room most values few parts enclosed)

-- no item is longer than the longest
item-most : (item : ResourceItem) → length (item_bytes item) ≤ item_size
item-most (Port p) = omega arith
item-most (Irq i) = omega arith
item-most (Memory m) = omega arith
item-most (Word s) = omega arith
item-most (Dword s) = omega arith
item-most (Qword s) = omega arith

items-most : (items : List ResourceItem) → length (flat_map item_bytes items) ≤ item_size * length items
items-most [] = omega arith
items-most (item ∷ items) = omega (arith, item-most item, items-most items, length-append (item_bytes item) (flat_map item_bytes items))

-- what a device takes and hands on, in so many items
pub resources_part : (P : Premises) (room most : ℕ) (items : List ResourceItem) → length items ≤ most → item_size * most + 11 ≤ most_enclosed
    → IsPart IsGood P (suc room) (item_size * most + 21) (view (resources items))
resources_part P room most items few enclosed =
    let bytes : List ℕ = template_of items in
    let short : length bytes ≤ item_size * most + 2 = omega (arith, items-most items, length-append (flat_map item_bytes items) end_tag, few) in
    let content = subst (IsPart IsGoodValue P (suc room) (item_size * most + 2 + 14)) (sym (view-buffer bytes))
    (buffer_part P room (item_size * most + 2) bytes short (omega (arith, enclosed))) in
    let part = named_part P (suc room) (item_size * most + 2 + 14) (codes "_CRS") (Buffer bytes) four_true content in
    let same : item_size * most + 2 + 14 + 5 ≡ item_size * most + 21 = omega arith in
    subst (λ size. IsPart IsGood P (suc room) size (view (resources items))) same part

-- a device
pub whole_device : (P : Premises) (room most : ℕ) (segment : List ℕ) (values : List Term) → IsSegment segment → AreParts IsGood P room most values
    → most + 4 ≤ most_enclosed → IsPart IsGood P (suc room) (most + 10) (view (device segment values))
whole_device P room most segment values is parts enclosed =
    subst (IsPart IsGood P (suc room) (most + 10)) (sym (view-device (path_to segment) values))
    (device_part P room most segment values is parts enclosed)

-- the numbers of serial ports, and the digits of processors' numbers, are characters of names
pub number_char : (place : ℕ) → place < 4 → is_name_char (0x31 + place) ≡ true
number_char place few =
    or_right (is_lead_char (0x31 + place)) (nat_le 0x30 (0x31 + place) && nat_le (0x31 + place) 0x39)
    (and_from (nat_le 0x30 (0x31 + place)) (nat_le (0x31 + place) 0x39) (le-leb 0x30 (0x31 + place) (omega arith))
    (le-leb (0x31 + place) 0x39 (omega arith)))

pub hex_char : (digit : ℕ) → digit < 16 → is_name_char (hex_digit digit) ≡ true
hex_char digit few =
    cond_both (nat_lt digit 10) (0x30 + digit) (0x37 + digit) (λ c. is_name_char c ≡ true)
    (λ t. let below : digit < 10 = ltb-true digit 10 t in
    or_right (is_lead_char (0x30 + digit)) (nat_le 0x30 (0x30 + digit) && nat_le (0x30 + digit) 0x39)
    (and_from (nat_le 0x30 (0x30 + digit)) (nat_le (0x30 + digit) 0x39) (le-leb 0x30 (0x30 + digit) (omega arith))
    (le-leb (0x30 + digit) 0x39 (omega arith))))
    (λ t. let above : 10 ≤ digit = ltb-false digit 10 t in
    or_left (is_lead_char (0x37 + digit)) (nat_le 0x30 (0x37 + digit) && nat_le (0x37 + digit) 0x39)
    (or_left (nat_le 0x41 (0x37 + digit) && nat_le (0x37 + digit) 0x5A) (0x37 + digit == 0x5F)
    (and_from (nat_le 0x41 (0x37 + digit)) (nat_le (0x37 + digit) 0x5A) (le-leb 0x41 (0x37 + digit) (omega arith))
    (le-leb (0x37 + digit) 0x5A (omega arith)))))
