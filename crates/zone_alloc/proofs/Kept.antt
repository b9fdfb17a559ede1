-- A range that is handed out is kept.
use Rattle.std.proofs.Common.{ℕ, ◌<◌, List, [], ◌∷◌, ◌++◌, map, arith}
use Rattle.std.specs.List.{AllByRecursion, insert}
use Rattle.std.proofs.lemmas.List.{length_push}
use Rattle.std.proofs.lemmas.List.Edits.{length-insert}
use Rattle.vt_outside.specs.Placement.{Apart}
use Rattle.zone_alloc.specs.declared.searching.AddressRange.{AddressRange}
use Rattle.zone_alloc.specs.Ranges.{range_of, AreKept, IsPlaceInOrder}
use Rattle.zone_alloc.proofs.Order.{put_in_order, alike_put}

pub kept_with : (x : AddressRange) (in_turn by_address : List AddressRange) (index : ℕ) → AreKept in_turn by_address → x.start < x.end
    → AllByRecursion (Apart (range_of x)) (map range_of in_turn) → IsPlaceInOrder x.start by_address index
    → AreKept (in_turn ++ x ∷ []) (insert by_address index x)
kept_with x in_turn by_address index kept some apart place = record {
  ordered = put_in_order x by_address index kept.ordered some ((kept.alike (range_of x)).0 apart) place;
  alike = λ range. alike_put (Apart range) in_turn by_address index x (kept.alike range);
  as_many = omega (arith, length_push in_turn x, length-insert by_address index x place.0, kept.as_many);
}
