-- The keys of a table, and the elements of an array, one after the other, as loops take them.
use Rattle.std.proofs.Common.{◌≡◌, ℕ, suc, ◌+◌, ◌<◌, ◌≤◌, List, [], ◌∷◌, length, get_or, drop, Ok, refl, ap}
use Rattle.std.proofs.lemmas.List.{drop_more, drop_all}
use Rattle.vt_outside.specs.Readings.{IsFaultOf}
use Rattle.desc_schema.specs.Faults.{reported}
use Rattle.toml.specs.Data.{Members}
use Rattle.toml.specs.View.{view, items_view}
use Rattle.toml.specs.declared.value.Value.{Value as Node}
use Rattle.desc_schema.specs.declared.schema.Key.{Key}
use Rattle.desc_schema.specs.declared.value.Value.{Value}
use Rattle.desc_schema.specs.declared.fault.Place.{Place}
use Rattle.desc_schema.specs.declared.fault.KeyPlace.{KeyPlace}
use Rattle.desc_schema.specs.declared.fault.WalkError.{WalkError}
use Rattle.desc_schema.specs.Form.{Form, field_of, fields_of}
use Rattle.desc_schema.specs.Single.{value_of}
use Rattle.desc_schema.specs.Walk.{Part, Inner, after, one, element, elements, singles, at_field, at_fields, count_of}
use Rattle.desc_schema.proofs.Parts.{goes_on, stops, is_done}

pub fields_go_on : (front new : List Value) (before next : List ℕ) (inner : Inner) (place : Place) (i : ℕ) (keys : List Key) (key : Key) (table : Members)
    (total : Part) → i < length keys
    → after front (at_field inner place (field_of (get_or keys i key)) table before) ≡ Ok (new, next)
    → after front (at_fields inner place (fields_of (drop i keys)) table before) ≡ total
    → after new (at_fields inner place (fields_of (drop (i + 1) keys)) table next) ≡ total
unfolding at_fields
fields_go_on front new before next inner place i keys key table total within is so_far =
    goes_on front new (at_field inner place (field_of (get_or keys i key)) table before)
    (at_fields inner place (fields_of (drop (i + 1) keys)) table) next total is
    (rw (drop_more keys i key within) at so_far)

pub fields_stop : (error : WalkError) (front : List Value) (before : List ℕ) (inner : Inner) (place : Place) (i : ℕ) (keys : List Key) (key : Key)
    (table : Members) (total : Part) → i < length keys
    → IsFaultOf (reported error) (after front (at_field inner place (field_of (get_or keys i key)) table before))
    → after front (at_fields inner place (fields_of (drop i keys)) table before) ≡ total → IsFaultOf (reported error) total
unfolding at_fields
fields_stop error front before inner place i keys key table total within fails so_far =
    stops error front (at_field inner place (field_of (get_or keys i key)) table before)
    (at_fields inner place (fields_of (drop (i + 1) keys)) table) total fails
    (rw (drop_more keys i key within) at so_far)

pub fields_done : (front : List Value) (before : List ℕ) (inner : Inner) (place : Place) (i : ℕ) (keys : List Key) (table : Members) (total : Part)
    → length keys ≤ i
    → after front (at_fields inner place (fields_of (drop i keys)) table before) ≡ total → total ≡ Ok (front, before)
unfolding at_fields
fields_done front before inner place i keys table total le so_far = is_done front before total (rw (drop_all i keys le) at so_far)

-- the same over the tables of an array
pub elements_go_on : (front new : List Value) (before next : List ℕ) (inner : Inner) (at : KeyPlace) (table i : ℕ) (nodes : List Node) (node : Node)
    (total : Part) → i < length nodes
    → node ≡ get_or nodes i node → after front (element inner at table (view node) before) ≡ Ok (new, next)
    → after front (elements inner at table (items_view (drop i nodes)) before) ≡ total
    → after new (elements inner at table (items_view (drop (i + 1) nodes)) next) ≡ total
unfolding elements
elements_go_on front new before next inner at table i nodes node total within read is so_far =
    goes_on front new (element inner at table (view node) before) (elements inner at table (items_view (drop (i + 1) nodes))) next total is
    (rw (drop_more nodes i node within, ← read) at so_far)

pub elements_stop : (error : WalkError) (front : List Value) (before : List ℕ) (inner : Inner) (at : KeyPlace) (table i : ℕ) (nodes : List Node)
    (node : Node) (total : Part) → i < length nodes
    → node ≡ get_or nodes i node → IsFaultOf (reported error) (after front (element inner at table (view node) before))
    → after front (elements inner at table (items_view (drop i nodes)) before) ≡ total → IsFaultOf (reported error) total
unfolding elements
elements_stop error front before inner at table i nodes node total within read fails so_far =
    stops error front (element inner at table (view node) before) (elements inner at table (items_view (drop (i + 1) nodes))) total fails
    (rw (drop_more nodes i node within, ← read) at so_far)

pub elements_done : (front : List Value) (before : List ℕ) (inner : Inner) (at : KeyPlace) (table i : ℕ) (nodes : List Node) (total : Part) → length nodes ≤ i
    → after front (elements inner at table (items_view (drop i nodes)) before) ≡ total → total ≡ Ok (front, before)
unfolding elements
elements_done front before inner at table i nodes total le so_far = is_done front before total (rw (drop_all i nodes le) at so_far)

-- the same over single values
pub singles_go_on : (front new : List Value) (before next : List ℕ) (at : KeyPlace) (form : Form) (i : ℕ) (nodes : List Node) (node : Node) (total : Part)
    → i < length nodes
    → node ≡ get_or nodes i node → after front (one (value_of at form (view node)) before) ≡ Ok (new, next)
    → after front (singles at form (items_view (drop i nodes)) before) ≡ total → after new (singles at form (items_view (drop (i + 1) nodes)) next) ≡ total
unfolding singles
singles_go_on front new before next at form i nodes node total within read is so_far =
    goes_on front new (one (value_of at form (view node)) before) (singles at form (items_view (drop (i + 1) nodes))) next total is
    (rw (drop_more nodes i node within, ← read) at so_far)

pub singles_stop : (error : WalkError) (front : List Value) (before : List ℕ) (at : KeyPlace) (form : Form) (i : ℕ) (nodes : List Node) (node : Node)
    (total : Part) → i < length nodes
    → node ≡ get_or nodes i node → IsFaultOf (reported error) (after front (one (value_of at form (view node)) before))
    → after front (singles at form (items_view (drop i nodes)) before) ≡ total → IsFaultOf (reported error) total
unfolding singles
singles_stop error front before at form i nodes node total within read fails so_far =
    stops error front (one (value_of at form (view node)) before) (singles at form (items_view (drop (i + 1) nodes))) total fails
    (rw (drop_more nodes i node within, ← read) at so_far)

pub singles_done : (front : List Value) (before : List ℕ) (at : KeyPlace) (form : Form) (i : ℕ) (nodes : List Node) (total : Part) → length nodes ≤ i
    → after front (singles at form (items_view (drop i nodes)) before) ≡ total → total ≡ Ok (front, before)
unfolding singles
singles_done front before at form i nodes total le so_far = is_done front before total (rw (drop_all i nodes le) at so_far)

pub count_of-view : (nodes : List Node) → count_of (items_view nodes) ≡ length nodes
count_of-view [] = refl
count_of-view (node ∷ nodes) = ap suc (count_of-view nodes)
