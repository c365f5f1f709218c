use Rattle.std.proofs.Common.{◌≡◌, ◌+◌, ◌*◌, drop}
use Rattle.star_order.specs.Equality.{entries_equal, equal_within, fields_equal, items_equal}
use Rattle.star_order.proofs.equality.+equality.Given as goal

abbrev pub decreases-equal_within : goal.decreases-equal_within
decreases-equal_within l = 16 * l.depth + 9

abbrev pub decreases-values_equal : goal.decreases-values_equal
decreases-values_equal l = 16 * l.depth + 8

abbrev pub decreases-held_equal : goal.decreases-held_equal
decreases-held_equal l = 16 * l.depth + 7

abbrev pub decreases-cells_equal : goal.decreases-cells_equal
decreases-cells_equal l = 16 * l.depth + 6

abbrev pub decreases-list_equal : goal.decreases-list_equal
decreases-list_equal l = 16 * l.depth + 5

abbrev pub decreases-tuple_equal : goal.decreases-tuple_equal
decreases-tuple_equal l = 16 * l.depth + 5

abbrev pub decreases-dict_equal : goal.decreases-dict_equal
decreases-dict_equal l = 16 * l.depth + 5

abbrev pub decreases-struct_equal : goal.decreases-struct_equal
decreases-struct_equal l = 16 * l.depth + 5

abbrev pub decreases-lists_equal : goal.decreases-lists_equal
decreases-lists_equal l = 16 * l.depth + 4

abbrev pub decreases-dicts_equal : goal.decreases-dicts_equal
decreases-dicts_equal l = 16 * l.depth + 4

abbrev pub decreases-structs_equal : goal.decreases-structs_equal
decreases-structs_equal l = 16 * l.depth + 4

abbrev pub decreases-items_equal : goal.decreases-items_equal
decreases-items_equal l = 16 * l.depth + 11

abbrev pub decreases-entries_equal : goal.decreases-entries_equal
decreases-entries_equal l = 16 * l.depth + 11

abbrev pub decreases-fields_equal : goal.decreases-fields_equal
decreases-fields_equal l = 16 * l.depth + 11

abbrev pub decreases-found_equal : goal.decreases-found_equal
decreases-found_equal l = 16 * l.depth + 10

abbrev pub invariant-items_equal-comparing : goal.invariant-items_equal-comparing
invariant-items_equal-comparing l =
    items_equal (equal_within l.depth l.heap) (drop l.item-index l.items) l.rest
    ≡ items_equal (equal_within l.depth l.heap) l.items l.others

abbrev pub invariant-entries_equal-comparing : goal.invariant-entries_equal-comparing
invariant-entries_equal-comparing l =
    entries_equal (equal_within l.depth l.heap) (drop l.index l.dict) l.other
    ≡ entries_equal (equal_within l.depth l.heap) l.dict l.other

abbrev pub invariant-fields_equal-comparing : goal.invariant-fields_equal-comparing
invariant-fields_equal-comparing l =
    fields_equal (equal_within l.depth l.heap) (drop l.field-index l.fields) l.others
    ≡ fields_equal (equal_within l.depth l.heap) l.fields l.others
