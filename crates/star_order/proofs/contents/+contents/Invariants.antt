use Rattle.std.proofs.Common.{◌≡◌, ◌+◌, ◌*◌, drop, Ok, string_bytes}
use Rattle.star_core.specs.Contents.{behind, content_within, each_content}
use Rattle.star_order.proofs.contents.+contents.Given as goal

abbrev pub decreases-content_within : goal.decreases-content_within
decreases-content_within l = 8 * l.depth + 5

abbrev pub decreases-value_content : goal.decreases-value_content
decreases-value_content l = 8 * l.depth + 4

abbrev pub decreases-cell_content : goal.decreases-cell_content
decreases-cell_content l = 8 * l.depth + 3

abbrev pub decreases-tuple_content : goal.decreases-tuple_content
decreases-tuple_content l = 8 * l.depth + 2

abbrev pub decreases-closed_content : goal.decreases-closed_content
decreases-closed_content l = 8 * l.depth + 7

abbrev pub decreases-each_content : goal.decreases-each_content
decreases-each_content l = 8 * l.depth + 6

abbrev pub invariant-each_content-writing : goal.invariant-each_content-writing
invariant-each_content-writing l =
    behind (Ok (string_bytes l.out))
    (each_content (content_within l.depth l.heap) (drop l.item-index l.items))
    ≡ behind (Ok (string_bytes l.fn.out)) (each_content (content_within l.depth l.heap) l.items)
