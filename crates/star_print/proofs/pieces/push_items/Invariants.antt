use Rattle.std.proofs.Common.{◌≡◌, ◌++◌, [], ◌∷◌, take}
use Rattle.std.specs.List.{flat_map}
use Rattle.star_print.specs.Forms.{item_pieces}
use Rattle.star_print.specs.declared.forms.Piece.TheVariants as piece
use Rattle.star_print.proofs.pieces.push_items.Given as goal

abbrev pub invariant-listing : goal.invariant-listing
invariant-listing l =
    l.pieces.items ≡ l.initial.pieces.items
    ++ flat_map (λ item. piece.Comma ∷ [] ++ item_pieces item) (take l.item-index l.items)
