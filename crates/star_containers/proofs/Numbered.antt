-- Items by their numbers.
use Rattle.std.proofs.Common.{◌≡◌, ℕ, ℤ, ◌+◌, ◌<◌, List, [], ◌∷◌, ◌++◌, add-one, ap, append_assoc}
use Rattle.std.proofs.Common.{drop}
use Rattle.std.proofs.Common.{drop-cons, get_or, length, map, refl, slice_get, unsigned_abs, ◌∙◌}
use Rattle.std.specs.Option.{option_to_list}
use Rattle.star_core.specs.declared.values.Val.{Val}
use Rattle.star_core.specs.declared.values.Val.TheVariants as val
use Rattle.star_containers.specs.Slicing.{items_at, items_numbered, numbered}

pub numbered_at : {A : Type 0} (items : List A) (indexes : List ℤ)
    → items_numbered items (map val.Int indexes) ≡ items_at items indexes
numbered_at items [] = refl
numbered_at items (index ∷ indexes) =
    ap (λ rest. option_to_list (slice_get items (unsigned_abs index)) ++ rest)
    (numbered_at items indexes)

-- the items so far with one more, before those that are left
pub numbered_on : {A : Type 0} (items found whole : List A) (indexes : List Val) (place : ℕ)
    → place < length indexes
    → found ++ items_numbered items (drop place indexes) ≡ whole
    → (found ++ option_to_list (numbered items (get_or indexes place val.None)))
    ++ items_numbered items (drop (place + 1) indexes) ≡ whole
numbered_on items found whole indexes place within is =
    append_assoc found (option_to_list (numbered items (get_or indexes place val.None)))
    (items_numbered items (drop (place + 1) indexes))
    ∙ (rw (add-one) (rw (drop-cons indexes place val.None) at is))
