-- Parts of texts.
use Rattle.std.proofs.Common.{◌≡◌, ℕ, zero, suc, ◌<◌, false, List, [], ◌∷◌, arith, drop, length}
use Rattle.std.proofs.Common.{refl}
use Rattle.star_operators.specs.Members.{begins_with, has_part}

-- a part that goes on where the text has ended
pub begins_longer : (part text : List ℕ) (index : ℕ)
    → index < length part
    → length text < 1
    → begins_with (drop index part) text ≡ false
begins_longer (first ∷ part) [] zero within none = refl
begins_longer (first ∷ part) [] (suc index) within none =
    begins_longer part [] index (omega arith) none
begins_longer [] text index within none = absurd (omega arith)
begins_longer (first ∷ part) (other ∷ text) index within none = absurd (omega arith)

pub has_part_ended : (part text : List ℕ)
    → length text < 1
    → has_part part text ≡ begins_with part []
has_part_ended part [] none = refl
has_part_ended part (first ∷ text) none = absurd (omega arith)
