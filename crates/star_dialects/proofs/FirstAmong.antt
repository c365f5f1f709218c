-- The first among items, one by one.
use Rattle.std.proofs.Common.{◌≡◌, ℕ, ◌+◌, ◌<◌, List, ◌∷◌, Option, length, get_or, drop, map, ap}
use Rattle.std.specs.Option.{option_or}
use Rattle.bz_text.proofs.ListWalks.{drop-next}
use Rattle.star_dialects.specs.Forms.{first_among}
use Rattle.star_dialects.specs.declared.forms.Refused.{Refused}

pub first_among-drop : {A B : Type 0} (of : B → Option Refused) (part : A → B) (xs : List A) (i : ℕ)
    (x : A)
    → i < length xs
    → x ≡ get_or xs i x
    → first_among of (map part (drop i xs))
    ≡ option_or (of (part x)) (first_among of (map part (drop (i + 1) xs)))
first_among-drop of part xs i x below is =
    ap (λ l. first_among of (map part l)) (drop-next xs i x below is)

pub ruleset one_by_one = (first_among-drop)
