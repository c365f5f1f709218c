-- Values of parameters, one by one.
use Rattle.std.proofs.Common.{◌≡◌, List, [], ◌∷◌, ◌++◌, Option, Ok, Err, ap, refl}
use Rattle.std.proofs.Common.{append_assoc, sym}
use Rattle.star_core.specs.declared.values.Val.{Val}
use Rattle.star_library.specs.Arguments.{AllBound, with_first}

-- values in front of others
abbrev pub in_front : List (Option Val) → AllBound → AllBound
in_front values (Ok more) = Ok (values ++ more)
in_front values (Err reason) = Err reason

pub in_front-with_first : (values : List (Option Val)) (value : Option Val) (more : AllBound)
    → in_front values (with_first (Ok value) more) ≡ in_front (values ++ value ∷ []) more
in_front-with_first values value (Ok more) = ap Ok (sym (append_assoc values (value ∷ []) more))
in_front-with_first values value (Err reason) = refl

pub in_front-nil : (more : AllBound) → in_front [] more ≡ more
in_front-nil (Ok more) = refl
in_front-nil (Err reason) = refl
