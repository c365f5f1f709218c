-- Whether a call of a function is running doesn't depend on the order of those that run.
use Rattle.std.proofs.Common.{◌≡◌, ◌∙◌, ap, refl, sym, Bool, true, false, List, [], ◌∷◌}
use Rattle.std.proofs.Common.{◌||◌, reverse}
use Rattle.std.specs.List.{list_any}
use Rattle.std.proofs.lemmas.List.Folds.{list_any-append}
use Rattle.std.proofs.lemmas.List.{reverse-append}
use Rattle.star_meaning.specs.Calls.{is_running, is_same}
use Rattle.star_meaning.specs.declared.reasons.Running.{Running}

either-order : (one other : Bool) → (one || other) ≡ (other || (one || false))
either-order true true = refl
either-order true false = refl
either-order false true = refl
either-order false false = refl

any-reverse : {X : Type 0} (p : X → Bool) (xs : List X) → list_any p xs ≡ list_any p (reverse xs)
any-reverse p [] = refl
any-reverse p (x ∷ xs) =
    ap (λ rest. p x || rest) (any-reverse p xs) ∙ either-order (p x) (list_any p (reverse xs))
    ∙ sym (list_any-append p (reverse xs) (x ∷ []))
    ∙ ap (list_any p) (sym (reverse-append (x ∷ []) xs))

pub any_running : (function : Running) (items running : List Running)
    → reverse items ≡ running
    → list_any (is_same function) items ≡ is_running function running
unfolding is_running
any_running function items running is =
    any-reverse (is_same function) items ∙ ap (list_any (is_same function)) is
