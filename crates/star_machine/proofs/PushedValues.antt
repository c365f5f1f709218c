-- Values that are put on a stack one by one, the last first.
use Rattle.std.proofs.Common.{◌≡◌, ◌∙◌, ap, refl, sym, arith, ℕ, suc, ◌-◌, ◌<◌, List, ◌∷◌, ◌++◌}
use Rattle.std.proofs.Common.{drop, drop-cons, get_or, length}
use Rattle.std.proofs.Math.Seq.{drop-length}
use Rattle.star_core.specs.declared.values.Val.{Val}

one_less : (left : ℕ) → 0 < left → left ≡ suc (left - 1)
one_less left some = omega arith

pub one_more : (values below stack new : List Val) (left : ℕ) (other : Val)
    → 0 < left
    → left - 1 < length values
    → stack ≡ drop left values ++ below
    → new ≡ get_or values (left - 1) other ∷ stack
    → new ≡ drop (left - 1) values ++ below
one_more values below stack new left other some within pushed last =
    last ∙ ap (λ rest. get_or values (left - 1) other ∷ rest)
    (pushed ∙ ap (λ count. drop count values ++ below) (one_less left some))
    ∙ ap (λ front. front ++ below) (sym (drop-cons values (left - 1) other within))

pub none_yet : (values below : List Val) → below ≡ drop (length values) values ++ below
none_yet values below = rw (drop-length values) refl
