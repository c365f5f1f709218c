-- The arguments by name that are no parameter's, one more at a time.
use Rattle.std.proofs.Common.{◌≡◌, ◌∙◌, ap, sym, arith, ℕ, suc, ◌+◌, ◌<◌, List, length, drop, drop-cons}
use Rattle.std.proofs.Common.{get_or}
use Rattle.star_core.specs.declared.values.NamedVal.{NamedVal}
use Rattle.star_meaning.specs.Parameters.{other_behind, others_behind}
use Rattle.star_meaning.specs.declared.arguments.Formal.{Formal}

plus_one : (n : ℕ) → n + 1 ≡ suc n
plus_one n = omega arith

pub one_more : (formals : List Formal) (named others : List NamedVal) (index : ℕ) (item : NamedVal)
    → index < length named
    → item ≡ get_or named index item
    → others_behind formals (other_behind formals others item) (drop (index + 1) named)
    ≡ others_behind formals others (drop index named)
one_more formals named others index item within at =
    ap (λ n. others_behind formals (other_behind formals others item) (drop n named))
    (plus_one index)
    ∙ ap (λ x. others_behind formals (other_behind formals others x) (drop (suc index) named)) at
    ∙ sym (ap (others_behind formals others) (drop-cons named index item within))
