-- Lists that repeat.
use Rattle.std.proofs.Common.{◌≡◌, ℕ, zero, suc, ◌+◌, List, [], ◌∷◌, ◌++◌, refl, ap, sym, ◌∙◌}
use Rattle.std.proofs.Common.{add-one, append_assoc, arith, length}
use Rattle.star_operators.specs.Binary.{times}

pub times_none : {A : Type 0} (items : List A) → times 0 items ≡ []
unfolding times
times_none items = refl

append_nil : {A : Type 0} (items : List A) → items ++ [] ≡ items
append_nil [] = refl
append_nil (item ∷ items) = ap (λ one. item ∷ one) (append_nil items)

-- one more time behind the others
times_more : {A : Type 0} (count : ℕ) (items : List A)
    → times count items ++ items ≡ times (suc count) items
unfolding times
times_more zero items = sym (append_nil items)
times_more (suc count) items =
    append_assoc items (times count items) items
    ∙ ap (λ one. items ++ one) (times_more count items)

pub times_again : {A : Type 0} (count : ℕ) (items made : List A)
    → made ≡ times count items
    → made ++ items ≡ times (count + 1) items
times_again count items made is =
    ap (λ one. one ++ items) is ∙ times_more count items
    ∙ ap (λ (one : ℕ). times one items) (sym (add-one count))

pub times_of_none : {A : Type 0} (count : ℕ) (items : List A)
    → length items ≡ 0
    → times count items ≡ []
unfolding times
times_of_none zero items none = refl
times_of_none (suc count) [] none = times_of_none count [] none
times_of_none (suc count) (item ∷ items) none = absurd (omega arith)
