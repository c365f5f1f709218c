-- The topmost operands.
use Rattle.std.proofs.Common.{◌≡◌, ◌∙◌, ap, sym, refl, ℕ, List, [], ◌∷◌, ◌++◌, length, reverse, Some}
use Rattle.std.proofs.Common.{append_assoc}
use Rattle.std.proofs.lemmas.List.{append-nil, length-reverse, reverse-append, reverse-reverse}
use Rattle.star_core.specs.Stacks.{taken}

taken_front : {A : Type 0} (front top below : List A)
    → taken (length front) top (front ++ below) ≡ Some (reverse front ++ top, below)
unfolding taken
taken_front [] top below = refl
taken_front (item ∷ front) top below =
    taken_front front (item ∷ top) below
    ∙ ap (λ l. Some (l, below))
    (sym (append_assoc (reverse front) (item ∷ []) top)
    ∙ ap (λ l. l ++ top) (sym (reverse-append (item ∷ []) front)))

pub taken_top : {A : Type 0} (count : ℕ) (top below : List A)
    → length top ≡ count
    → taken count [] (reverse top ++ below) ≡ Some (top, below)
taken_top count top below long =
    rw (← long) (rw (← length-reverse top)
    (taken_front (reverse top) [] below
    ∙ ap (λ l. Some (l, below)) (append-nil (reverse (reverse top)) ∙ reverse-reverse top)))

pub reverse_cons : {A : Type 0} (item : A) (items below : List A)
    → reverse items ++ (item ∷ below) ≡ reverse (item ∷ items) ++ below
reverse_cons item items below =
    sym (append_assoc (reverse items) (item ∷ []) below)
    ∙ ap (λ l. l ++ below) (sym (reverse-append (item ∷ []) items))
