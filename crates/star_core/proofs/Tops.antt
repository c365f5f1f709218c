-- The top of a stack.
use Rattle.std.proofs.Common.{◌≡◌, ℕ, zero, suc, ◌+◌, ◌<◌, List, [], ◌∷◌, ◌++◌, length, Some, None}
use Rattle.std.proofs.Common.{reverse, take, drop, ap, sym, refl, ◌∙◌, arith, append_assoc}
use Rattle.std.proofs.lemmas.List.{append-nil, length-drop, length-reverse, reverse-append}
use Rattle.std.proofs.lemmas.List.{reverse-reverse, take-append-drop}
use Rattle.star_core.specs.Stacks.{taken}

reverse_parts : {A : Type 0} (count : ℕ) (items : List A)
    → reverse items ≡ reverse (drop count items) ++ reverse (take count items)
reverse_parts count items =
    ap reverse (sym (take-append-drop count items))
    ∙ reverse-append (take count items) (drop count items)

-- the front of a stack, and the rest
taken_front : {A : Type 0} (front top below : List A)
    → taken (length front) top (front ++ below) ≡ Some (reverse front ++ top, below)
unfolding taken
taken_front [] top below = refl
taken_front (item ∷ front) top below =
    taken_front front (item ∷ top) below
    ∙ ap (λ l. Some (l, below))
    (sym (append_assoc (reverse front) (item ∷ []) top)
    ∙ ap (λ l. l ++ top) (sym (reverse-append (item ∷ []) front)))

taken_top : {A : Type 0} (count : ℕ) (top below stack : List A)
    → length top ≡ count
    → stack ≡ reverse top ++ below
    → taken count [] stack ≡ Some (top, below)
taken_top count top below stack long is =
    rw is (rw (← long) (rw (← length-reverse top)
    (taken_front (reverse top) [] below
    ∙ ap (λ l. Some (l, below)) (append-nil (reverse (reverse top)) ∙ reverse-reverse top))))

pub taken_none : {A : Type 0} (count : ℕ) (top stack : List A)
    → length stack < count
    → taken count top stack ≡ None
unfolding taken
taken_none zero top stack short = absurd (omega (arith, short))
taken_none (suc count) top [] short = refl
taken_none (suc count) top (item ∷ stack) short =
    taken_none count (item ∷ top) stack (omega (arith, short))

pub taken_split : {A : Type 0} (count kept : ℕ) (items top rest stack : List A)
    → kept + count ≡ length items
    → top ≡ drop kept items
    → rest ≡ take kept items
    → reverse items ≡ stack
    → taken count [] stack ≡ Some (top, reverse rest)
taken_split count kept items top rest stack long tops rests is =
    let as_long : length top ≡ count = rw tops (rw length-drop (omega arith)) in
    let parts : stack ≡ reverse top ++ reverse rest =
    rw (tops, rests) (sym is ∙ reverse_parts kept items) in
    taken_top count top (reverse rest) stack as_long parts
