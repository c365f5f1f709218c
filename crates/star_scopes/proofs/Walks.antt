-- Lists, walked item by item.
use Rattle.std.proofs.Common.{◌≡◌, ℕ, ◌+◌, ◌<◌, List, [], ◌∷◌, ◌++◌, length, get_or, drop, map, ap}
use Rattle.std.proofs.Common.{sym, ◌∙◌}
use Rattle.std.proofs.lemmas.List.{append_assoc}
use Rattle.bz_text.proofs.ListWalks.{drop-next}
use Rattle.star_trees.specs.Variables.{Names, Binding, each_binds}
use Rattle.star_scopes.specs.Making.{Making, each, prepended}
use Rattle.star_scopes.specs.declared.lists.Lists.{Lists}
use Rattle.star_scopes.specs.Uses.{Uses, each_uses, then_uses}

pub each_binds-drop : {A B : Type 0} (binds : B → Binding) (means : A → B) (xs : List A) (i : ℕ)
    (x : A) (names : Names) → i < length xs → x ≡ get_or xs i x
    → each_binds (map binds (map means (drop i xs))) names
    ≡ each_binds (map binds (map means (drop (i + 1) xs))) (binds (means x) names)
each_binds-drop binds means xs i x names below is = ap
    (λ left. each_binds (map binds (map means left)) names) (drop-next xs i x below is)

pub ruleset binding_walks = (each_binds-drop)

pub loaded-drop : {A : Type 0} (binds : A → Binding) (xs : List A) (i : ℕ) (x : A) (names : Names)
    → i < length xs
    → x ≡ get_or xs i x
    → each_binds (map binds (drop i xs)) names
    ≡ each_binds (map binds (drop (i + 1) xs)) (binds x names)
loaded-drop binds xs i x names below is = ap (λ left. each_binds (map binds left) names)
    (drop-next xs i x below is)

pub ruleset loaded_walks = (loaded-drop)

pub each_uses-drop : {A B : Type 0} (uses : B → Uses) (means : A → B) (xs : List A) (i : ℕ) (x : A)
    (names : Names) → i < length xs → x ≡ get_or xs i x
    → each_uses (map uses (map means (drop i xs))) names
    ≡ then_uses (uses (means x) names) (each_uses (map uses (map means (drop (i + 1) xs))))
each_uses-drop uses means xs i x names below is = ap
    (λ left. each_uses (map uses (map means left)) names) (drop-next xs i x below is)

pub ruleset use_walks = (each_uses-drop)

pub each-drop : {A B C : Type 0} (make : B → Making A) (means : C → B) (xs : List C) (i : ℕ) (x : C)
    (before : List A) (lists after : Lists) (made : A)
    → i < length xs
    → x ≡ get_or xs i x
    → make (means x) lists ≡ (made, after)
    → prepended before (each (map make (map means (drop i xs))) lists)
    ≡ prepended (before ++ made ∷ []) (each (map make (map means (drop (i + 1) xs))) after)
each-drop {A = A} make means xs i x before lists after made below is step =
    let rest = each (map make (map means (drop (i + 1) xs))) in
    ap (λ left. prepended before (each (map make (map means left)) lists))
    (drop-next xs i x below is)
    ∙ (ap (λ (one : A × Lists). (before ++ one.0 ∷ (rest one.1).0, (rest one.1).1)) step
    ∙ ap (λ (all : List A). (all, (rest after).1))
    (sym (append_assoc before (made ∷ []) (rest after).0)))

pub ruleset making_walks = (each-drop)
