-- Tests of items, one by one.
use Rattle.std.proofs.Common.{◌≡◌, ℕ, ◌+◌, ◌<◌, Bool, ◌&&◌, List, [], ◌∷◌, length, get_or, drop}
use Rattle.std.proofs.Common.{map, refl, ap, arith}
use Rattle.bz_text.proofs.ListWalks.{drop-next}
use Rattle.star_trees.specs.Lists.{all_of, some_and_all}

pub all_of-drop : {A : Type 0} (test : A → Bool) (xs : List A) (i : ℕ) (x : A)
    → i < length xs
    → x ≡ get_or xs i x
    → all_of (map test (drop i xs)) ≡ (test x && all_of (map test (drop (i + 1) xs)))
all_of-drop test xs i x below is = ap (λ l. all_of (map test l)) (drop-next xs i x below is)

pub some_and_all-some : {A : Type 0} (test : A → Bool) (xs : List A)
    → 0 < length xs
    → some_and_all (map test xs) ≡ all_of (map test xs)
some_and_all-some test [] some = absurd (omega arith)
some_and_all-some test (x ∷ xs) some = refl

pub ruleset item_tests = (all_of-drop, some_and_all-some)
