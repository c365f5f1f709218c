-- What the grammar asks of lists: names that differ, and tests that hold of each item.
use Rattle.std.specs.Prelude.{ℕ, Bool, true, false, not, ◌&&◌, ◌||◌, ◌==◌, nat_lt, nat_le, List, []}
use Rattle.std.specs.Prelude.{◌∷◌, Option, Some, None, bytes_eq}
use Rattle.std.specs.List.{list_any}

-- each name differs from those before it
abbrev pub all_new : List (List ℕ) → List (List ℕ) → Bool
all_new before [] = true
all_new before (name ∷ names) =
    not (list_any (λ other. bytes_eq other name) before) && all_new (name ∷ before) names

-- no name stands twice
abbrev pub all_different : List (List ℕ) → Bool
all_different names = all_new [] names

-- the name, if there is one, and these
abbrev pub with_name : Option (List ℕ) → List (List ℕ) → List (List ℕ)
with_name None names = names
with_name (Some name) names = name ∷ names

-- each test holds
abbrev pub all_of : List Bool → Bool
all_of [] = true
all_of (one ∷ more) = one && all_of more

-- there is a test, and each holds
abbrev pub some_and_all : List Bool → Bool
some_and_all [] = false
some_and_all (one ∷ more) = one && all_of more

-- an argument of the second stage may stand behind one of the first: positional 0, named 1, `*` 2,
-- `**` 3
abbrev pub may_follow : ℕ → ℕ → Bool
may_follow last next = nat_lt last next || (last == next && nat_le next 1)
