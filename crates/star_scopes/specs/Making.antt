-- What is made beside a tree: the functions of the file, each at the place that it takes where it
-- begins, and its loads.
use Rattle.std.specs.Prelude.{ℕ, List, [], ◌∷◌, ◌++◌, length, set}
use Rattle.star_trees.specs.Functions.{unfinished_code}
use Rattle.star_trees.specs.declared.files.FnCode.{FnCode}
use Rattle.star_trees.specs.declared.loads.Load.{Load}
use Rattle.star_scopes.specs.declared.lists.Lists.{Lists}

-- a value, made with the functions and loads so far
abbrev pub Making : Type 0 → Type 0
Making A = Lists → A × Lists

infixl 10 ◌>>=◌
abbrev pub ◌>>=◌ : {A B : Type 0} → Making A → (A → Making B) → Making B
making >>= next = λ lists. next (making lists).0 (making lists).1

infixl 10 ◌>>◌
abbrev pub ◌>>◌ : {A B : Type 0} → Making A → Making B → Making B
making >> next = λ lists. next (making lists).1

abbrev pub pure : {A : Type 0} → A → Making A
pure a = λ lists. (a, lists)

-- each in turn
abbrev pub each : {A : Type 0} → List (Making A) → Making (List A)
each [] = pure []
each (making ∷ more) = do
  a ← making
  others ← each more
  pure (a ∷ others)

-- some values, made before others
abbrev pub prepended : {A : Type 0} → List A → List A × Lists → List A × Lists
prepended made others = (made ++ others.0, others.1)

-- the next place among the functions, taken
abbrev pub begin : Making ℕ
begin = λ lists. (
  length lists.functions,
  record {
    functions = lists.functions ++ unfinished_code ∷
        [];
    loads = lists.loads;
  },
)

-- a function's code, at the place that it took
abbrev pub finish : ℕ → FnCode → Making (Unit {0})
finish place code = λ lists.
    (tt, record { functions = set lists.functions place code; loads = lists.loads })

-- the next place among the loads, taken
abbrev pub load : Load → Making ℕ
load loaded = λ lists.
    (length lists.loads, record { functions = lists.functions; loads = lists.loads ++ loaded ∷ [] })
