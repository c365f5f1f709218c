-- The top of a stack.
use Rattle.std.specs.Prelude.{ℕ, zero, suc, List, [], ◌∷◌, Option, Some, None}

-- so many topmost items in front of those that were taken, the topmost last, and what is below them
unfoldable pub taken : {A : Type 0} → ℕ → List A → List A → Option (List A × List A)
taken zero top below = Some (top, below)
taken (suc count) top [] = None
taken (suc count) top (item ∷ below) = taken count (item ∷ top) below
