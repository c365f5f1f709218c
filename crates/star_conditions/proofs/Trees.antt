-- Trees of which something holds, and the lists that are made beside them.
use Rattle.star_scopes.specs.Files.{no_lists}

-- trees of which something holds
abbrev pub With : {A : Type 0} → (A → Type 0) → Type 0
With {A} P = (a : A) × P a

abbrev pub bare : {A : Type 0} {P : A → Type 0} → With P → A
bare a = a.0

abbrev type_of : {A : Type 0} → A → Type 0
type_of {A} a = A

-- the functions and the loads of a file, as they are made
abbrev pub Lists : Type 0
Lists = type_of no_lists
