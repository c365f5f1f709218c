-- Texts, each with an arrow behind it.
use Rattle.std.specs.Prelude.{ℕ, List, ◌++◌, codes, flat_map}

abbrev pub with_arrow : List ℕ → List ℕ
with_arrow text = text ++ codes " -> "

abbrev pub with_arrows : List (List ℕ) → List ℕ
with_arrows texts = flat_map with_arrow texts
