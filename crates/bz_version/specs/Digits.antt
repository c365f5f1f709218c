-- Identifiers of digits alone, and the numbers that they write.
use Rattle.std.specs.Prelude.{ℕ, ◌+◌, ◌-◌, ◌*◌, ◌==◌, Bool, if◌then◌else◌, List, [], ◌∷◌, fold}
use Rattle.std.specs.Char.{is_ascii_digit}
use Rattle.std.specs.List.{list_all}

-- an identifier of digits alone
abbrev pub is_numeric : List ℕ → Bool
is_numeric identifier = list_all is_ascii_digit identifier

-- the number that digits write, of any size
abbrev pub number_of : List ℕ → ℕ
number_of digits = fold (λ number digit. number * 10 + (digit - 48)) 0 digits

-- the digits from the first on that is no zero
abbrev pub significant : List ℕ → List ℕ
significant [] = []
significant (digit ∷ rest) = if digit == 48 then significant rest else digit ∷ rest
