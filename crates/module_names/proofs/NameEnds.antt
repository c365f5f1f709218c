-- The last byte of a name.
use Rattle.std.proofs.Common.{◌≡◌, ℕ, ◌-◌, Bool, false, List, [], ◌∷◌, length, slice_get, refl, ap}
use Rattle.std.proofs.Common.{sym, ◌∙◌}
use native.Mathlib.Numerals.{unary_clauses}
use Rattle.std.specs.Option.{option_map_or}
use Rattle.bz_base.specs.Names.{ends}

-- behind one more byte the last one is the same
last-cons : (b c : ℕ) (rest : List ℕ)
    → slice_get (b ∷ c ∷ rest) (length (b ∷ c ∷ rest) - 1)
    ≡ slice_get (c ∷ rest) (length (c ∷ rest) - 1)
last-cons b c rest = simp unary_clauses

-- the test of the last byte, and false where there is none
pub ends-last : (test : ℕ → Bool) (bytes : List ℕ)
    → ends test bytes ≡ option_map_or test (slice_get bytes (length bytes - 1)) false
ends-last test [] = refl
ends-last test (b ∷ []) = refl
ends-last test (b ∷ c ∷ rest) = ends-last test (c ∷ rest)
    ∙ ap (λ last. option_map_or test last false) (sym (last-cons b c rest))
