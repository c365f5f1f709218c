-- What is left of a division: the Starlark specification, "Integers".
use Rattle.std.specs.Prelude.{◌≡◌, ℕ, ◌<◌, suc, ℤ, pos, negsuc, neg_ℤ}

-- so much below or above 0 is left, which is less than the divisor is
pub record IsLeft (size : ℕ) (left : ℤ) (signed : ℕ → ℤ) : Type 0 where
  pub amount : ℕ
  pub is : left ≡ signed amount
  pub less : amount < size

-- 0, or of the divisor's sign, and smaller
abbrev pub IsRemainder : ℤ → ℤ → Type 0
IsRemainder (pos divisor) left = IsLeft divisor left pos
IsRemainder (negsuc less) left = IsLeft (suc less) left (λ amount. neg_ℤ (pos amount))
