-- Indexes that are counted from the front on.
use Rattle.std.proofs.Common.{◌≡◌, ℕ, suc, ◌+◌, Option, Some, None, option_map, refl, ap, arith}

-- an index behind so many characters
abbrev pub shifted : ℕ → Option ℕ → Option ℕ
shifted by found = option_map (λ i. by + i) found

pub shifted-suc : (by : ℕ) (found : Option ℕ)
    → shifted by (option_map suc found) ≡ shifted (by + 1) found
shifted-suc by None = refl
shifted-suc by (Some i) = ap Some (omega arith)

pub shifted-zero : (found : Option ℕ) → shifted 0 found ≡ found
shifted-zero None = refl
shifted-zero (Some i) = ap Some (omega arith)
