-- The loosest of some levels, over those below it.
use Rattle.std.proofs.Common.{◌≡◌, ℕ, suc, ◌-◌, ◌<◌, ap, arith}
use Rattle.star_grammar.specs.declared.bare_expressions.Level.{Level}
use Rattle.star_grammar.specs.Expressions.{Tree}
use Rattle.star_grammar.specs.ExpressionReading.{arithmetic, chain}
use Rattle.star_grammar.specs.Readers.{Reader}

pub arithmetic-loosest : (nested : Level → Reader Tree) (levels : ℕ)
    → 0 < levels
    → arithmetic nested levels ≡ chain nested (levels - 1) (arithmetic nested (levels - 1))
unfolding arithmetic
arithmetic-loosest nested levels some = let e : levels
    ≡ suc (levels - 1) = omega arith in ap (λ n. arithmetic nested n) e
