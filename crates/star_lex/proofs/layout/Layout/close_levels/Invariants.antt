use Rattle.std.proofs.Common.{◌≡◌, ◌++◌, length, map}
use Rattle.star_lex.specs.Layouts.{here, IsPlaced}
use Rattle.star_lex.specs.declared.token.TokenKind.TheVariants.{Outdent}
use Rattle.star_lex.proofs.layout.Layout.close_levels.Given as goal

-- the tokens so far and an outdent for each level that is left are what the whole gives
abbrev pub invariant-levels : goal.invariant-levels
invariant-levels l =
    (l.self.tokens ++ map (λ _. here Outdent l.initial.self) l.self.levels ≡ l.initial.self.tokens
    ++ map (λ _. here Outdent l.initial.self) l.initial.self.levels)
    × IsPlaced l.initial.self l.self

abbrev pub decreases-levels : goal.decreases-levels
decreases-levels l = length l.self.levels
