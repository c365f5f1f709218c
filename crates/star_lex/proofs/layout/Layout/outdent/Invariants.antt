use Rattle.std.proofs.Common.{◌≡◌, length}
use Rattle.star_lex.specs.Layouts.{with_levels, here, levels_at_width, IsPlaced}
use Rattle.star_lex.specs.declared.token.TokenKind.TheVariants.{Outdent}
use Rattle.star_lex.proofs.layout.Layout.outdent.Given as goal

-- what is left to close gives what the whole gives
abbrev pub invariant-levels : goal.invariant-levels
invariant-levels l =
    (with_levels l.self (levels_at_width (here Outdent l.self) l.self.width l.self.levels
    l.self.tokens) ≡ with_levels l.initial.self (levels_at_width (here Outdent l.initial.self)
    l.initial.self.width l.initial.self.levels l.initial.self.tokens))
    × IsPlaced l.initial.self l.self

abbrev pub decreases-levels : goal.decreases-levels
decreases-levels l = length l.self.levels
