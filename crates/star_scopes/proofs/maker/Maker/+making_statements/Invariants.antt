use Rattle.std.proofs.Common.{◌≡◌, drop, map, ◌+◌, ◌*◌}
use Rattle.star_scopes.specs.Making.{each, prepended}
use Rattle.star_scopes.specs.Meanings.{StmtMeaning}
use Rattle.star_scopes.specs.StatementMaking as spec
use Rattle.star_scopes.specs.StatementMeaning.{stmt_meaning}
use Rattle.star_scopes.proofs.maker.Maker.+making_statements.Given as goal

abbrev pub decreases-kind : goal.decreases-kind
decreases-kind l = 8 * goal.size-kind l

abbrev pub decreases-statement : goal.decreases-statement
decreases-statement l = 8 * goal.size-statement l + 1

abbrev pub decreases-body_made : goal.decreases-body_made
decreases-body_made l = 8 * goal.size-body_made l + 2

abbrev pub decreases-def : goal.decreases-def
decreases-def l = 8 * goal.size-def l + 3

abbrev pub decreases-looped : goal.decreases-looped
decreases-looped l = 8 * goal.size-looped l + 3

abbrev pub invariant-body_made-statements : goal.invariant-body_made-statements
invariant-body_made-statements l =
    (l.self.free ≡ l.fn.self.free)
    × (l.self.scopes ≡ l.fn.self.scopes)
    × (spec.body_made l.fn.self.free l.fn.self.scopes (map stmt_meaning l.body) l.fn.self.lists
    ≡ prepended l.made.items
    (each (map (λ (one : StmtMeaning). one.stmt l.fn.self.free l.fn.self.scopes) (map
    stmt_meaning (drop l.statement-index l.body))) l.self.lists))
