use Rattle.std.proofs.Common.{◌≡◌, drop, map, ◌+◌, ◌*◌}
use Rattle.star_scopes.specs.Meanings.{StmtMeaning}
use Rattle.star_scopes.specs.StatementMeaning.{stmt_meaning}
use Rattle.star_scopes.specs.StatementUses as spec
use Rattle.star_scopes.specs.Uses.{each_uses}
use Rattle.star_scopes.proofs.statement_uses.+statement_uses.Given as goal

abbrev pub decreases-kind_uses : goal.decreases-kind_uses
decreases-kind_uses l = 4 * goal.size-kind_uses l

abbrev pub decreases-statement_uses : goal.decreases-statement_uses
decreases-statement_uses l = 4 * goal.size-statement_uses l + 1

abbrev pub decreases-body_uses : goal.decreases-body_uses
decreases-body_uses l = 4 * goal.size-body_uses l + 2

abbrev pub decreases-def_uses : goal.decreases-def_uses
decreases-def_uses l = 4 * goal.size-def_uses l + 3

abbrev pub invariant-body_uses-statements : goal.invariant-body_uses-statements
invariant-body_uses-statements l =
    (l.scopes ≡ l.fn.scopes)
    × (spec.body_uses l.dialect l.fn.scopes (map stmt_meaning l.body) l.fn.names
    ≡ each_uses (map (λ (one : StmtMeaning). one.uses l.dialect l.fn.scopes) (map stmt_meaning
    (drop l.statement-index l.body))) l.names)
