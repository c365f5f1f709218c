use Rattle.std.proofs.Common.{◌≡◌, drop, map}
use Rattle.star_scopes.specs.StatementBinds.{body_binds}
use Rattle.star_scopes.specs.StatementMeaning.{stmt_meaning}
use Rattle.star_scopes.proofs.bindings.+binding_statements.Given as goal

abbrev pub invariant-with_body-statements : goal.invariant-with_body-statements
invariant-with_body-statements l = body_binds (map stmt_meaning l.body) l.fn.names
    ≡ body_binds (map stmt_meaning (drop l.statement-index l.body)) l.names
