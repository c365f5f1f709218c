use Rattle.std.proofs.Common.{rules}
use Rattle.star_scopes.proofs.StatementLayers.{kind_meaning-For, kind_meaning-If}
use Rattle.star_scopes.proofs.bindings.+binding_statements.Goals as goal

pub with_kind-returns-in_ok-names-in-If : goal.with_kind-returns-in_ok-names-in-If
with_kind-returns-in_ok-names-in-If t c = rw c.in-If.is
    (rw (kind_meaning-If c.in-If.test c.in-If.then c.in-If.other) (search rules))

pub with_kind-returns-in_ok-names-in-For : goal.with_kind-returns-in_ok-names-in-For
with_kind-returns-in_ok-names-in-For t c = rw c.in-For.is
    (rw (kind_meaning-For c.in-For.to c.in-For.over c.in-For.body) (search rules))
