use Rattle.std.proofs.Common.{rules}
use Rattle.star_scopes.specs.StatementMaking.{if_made, value_made}
use Rattle.star_scopes.proofs.StatementLayers.{kind_meaning-Assign, kind_meaning-Augment}
use Rattle.star_scopes.proofs.StatementLayers.{kind_meaning-Break, kind_meaning-Continue}
use Rattle.star_scopes.proofs.StatementLayers.{kind_meaning-Def, kind_meaning-For, kind_meaning-If}
use Rattle.star_scopes.proofs.StatementLayers.{kind_meaning-Load, kind_meaning-Pass}
use Rattle.star_scopes.proofs.StatementLayers.{kind_meaning-Return, kind_meaning-Value}
use Rattle.star_scopes.proofs.maker.Maker.+making_statements.Goals as goal

pub kind-returns-in-Def-clause-made : goal.kind-returns-in-Def-clause-made
kind-returns-in-Def-clause-made t c = rw c.in-Def.is
    (rw (kind_meaning-Def c.in-Def.name c.in-Def.params c.in-Def.body) (search rules))

pub kind-returns-in_ok-other-in-If-clause-made : goal.kind-returns-in_ok-other-in-If-clause-made
unfolding if_made
kind-returns-in_ok-other-in-If-clause-made t c = rw c.in-If.is
    (rw (kind_meaning-If c.in-If.test c.in-If.then c.in-If.other) (search rules))

pub kind-returns-in-For-clause-made : goal.kind-returns-in-For-clause-made
kind-returns-in-For-clause-made t c = rw c.in-For.is
    (rw (kind_meaning-For c.in-For.to c.in-For.over c.in-For.body) (search rules))

pub kind-returns-in-Return-clause-made : goal.kind-returns-in-Return-clause-made
kind-returns-in-Return-clause-made t c = rw c.in-Return.is
    (rw (kind_meaning-Return c.in-Return.value) (search rules))

pub kind-returns-in-Break-clause-made : goal.kind-returns-in-Break-clause-made
kind-returns-in-Break-clause-made t c = rw c.in-Break.is (rw kind_meaning-Break (search rules))

pub kind-returns-in-Continue-clause-made : goal.kind-returns-in-Continue-clause-made
kind-returns-in-Continue-clause-made t c = rw c.in-Continue.is
    (rw kind_meaning-Continue (search rules))

pub kind-returns-in-Pass-clause-made : goal.kind-returns-in-Pass-clause-made
kind-returns-in-Pass-clause-made t c = rw c.in-Pass.is (rw kind_meaning-Pass (search rules))

pub kind-returns-in-Load-clause-made : goal.kind-returns-in-Load-clause-made
kind-returns-in-Load-clause-made t c = rw c.in-Load.is
    (rw (kind_meaning-Load c.in-Load.file c.in-Load.names) (search rules))

pub kind-returns-in-Assign-clause-made : goal.kind-returns-in-Assign-clause-made
kind-returns-in-Assign-clause-made t c = rw c.in-Assign.is
    (rw (kind_meaning-Assign c.in-Assign.to c.in-Assign.value) (search rules))

pub kind-returns-in-Augment-clause-made : goal.kind-returns-in-Augment-clause-made
kind-returns-in-Augment-clause-made t c = rw c.in-Augment.is
    (rw (kind_meaning-Augment c.in-Augment.place c.in-Augment.op c.in-Augment.value) (search rules))

pub kind-returns-in_ok-expr-in-Value-clause-made : goal.kind-returns-in_ok-expr-in-Value-clause-made
unfolding value_made
kind-returns-in_ok-expr-in-Value-clause-made t c = rw c.in-Value.is
    (rw (kind_meaning-Value c.in-Value.value) (search rules))
