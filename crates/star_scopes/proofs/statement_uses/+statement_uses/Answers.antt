use Rattle.std.proofs.Common.{rules}
use Rattle.star_scopes.specs.StatementUses.{for_uses, if_uses}
use Rattle.star_scopes.proofs.StatementLayers.{kind_meaning-Assign, kind_meaning-Augment}
use Rattle.star_scopes.proofs.StatementLayers.{kind_meaning-Break, kind_meaning-Continue}
use Rattle.star_scopes.proofs.StatementLayers.{kind_meaning-Def, kind_meaning-For, kind_meaning-If}
use Rattle.star_scopes.proofs.StatementLayers.{kind_meaning-Load, kind_meaning-Pass}
use Rattle.star_scopes.proofs.StatementLayers.{kind_meaning-Return, kind_meaning-Value}
use Rattle.star_scopes.proofs.statement_uses.+statement_uses.Goals as goal

pub kind_uses-returns-in-Def-clause-uses : goal.kind_uses-returns-in-Def-clause-uses
kind_uses-returns-in-Def-clause-uses t c = rw c.in-Def.is
    (rw (kind_meaning-Def c.in-Def.name c.in-Def.params c.in-Def.body) (search rules))

pub kind_uses-returns-in_ok-names-in-If-2-clause-uses :
    goal.kind_uses-returns-in_ok-names-in-If-2-clause-uses
unfolding if_uses
kind_uses-returns-in_ok-names-in-If-2-clause-uses t c = rw c.in-If.is
    (rw (kind_meaning-If c.in-If.test c.in-If.then c.in-If.other) (search rules))

pub kind_uses-returns-in_ok-names-in-For-clause-uses :
    goal.kind_uses-returns-in_ok-names-in-For-clause-uses
unfolding for_uses
kind_uses-returns-in_ok-names-in-For-clause-uses t c = rw c.in-For.is
    (rw (kind_meaning-For c.in-For.to c.in-For.over c.in-For.body) (search rules))

pub kind_uses-returns-in-Return-clause-uses : goal.kind_uses-returns-in-Return-clause-uses
kind_uses-returns-in-Return-clause-uses t c = rw c.in-Return.is
    (rw (kind_meaning-Return c.in-Return.value) (search rules))

pub kind_uses-returns-in-Assign-clause-uses : goal.kind_uses-returns-in-Assign-clause-uses
kind_uses-returns-in-Assign-clause-uses t c = rw c.in-Assign.is
    (rw (kind_meaning-Assign c.in-Assign.to c.in-Assign.value) (search rules))

pub kind_uses-returns-in-Augment-clause-uses : goal.kind_uses-returns-in-Augment-clause-uses
kind_uses-returns-in-Augment-clause-uses t c = rw c.in-Augment.is
    (rw (kind_meaning-Augment c.in-Augment.place c.in-Augment.op c.in-Augment.value) (search rules))

pub kind_uses-returns-in-Value-clause-uses : goal.kind_uses-returns-in-Value-clause-uses
kind_uses-returns-in-Value-clause-uses t c = rw c.in-Value.is
    (rw (kind_meaning-Value c.in-Value.value) (search rules))

pub kind_uses-returns-in-Load-clause-uses : goal.kind_uses-returns-in-Load-clause-uses
kind_uses-returns-in-Load-clause-uses t c = rw c.in-Load.is
    (rw (kind_meaning-Load c.in-Load.file c.in-Load.names) (search rules))

pub kind_uses-returns-in-Break-clause-uses : goal.kind_uses-returns-in-Break-clause-uses
kind_uses-returns-in-Break-clause-uses t c = rw c.in-Break.is (rw kind_meaning-Break (search rules))

pub kind_uses-returns-in-Continue-clause-uses : goal.kind_uses-returns-in-Continue-clause-uses
kind_uses-returns-in-Continue-clause-uses t c = rw c.in-Continue.is
    (rw kind_meaning-Continue (search rules))

pub kind_uses-returns-in-Pass-clause-uses : goal.kind_uses-returns-in-Pass-clause-uses
kind_uses-returns-in-Pass-clause-uses t c = rw c.in-Pass.is (rw kind_meaning-Pass (search rules))

pub kind_uses-returns-in_err-names-in-If-clause-uses :
    goal.kind_uses-returns-in_err-names-in-If-clause-uses
unfolding if_uses
kind_uses-returns-in_err-names-in-If-clause-uses t c = rw c.in-If.is
    (rw (kind_meaning-If c.in-If.test c.in-If.then c.in-If.other) (search rules))

pub kind_uses-returns-in_err-names-in-If-2-clause-uses :
    goal.kind_uses-returns-in_err-names-in-If-2-clause-uses
unfolding if_uses
kind_uses-returns-in_err-names-in-If-2-clause-uses t c = rw c.in-If.is
    (rw (kind_meaning-If c.in-If.test c.in-If.then c.in-If.other) (search rules))

pub kind_uses-returns-in_err-names-in-For-clause-uses :
    goal.kind_uses-returns-in_err-names-in-For-clause-uses
unfolding for_uses
kind_uses-returns-in_err-names-in-For-clause-uses t c = rw c.in-For.is
    (rw (kind_meaning-For c.in-For.to c.in-For.over c.in-For.body) (search rules))
