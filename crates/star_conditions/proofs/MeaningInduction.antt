-- What holds of the meaning of every tree: what holds of each construct's as soon as it holds of
-- its parts'.
use Rattle.std.proofs.Common.{subst, sym}
use Rattle.star_conditions.proofs.Trees.{With, bare}
use Rattle.star_grammar.specs.declared.bare_expressions.BareArg.{BareArg, fold-roll-BareArg}
use Rattle.star_grammar.specs.declared.bare_expressions.BareArg.{map-BareArg, roll-BareArg}
use Rattle.star_grammar.specs.declared.bare_expressions.BareArg.TheOpen.{BareArg-F, BareClause-F}
use Rattle.star_grammar.specs.declared.bare_expressions.BareArg.TheOpen.{BareExpr-F, BareParam-F}
use Rattle.star_grammar.specs.declared.bare_expressions.BareArg.TheOpen.{BarePair-F}
use Rattle.star_grammar.specs.declared.bare_expressions.BareClause.{BareClause}
use Rattle.star_grammar.specs.declared.bare_expressions.BareClause.{fold-roll-BareClause}
use Rattle.star_grammar.specs.declared.bare_expressions.BareClause.{map-BareClause, roll-BareClause}
use Rattle.star_grammar.specs.declared.bare_expressions.BareExpr.{BareExpr, ind-BareExpr}
use Rattle.star_grammar.specs.declared.bare_expressions.BareExpr.{fold-roll-BareExpr, map-BareExpr}
use Rattle.star_grammar.specs.declared.bare_expressions.BareExpr.{roll-BareExpr}
use Rattle.star_grammar.specs.declared.bare_expressions.BarePair.{BarePair, fold-roll-BarePair}
use Rattle.star_grammar.specs.declared.bare_expressions.BarePair.{map-BarePair, roll-BarePair}
use Rattle.star_grammar.specs.declared.bare_expressions.BareParam.{BareParam, ind-BareParam}
use Rattle.star_grammar.specs.declared.bare_expressions.BareParam.{fold-roll-BareParam}
use Rattle.star_grammar.specs.declared.bare_expressions.BareParam.{map-BareParam, roll-BareParam}
use Rattle.star_grammar.specs.declared.bare_statements.BareStmt.{BareStmt, ind-BareStmt}
use Rattle.star_grammar.specs.declared.bare_statements.BareStmt.{fold-roll-BareStmt, map-BareStmt}
use Rattle.star_grammar.specs.declared.bare_statements.BareStmt.{roll-BareStmt}
use Rattle.star_grammar.specs.declared.bare_statements.BareStmtKind.TheOpen.{BareStmt-F}
use Rattle.star_grammar.specs.declared.bare_statements.BareStmtKind.TheOpen.{BareStmtKind-F}
use Rattle.star_grammar.specs.declared.bare_statements.BareStmtKind.{BareStmtKind}
use Rattle.star_grammar.specs.declared.bare_statements.BareStmtKind.{fold-roll-BareStmtKind}
use Rattle.star_grammar.specs.declared.bare_statements.BareStmtKind.{map-BareStmtKind}
use Rattle.star_grammar.specs.declared.bare_statements.BareStmtKind.{roll-BareStmtKind}
use Rattle.star_scopes.specs.ExprMeaning.{arg_meaning, arg_step, clause_meaning, clause_step}
use Rattle.star_scopes.specs.ExprMeaning.{expr_step, meaning, pair_meaning, pair_step}
use Rattle.star_scopes.specs.ExprMeaning.{param_meaning, param_step}
use Rattle.star_scopes.specs.Meanings.{ArgMeaning, ClauseMeaning, ExprMeaning, KindMeaning}
use Rattle.star_scopes.specs.Meanings.{PairMeaning, ParamMeaning, StmtMeaning}
use Rattle.star_scopes.specs.StatementMeaning.{kind_meaning, kind_step, stmt_meaning, stmt_step}

-- ---- arguments, clauses, expressions, parameters and pairs

module _ (A : ArgMeaning → Type 0) (C : ClauseMeaning → Type 0) (E : ExprMeaning → Type 0)
    (P : ParamMeaning → Type 0) (R : PairMeaning → Type 0) where
  abbrev pub ArgWith : Type 0
  ArgWith = With (λ tree. A (arg_meaning tree))

  abbrev pub ClauseWith : Type 0
  ClauseWith = With (λ tree. C (clause_meaning tree))

  abbrev pub ExprWith : Type 0
  ExprWith = With (λ tree. E (meaning tree))

  abbrev pub ParamWith : Type 0
  ParamWith = With (λ tree. P (param_meaning tree))

  abbrev pub PairWith : Type 0
  PairWith = With (λ tree. R (pair_meaning tree))

  -- a construct of parts of whose meanings it holds
  abbrev pub ArgParts : Type 0
  ArgParts = BareArg-F ArgWith ClauseWith ExprWith ParamWith PairWith

  abbrev pub ClauseParts : Type 0
  ClauseParts = BareClause-F ArgWith ClauseWith ExprWith ParamWith PairWith

  abbrev pub ExprParts : Type 0
  ExprParts = BareExpr-F ArgWith ClauseWith ExprWith ParamWith PairWith

  abbrev pub ParamParts : Type 0
  ParamParts = BareParam-F ArgWith ClauseWith ExprWith ParamWith PairWith

  abbrev pub PairParts : Type 0
  PairParts = BarePair-F ArgWith ClauseWith ExprWith ParamWith PairWith

  -- its parts as trees
  abbrev bare-arg : ArgParts → BareArg-F BareArg BareClause BareExpr BareParam BarePair
  bare-arg parts = map-BareArg ArgWith ClauseWith ExprWith ParamWith PairWith BareArg BareClause
      BareExpr BareParam BarePair bare bare bare bare bare parts

  abbrev bare-clause : ClauseParts → BareClause-F BareArg BareClause BareExpr BareParam BarePair
  bare-clause parts = map-BareClause ArgWith ClauseWith ExprWith ParamWith PairWith BareArg
      BareClause BareExpr BareParam BarePair bare bare bare bare bare parts

  abbrev bare-expr : ExprParts → BareExpr-F BareArg BareClause BareExpr BareParam BarePair
  bare-expr parts = map-BareExpr ArgWith ClauseWith ExprWith ParamWith PairWith BareArg BareClause
      BareExpr BareParam BarePair bare bare bare bare bare parts

  abbrev bare-param : ParamParts → BareParam-F BareArg BareClause BareExpr BareParam BarePair
  bare-param parts = map-BareParam ArgWith ClauseWith ExprWith ParamWith PairWith BareArg BareClause
      BareExpr BareParam BarePair bare bare bare bare bare parts

  abbrev bare-pair : PairParts → BarePair-F BareArg BareClause BareExpr BareParam BarePair
  bare-pair parts = map-BarePair ArgWith ClauseWith ExprWith ParamWith PairWith BareArg BareClause
      BareExpr BareParam BarePair bare bare bare bare bare parts

  -- its parts as what they mean
  abbrev pub meant-arg : ArgParts
      → BareArg-F ArgMeaning ClauseMeaning ExprMeaning ParamMeaning PairMeaning
  meant-arg parts = map-BareArg BareArg BareClause BareExpr BareParam BarePair ArgMeaning
      ClauseMeaning ExprMeaning ParamMeaning PairMeaning arg_meaning clause_meaning meaning
      param_meaning pair_meaning (bare-arg parts)

  abbrev pub meant-clause : ClauseParts
      → BareClause-F ArgMeaning ClauseMeaning ExprMeaning ParamMeaning PairMeaning
  meant-clause parts = map-BareClause BareArg BareClause BareExpr BareParam BarePair ArgMeaning
      ClauseMeaning ExprMeaning ParamMeaning PairMeaning arg_meaning clause_meaning meaning
      param_meaning pair_meaning (bare-clause parts)

  abbrev pub meant-expr : ExprParts
      → BareExpr-F ArgMeaning ClauseMeaning ExprMeaning ParamMeaning PairMeaning
  meant-expr parts = map-BareExpr BareArg BareClause BareExpr BareParam BarePair ArgMeaning
      ClauseMeaning ExprMeaning ParamMeaning PairMeaning arg_meaning clause_meaning meaning
      param_meaning pair_meaning (bare-expr parts)

  abbrev pub meant-param : ParamParts
      → BareParam-F ArgMeaning ClauseMeaning ExprMeaning ParamMeaning PairMeaning
  meant-param parts = map-BareParam BareArg BareClause BareExpr BareParam BarePair ArgMeaning
      ClauseMeaning ExprMeaning ParamMeaning PairMeaning arg_meaning clause_meaning meaning
      param_meaning pair_meaning (bare-param parts)

  abbrev pub meant-pair : PairParts
      → BarePair-F ArgMeaning ClauseMeaning ExprMeaning ParamMeaning PairMeaning
  meant-pair parts = map-BarePair BareArg BareClause BareExpr BareParam BarePair ArgMeaning
      ClauseMeaning ExprMeaning ParamMeaning PairMeaning arg_meaning clause_meaning meaning
      param_meaning pair_meaning (bare-pair parts)

  module _ (arg : (parts : ArgParts) → A (arg_step (meant-arg parts)))
      (clause : (parts : ClauseParts) → C (clause_step (meant-clause parts)))
      (expr : (parts : ExprParts) → E (expr_step (meant-expr parts)))
      (param : (parts : ParamParts) → P (param_step (meant-param parts)))
      (pair : (parts : PairParts) → R (pair_step (meant-pair parts))) where
    arg-rolled : (parts : ArgParts) → A (arg_meaning (roll-BareArg (bare-arg parts)))
    unfolding meaning arg_meaning clause_meaning param_meaning pair_meaning
    arg-rolled parts = subst A
        (sym (fold-roll-BareArg ArgMeaning ClauseMeaning ExprMeaning ParamMeaning PairMeaning
        arg_step clause_step expr_step param_step pair_step (bare-arg parts))) (arg parts)

    clause-rolled : (parts : ClauseParts) → C (clause_meaning (roll-BareClause (bare-clause parts)))
    unfolding meaning arg_meaning clause_meaning param_meaning pair_meaning
    clause-rolled parts = subst C
        (sym (fold-roll-BareClause ArgMeaning ClauseMeaning ExprMeaning ParamMeaning PairMeaning
        arg_step clause_step expr_step param_step pair_step (bare-clause parts))) (clause parts)

    expr-rolled : (parts : ExprParts) → E (meaning (roll-BareExpr (bare-expr parts)))
    unfolding meaning arg_meaning clause_meaning param_meaning pair_meaning
    expr-rolled parts = subst E
        (sym (fold-roll-BareExpr ArgMeaning ClauseMeaning ExprMeaning ParamMeaning PairMeaning
        arg_step clause_step expr_step param_step pair_step (bare-expr parts))) (expr parts)

    param-rolled : (parts : ParamParts) → P (param_meaning (roll-BareParam (bare-param parts)))
    unfolding meaning arg_meaning clause_meaning param_meaning pair_meaning
    param-rolled parts = subst P
        (sym (fold-roll-BareParam ArgMeaning ClauseMeaning ExprMeaning ParamMeaning PairMeaning
        arg_step clause_step expr_step param_step pair_step (bare-param parts))) (param parts)

    pair-rolled : (parts : PairParts) → R (pair_meaning (roll-BarePair (bare-pair parts)))
    unfolding meaning arg_meaning clause_meaning param_meaning pair_meaning
    pair-rolled parts = subst R
        (sym (fold-roll-BarePair ArgMeaning ClauseMeaning ExprMeaning ParamMeaning PairMeaning
        arg_step clause_step expr_step param_step pair_step (bare-pair parts))) (pair parts)

    pub of-expr : (tree : BareExpr) → E (meaning tree)
    of-expr = ind-BareExpr (λ tree. A (arg_meaning tree)) (λ tree. C (clause_meaning tree))
        (λ tree. E (meaning tree)) (λ tree. P (param_meaning tree)) (λ tree. R (pair_meaning tree))
        (λ tree layer is. subst (λ one. A (arg_meaning (roll-BareArg one))) is (arg-rolled layer))
        (λ tree layer is. subst (λ one. C (clause_meaning (roll-BareClause one))) is
        (clause-rolled layer))
        (λ tree layer is. subst (λ one. E (meaning (roll-BareExpr one))) is (expr-rolled layer))
        (λ tree layer is. subst (λ one. P (param_meaning (roll-BareParam one))) is
        (param-rolled layer))
        (λ tree layer is. subst (λ one. R (pair_meaning (roll-BarePair one))) is
        (pair-rolled layer))

    pub of-param : (tree : BareParam) → P (param_meaning tree)
    of-param = ind-BareParam (λ tree. A (arg_meaning tree)) (λ tree. C (clause_meaning tree))
        (λ tree. E (meaning tree)) (λ tree. P (param_meaning tree)) (λ tree. R (pair_meaning tree))
        (λ tree layer is. subst (λ one. A (arg_meaning (roll-BareArg one))) is (arg-rolled layer))
        (λ tree layer is. subst (λ one. C (clause_meaning (roll-BareClause one))) is
        (clause-rolled layer))
        (λ tree layer is. subst (λ one. E (meaning (roll-BareExpr one))) is (expr-rolled layer))
        (λ tree layer is. subst (λ one. P (param_meaning (roll-BareParam one))) is
        (param-rolled layer))
        (λ tree layer is. subst (λ one. R (pair_meaning (roll-BarePair one))) is
        (pair-rolled layer))

-- ---- statements

module _ (K : KindMeaning → Type 0) (S : StmtMeaning → Type 0) where
  abbrev pub KindWith : Type 0
  KindWith = With (λ tree. K (kind_meaning tree))

  abbrev pub StmtWith : Type 0
  StmtWith = With (λ tree. S (stmt_meaning tree))

  abbrev pub KindParts : Type 0
  KindParts = BareStmtKind-F KindWith StmtWith

  abbrev pub StmtParts : Type 0
  StmtParts = BareStmt-F KindWith StmtWith

  abbrev bare-kind : KindParts → BareStmtKind-F BareStmtKind BareStmt
  bare-kind parts = map-BareStmtKind KindWith StmtWith BareStmtKind BareStmt bare bare parts

  abbrev bare-stmt : StmtParts → BareStmt-F BareStmtKind BareStmt
  bare-stmt parts = map-BareStmt KindWith StmtWith BareStmtKind BareStmt bare bare parts

  abbrev pub meant-kind : KindParts → BareStmtKind-F KindMeaning StmtMeaning
  meant-kind parts = map-BareStmtKind BareStmtKind BareStmt KindMeaning StmtMeaning kind_meaning
      stmt_meaning (bare-kind parts)

  abbrev pub meant-stmt : StmtParts → BareStmt-F KindMeaning StmtMeaning
  meant-stmt parts = map-BareStmt BareStmtKind BareStmt KindMeaning StmtMeaning kind_meaning
      stmt_meaning (bare-stmt parts)

  module _ (kind : (parts : KindParts) → K (kind_step (meant-kind parts)))
      (stmt : (parts : StmtParts) → S (stmt_step (meant-stmt parts))) where
    kind-rolled : (parts : KindParts) → K (kind_meaning (roll-BareStmtKind (bare-kind parts)))
    unfolding kind_meaning stmt_meaning
    kind-rolled parts = subst K
        (sym (fold-roll-BareStmtKind KindMeaning StmtMeaning kind_step stmt_step (bare-kind parts)))
        (kind parts)

    stmt-rolled : (parts : StmtParts) → S (stmt_meaning (roll-BareStmt (bare-stmt parts)))
    unfolding kind_meaning stmt_meaning
    stmt-rolled parts = subst S
        (sym (fold-roll-BareStmt KindMeaning StmtMeaning kind_step stmt_step (bare-stmt parts)))
        (stmt parts)

    pub of-stmt : (tree : BareStmt) → S (stmt_meaning tree)
    of-stmt = ind-BareStmt (λ tree. K (kind_meaning tree)) (λ tree. S (stmt_meaning tree))
        (λ tree layer is. subst (λ one. K (kind_meaning (roll-BareStmtKind one))) is
        (kind-rolled layer))
        (λ tree layer is. subst (λ one. S (stmt_meaning (roll-BareStmt one))) is
        (stmt-rolled layer))
