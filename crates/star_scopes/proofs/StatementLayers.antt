-- What a statement of each kind means, by what its parts mean.
use Rattle.std.proofs.Common.{rules, ◌≡◌, ℕ, List, map, Option}
use Rattle.star_trees.specs.declared.trees.BinOp.{BinOp}
use Rattle.star_grammar.specs.declared.bare_expressions.BareExpr.{BareExpr}
use Rattle.star_grammar.specs.declared.bare_expressions.BareName.{BareName}
use Rattle.star_grammar.specs.declared.bare_expressions.BareParam.{BareParam}
use Rattle.star_grammar.specs.declared.bare_statements.BareLoadName.{BareLoadName}
use Rattle.star_grammar.specs.declared.bare_statements.BareStmt.{BareStmt, out-BareStmt}
use Rattle.star_grammar.specs.declared.bare_statements.BareStmtKind as st
use Rattle.star_grammar.specs.declared.bare_statements.BareStmtKind.{BareStmtKind, the_lemmas}
use Rattle.star_grammar.specs.declared.bare_statements.BareStmtKind.TheOpen.{BareStmtKind-F}
use Rattle.star_scopes.specs.StatementMeaning.{kind_meaning, kind_step, stmt_meaning, stmt_step}

pub kind_meaning-Def : (name : BareName)
    → (params : List BareParam)
    → (body : List BareStmt)
    → kind_meaning (st.Def name params body)
    ≡ kind_step (BareStmtKind-F.Def name params (map stmt_meaning body))
unfolding kind_meaning stmt_meaning
kind_meaning-Def name params body = search (rules, the_lemmas)

pub kind_meaning-If : (test : BareExpr)
    → (chosen : List BareStmt)
    → (other : List BareStmt)
    → kind_meaning (st.If test chosen other)
    ≡ kind_step (BareStmtKind-F.If test (map stmt_meaning chosen) (map stmt_meaning other))
unfolding kind_meaning stmt_meaning
kind_meaning-If test chosen other = search (rules, the_lemmas)

pub kind_meaning-For : (to : BareExpr)
    → (over : BareExpr)
    → (body : List BareStmt)
    → kind_meaning (st.For to over body)
    ≡ kind_step (BareStmtKind-F.For to over (map stmt_meaning body))
unfolding kind_meaning stmt_meaning
kind_meaning-For to over body = search (rules, the_lemmas)

pub kind_meaning-Return : (value : Option BareExpr)
    → kind_meaning (st.Return value) ≡ kind_step (BareStmtKind-F.Return value)
unfolding kind_meaning stmt_meaning
kind_meaning-Return value = search (rules, the_lemmas)

pub kind_meaning-Break : kind_meaning (st.Break) ≡ kind_step (BareStmtKind-F.Break)
unfolding kind_meaning stmt_meaning
kind_meaning-Break = search (rules, the_lemmas)

pub kind_meaning-Continue : kind_meaning (st.Continue) ≡ kind_step (BareStmtKind-F.Continue)
unfolding kind_meaning stmt_meaning
kind_meaning-Continue = search (rules, the_lemmas)

pub kind_meaning-Pass : kind_meaning (st.Pass) ≡ kind_step (BareStmtKind-F.Pass)
unfolding kind_meaning stmt_meaning
kind_meaning-Pass = search (rules, the_lemmas)

pub kind_meaning-Load : (file : List ℕ)
    → (names : List BareLoadName)
    → kind_meaning (st.Load file names) ≡ kind_step (BareStmtKind-F.Load file names)
unfolding kind_meaning stmt_meaning
kind_meaning-Load file names = search (rules, the_lemmas)

pub kind_meaning-Assign : (to : BareExpr)
    → (value : BareExpr)
    → kind_meaning (st.Assign to value) ≡ kind_step (BareStmtKind-F.Assign to value)
unfolding kind_meaning stmt_meaning
kind_meaning-Assign to value = search (rules, the_lemmas)

pub kind_meaning-Augment : (place : BareExpr)
    → (op : BinOp)
    → (value : BareExpr)
    → kind_meaning (st.Augment place op value) ≡ kind_step (BareStmtKind-F.Augment place op value)
unfolding kind_meaning stmt_meaning
kind_meaning-Augment place op value = search (rules, the_lemmas)

pub kind_meaning-Value : (value : BareExpr)
    → kind_meaning (st.Value value) ≡ kind_step (BareStmtKind-F.Value value)
unfolding kind_meaning stmt_meaning
kind_meaning-Value value = search (rules, the_lemmas)

pub stmt_meaning-out : (statement : BareStmt)
    → stmt_meaning statement
    ≡ stmt_step (record {
      line = (out-BareStmt statement).line;
      kind = kind_meaning
          (out-BareStmt statement).kind;
    })
unfolding kind_meaning stmt_meaning
stmt_meaning-out statement = search (rules, the_lemmas)

pub ruleset statement_lines = (stmt_meaning-out)
