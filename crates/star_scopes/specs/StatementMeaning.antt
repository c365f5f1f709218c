-- What statements mean where names are concerned.
use Rattle.star_grammar.specs.declared.bare_statements.BareStmt.{BareStmt, fold-BareStmt}
use Rattle.star_grammar.specs.declared.bare_statements.BareStmtKind.TheOpen.{BareStmt-F}
use Rattle.star_grammar.specs.declared.bare_statements.BareStmtKind.TheOpen.{BareStmtKind-F}
use Rattle.star_grammar.specs.declared.bare_statements.BareStmtKind.{BareStmtKind}
use Rattle.star_grammar.specs.declared.bare_statements.BareStmtKind.{fold-BareStmtKind}
use Rattle.star_scopes.specs.Meanings.{KindMeaning, StmtMeaning}
use Rattle.star_scopes.specs.StatementBinds.{kind_binds}
use Rattle.star_scopes.specs.StatementMaking.{kind_made, stmt_made}
use Rattle.star_scopes.specs.StatementUses.{kind_uses}

abbrev pub stmt_step : BareStmt-F KindMeaning StmtMeaning → StmtMeaning
stmt_step layer = record
    { bound = layer.kind.bound; uses = layer.kind.uses; stmt = stmt_made layer.kind layer.line }

abbrev pub kind_step : BareStmtKind-F KindMeaning StmtMeaning → KindMeaning
kind_step layer = record
    { bound = kind_binds layer; uses = kind_uses layer; kind = kind_made layer }

unfoldable pub stmt_meaning : BareStmt → StmtMeaning
stmt_meaning = fold-BareStmt KindMeaning StmtMeaning kind_step stmt_step

unfoldable pub kind_meaning : BareStmtKind → KindMeaning
kind_meaning = fold-BareStmtKind KindMeaning StmtMeaning kind_step stmt_step
