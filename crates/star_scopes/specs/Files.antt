-- Files whose names are resolved.
use Rattle.std.specs.Prelude.{List, [], ◌∷◌, map, Result, Ok, Err}
use Rattle.star_trees.specs.declared.files.File.{File}
use Rattle.star_trees.specs.declared.trees.Stmt.{Stmt}
use Rattle.star_grammar.specs.declared.bare_statements.BareStmt.{BareStmt}
use Rattle.star_trees.specs.Variables.{Names}
use Rattle.star_scopes.specs.declared.dialects.Dialect.{Dialect}
use Rattle.star_scopes.specs.declared.unbound.Unbound.{Unbound}
use Rattle.star_scopes.specs.declared.lists.Lists.{Lists}
use Rattle.star_scopes.specs.StatementBinds.{body_binds}
use Rattle.star_scopes.specs.StatementMaking.{body_made}
use Rattle.star_scopes.specs.StatementMeaning.{stmt_meaning}
use Rattle.star_scopes.specs.StatementUses.{body_uses}

-- the scopes that stand round the statements of a file: its own variables alone
abbrev pub file_scopes : List BareStmt → List Names
file_scopes body = body_binds (map stmt_meaning body) [] ∷ []

-- the free names of a file, or the first use of a name that is unbound
abbrev pub free_names : Dialect → List BareStmt → Result Names Unbound
free_names dialect body = body_uses dialect (file_scopes body) (map stmt_meaning body) []

abbrev pub no_lists : Lists
no_lists = record { functions = []; loads = [] }

abbrev pub file_of : Names → List Stmt × Lists → File
file_of free made = record
    { body = made.0; loads = made.1.loads; functions = made.1.functions; free = free }

-- a file whose free names are these, with each name as its variable
abbrev pub file_with : Names → List BareStmt → File
file_with free body = file_of free
    (body_made free (file_scopes body) (map stmt_meaning body) no_lists)

abbrev pub with_free : List BareStmt → Result Names Unbound → Result File Unbound
with_free body (Ok free) = Ok (file_with free body)
with_free body (Err unbound) = Err unbound

-- the resolved file, unless a name is unbound
abbrev pub resolved : Dialect → List BareStmt → Result File Unbound
resolved dialect body = with_free body (free_names dialect body)
