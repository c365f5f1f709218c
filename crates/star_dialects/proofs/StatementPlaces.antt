-- The places of a statement, by its kind.
use Rattle.std.proofs.Common.{◌≡◌, ℕ, List, [], ◌∷◌, rules}
use Rattle.star_grammar.specs.declared.bare_expressions.BareName.{BareName}
use Rattle.star_grammar.specs.declared.bare_expressions.BareParam.{BareParam}
use Rattle.star_grammar.specs.declared.bare_statements.BareStmt.{BareStmt}
use Rattle.star_grammar.specs.declared.bare_statements.BareStmtKind as kind
use Rattle.star_grammar.specs.declared.bare_statements.BareStmtKind.{out-BareStmtKind, the_lemmas}
use Rattle.star_dialects.specs.ExtensionFiles.{binding, kind_places}

pub kind_places-Def : (line : ℕ) (name : BareName) (params : List BareParam) (body : List BareStmt)
    → kind_places line (out-BareStmtKind (kind.Def name params body)) ≡ binding name.name line ∷ []
kind_places-Def line name params body = search (rules, the_lemmas)

pub ruleset statement_kinds = (kind_places-Def)
