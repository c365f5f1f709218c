-- What statements bind.
use Rattle.std.specs.Prelude.{List, map}
use Rattle.star_grammar.specs.declared.bare_statements.BareStmtKind.TheOpen.{BareStmtKind-F}
use Rattle.star_trees.specs.Variables.{Binding, no_binding, each_binds, name_binds}
use Rattle.star_scopes.specs.Bindings.{loaded_binds}
use Rattle.star_scopes.specs.ExprMeaning.{meaning}
use Rattle.star_scopes.specs.Meanings.{KindMeaning, StmtMeaning}

abbrev pub body_binds : List StmtMeaning → Binding
body_binds body = each_binds (map (λ statement. statement.bound) body)

abbrev pub kind_binds : BareStmtKind-F KindMeaning StmtMeaning → Binding
kind_binds (BareStmtKind-F.Def name params body) = name_binds name.name
kind_binds (BareStmtKind-F.If test chosen other) = λ names. body_binds other
    (body_binds chosen names)
kind_binds (BareStmtKind-F.For to over body) = λ names. body_binds body ((meaning to).bound names)
kind_binds (BareStmtKind-F.Load file loaded) = each_binds (map loaded_binds loaded)
kind_binds (BareStmtKind-F.Assign to value) = (meaning to).bound
kind_binds (BareStmtKind-F.Augment place op value) = (meaning place).bound
kind_binds _ = no_binding
