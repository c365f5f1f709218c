-- What is left of a statement of which a part is read.
use Rattle.std.specs.Prelude.{ℕ, max, List, if◌then◌else◌}
use Rattle.star_grammar.specs.declared.bare_expressions.BareParam.{BareParam}
use Rattle.star_grammar.specs.declared.bare_expressions.BareName.{BareName}
use Rattle.star_grammar.specs.declared.bare_expressions.Level.{Level}
use Rattle.star_grammar.specs.declared.bare_expressions.Level.TheVariants as level
use Rattle.star_grammar.specs.declared.bare_statements.BareStmt.{BareStmt}
use Rattle.star_grammar.specs.declared.bare_statements.BareStmtKind as st
use Rattle.star_trees.specs.declared.inside.Inside.{Inside}
use Rattle.star_grammar.specs.declared.bare_statements.Part.{Part}
use Rattle.star_grammar.specs.declared.symbols.Sign.TheVariants as s
use Rattle.star_grammar.specs.Expressions.{Tree}
use Rattle.star_grammar.specs.ExpressionReading.{expression}
use Rattle.star_grammar.specs.Operators.{augmented}
use Rattle.star_grammar.specs.Readers.{Reader, ◌>>=◌, ◌>>◌, expect, front_of, given, one, pure}
use Rattle.star_grammar.specs.Readers.{sees, skip}
use Rattle.star_grammar.specs.Rules.{Deep, deep}
use Rattle.star_grammar.specs.StatementReading as spec
use Rattle.star_grammar.specs.Statements.{Statements, on_line}
use Rattle.star_trees.specs.Surroundings.{in_function, in_loop}

-- an assignment, an augmented one, or the expression alone
abbrev pub behind_expression : (Level → Reader Tree) → ℕ → Tree → Reader (Deep BareStmt)
behind_expression expressions line first = λ i.
    if sees s.Assign i then (skip >> spec.assigned expressions line first) i
    else spec.changed_by expressions line first (front_of augmented i) i

module _ (expressions : Level → Reader Tree) (nested : Part → Inside → Reader Statements) where
  -- the suite of a loop
  abbrev pub loop_body : Inside → ℕ → Tree → Tree → Reader Statements
  loop_body inside line to over = do
    body ← spec.suite expressions nested (in_loop inside)
    whole ← given (deep (on_line line (st.For to.0 over.0 body.0)) (max to.1 (max over.1 body.1)))
    pure (one whole)

  -- behind `in`
  abbrev pub loop_over : Inside → ℕ → Tree → Reader Statements
  loop_over inside line to = do
    over ← expression (expressions level.Test)
    expect s.Colon
    loop_body inside line to over

  -- the suite of a function
  abbrev pub def_body : BareName → ℕ → Deep (List BareParam) → Reader Statements
  def_body name line params = do
    body ← spec.suite expressions nested in_function
    whole ← given (deep (on_line line (st.Def name params.0 body.0)) (max params.1 body.1))
    pure (one whole)
