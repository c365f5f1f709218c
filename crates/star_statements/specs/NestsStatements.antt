-- A function value that reads nested statements.
use Rattle.std.specs.Prelude.{ℕ, List, Result}
use Rattle.std.specs.declared.alloc.Global.{Global}
use denote.Ref.{MutBor}
use Rattle.bz_text.specs.declared.memory.Miss.{Miss}
use Rattle.star_grammar.specs.declared.bare_statements.BareStmt.{BareStmt}
use Rattle.star_trees.specs.declared.inside.Inside.{Inside}
use Rattle.star_grammar.specs.declared.bare_statements.Part.{Part}
use Rattle.star_grammar.specs.StatementReading.{stands}
use Rattle.star_expressions.specs.declared.cursor.Cursor.{Cursor}
use Rattle.star_expressions.specs.declared.cursor.NoTree.{NoTree}
use Rattle.star_expressions.specs.Reads.{Reads}

-- it may always be called, and gives what the definition gives at this nesting
pub record NestsStatements (nesting : ℕ) (pre : Global → MutBor Cursor → ℕ → Part → Inside → Type 0)
    (post : Global
    → MutBor Cursor
    → ℕ
    → Part
    → Inside
    → Result (List BareStmt × ℕ) (Miss NoTree)
    → MutBor Cursor
    → Type 0) : Type 0 where
  pub callable : (alloc : Global) (old : MutBor Cursor) (what : Part) (inside : Inside)
      → pre alloc old nesting what inside
  pub reads : (alloc : Global) (old new : MutBor Cursor) (what : Part) (inside : Inside)
      (result : Result (List BareStmt × ℕ) (Miss NoTree))
      → post alloc old nesting what inside result new
      → Reads (stands nesting what inside old.now.rest.now) result new.now.rest.now
