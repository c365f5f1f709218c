-- A function value that reads nested expressions.
use Rattle.std.specs.Prelude.{ℕ, Result}
use Rattle.std.specs.declared.alloc.Global.{Global}
use denote.Ref.{MutBor}
use Rattle.bz_text.specs.declared.memory.Miss.{Miss}
use Rattle.star_grammar.specs.declared.bare_expressions.BareExpr.{BareExpr}
use Rattle.star_grammar.specs.declared.bare_expressions.Level.{Level}
use Rattle.star_grammar.specs.ExpressionReading.{reads}
use Rattle.star_expressions.specs.declared.cursor.Cursor.{Cursor}
use Rattle.star_expressions.specs.declared.cursor.NoTree.{NoTree}
use Rattle.star_expressions.specs.Reads.{Reads}

-- it may always be called, and gives what the definition gives at this nesting
pub record Nests (nesting : ℕ) (pre : Global → MutBor Cursor → ℕ → Level → Type 0)
    (post : Global
    → MutBor Cursor
    → ℕ
    → Level
    → Result (BareExpr × ℕ) (Miss NoTree)
    → MutBor Cursor
    → Type 0) : Type 0 where
  pub callable : (alloc : Global) (old : MutBor Cursor) (what : Level) → pre alloc old nesting what
  pub reads : (alloc : Global) (old new : MutBor Cursor) (what : Level)
      (result : Result (BareExpr × ℕ) (Miss NoTree)) → post alloc old nesting what result new
      → Reads (reads nesting what old.now.rest.now) result new.now.rest.now
