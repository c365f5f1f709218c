-- The operators of expressions and statements, as one table.
use Rattle.std.specs.Prelude.{ℕ, ◌==◌, if◌then◌else◌, Option, Some, None}
use Rattle.star_trees.specs.declared.trees.BinOp.{BinOp}
use Rattle.star_trees.specs.declared.trees.BinOp.TheVariants as bin
use Rattle.star_trees.specs.declared.trees.UnOp.{UnOp}
use Rattle.star_trees.specs.declared.trees.UnOp.TheVariants as un
use Rattle.star_grammar.specs.declared.symbols.Sign.{Sign}
use Rattle.star_grammar.specs.declared.symbols.Sign.TheVariants as s

-- the binary operators with the level of each, from the tightest, which is 0: products, sums,
-- shifts, `&`, `^`, `|`, `and`, `or`
abbrev pub chained : Sign → Option (ℕ × BinOp)
chained s.Star = Some (0, bin.Mul)
chained s.Slashes = Some (0, bin.Div)
chained s.Percent = Some (0, bin.Mod)
chained s.Plus = Some (1, bin.Add)
chained s.Minus = Some (1, bin.Sub)
chained s.ShiftLeft = Some (2, bin.Shl)
chained s.ShiftRight = Some (2, bin.Shr)
chained s.Ampersand = Some (3, bin.BitAnd)
chained s.Caret = Some (4, bin.BitXor)
chained s.Bar = Some (5, bin.BitOr)
chained s.And = Some (6, bin.And)
chained s.Or = Some (7, bin.Or)
chained _ = None

abbrev pub at_level : ℕ → Option (ℕ × BinOp) → Option BinOp
at_level level None = None
at_level level (Some entry) = if entry.0 == level then Some entry.1 else None

-- the operator of this level that the sign is
abbrev pub operator : ℕ → Sign → Option BinOp
operator level what = at_level level (chained what)

-- comparisons by one sign
abbrev pub comparison : Sign → Option BinOp
comparison s.Equal = Some bin.Eq
comparison s.Unequal = Some bin.Ne
comparison s.Below = Some bin.Lt
comparison s.Above = Some bin.Gt
comparison s.AtMost = Some bin.Le
comparison s.AtLeast = Some bin.Ge
comparison s.In = Some bin.Within
comparison _ = None

-- what stands before its operand and binds tighter than the binary operators
abbrev pub prefix : Sign → Option UnOp
prefix s.Plus = Some un.Plus
prefix s.Minus = Some un.Minus
prefix s.Tilde = Some un.Invert
prefix _ = None

abbrev pub negation : Sign → Option UnOp
negation s.Not = Some un.Not
negation _ = None

-- the operator of an augmented assignment
abbrev pub augmented : Sign → Option BinOp
augmented s.PlusAssign = Some bin.Add
augmented s.MinusAssign = Some bin.Sub
augmented s.StarAssign = Some bin.Mul
augmented s.SlashesAssign = Some bin.Div
augmented s.PercentAssign = Some bin.Mod
augmented s.AmpersandAssign = Some bin.BitAnd
augmented s.BarAssign = Some bin.BitOr
augmented s.CaretAssign = Some bin.BitXor
augmented s.ShiftLeftAssign = Some bin.Shl
augmented s.ShiftRightAssign = Some bin.Shr
augmented _ = None
