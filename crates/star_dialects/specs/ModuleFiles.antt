-- What a MODULE.bazel file may not have: Bazel, "MODULE.bazel files". A form is refused where it
-- begins, so that nothing inside it matters.
use Rattle.std.specs.Prelude.{ℕ, Bool, true, false, if◌then◌else◌, List, Option, Some, None}
use Rattle.std.specs.Option.{option_or}
use Rattle.star_grammar.specs.declared.bare_expressions.BareArg.TheOpen.{BareArg-F, BareClause-F}
use Rattle.star_grammar.specs.declared.bare_expressions.BareArg.TheOpen.{BareExpr-F, BarePair-F}
use Rattle.star_grammar.specs.declared.bare_expressions.BareArg.{BareArg, fold-BareArg}
use Rattle.star_grammar.specs.declared.bare_expressions.BareClause.{BareClause, fold-BareClause}
use Rattle.star_grammar.specs.declared.bare_expressions.BareExpr.{BareExpr, fold-BareExpr}
use Rattle.star_grammar.specs.declared.bare_expressions.BarePair.{BarePair, fold-BarePair}
use Rattle.star_grammar.specs.declared.bare_statements.BareStmt.{BareStmt, out-BareStmt}
use Rattle.star_grammar.specs.declared.bare_statements.BareStmtKind.{out-BareStmtKind}
use Rattle.star_grammar.specs.declared.bare_statements.BareStmtKind.TheOpen.{BareStmtKind-F}
use Rattle.star_dialects.specs.declared.forms.Form.TheVariants as form
use Rattle.star_dialects.specs.declared.forms.Refused.{Refused}
use Rattle.star_dialects.specs.Forms.{StmtKindLayer, first_among, form_on}

-- an expression: whether it is a dictionary display without a comprehension, and the first form in
-- it that is refused
pub record Seen : Type 0 where
  pub is_display : Bool
  pub first : Option Refused

-- an expression that is no dictionary display
abbrev pub plain : Option Refused → Seen
plain first = record { is_display = false; first = first }

abbrev pub first_in_items : List Seen → Option Refused
first_in_items = first_among (λ item. item.first)

abbrev pub first_in_parts : List (Option Refused) → Option Refused
first_in_parts = first_among (λ first. first)

-- a part that may be left out
abbrev pub first_in_bound : Option Seen → Option Refused
first_in_bound None = None
first_in_bound (Some bound) = bound.first

-- ---- one level, with what stands inside already seen, in the order of the text

-- `*` is refused, and `**` unless its value is a dictionary display
abbrev pub arg_step : BareArg-F (Option Refused) (Option Refused) Seen ℕ (Option Refused)
    → Option Refused
arg_step (BareArg-F.Positional value) = value.first
arg_step (BareArg-F.Named name value) = value.first
arg_step (BareArg-F.Star value line) = Some (form_on line form.Star)
arg_step (BareArg-F.DoubleStar value line) =
    if value.is_display then value.first else Some (form_on line form.StarStar)

abbrev pub clause_step : BareClause-F (Option Refused) (Option Refused) Seen ℕ (Option Refused)
    → Option Refused
clause_step (BareClause-F.For to over) = option_or to.first over.first
clause_step (BareClause-F.If test) = test.first

abbrev pub pair_step : BarePair-F (Option Refused) (Option Refused) Seen ℕ (Option Refused)
    → Option Refused
pair_step pair = option_or pair.key.first pair.value.first

-- round brackets change nothing
abbrev pub expr_step : BareExpr-F (Option Refused) (Option Refused) Seen ℕ (Option Refused) → Seen
expr_step (BareExpr-F.Name name) = plain None
expr_step (BareExpr-F.Int value) = plain None
expr_step (BareExpr-F.Text text) = plain None
expr_step (BareExpr-F.List items) = plain (first_in_items items)
expr_step (BareExpr-F.Tuple items) = plain (first_in_items items)
expr_step (BareExpr-F.Dict pairs) = record { is_display = true; first = first_in_parts pairs }
expr_step (BareExpr-F.ListComp item clauses) = plain (option_or item.first (first_in_parts clauses))
expr_step (BareExpr-F.DictComp key value clauses) =
    plain (option_or key.first (option_or value.first (first_in_parts clauses)))
expr_step (BareExpr-F.Bracketed inside) = inside
expr_step (BareExpr-F.Unary op operand) = plain operand.first
expr_step (BareExpr-F.Binary op left right) = plain (option_or left.first right.first)
expr_step (BareExpr-F.Cond test chosen otherwise) =
    plain (option_or chosen.first (option_or test.first otherwise.first))
expr_step (BareExpr-F.Lambda params body line) = plain (Some (form_on line form.Lambda))
expr_step (BareExpr-F.Attr container name) = plain container.first
expr_step (BareExpr-F.Index container at) = plain (option_or container.first at.first)
expr_step (BareExpr-F.Slice container begin end step) =
    plain
    (option_or container.first
    (option_or (first_in_bound begin) (option_or (first_in_bound end) (first_in_bound step))))
expr_step (BareExpr-F.Call function args) = plain (option_or function.first (first_in_parts args))

abbrev pub seen : BareExpr → Seen
seen = fold-BareExpr (Option Refused) (Option Refused) Seen ℕ
    (Option Refused) arg_step clause_step expr_step (λ param. 0) pair_step

abbrev pub first_in_arg : BareArg → Option Refused
first_in_arg = fold-BareArg (Option Refused) (Option Refused) Seen ℕ
    (Option Refused) arg_step clause_step expr_step (λ param. 0) pair_step

abbrev pub first_in_clause : BareClause → Option Refused
first_in_clause = fold-BareClause (Option Refused) (Option Refused) Seen ℕ
    (Option Refused) arg_step clause_step expr_step (λ param. 0) pair_step

abbrev pub first_in_pair : BarePair → Option Refused
first_in_pair = fold-BarePair (Option Refused) (Option Refused) Seen ℕ
    (Option Refused) arg_step clause_step expr_step (λ param. 0) pair_step

-- ---- statements

-- the value of a `return`, which may be left out
abbrev pub first_in_returned : Option BareExpr → Option Refused
first_in_returned None = None
first_in_returned (Some value) = (seen value).first

abbrev pub first_in_kind : ℕ → StmtKindLayer → Option Refused
first_in_kind line (BareStmtKind-F.Def name params body) = Some (form_on line form.Def)
first_in_kind line (BareStmtKind-F.If test body otherwise) = Some (form_on line form.If)
first_in_kind line (BareStmtKind-F.For to over body) = Some (form_on line form.For)
first_in_kind line (BareStmtKind-F.Return value) = first_in_returned value
first_in_kind line BareStmtKind-F.Break = None
first_in_kind line BareStmtKind-F.Continue = None
first_in_kind line BareStmtKind-F.Pass = None
first_in_kind line (BareStmtKind-F.Load file names) = Some (form_on line form.Load)
first_in_kind line (BareStmtKind-F.Assign to value) = option_or (seen to).first (seen value).first
first_in_kind line (BareStmtKind-F.Augment place op value) = option_or (seen place).first
    (seen value).first
first_in_kind line (BareStmtKind-F.Value value) = (seen value).first

abbrev pub first_in_statement : BareStmt → Option Refused
first_in_statement statement =
    first_in_kind (out-BareStmt statement).line (out-BareStmtKind (out-BareStmt statement).kind)

-- the first form of a file that is refused, in the order of its text
abbrev pub first_in_module : List BareStmt → Option Refused
first_in_module = first_among first_in_statement
