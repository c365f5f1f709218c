-- The forms of Starlark that a dialect may refuse, as they are told: Bazel, ".bzl files" and
-- "MODULE.bazel files".
use Rattle.std.specs.Prelude.{ℕ, List, [], ◌∷◌, Option, None, codes}
use Rattle.std.specs.Option.{option_or}
use Rattle.star_grammar.specs.declared.bare_statements.BareStmt.{BareStmt}
use Rattle.star_grammar.specs.declared.bare_statements.BareStmtKind.{BareStmtKind}
use Rattle.star_grammar.specs.declared.bare_statements.BareStmtKind.TheOpen.{BareStmtKind-F}
use Rattle.star_dialects.specs.declared.forms.Form.{Form}
use Rattle.star_dialects.specs.declared.forms.Form.TheVariants as form
use Rattle.star_dialects.specs.declared.forms.Refused.{Refused}

abbrev pub form_text : Form → List ℕ
form_text form.If = codes "if"
form_text form.For = codes "for"
form_text form.Rebinding = codes "rebinding"
form_text form.Load = codes "load"
form_text form.Def = codes "def"
form_text form.Lambda = codes "lambda"
form_text form.Star = codes "*"
form_text form.StarStar = codes "**"

-- a form that is refused on a line
abbrev pub form_on : ℕ → Form → Refused
form_on line what = record { line = line; form = what }

-- the first that there is among what stands in these, in their order
abbrev pub first_among : {A : Type 0} → (A → Option Refused) → List A → Option Refused
first_among of [] = None
first_among of (one ∷ more) = option_or (of one) (first_among of more)

-- a statement's kind, opened once
abbrev pub StmtKindLayer : Type 0
StmtKindLayer = BareStmtKind-F BareStmtKind BareStmt
