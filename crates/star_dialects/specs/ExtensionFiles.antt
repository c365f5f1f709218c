-- What an extension's file may not have at its top level: Bazel, ".bzl files"; the Starlark
-- specification, "Name binding and variables".
use Rattle.std.specs.Prelude.{ℕ, List, [], ◌∷◌, Option, Some, None, Result, Ok, Err, map}
use Rattle.std.specs.List.{flat_map}
use Rattle.std.specs.Result.{result_err}
use Rattle.star_grammar.specs.declared.bare_expressions.BareArg.TheOpen.{BareExpr-F}
use Rattle.star_grammar.specs.declared.bare_expressions.BareExpr.{BareExpr, fold-BareExpr}
use Rattle.star_grammar.specs.declared.bare_expressions.BareName.{BareName}
use Rattle.star_grammar.specs.declared.bare_statements.BareLoadName.{BareLoadName}
use Rattle.star_grammar.specs.declared.bare_statements.BareStmt.{BareStmt, out-BareStmt}
use Rattle.star_grammar.specs.declared.bare_statements.BareStmtKind.{out-BareStmtKind}
use Rattle.star_grammar.specs.declared.bare_statements.BareStmtKind.TheOpen.{BareStmtKind-F}
use Rattle.star_trees.specs.Variables.{Names, slot_of, with_binding}
use Rattle.star_dialects.specs.declared.forms.Form.TheVariants as form
use Rattle.star_dialects.specs.declared.forms.Refused.{Refused}
use Rattle.star_dialects.specs.Forms.{StmtKindLayer, form_on}

-- a place of the top level: a name that is bound on a line, or a form that is refused wherever it
-- stands
pub data Place : Type 0 where
  binds : BareName → Place
  stands : Refused → Place

-- ---- the places, in the order of the text

abbrev pub all_places : List (List Place) → List Place
all_places = flat_map (λ places. places)

-- a name that is bound on a line
abbrev pub binding : List ℕ → ℕ → Place
binding name line = binds (record { name = name; line = line })

-- the names of a target, from left to right; an index binds nothing
abbrev pub target_step : BareExpr-F ℕ ℕ (List Place) ℕ ℕ → List Place
target_step (BareExpr-F.Name name) = binds name ∷ []
target_step (BareExpr-F.Bracketed target) = target
target_step (BareExpr-F.Tuple targets) = all_places targets
target_step (BareExpr-F.List targets) = all_places targets
target_step _ = []

abbrev pub target_places : BareExpr → List Place
target_places = fold-BareExpr ℕ ℕ (List Place) ℕ ℕ (λ arg. 0) (λ clause. 0) target_step (λ param. 0)
    (λ pair. 0)

abbrev pub load_place : BareLoadName → Place
load_place loaded = binding loaded.name.local loaded.line

-- an augmented assignment's place is a name or an index
abbrev pub kind_places : ℕ → StmtKindLayer → List Place
kind_places line (BareStmtKind-F.Def name params body) = binding name.name line ∷ []
kind_places line (BareStmtKind-F.If test body otherwise) = stands (form_on line form.If) ∷ []
kind_places line (BareStmtKind-F.For to over body) = stands (form_on line form.For) ∷ []
kind_places line (BareStmtKind-F.Load file names) = map load_place names
kind_places line (BareStmtKind-F.Assign to value) = target_places to
kind_places line (BareStmtKind-F.Augment place op value) = target_places place
kind_places line _ = []

abbrev pub statement_places : BareStmt → List Place
statement_places statement =
    kind_places (out-BareStmt statement).line (out-BareStmtKind (out-BareStmt statement).kind)

abbrev pub body_places : List BareStmt → List Place
body_places = flat_map statement_places

-- ---- the first of them that is refused

-- a name that stands at a place among the names bound so far is bound again
abbrev pub names_with_name : Option ℕ → Names → BareName → Result Names Refused
names_with_name (Some _) names name = Err (form_on name.line form.Rebinding)
names_with_name None names name = Ok (with_binding names name.name)

abbrev pub names_with : Names → Place → Result Names Refused
names_with names (binds name) = names_with_name (slot_of names name.name) names name
names_with names (stands refused) = Err refused

abbrev pub and_then_names : Result Names Refused
    → (Names → Result Names Refused)
    → Result Names Refused
and_then_names (Err refused) next = Err refused
and_then_names (Ok names) next = next names

-- the names after some places, or what is refused first
abbrev pub names_after : Names → List Place → Result Names Refused
names_after names [] = Ok names
names_after names (at ∷ places) = and_then_names (names_with names at)
    (λ more. names_after more places)

-- the first of a file that is refused, in the order of its text
abbrev pub first_in_bzl : List BareStmt → Option Refused
first_in_bzl body = result_err (names_after [] (body_places body))
