-- What the grammar asks of trees besides: the order of parameters and arguments, names that differ,
-- targets and places. The Starlark specification, "Function and method calls", "Function
-- definitions", "Assignments".
use Rattle.std.specs.Prelude.{ℕ, Bool, true, false, ◌&&◌, ◌==◌, nat_le, if◌then◌else◌, List, []}
use Rattle.std.specs.Prelude.{◌∷◌, Option, Some, None}
use Rattle.star_grammar.specs.declared.bare_expressions.BareArg.{BareArg, out-BareArg}
use Rattle.star_grammar.specs.declared.bare_expressions.BareArg.TheOpen.{BareArg-F, BareExpr-F}
use Rattle.star_grammar.specs.declared.bare_expressions.BareArg.TheOpen.{BareParam-F}
use Rattle.star_grammar.specs.declared.bare_expressions.BareClause.{BareClause}
use Rattle.star_grammar.specs.declared.bare_expressions.BareExpr.{BareExpr, fold-BareExpr}
use Rattle.star_grammar.specs.declared.bare_expressions.BareExpr.{out-BareExpr}
use Rattle.star_grammar.specs.declared.bare_expressions.BarePair.{BarePair}
use Rattle.star_grammar.specs.declared.bare_expressions.BareParam.{BareParam, out-BareParam}
use Rattle.star_trees.specs.Lists.{all_different, may_follow, some_and_all, with_name}

-- an expression, an argument and a parameter, opened once
abbrev pub ExprLayer : Type 0
ExprLayer = BareExpr-F BareArg BareClause BareExpr BareParam BarePair

abbrev pub ArgLayer : Type 0
ArgLayer = BareArg-F BareArg BareClause BareExpr BareParam BarePair

abbrev pub ParamLayer : Type 0
ParamLayer = BareParam-F BareArg BareClause BareExpr BareParam BarePair

-- ---- arguments: positional, named, `*`, `**`; the last two at most once

abbrev pub arg_stage : ArgLayer → ℕ
arg_stage (BareArg-F.Positional value) = 0
arg_stage (BareArg-F.Named name value) = 1
arg_stage (BareArg-F.Star value line) = 2
arg_stage (BareArg-F.DoubleStar value line) = 3

abbrev pub args_in_order : ℕ → List BareArg → Bool
args_in_order last [] = true
args_in_order last (arg ∷ args) =
    may_follow last (arg_stage (out-BareArg arg))
    && args_in_order (arg_stage (out-BareArg arg)) args

abbrev pub arg_name : ArgLayer → Option (List ℕ)
arg_name (BareArg-F.Positional value) = None
arg_name (BareArg-F.Named name value) = Some name
arg_name (BareArg-F.Star value line) = None
arg_name (BareArg-F.DoubleStar value line) = None

abbrev pub arg_names : List BareArg → List (List ℕ)
arg_names [] = []
arg_names (arg ∷ args) = with_name (arg_name (out-BareArg arg)) (arg_names args)

unfoldable pub are_args : List BareArg → Bool
are_args args = args_in_order 0 args && all_different (arg_names args)

-- ---- parameters: required 0, optional 1, `*` 2, keyword-only 3, `**` 4

-- the stage that a parameter is at behind one of the given stage, unless it may not stand there
abbrev pub param_stage : ℕ → ParamLayer → Option ℕ
param_stage last (BareParam-F.Required name) =
    if last == 0 then Some 0 else (if nat_le 2 last && nat_le last 3 then Some 3 else None)
param_stage last (BareParam-F.Optional name default) =
    if nat_le last 1 then Some 1 else (if nat_le last 3 then Some 3 else None)
param_stage last (BareParam-F.Bare line) = if nat_le last 1 then Some 2 else None
param_stage last (BareParam-F.Rest name line) = if nat_le last 1 then Some 2 else None
param_stage last (BareParam-F.Keywords name line) = if nat_le last 3 then Some 4 else None

abbrev pub params_in_order : Option ℕ → List BareParam → Bool
params_in_order None params = false
params_in_order (Some last) [] = true
params_in_order (Some last) (param ∷ params) = params_in_order
    (param_stage last (out-BareParam param)) params

abbrev pub param_name : ParamLayer → Option (List ℕ)
param_name (BareParam-F.Required name) = Some name
param_name (BareParam-F.Optional name default) = Some name
param_name (BareParam-F.Bare line) = None
param_name (BareParam-F.Rest name line) = Some name
param_name (BareParam-F.Keywords name line) = Some name

abbrev pub param_names : List BareParam → List (List ℕ)
param_names [] = []
param_names (param ∷ params) = with_name (param_name (out-BareParam param)) (param_names params)

unfoldable pub are_params : List BareParam → Bool
are_params params = params_in_order (Some 0) params && all_different (param_names params)

-- ---- targets and places

-- a name, an index, a target in round brackets, or one or more targets as a tuple or in square
-- brackets
abbrev pub target_step : BareExpr-F ℕ ℕ Bool ℕ ℕ → Bool
target_step (BareExpr-F.Name name) = true
target_step (BareExpr-F.Index container at) = true
target_step (BareExpr-F.Bracketed target) = target
target_step (BareExpr-F.Tuple targets) = some_and_all targets
target_step (BareExpr-F.List targets) = some_and_all targets
target_step _ = false

abbrev pub is_target : BareExpr → Bool
is_target = fold-BareExpr ℕ ℕ Bool ℕ ℕ (λ arg. 0) (λ clause. 0) target_step (λ param. 0) (λ pair. 0)

abbrev pub is_place_layer : ExprLayer → Bool
is_place_layer (BareExpr-F.Name name) = true
is_place_layer (BareExpr-F.Index container at) = true
is_place_layer _ = false

-- a name or an index, without round brackets round it
unfoldable pub is_place : BareExpr → Bool
is_place expression = is_place_layer (out-BareExpr expression)
