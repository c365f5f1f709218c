-- Why a directive is refused, before its place is known: Bazel, "MODULE.bazel files".
use Rattle.std.specs.Prelude.{ℕ, List, codes}
use Rattle.bz_base.specs.declared.refusals.Code.{Code}
use Rattle.bz_base.specs.declared.refusals.Code.TheVariants.{BadValue, Fault}
use Rattle.bz_base.specs.declared.refusals.Code.TheVariants.{Left}
use Rattle.module_arguments.specs.Directives.{name_text}
use Rattle.module_arguments.specs.declared.objections.Objection.{Objection}
use Rattle.module_arguments.specs.declared.parameters.ParameterName.{ParameterName}

abbrev pub objection : Code → List ℕ → Objection
objection code detail = record { code = code; detail = detail }

-- the arguments bind to no parameters
abbrev pub arity : Objection
arity = objection Fault (codes "arity")

-- a parameter has a value of a wrong type, or one that it may not have
abbrev pub bad_value : ParameterName → Objection
bad_value called = objection BadValue (name_text called)

-- a parameter has a value that this tool leaves out
abbrev pub left_out : ParameterName → Objection
left_out called = objection Left (name_text called)
