-- Arguments under names of the caller's own: the attributes of tags and of declared repositories,
-- which are plain values at most 16 deep.
use Rattle.std.specs.Prelude.{ℕ, List, [], ◌∷◌, ◌++◌, Result, Ok, Err, if◌then◌else◌}
use Rattle.bz_base.specs.declared.plain_labels.NotPlain.{NotPlain}
use Rattle.bz_base.specs.declared.plain_values.Named.{Named}
use Rattle.bz_base.specs.declared.plain_values.Plain.{Plain}
use Rattle.bz_base.specs.declared.refusals.Code.TheVariants.{BadValue}
use Rattle.module_values.specs.PlainValues.{plain_of}
use Rattle.star_core.specs.Heaps.{HeapState}
use Rattle.star_core.specs.declared.values.NamedVal.{NamedVal}
use Rattle.module_arguments.specs.Arguments.{is_parameter}
use Rattle.module_arguments.specs.Objections.{objection}
use Rattle.module_arguments.specs.declared.objections.Objection.{Objection}
use Rattle.module_arguments.specs.declared.parameters.Parameter.{Parameter}

-- a plain value under a name
abbrev pub attribute_of : List ℕ → Result Plain NotPlain → Result Named Objection
attribute_of name (Ok value) = Ok (record { name = name; value = value })
attribute_of name (Err bad) = Err (objection BadValue name)

-- some attributes and one more
abbrev pub and_attribute : List Named → Result Named Objection → Result (List Named) Objection
and_attribute attributes (Ok one) = Ok (attributes ++ one ∷ [])
and_attribute attributes (Err objection) = Err objection

-- the attributes so far, and those of further arguments that are of no parameter
abbrev pub attributes_after : HeapState
    → List Parameter
    → Result (List Named) Objection
    → List NamedVal
    → Result (List Named) Objection
attributes_after heap parameters (Err objection) named = Err objection
attributes_after heap parameters (Ok attributes) [] = Ok attributes
attributes_after heap parameters (Ok attributes) (argument ∷ more) =
    attributes_after heap parameters
    (if is_parameter parameters argument.name then Ok attributes
    else and_attribute attributes (attribute_of argument.name (plain_of heap argument.val))) more

-- the attributes of a call
abbrev pub attributes_in : HeapState → List Parameter → List NamedVal → Result (List Named) Objection
attributes_in heap parameters named = attributes_after heap parameters (Ok []) named
