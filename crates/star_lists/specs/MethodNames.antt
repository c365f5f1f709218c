-- The methods of lists by their names, and their parameters: the Starlark specification, "Built-in
-- methods" of lists.
use Rattle.std.specs.Prelude.{ℕ, List, [], ◌∷◌, codes, Option, Some, None, bytes_eq}
use Rattle.std.specs.Prelude.{if◌then◌else◌}
use Rattle.star_library.specs.Arguments.{needed, optional}
use Rattle.star_library.specs.declared.arguments.Parameter.{Parameter}
use Rattle.star_library.specs.declared.parameter_names.ParameterName.TheVariants as parameter
use Rattle.star_lists.specs.declared.methods.ListMethod.{ListMethod}
use Rattle.star_lists.specs.declared.methods.ListMethod.TheVariants as method

-- the name under which a method is called
unfoldable pub method_name : ListMethod → List ℕ
method_name method.Append = codes "append"
method_name method.Clear = codes "clear"
method_name method.Extend = codes "extend"
method_name method.Index = codes "index"
method_name method.Insert = codes "insert"
method_name method.Pop = codes "pop"
method_name method.Remove = codes "remove"

unfoldable pub all_methods : List ListMethod
all_methods =
    method.Append ∷ method.Clear ∷ method.Extend ∷ method.Index ∷ method.Insert ∷ method.Pop
    ∷ method.Remove ∷ []

-- the method of a name among others
abbrev pub method_among : List ListMethod → List ℕ → Option ListMethod
method_among [] name = None
method_among (one ∷ more) name =
    if bytes_eq (method_name one) name then Some one else method_among more name

abbrev pub method_of : List ℕ → Option ListMethod
method_of name = method_among all_methods name

-- the parameters of a method
unfoldable pub parameters_of : ListMethod → List Parameter
parameters_of method.Append = needed parameter.Item ∷ []
parameters_of method.Clear = []
parameters_of method.Extend = needed parameter.Elements ∷ []
parameters_of method.Index =
    needed parameter.X ∷ optional parameter.Start ∷ optional parameter.End ∷ []
parameters_of method.Insert = needed parameter.Index ∷ needed parameter.Item ∷ []
parameters_of method.Pop = optional parameter.I ∷ []
parameters_of method.Remove = needed parameter.X ∷ []
