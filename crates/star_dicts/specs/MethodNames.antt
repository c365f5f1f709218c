-- The methods of dictionaries by their names, and their parameters: the Starlark specification,
-- "Built-in methods" of dictionaries. `update` isn't here, since it takes any named arguments.
use Rattle.std.specs.Prelude.{ℕ, List, [], ◌∷◌, codes, Option, Some, None, bytes_eq}
use Rattle.std.specs.Prelude.{if◌then◌else◌}
use Rattle.star_library.specs.Arguments.{needed, optional}
use Rattle.star_library.specs.declared.arguments.Parameter.{Parameter}
use Rattle.star_library.specs.declared.parameter_names.ParameterName.TheVariants as parameter
use Rattle.star_dicts.specs.declared.methods.DictMethod.{DictMethod}
use Rattle.star_dicts.specs.declared.methods.DictMethod.TheVariants as method

-- the name under which a method is called
unfoldable pub method_name : DictMethod → List ℕ
method_name method.Clear = codes "clear"
method_name method.Get = codes "get"
method_name method.Items = codes "items"
method_name method.Keys = codes "keys"
method_name method.Pop = codes "pop"
method_name method.Popitem = codes "popitem"
method_name method.Setdefault = codes "setdefault"
method_name method.Update = codes "update"
method_name method.Values = codes "values"

unfoldable pub all_methods : List DictMethod
all_methods =
    method.Clear ∷ method.Get ∷ method.Items ∷ method.Keys ∷ method.Pop ∷ method.Popitem
    ∷ method.Setdefault ∷ method.Update ∷ method.Values ∷ []

-- the method of a name among others
abbrev pub method_among : List DictMethod → List ℕ → Option DictMethod
method_among [] name = None
method_among (one ∷ more) name =
    if bytes_eq (method_name one) name then Some one else method_among more name

abbrev pub method_of : List ℕ → Option DictMethod
method_of name = method_among all_methods name

-- a key, and what stands for a value that isn't there
abbrev pub sought : List Parameter
sought = needed parameter.Key ∷ optional parameter.Default ∷ []

-- the parameters of a method: those of `update` are read elsewhere
unfoldable pub parameters_of : DictMethod → List Parameter
parameters_of method.Clear = []
parameters_of method.Get = sought
parameters_of method.Items = []
parameters_of method.Keys = []
parameters_of method.Pop = sought
parameters_of method.Popitem = []
parameters_of method.Setdefault = sought
parameters_of method.Update = []
parameters_of method.Values = []
