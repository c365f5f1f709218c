-- The methods of strings by their names, and their parameters: the Starlark specification,
-- "Built-in methods".
use Rattle.std.specs.Prelude.{ℕ, List, [], ◌∷◌, codes, Option, Some, None, bytes_eq}
use Rattle.std.specs.Prelude.{if◌then◌else◌}
use Rattle.star_library.specs.Arguments.{needed, optional}
use Rattle.star_library.specs.declared.arguments.Parameter.{Parameter}
use Rattle.star_library.specs.declared.parameter_names.ParameterName.TheVariants as parameter
use Rattle.star_text.specs.declared.methods.TextMethod.{TextMethod}
use Rattle.star_text.specs.declared.methods.TextMethod.TheVariants as method

-- the name under which a method is called
unfoldable pub method_name : TextMethod → List ℕ
method_name method.Capitalize = codes "capitalize"
method_name method.Count = codes "count"
method_name method.Elems = codes "elems"
method_name method.Endswith = codes "endswith"
method_name method.Find = codes "find"
method_name method.Index = codes "index"
method_name method.Isalnum = codes "isalnum"
method_name method.Isalpha = codes "isalpha"
method_name method.Isdigit = codes "isdigit"
method_name method.Islower = codes "islower"
method_name method.Isspace = codes "isspace"
method_name method.Istitle = codes "istitle"
method_name method.Isupper = codes "isupper"
method_name method.Join = codes "join"
method_name method.Lower = codes "lower"
method_name method.Lstrip = codes "lstrip"
method_name method.Partition = codes "partition"
method_name method.Removeprefix = codes "removeprefix"
method_name method.Removesuffix = codes "removesuffix"
method_name method.Replace = codes "replace"
method_name method.Rfind = codes "rfind"
method_name method.Rindex = codes "rindex"
method_name method.Rpartition = codes "rpartition"
method_name method.Rsplit = codes "rsplit"
method_name method.Rstrip = codes "rstrip"
method_name method.Split = codes "split"
method_name method.Splitlines = codes "splitlines"
method_name method.Startswith = codes "startswith"
method_name method.Strip = codes "strip"
method_name method.Title = codes "title"
method_name method.Upper = codes "upper"

unfoldable pub all_methods : List TextMethod
all_methods =
    method.Capitalize ∷ method.Count ∷ method.Elems ∷ method.Endswith ∷ method.Find
    ∷ method.Index ∷ method.Isalnum ∷ method.Isalpha ∷ method.Isdigit ∷ method.Islower
    ∷ method.Isspace ∷ method.Istitle ∷ method.Isupper ∷ method.Join ∷ method.Lower
    ∷ method.Lstrip ∷ method.Partition ∷ method.Removeprefix ∷ method.Removesuffix
    ∷ method.Replace ∷ method.Rfind ∷ method.Rindex ∷ method.Rpartition ∷ method.Rsplit
    ∷ method.Rstrip ∷ method.Split ∷ method.Splitlines ∷ method.Startswith ∷ method.Strip
    ∷ method.Title ∷ method.Upper ∷ []

-- the method of a name among others
abbrev pub method_among : List TextMethod → List ℕ → Option TextMethod
method_among [] name = None
method_among (one ∷ more) name =
    if bytes_eq (method_name one) name then Some one else method_among more name

abbrev pub method_of : List ℕ → Option TextMethod
method_of name = method_among all_methods name

-- a text that is sought, and between which indexes
abbrev pub sought : List Parameter
sought = needed parameter.Sub ∷ optional parameter.Start ∷ optional parameter.End ∷ []

-- the parameters of a method
unfoldable pub parameters_of : TextMethod → List Parameter
parameters_of method.Capitalize = []
parameters_of method.Count = sought
parameters_of method.Elems = []
parameters_of method.Endswith = sought
parameters_of method.Find = sought
parameters_of method.Index = sought
parameters_of method.Isalnum = []
parameters_of method.Isalpha = []
parameters_of method.Isdigit = []
parameters_of method.Islower = []
parameters_of method.Isspace = []
parameters_of method.Istitle = []
parameters_of method.Isupper = []
parameters_of method.Join = needed parameter.Elements ∷ []
parameters_of method.Lower = []
parameters_of method.Lstrip = optional parameter.Chars ∷ []
parameters_of method.Partition = needed parameter.Sep ∷ []
parameters_of method.Removeprefix = needed parameter.Prefix ∷ []
parameters_of method.Removesuffix = needed parameter.Suffix ∷ []
parameters_of method.Rfind = sought
parameters_of method.Rindex = sought
parameters_of method.Rpartition = needed parameter.Sep ∷ []
parameters_of method.Rsplit = optional parameter.Sep ∷ optional parameter.Maxsplit ∷ []
parameters_of method.Rstrip = optional parameter.Chars ∷ []
parameters_of method.Split = optional parameter.Sep ∷ optional parameter.Maxsplit ∷ []
parameters_of method.Startswith = sought
parameters_of method.Strip = optional parameter.Chars ∷ []
parameters_of method.Title = []
parameters_of method.Upper = []
parameters_of method.Replace =
    needed parameter.Old ∷ needed parameter.New ∷ optional parameter.Count ∷ []
parameters_of method.Splitlines = optional parameter.Keepends ∷ []
