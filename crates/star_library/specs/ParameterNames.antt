-- The names of the library's parameters.
use Rattle.std.specs.Prelude.{ℕ, List, codes}
use Rattle.star_library.specs.declared.parameter_names.ParameterName.{ParameterName}
use Rattle.star_library.specs.declared.parameter_names.ParameterName.TheVariants as name

-- a name as it is written at a call
unfoldable pub name_text : ParameterName → List ℕ
name_text name.Base = codes "base"
name_text name.Chars = codes "chars"
name_text name.Count = codes "count"
name_text name.Default = codes "default"
name_text name.Elements = codes "elements"
name_text name.End = codes "end"
name_text name.I = codes "i"
name_text name.Index = codes "index"
name_text name.Item = codes "item"
name_text name.Keepends = codes "keepends"
name_text name.Key = codes "key"
name_text name.List = codes "list"
name_text name.Maxsplit = codes "maxsplit"
name_text name.Name = codes "name"
name_text name.New = codes "new"
name_text name.Old = codes "old"
name_text name.Prefix = codes "prefix"
name_text name.Reverse = codes "reverse"
name_text name.Sep = codes "sep"
name_text name.Sequence = codes "sequence"
name_text name.Start = codes "start"
name_text name.Sub = codes "sub"
name_text name.Suffix = codes "suffix"
name_text name.X = codes "x"
