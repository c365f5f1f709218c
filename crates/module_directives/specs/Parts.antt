-- What a module file says of extensions, part by part: Bazel, "MODULE.bazel files",
-- `use_extension`.
use Rattle.std.specs.Prelude.{ℕ, List, [], ◌∷◌, ◌++◌, slice_get, slice_set, Option, Some, None}
use Rattle.bz_base.specs.declared.declarations.Part.{Part}
use Rattle.bz_base.specs.declared.declarations.Part.TheVariants as part
use Rattle.bz_base.specs.declared.declarations.Usage.{Usage}
use Rattle.module_arguments.specs.declared.name_pairs.NamePair.{NamePair}
use Rattle.module_directives.specs.declared.parts.Addition.{Addition}
use Rattle.module_directives.specs.declared.parts.Addition.TheVariants as addition
use Rattle.module_directives.specs.declared.parts.Purpose.{Purpose}
use Rattle.module_directives.specs.declared.parts.Purpose.TheVariants as purpose

-- a usage with a tag, an import or a repository change behind the others; its tags are dev where it
-- is
abbrev pub usage_with : Addition → Usage → Usage
usage_with (addition.Tag tag) usage =
    record usage { tags = usage.tags ++ record tag { dev = usage.dev } ∷ [] }
usage_with (addition.Import one) usage = record usage { imports = usage.imports ++ one ∷ [] }
usage_with (addition.Change change) usage = record usage { changes = usage.changes ++ change ∷ [] }

abbrev pub part_with : Addition → Part → Part
part_with one (part.Usage usage) = part.Usage (usage_with one usage)
part_with one (part.Declared declared) = part.Declared declared

abbrev pub parts_with : Option Part → ℕ → Addition → List Part → List Part
parts_with None index one parts = parts
parts_with (Some old) index one parts = slice_set parts index (part_with one old)

-- the parts where that with an index has something more
abbrev pub part_added : ℕ → Addition → List Part → List Part
part_added index one parts = parts_with (slice_get parts index) index one parts

-- what a pair of names is for: an import under its keyword, or the change of a real name
abbrev pub addition_of : Purpose → ℕ → NamePair → Addition
addition_of purpose.Import line pair =
    addition.Import (record { apparent = pair.keyword; real = pair.value; line = line })
addition_of (purpose.Change inject) line pair =
    addition.Change (record {
      real = pair.keyword;
      apparent = pair.value;
      inject = inject;
      line = line;
    })

-- the parts where that with an index has all these names more
abbrev pub names_added : ℕ → Purpose → ℕ → List NamePair → List Part → List Part
names_added index for line [] parts = parts
names_added index for line (pair ∷ pairs) parts =
    names_added index for line pairs (part_added index (addition_of for line pair) parts)
