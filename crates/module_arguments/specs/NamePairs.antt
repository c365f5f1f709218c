-- Names of repositories that `use_repo`, `override_repo` and `inject_repo` are given: Bazel,
-- "MODULE.bazel files". A string by position stands for both names; a named argument pairs its
-- keyword with its value. They are checked in order, of a named argument first the keyword.
use Rattle.std.specs.Prelude.{ℕ, List, [], ◌∷◌, ◌++◌, Option, Some, None, Result}
use Rattle.std.specs.Prelude.{Ok, Err, codes, if◌then◌else◌}
use Rattle.bz_base.specs.Names.{is_repository_name}
use Rattle.bz_base.specs.declared.refusals.Code.TheVariants.{BadName, BadValue}
use Rattle.module_values.specs.TextLists.{text_at}
use Rattle.star_core.specs.Heaps.{HeapState}
use Rattle.star_core.specs.declared.values.NamedVal.{NamedVal}
use Rattle.star_core.specs.declared.values.Val.{Val}
use Rattle.module_arguments.specs.Objections.{objection}
use Rattle.module_arguments.specs.declared.name_pairs.NamePair.{NamePair}
use Rattle.module_arguments.specs.declared.objections.Objection.{Objection}

abbrev pub ReadPair : Type 0
ReadPair = Result NamePair Objection

abbrev pub pair_named : List ℕ → List ℕ → ReadPair
pair_named keyword value = Ok (record { keyword = keyword; value = value })

-- a keyword that is a name, and a value that is one
abbrev pub value_checked : List ℕ → List ℕ → ReadPair
value_checked keyword value =
    if is_repository_name value then pair_named keyword value else Err (objection BadName value)

-- a value under a detail for what is no string
abbrev pub pair_of : List ℕ → List ℕ → Option (List ℕ) → ReadPair
pair_of detail keyword None = Err (objection BadValue detail)
pair_of detail keyword (Some value) = value_checked keyword value

abbrev pub pair_under : HeapState → NamedVal → ReadPair
pair_under heap argument =
    if is_repository_name argument.name
    then pair_of argument.name argument.name (text_at heap argument.val)
    else Err (objection BadName argument.name)

-- a string by position stands for both names
abbrev pub both_of : Option (List ℕ) → ReadPair
both_of None = Err (objection BadValue (codes "args"))
both_of (Some value) = value_checked value value

-- some pairs and one more
abbrev pub and_pair : List NamePair → ReadPair → Result (List NamePair) Objection
and_pair pairs (Ok one) = Ok (pairs ++ one ∷ [])
and_pair pairs (Err objection) = Err objection

-- the pairs so far, and those of further named arguments
abbrev pub named_after : HeapState
    → Result (List NamePair) Objection
    → List NamedVal
    → Result (List NamePair) Objection
named_after heap (Err objection) named = Err objection
named_after heap (Ok pairs) [] = Ok pairs
named_after heap (Ok pairs) (argument ∷ more) =
    named_after heap (and_pair pairs (pair_under heap argument)) more

-- the pairs so far, and those of further strings by position
abbrev pub placed_after : HeapState
    → Result (List NamePair) Objection
    → List Val
    → Result (List NamePair) Objection
placed_after heap (Err objection) values = Err objection
placed_after heap (Ok pairs) [] = Ok pairs
placed_after heap (Ok pairs) (value ∷ more) =
    placed_after heap (and_pair pairs (both_of (text_at heap value))) more

-- the pairs of a call, those by position first
abbrev pub pairs_in : HeapState → List Val → List NamedVal → Result (List NamePair) Objection
pairs_in heap values named = named_after heap (placed_after heap (Ok []) values) named
