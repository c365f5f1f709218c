-- What an evaluation may rest on of its heap: that each cell is good, over its files and how many
-- scopes of variables there are.
use Rattle.std.specs.Prelude.{◌≡◌, ◌≢◌, ◌<◌, ◌≤◌, suc, All, AllPairs, IsTrue, List, [], ◌∷◌}
use Rattle.std.specs.Prelude.{length, Option, None, Some, Ok, pos, slice_get, ⊤, ℕ, codes}
use Rattle.bz_base.specs.Labels.{IsLabel}
use Rattle.bz_base.specs.Names.{is_canonical}
use Rattle.star_core.specs.Contents.{key_content}
use Rattle.star_core.specs.Dicts.{Entry, KeysDiffer}
use Rattle.star_core.specs.Heaps.{HeapState, cell_at}
use Rattle.star_core.specs.Hosts.{IsValueOf}
use Rattle.star_core.specs.LibraryNames.{function_names, has_method, is_among}
use Rattle.star_core.specs.Sizes.{most_sizes}
use Rattle.star_core.specs.declared.cells.Cell.{Cell}
use Rattle.star_core.specs.declared.cells.Cell.TheVariants as cell
use Rattle.star_core.specs.declared.cells.Function.{Function}
use Rattle.star_core.specs.declared.values.NamedVal.{NamedVal}
use Rattle.star_trees.specs.WellFormed.{WellFormed}
use Rattle.star_trees.specs.declared.files.File.{File}
use Rattle.star_trees.specs.declared.files.FnCode.{FnCode}
use Rattle.star_trees.specs.declared.files.Param.{Param}
use Rattle.star_trees.specs.declared.files.Param.TheVariants as param

-- what a heap's functions are of: the files, by number, and how many scopes there are
pub record Surroundings : Type 0 where
  pub files : List File
  pub scopes : ℕ

-- how many parameters have a default
abbrev pub default_count : List Param → ℕ
default_count [] = 0
default_count (param.Required name ∷ params) = default_count params
default_count (param.Optional name default ∷ params) = suc (default_count params)
default_count (param.Bare ∷ params) = default_count params
default_count (param.Rest name ∷ params) = default_count params
default_count (param.Keywords name ∷ params) = default_count params

-- the name of a function; a `lambda` has none of its own
abbrev pub printed_name : Option (List ℕ) → List ℕ
printed_name None = codes "lambda"
printed_name (Some name) = name

-- a function is one of a well-formed file, under its name, with a value for each default, in a scope
-- that is there
pub record IsFunctionOf (round : Surroundings) (heap : HeapState) (function : Function)
    : Type 0 where
  pub file : File
  pub code : FnCode
  pub file_stands : slice_get round.files function.file ≡ Some file
  pub well_formed : WellFormed file
  pub code_stands : slice_get file.functions function.function ≡ Some code
  pub name_stands : function.name ≡ printed_name code.name
  pub defaults_stand : length function.defaults ≡ default_count code.params
  pub values_stand : All (IsValueOf heap) function.defaults
  pub scope_stands : function.around < round.scopes

-- values under names that differ
pub record AreFieldsOf (heap : HeapState) (fields : List NamedVal) : Type 0 where
  pub values_stand : All (λ field. IsValueOf heap field.val) fields
  pub differ : AllPairs (λ one other. one.name ≢ other.name) fields

-- an entry's key and value are of the heap, and it is kept under its key's content
pub record IsEntryOf (heap : HeapState) (entry : Entry) : Type 0 where
  pub key_stands : IsValueOf heap entry.pair.key
  pub value_stands : IsValueOf heap entry.pair.value
  pub content_stands : key_content heap entry.pair.key ≡ Ok entry.content

-- a dictionary of which no two keys are one
pub record AreEntriesOf (heap : HeapState) (entries : List Entry) : Type 0 where
  pub each : All (IsEntryOf heap) entries
  pub differ : KeysDiffer entries

-- a good cell
abbrev pub IsCellOf : Surroundings → HeapState → Cell → Type 0
IsCellOf round heap (cell.Text text) = ⊤
IsCellOf round heap (cell.List items) = All (IsValueOf heap) items
IsCellOf round heap (cell.Tuple items) = All (IsValueOf heap) items
IsCellOf round heap (cell.Dict entries) = AreEntriesOf heap entries
IsCellOf round heap (cell.Range first stop step) = step ≢ pos 0
IsCellOf round heap (cell.Function function) = IsFunctionOf round heap function
IsCellOf round heap (cell.Builtin name) = IsTrue (is_among name function_names)
IsCellOf round heap (cell.Bound receiver method) =
    IsValueOf heap receiver × IsTrue (has_method (cell_at heap receiver) method)
IsCellOf round heap (cell.Struct fields) = AreFieldsOf heap fields
IsCellOf round heap (cell.Label label) = IsLabel label
IsCellOf round heap (cell.Path repo segments) = IsTrue (is_canonical repo)
IsCellOf round heap (cell.Host kind fields) = AreFieldsOf heap fields

-- a good heap: each cell is good, what is frozen is there, and the sum of sizes is within its limit
pub record IsHeapOf (round : Surroundings) (heap : HeapState) : Type 0 where
  pub cells_stand : All (λ held. IsCellOf round heap held.cell) heap.cells
  pub frozen_stands : heap.frozen ≤ length heap.cells
  pub sum_stands : heap.sum ≤ most_sizes
