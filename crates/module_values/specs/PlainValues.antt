-- Values of a heap as plain values: Bazel, "MODULE.bazel files", what a tag or a repository rule is
-- given. Tuples count as lists.
use Rattle.std.specs.Prelude.{ℕ, zero, suc, ◌-◌, ◌==◌, ℤ, List, [], ◌∷◌, Option, Some, None, Result}
use Rattle.std.specs.Prelude.{Ok, Err, if◌then◌else◌, map}
use Rattle.bz_base.specs.PlainLabels.{not_plain}
use Rattle.bz_base.specs.PlainReading.{added, has_64_bits, items_plain, paired, pairs_plain}
use Rattle.bz_base.specs.declared.plain_labels.NotPlain.{NotPlain}
use Rattle.bz_base.specs.declared.plain_values.Plain as plain
use Rattle.bz_base.specs.declared.plain_values.Plain.{Plain}
use Rattle.bz_base.specs.declared.plain_values.PlainPair.{PlainPair}
use Rattle.star_core.specs.Heaps.{HeapState, cell_at}
use Rattle.star_core.specs.declared.cells.Cell.{Cell}
use Rattle.star_core.specs.declared.cells.Cell.TheVariants as cell
use Rattle.star_core.specs.declared.dict.Pair.{Pair}
use Rattle.star_core.specs.declared.values.Val.{Val}
use Rattle.star_core.specs.declared.values.Val.TheVariants as val

-- a plain value, or that there is none
abbrev pub ReadPlain : Type 0
ReadPlain = Result Plain NotPlain

-- an integer of 64 bits, as each of a running evaluation is
abbrev pub integer_plain : ℤ → ReadPlain
integer_plain number = if has_64_bits number then Ok (plain.Int number) else Err not_plain

-- the values so far, and then what each further item is
abbrev pub each_item : (Val → ReadPlain)
    → Result (List Plain) NotPlain
    → List Val
    → Result (List Plain) NotPlain
each_item read (Err bad) items = Err bad
each_item read (Ok values) [] = Ok values
each_item read (Ok values) (item ∷ items) = each_item read (added values (read item)) items

-- a key and its value
abbrev pub pair_of : (Val → ReadPlain) → Pair → Result PlainPair NotPlain
pair_of read pair = paired (read pair.key) (read pair.value)

-- the pairs so far, and then what each further pair is
abbrev pub each_pair : (Val → ReadPlain)
    → Result (List PlainPair) NotPlain
    → List Pair
    → Result (List PlainPair) NotPlain
each_pair read (Err bad) pairs = Err bad
each_pair read (Ok plains) [] = Ok plains
each_pair read (Ok plains) (pair ∷ pairs) =
    each_pair read (added plains (pair_of read pair)) pairs

-- what a cell is, by what reads items and what reads pairs
unfoldable pub cell_plain : (List Val → Result (List Plain) NotPlain)
    → (List Pair → Result (List PlainPair) NotPlain)
    → Option Cell
    → ReadPlain
cell_plain items pairs None = Err not_plain
cell_plain items pairs (Some (cell.Text text)) = Ok (plain.Text text)
cell_plain items pairs (Some (cell.List inside)) = items_plain (items inside)
cell_plain items pairs (Some (cell.Tuple inside)) = items_plain (items inside)
cell_plain items pairs (Some (cell.Dict inside)) =
    pairs_plain (pairs (map (λ entry. entry.pair) inside))
cell_plain items pairs (Some (cell.Range first stop step)) = Err not_plain
cell_plain items pairs (Some (cell.Function function)) = Err not_plain
cell_plain items pairs (Some (cell.Builtin name)) = Err not_plain
cell_plain items pairs (Some (cell.Bound receiver method)) = Err not_plain
cell_plain items pairs (Some (cell.Struct fields)) = Err not_plain
cell_plain items pairs (Some (cell.Label label)) = Err not_plain
cell_plain items pairs (Some (cell.Path repo segments)) = Err not_plain
cell_plain items pairs (Some (cell.Host kind fields)) = Err not_plain

-- what a value is, by the same
unfoldable pub value_layer : (List Val → Result (List Plain) NotPlain)
    → (List Pair → Result (List PlainPair) NotPlain)
    → HeapState
    → Val
    → ReadPlain
value_layer items pairs heap val.None = Ok plain.None
value_layer items pairs heap (val.Bool flag) = Ok (plain.Flag flag)
value_layer items pairs heap (val.Int number) = integer_plain number
value_layer items pairs heap (val.Cell number) =
    cell_plain items pairs (cell_at heap (val.Cell number))

-- the plain value that a value is, where lists and dictionaries nest no deeper
unfoldable pub plain_within : ℕ → HeapState → Val → ReadPlain
plain_within zero heap value =
    value_layer (λ items. Err not_plain) (λ pairs. Err not_plain) heap value
plain_within (suc depth) heap value =
    value_layer (each_item (plain_within depth heap) (Ok []))
    (each_pair (plain_within depth heap) (Ok [])) heap value

-- nothing lies below the last level
abbrev pub items_within : ℕ → HeapState → List Val → Result (List Plain) NotPlain
items_within depth heap items =
    if depth == 0 then Err not_plain else each_item (plain_within (depth - 1) heap) (Ok []) items

-- nor do pairs
abbrev pub pairs_within : ℕ → HeapState → List Pair → Result (List PlainPair) NotPlain
pairs_within depth heap pairs =
    if depth == 0 then Err not_plain else each_pair (plain_within (depth - 1) heap) (Ok []) pairs

-- the plain value that a value is, at most 16 deep
abbrev pub plain_of : HeapState → Val → ReadPlain
plain_of heap value = plain_within 16 heap value
