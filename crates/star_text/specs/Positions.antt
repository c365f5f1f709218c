-- What depends on indexes: the Starlark specification, "string·find", "string·index",
-- "string·count" and "string·startswith". An index counts characters, a negative one from the end.
use Rattle.std.specs.Prelude.{ℕ, suc, ◌+◌, ◌-◌, ◌==◌, ℤ, pos, negsuc, min, Bool, false, ◌||◌}
use Rattle.std.specs.Prelude.{if◌then◌else◌, List, [], ◌∷◌, length, take, drop, Option, Some, None}
use Rattle.std.specs.Prelude.{option_map, Result, Ok, Err}
use Rattle.star_core.specs.Heaps.{HeapState, cell_at}
use Rattle.star_core.specs.declared.cells.Cell.{Cell}
use Rattle.star_core.specs.declared.cells.Cell.TheVariants as cell
use Rattle.star_core.specs.declared.faults.Fault.{Fault}
use Rattle.star_core.specs.declared.faults.Fault.TheVariants as fault
use Rattle.star_core.specs.declared.values.Val.{Val}
use Rattle.star_core.specs.declared.values.Val.TheVariants as val
use Rattle.star_scalars.specs.Pieces.{first_pieces}
use Rattle.star_scalars.specs.Searches.{begins, ends, first_index, last_index}
use Rattle.star_text.specs.ArgumentValues.{Answered, result_then, scalars_of, value_at}
use Rattle.star_text.specs.declared.text_answers.Side.{Side}
use Rattle.star_text.specs.declared.text_answers.Side.TheVariants as side
use Rattle.star_text.specs.declared.text_answers.TextAnswer.TheVariants as answer

-- an index within a text of a length
abbrev pub index_within : ℤ → ℕ → ℕ
index_within (pos index) long = min index long
index_within (negsuc index) long = long - suc index

unfoldable pub bound_of : ℕ → ℕ → Option Val → Result ℕ Fault
bound_of long default None = Ok default
bound_of long default (Some val.None) = Ok default
bound_of long default (Some (val.Bool flag)) = Err fault.Kind
bound_of long default (Some (val.Int index)) = Ok (index_within index long)
bound_of long default (Some (val.Cell number)) = Err fault.Kind

-- the indexes between which a call looks: the second and the third parameter
unfoldable pub bounds_of : ℕ → List (Option Val) → Result (ℕ × ℕ) Fault
bounds_of long values =
    result_then (bound_of long 0 (value_at 1 values))
    (λ start. result_then (bound_of long long (value_at 2 values)) (λ end. Ok (start, end)))

-- the characters between two indexes
abbrev pub between : ℕ × ℕ → List ℕ → List ℕ
between bounds text = drop bounds.0 (take bounds.1 text)

-- the least or the greatest index at which a text stands
abbrev pub index_by : Side → List ℕ → List ℕ → Option ℕ
index_by side.Front sub text = first_index sub text
index_by side.End sub text = last_index sub text
index_by side.Both sub text = first_index sub text

-- where a text stands between two indexes
unfoldable pub found : Side → HeapState → List (Option Val) → List ℕ → Result (Option ℕ) Fault
found by heap values text =
    result_then (scalars_of heap (value_at 0 values))
    (λ sub. result_then (bounds_of (length text) values)
    (λ bounds. Ok (option_map (λ index. bounds.0 + index)
    (index_by by sub (between bounds text)))))

-- an index, or -1
abbrev pub index_or_minus : Result (Option ℕ) Fault → Answered
index_or_minus (Ok None) = Ok (answer.Number (negsuc 0))
index_or_minus (Ok (Some index)) = Ok (answer.Number (pos index))
index_or_minus (Err reason) = Err reason

-- an index, or that there is none
abbrev pub index_or_fault : Result (Option ℕ) Fault → Answered
index_or_fault (Ok None) = Err fault.Value
index_or_fault (Ok (Some index)) = Ok (answer.Number (pos index))
index_or_fault (Err reason) = Err reason

-- how often a text stands in another one, with no overlap; the empty one before each character and
-- at the end
abbrev pub places_of : List ℕ → List ℕ → ℕ
places_of sub text =
    if length sub == 0 then length text + 1
    else length (first_pieces (length text) sub text) - 1

unfoldable pub counted : HeapState → List (Option Val) → List ℕ → Answered
counted heap values text =
    result_then (scalars_of heap (value_at 0 values))
    (λ sub. result_then (bounds_of (length text) values)
    (λ bounds. Ok (answer.Number (pos (places_of sub (between bounds text))))))

-- a text stands at a side of another one
abbrev pub stands_at : Side → List ℕ → List ℕ → Bool
stands_at side.Front text part = begins text part
stands_at side.End text part = ends text part
stands_at side.Both text part = begins text part

-- whether an item stands there, which is a string
abbrev pub item_stands : Side → HeapState → List ℕ → Val → Result Bool Fault
item_stands at heap text item =
    result_then (scalars_of heap (Some item)) (λ part. Ok (stands_at at text part))

-- whether one of the items stands there, or one before them
abbrev pub one_stands : Side → HeapState → List ℕ → Bool → List Val → Result Bool Fault
one_stands at heap text before [] = Ok before
one_stands at heap text before (item ∷ items) =
    result_then (item_stands at heap text item)
    (λ stands. one_stands at heap text (before || stands) items)

-- the items of a tuple, and any other value alone
abbrev pub parts_in : Option Cell → Val → List Val
parts_in None value = value ∷ []
parts_in (Some (cell.Tuple items)) value = items
parts_in (Some (cell.Text text)) value = value ∷ []
parts_in (Some (cell.List items)) value = value ∷ []
parts_in (Some (cell.Dict entries)) value = value ∷ []
parts_in (Some (cell.Range first stop step)) value = value ∷ []
parts_in (Some (cell.Function function)) value = value ∷ []
parts_in (Some (cell.Builtin name)) value = value ∷ []
parts_in (Some (cell.Bound receiver method)) value = value ∷ []
parts_in (Some (cell.Struct fields)) value = value ∷ []
parts_in (Some (cell.Label label)) value = value ∷ []
parts_in (Some (cell.Path repo segments)) value = value ∷ []
parts_in (Some (cell.Host kind fields)) value = value ∷ []

abbrev pub parts_of : HeapState → Option Val → List Val
parts_of heap None = val.None ∷ []
parts_of heap (Some value) = parts_in (cell_at heap value) value

-- whether a string, or one of a tuple, stands at a side between two indexes
unfoldable pub sided : Side → HeapState → List (Option Val) → List ℕ → Answered
sided at heap values text =
    result_then (bounds_of (length text) values)
    (λ bounds. result_then
    (one_stands at heap (between bounds text) false (parts_of heap (value_at 0 values)))
    (λ flag. Ok (answer.Flag flag)))
