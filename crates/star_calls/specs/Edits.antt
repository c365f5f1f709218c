-- Changes of a list or a dictionary that give a value. The container is taken first, which tests
-- that it may be changed, and put back behind the change.
use Rattle.std.specs.Prelude.{Result, Ok, Err}
use Rattle.star_core.specs.Heaps.{Change, HeapState, given, given_answer, sum_for, taken}
use Rattle.star_core.specs.declared.cells.Cell.{Cell}
use Rattle.star_core.specs.declared.faults.Fault.{Fault}
use Rattle.star_core.specs.declared.values.Val.{Val}
use Rattle.star_calls.specs.declared.edits.Edited.{Edited}
use Rattle.star_library.specs.Calls.{and_then}

-- the value of a change, where its content is put back
abbrev pub edit_answer : Val → Result (Unit {0}) Fault → HeapState → Change Val
edit_answer answer (Ok done) heap = Ok (answer, heap)
edit_answer answer (Err reason) heap = Err reason

-- what a change left of a container is put back, unless it is too large
abbrev pub edit_put : Val → Edited → HeapState → Change Val
edit_put of edited heap =
    edit_answer edited.answer (given_answer (sum_for edited.content edited.added heap))
    (given of edited.content edited.added heap)

abbrev pub edit_done : Val → Result Edited Fault → HeapState → Change Val
edit_done of (Ok edited) heap = edit_put of edited heap
edit_done of (Err reason) heap = Err reason

-- a container is changed
abbrev pub edited_by : Val → (Cell → Result Edited Fault) → HeapState → Change Val
edited_by of edit = and_then (taken of) (λ content. edit_done of (edit content))
