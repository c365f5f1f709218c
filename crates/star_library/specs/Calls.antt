-- What a call of the library makes of its heap.
use Rattle.std.specs.Prelude.{◌≡◌, List, ℕ, Result, Ok, Err, ⊤}
use Rattle.bz_text.specs.declared.memory.Miss.{Miss}
use Rattle.bz_text.specs.declared.memory.Miss.TheVariants as miss
use Rattle.star_core.specs.Heaps.{Change, HeapState, made}
use Rattle.star_core.specs.declared.cells.Cell.TheVariants as cell
use Rattle.star_core.specs.declared.faults.Fault.{Fault}
use Rattle.star_core.specs.declared.values.Val.{Val}

-- The call gave the change's value and left its heap, or it was refused for the change's reason, or
-- memory ran out. Nothing is said of the heap behind a refused call, at which an evaluation ends.
abbrev pub Builds : {A : Type 0} → Change A → Result A (Miss Fault) → HeapState → Type 0
Builds change (Ok value) new = change ≡ Ok (value, new)
Builds change (Err (miss.Because reason)) new = change ≡ Err reason
Builds change (Err miss.OutOfMemory) new = ⊤

-- a value that leaves the heap as it is
abbrev pub give_back : {A : Type 0} → A → HeapState → Change A
give_back value heap = Ok (value, heap)

-- a refusal
abbrev pub refuse : {A : Type 0} → Fault → HeapState → Change A
refuse reason heap = Err reason

-- a value or a refusal, either of which leaves the heap as it is
abbrev pub result_of : {A : Type 0} → Result A Fault → HeapState → Change A
result_of (Ok value) heap = Ok (value, heap)
result_of (Err reason) heap = Err reason

-- what comes behind a change, of its value and on the heap that it leaves
abbrev pub go_on : {A B : Type 0} → Change A → (A → HeapState → Change B) → Change B
go_on (Ok change) next = next change.0 change.1
go_on (Err reason) next = Err reason

-- a change and the one behind it; the first refusal wins
abbrev pub and_then : {A B : Type 0}
    → (HeapState → Change A)
    → (A → HeapState → Change B)
    → HeapState
    → Change B
and_then first next heap = go_on (first heap) next

-- a new text, list or tuple, or that it is too large
abbrev pub text_made : List ℕ → HeapState → Change Val
text_made text = made (cell.Text text)

abbrev pub list_made : List Val → HeapState → Change Val
list_made items = made (cell.List items)

abbrev pub tuple_made : List Val → HeapState → Change Val
tuple_made items = made (cell.Tuple items)
