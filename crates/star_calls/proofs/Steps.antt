-- Changes one behind another.
use Rattle.std.proofs.Common.{◌≡◌, Err, Ok, Result, ap, sym, ◌∙◌}
use Rattle.star_core.specs.Heaps.{Change, Changes, HeapState}
use Rattle.star_core.specs.declared.faults.Fault.{Fault}
use Rattle.star_core.specs.declared.values.Val.{Val}
use Rattle.star_calls.specs.Edits.{edit_answer}
use Rattle.star_library.specs.Calls.{go_on}

pub go_on_done : {A B : Type 0} (first : Change A) (next : A → HeapState → Change B) (value : A)
    (old mid : HeapState)
    → Changes first (Ok value) old mid
    → next value mid ≡ go_on first next
go_on_done (Ok change) next value old mid is =
    ap (λ one. next one mid) is.0 ∙ ap (next change.0) is.1
go_on_done (Err reason) next value old mid is = absurd is

pub go_on_refused : {A B : Type 0} (first : Change A) (next : A → HeapState → Change B)
    (reason : Fault) (old mid : HeapState)
    → Changes first (Err reason) old mid
    → go_on first next ≡ Err reason
go_on_refused (Ok change) next reason old mid is = absurd is
go_on_refused (Err wanted) next reason old mid is = ap Err (sym is.0)

pub put_done : (value : Val) (answer : Result (Unit {0}) Fault) (after new : HeapState)
    → Ok tt ≡ answer
    → new ≡ after
    → edit_answer value answer after ≡ Ok (value, new)
put_done value answer after new done is =
    ap (λ one. edit_answer value one after) (sym done) ∙ ap (λ one. Ok (value, one)) (sym is)

pub put_refused : (value : Val) (answer : Result (Unit {0}) Fault) (after : HeapState)
    (reason : Fault)
    → Err reason ≡ answer
    → edit_answer value answer after ≡ Err reason
put_refused value answer after reason refused =
    ap (λ one. edit_answer value one after) (sym refused)
