-- Changes one behind another.
use Rattle.std.proofs.Common.{◌≡◌, Err, Ok, Result, ap, sym, ◌∙◌}
use Rattle.star_core.specs.Heaps.{Change, Changes, HeapState}
use Rattle.star_core.specs.declared.faults.Fault.{Fault}
use Rattle.star_library.specs.Calls.{go_on}
use Rattle.star_containers.specs.Changing.{put_answer}

pub go_on_done : {A B : Type 0} (first : Change A) (next : A → HeapState → Change B) (value : A)
    (old mid : HeapState)
    → Changes first (Ok value) old mid
    → next value mid ≡ go_on first next
go_on_done (Ok change) next value old mid is =
    ap (λ one. next one mid) is.0 ∙ ap (next change.0) is.1
go_on_done (Err reason) next value old mid is = absurd is

pub go_on_refused : {A B : Type 0} (first : Change A) (next : A → HeapState → Change B)
    (reason : Fault) (old mid : HeapState)
    → Changes first (Err reason) old mid
    → go_on first next ≡ Err reason
go_on_refused (Ok change) next reason old mid is = absurd is
go_on_refused (Err wanted) next reason old mid is = ap Err (sym is.0)

pub put_done : (answer : Result (Unit {0}) Fault) (after new : HeapState)
    → Ok tt ≡ answer
    → new ≡ after
    → put_answer answer after ≡ Ok (tt, new)
put_done answer after new done is =
    ap (λ one. put_answer one after) (sym done) ∙ ap (λ one. Ok (tt, one)) (sym is)

pub put_refused : (answer : Result (Unit {0}) Fault) (after : HeapState) (reason : Fault)
    → Err reason ≡ answer
    → put_answer answer after ≡ Err reason
put_refused answer after reason refused = ap (λ one. put_answer one after) (sym refused)
