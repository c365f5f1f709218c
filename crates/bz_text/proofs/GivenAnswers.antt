-- What is given is an answer unless memory ran out, and the other way round.
use Rattle.std.proofs.Common.{◌≡◌, Result, Ok, Err}
use Rattle.bz_text.specs.Answers.{Gives, UnlessOutOfMemory}
use Rattle.bz_text.specs.declared.memory.Miss.{Miss}
use Rattle.bz_text.specs.declared.memory.Miss.TheVariants.{OutOfMemory, Because}

pub Gives-answer : {T E : Type 0} (wanted : Result T E) (result : Result T (Miss E))
    → Gives wanted result
    → UnlessOutOfMemory (λ given. wanted ≡ given) result
Gives-answer wanted (Ok value) given = given
Gives-answer wanted (Err (Because reason)) given = given
Gives-answer wanted (Err OutOfMemory) given = given

pub answer-Gives : {T E : Type 0} (wanted : Result T E) (result : Result T (Miss E))
    → UnlessOutOfMemory (λ given. wanted ≡ given) result
    → Gives wanted result
answer-Gives wanted (Ok value) given = given
answer-Gives wanted (Err (Because reason)) given = given
answer-Gives wanted (Err OutOfMemory) given = given
