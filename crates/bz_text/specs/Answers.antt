-- What a call gave, beside what it is to give. Want of memory is the one free answer.
use Rattle.std.specs.Prelude.{◌≡◌, Result, Ok, Err, ⊤}
use Rattle.bz_text.specs.declared.memory.Miss.{Miss}
use Rattle.bz_text.specs.declared.memory.Miss.TheVariants.{OutOfMemory, Because}

-- the value or the reason is an answer, unless memory ran out
abbrev pub UnlessOutOfMemory : {T E : Type 0} → (Result T E → Type 0) → Result T (Miss E) → Type 0
UnlessOutOfMemory IsAnswer (Ok value) = IsAnswer (Ok value)
UnlessOutOfMemory IsAnswer (Err (Because reason)) = IsAnswer (Err reason)
UnlessOutOfMemory IsAnswer (Err OutOfMemory) = ⊤

-- the definition's value or its reason, unless memory ran out: `UnlessOutOfMemory (λ given. wanted
-- ≡ given) result`, case by case
abbrev pub Gives : {T E : Type 0} → Result T E → Result T (Miss E) → Type 0
Gives wanted (Ok value) = wanted ≡ Ok value
Gives wanted (Err (Because reason)) = wanted ≡ Err reason
Gives wanted (Err OutOfMemory) = ⊤
