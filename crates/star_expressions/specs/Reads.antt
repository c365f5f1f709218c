-- What a call read, beside a reader of the grammar's definition.
use Rattle.std.specs.Prelude.{◌≡◌, List, Option, Some, None, Result, Ok, Err}
use Rattle.bz_text.specs.Answers.{UnlessOutOfMemory}
use Rattle.bz_text.specs.declared.memory.Miss.{Miss}
use Rattle.star_grammar.specs.declared.symbols.Symbol.{Symbol}
use Rattle.star_expressions.specs.declared.cursor.NoTree.{NoTree}

-- the value that there is, and a fault where there is none
abbrev pub IsThere : {A : Type 0} → Option A → Result A NoTree → Type 0
IsThere wanted (Ok value) = wanted ≡ Some value
IsThere wanted (Err _) = wanted ≡ None

-- the same of a call that may run out of memory
abbrev pub Finds : {A : Type 0} → Option A → Result A (Miss NoTree) → Type 0
Finds wanted result = UnlessOutOfMemory (IsThere wanted) result

-- the value that there is with what is left of the symbols, and a fault where there is none
abbrev pub IsRead : {A : Type 0} → Option (A × List Symbol) → List Symbol → Result A NoTree → Type 0
IsRead wanted rest (Ok value) = wanted ≡ Some (value, rest)
IsRead wanted rest (Err _) = wanted ≡ None

-- the same of a call that may run out of memory
abbrev pub Reads : {A : Type 0}
    → Option (A × List Symbol)
    → Result A (Miss NoTree)
    → List Symbol
    → Type 0
Reads wanted result rest = UnlessOutOfMemory (IsRead wanted rest) result
