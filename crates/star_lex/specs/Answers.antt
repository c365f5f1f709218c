-- What a scanning call gave, beside what it looked for.
use Rattle.std.specs.Prelude.{Result, Ok, Err}
use Rattle.bz_text.specs.Answers.{UnlessOutOfMemory}
use Rattle.bz_text.specs.declared.memory.Miss.{Miss}
use Rattle.star_lex.specs.declared.token.NoLexeme.{NoLexeme}

-- what was found has the one property, and where nothing was found the other fact holds
abbrev pub IsFound : {T : Type 0} → (T → Type 0) → Type 0 → Result T NoLexeme → Type 0
IsFound found absent (Ok value) = found value
IsFound found absent (Err _) = absent

-- the same of a call that may run out of memory
abbrev pub Answers : {T : Type 0} → (T → Type 0) → Type 0 → Result T (Miss NoLexeme) → Type 0
Answers found absent result = UnlessOutOfMemory (IsFound found absent) result
