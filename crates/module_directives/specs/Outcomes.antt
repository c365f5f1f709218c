-- What a directive comes to: what it gives and the reader behind it, or why it is refused.
use Rattle.std.specs.Prelude.{◌≡◌, ℕ, List, [], Result, Ok, Err, ⊤, codes}
use Rattle.bz_base.specs.declared.refusals.Code.TheVariants.{Left, ModuleLate}
use Rattle.bz_base.specs.declared.refusals.Refusal.{Refusal}
use Rattle.bz_text.specs.declared.memory.Miss.{Miss}
use Rattle.bz_text.specs.declared.memory.Miss.TheVariants as miss
use Rattle.module_arguments.specs.Objections.{objection}
use Rattle.module_arguments.specs.declared.objections.Objection.{Objection}
use Rattle.module_directives.specs.declared.gifts.Gift.{Gift}
use Rattle.module_directives.specs.declared.gifts.Gift.TheVariants as gift
use Rattle.module_directives.specs.declared.readers.Reader.{Reader}

abbrev pub Outcome : Type 0
Outcome = Result (Gift × Reader) Objection

-- a result, and what is made of it; the first refusal wins
abbrev pub and_then : {A B : Type 0}
    → Result A Objection
    → (A → Result B Objection)
    → Result B Objection
and_then (Ok value) next = next value
and_then (Err objection) next = Err objection

-- nothing is given
abbrev pub done : Reader → Outcome
done reader = Ok (gift.Nothing, reader)

-- The call gave the outcome's gift and left its reader, or it was refused for the outcome's reason,
-- or memory ran out. Nothing is said of the reader behind a refused call, at which a file ends.
abbrev pub Ran : Outcome → Result Gift (Miss Objection) → Reader → Type 0
Ran outcome (Ok gift) new = outcome ≡ Ok (gift, new)
Ran outcome (Err (miss.Because reason)) new = outcome ≡ Err reason
Ran outcome (Err miss.OutOfMemory) new = ⊤

abbrev pub module_late : Objection
module_late = objection ModuleLate []

abbrev pub include_left : Objection
include_left = objection Left (codes "include")

-- a refusal with the file of the reader and the line of the directive
abbrev pub refused_at : List ℕ → ℕ → Objection → Refusal
refused_at file line reason =
    record { code = reason.code; file = file; line = line; detail = reason.detail; hint = 0 }
