-- A text that a method gives, unless it is too large.
use Rattle.std.specs.Prelude.{◌≡◌, ℕ, List, Ok, Err}
use Rattle.star_core.specs.declared.faults.Fault.TheVariants as fault
use Rattle.star_text.specs.ArgumentValues.{Answered}
use Rattle.star_text.specs.declared.text_answers.TextAnswer.TheVariants as answer

-- the answer is this text, or refused for its size
abbrev pub IsTextOrTooLarge : List ℕ → Answered → Type 0
IsTextOrTooLarge text (Ok given) = given ≡ answer.Text text
IsTextOrTooLarge text (Err reason) = reason ≡ fault.Size
