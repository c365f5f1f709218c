-- Longest runs of bytes of one kind.
use Rattle.std.specs.Prelude.{◌≡◌, ℕ, ◌≤◌, Bool, true, false, ◌&&◌, ◌==◌, not, List, length, take}
use Rattle.std.specs.Prelude.{slice_index}
use Rattle.std.specs.List.{list_all}
use Rattle.star_lex.specs.declared.bytes.Class.{Class}
use Rattle.star_lex.specs.declared.bytes.Class.TheVariants.{Space, Letter, Digit}
use Rattle.star_lex.specs.declared.runs.Within.{Within}
use Rattle.star_lex.specs.declared.runs.Within.TheVariants.{Blank, Word, RestOfLine}
use Rattle.star_lex.specs.Bytes.{class_of, is_visible}

abbrev pub is_blank_class : Class → Bool
is_blank_class Space = true
is_blank_class _ = false

abbrev pub is_word_class : Class → Bool
is_word_class Letter = true
is_word_class Digit = true
is_word_class _ = false

-- blanks, the bytes of a word or number, and what a comment holds: all but a line's end and what
-- stands nowhere
abbrev pub belongs : Within → ℕ → Bool
belongs Blank b = is_blank_class (class_of b)
belongs Word b = is_word_class (class_of b)
belongs RestOfLine b = is_visible b && not (b == 10)

-- the first n bytes belong to the run, and the byte behind them doesn't, or the text ends there
pub record IsRun (test : ℕ → Bool) (text : List ℕ) (n : ℕ) : Type 0 where
  pub within : n ≤ length text
  pub each : list_all test (take n text) ≡ true
  pub stops : test (slice_index text n) ≡ false
