-- Module files, line by line.
use Rattle.std.proofs.Common.{◌≡◌, ℕ, zero, suc, ◌<◌, ◌==◌, true, nat_lt, List, [], ◌∷◌, get_or}
use Rattle.std.proofs.Common.{Result, Ok, Err, refl, arith, lit<}
use Rattle.std.proofs.lemmas.Bool.{and_parts}
use Rattle.std.proofs.lemmas.Bool.Decides.{nat_tests}
use Rattle.std.specs.List.{list_all}
use Rattle.module_file.specs.LiteralForms.{lines_from, texts_of, with_line}
use Rattle.module_file.specs.LiteralLines.{line_of}
use Rattle.module_file.specs.declared.literal_line.LiteralLine.{LiteralLine}
use Rattle.bz_text.specs.Answers.{Gives}
use Rattle.bz_text.specs.declared.memory.Miss.{Miss}
use Rattle.bz_text.specs.declared.memory.Miss.TheVariants.{OutOfMemory, Because}
use Rattle.module_file.specs.declared.literal_line.NotLiteral.{NotLiteral}
use Rattle.bz_text.proofs.CutParts.{split-cons}

-- the line before the first line feed is read, and then those behind it
pub lines_from_next : (lines : List LiteralLine) (rest text more : List ℕ)
    → texts_of rest ≡ text ∷ texts_of more
    → lines_from (Ok lines) (texts_of rest)
    ≡ lines_from (with_line lines (line_of text)) (texts_of more)
lines_from_next lines rest text more cut = rw (cut, (split-cons (λ b. b == 10) more).2) refl

-- a line that cannot be read leaves none for the whole text
pub Gives-missed : (lines : Result (List LiteralLine) NotLiteral) (texts : List (List ℕ))
    (miss : Miss NotLiteral) → Gives lines (Err miss) → Gives (lines_from lines texts) (Err miss)
Gives-missed lines texts OutOfMemory given = tt
Gives-missed lines texts (Because missed) given = rw given refl

below : {b : ℕ} → nat_lt b 128 ≡ true → b < 128
below passes = grind (arith, nat_tests)

-- where each byte passes the test, each one is below 128
pub below-all : (bytes : List ℕ)
    → list_all (λ b. nat_lt b 128) bytes ≡ true
    → (i : ℕ)
    → get_or bytes i 0 < 128
below-all [] all i = lit< tt
below-all (b ∷ bytes) all zero = below (and_parts (nat_lt b 128) _ all).0
below-all (b ∷ bytes) all (suc i) = below-all bytes (and_parts (nat_lt b 128) _ all).1 i
