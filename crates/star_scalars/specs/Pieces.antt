-- Texts cut into pieces: the Starlark specification, "string·split", "string·rsplit" and
-- "string·splitlines".
use Rattle.std.specs.Prelude.{ℕ, zero, suc, ◌+◌, if◌then◌else◌, take, drop, map, reverse, List, []}
use Rattle.std.specs.Prelude.{◌∷◌, ◌++◌, Option, Some, None}
use Rattle.std.specs.Str.{encode_utf8_all}
use Rattle.star_scalars.specs.declared.pieces.Direction.{Direction}
use Rattle.star_scalars.specs.declared.pieces.Direction.TheVariants as direction
use Rattle.star_scalars.specs.Letters.{is_space, without_front}
use Rattle.star_scalars.specs.Searches.{cut_first, cut_last}

-- the piece before a cut and those behind it; a text without a cut is one piece
abbrev pub first_piece : (List ℕ → List (List ℕ)) → List ℕ → Option (List ℕ × List ℕ) → List (List ℕ)
first_piece more text None = text ∷ []
first_piece more text (Some (before, behind)) = before ∷ more behind

-- the pieces behind a cut and those before it
abbrev pub last_piece : (List ℕ → List (List ℕ)) → List ℕ → Option (List ℕ × List ℕ) → List (List ℕ)
last_piece more text None = text ∷ []
last_piece more text (Some (before, behind)) = more before ++ behind ∷ []

-- the pieces of a text that is cut at so many places of a separator at most, from the front on
unfoldable pub first_pieces : ℕ → List ℕ → List ℕ → List (List ℕ)
first_pieces zero separator text = text ∷ []
first_pieces (suc cuts) separator text =
    first_piece (first_pieces cuts separator) text (cut_first separator text)

-- and from the end on
unfoldable pub last_pieces : ℕ → List ℕ → List ℕ → List (List ℕ)
last_pieces zero separator text = text ∷ []
last_pieces (suc cuts) separator text =
    last_piece (last_pieces cuts separator) text (cut_last separator text)

-- how long the word is with which a text begins
abbrev pub word_length : List ℕ → ℕ
word_length [] = 0
word_length (c ∷ text) = if is_space c then 0 else word_length text + 1

-- the words of a text that begins with one: the first, and those behind it
abbrev pub first_word : (List ℕ → List (List ℕ)) → List ℕ → List (List ℕ)
first_word more [] = []
first_word more (c ∷ text) =
    take (word_length (c ∷ text)) (c ∷ text) ∷ more (drop (word_length (c ∷ text)) (c ∷ text))

-- what is left of a text, if anything
abbrev pub last_word : List ℕ → List (List ℕ)
last_word [] = []
last_word (c ∷ text) = (c ∷ text) ∷ []

-- the words of a text that begins with no space, cut at so many runs of space at most
unfoldable pub words_from : ℕ → List ℕ → List (List ℕ)
words_from zero text = last_word text
words_from (suc cuts) text =
    first_word (λ behind. words_from cuts (without_front is_space behind)) text

-- the words of a text, cut at so many runs of space at most, from the front on
abbrev pub words : ℕ → List ℕ → List (List ℕ)
words cuts text = words_from cuts (without_front is_space text)

-- and from the end on: those of the mirror image
abbrev pub last_words : ℕ → List ℕ → List (List ℕ)
last_words cuts text = reverse (map reverse (words cuts (reverse text)))

-- the text of a word, which stands in a text or in its mirror image
abbrev pub word_text : Direction → List ℕ → List ℕ
word_text direction.Front word = encode_utf8_all word
word_text direction.End word = encode_utf8_all (reverse word)
