-- The end of a text is the front of its mirror image.
use Rattle.std.proofs.Common.{map, refl, ◌≡◌, ℕ, Bool, true, false, List, [], ◌∷◌, ◌++◌, reverse}
use Rattle.std.proofs.Common.{ap, sym, ◌∙◌, if◌then◌else◌}
use Rattle.std.proofs.lemmas.List.{map-append, reverse-append, reverse-reverse}
use Rattle.std.specs.Str.{encode_utf8_all}
use Rattle.star_scalars.specs.Pieces.{last_words, word_text, words}
use Rattle.star_scalars.specs.declared.pieces.Direction.TheVariants as direction
use Rattle.star_scalars.specs.Letters.{without_end, without_front}

mirrored : (text : List ℕ) (last : ℕ) → reverse (text ++ last ∷ []) ≡ last ∷ reverse text
mirrored text last = reverse-append text (last ∷ [])

-- what stands at the end goes with its class
pub end_goes : (class : ℕ → Bool) (text : List ℕ) (last : ℕ)
    → class last ≡ true
    → without_end class (text ++ last ∷ []) ≡ without_end class text
end_goes class text last is =
    ap (λ t. reverse (without_front class t)) (mirrored text last)
    ∙ ap (λ b. reverse (if b then without_front class (reverse text) else last ∷ reverse text)) is

-- and stays where it is of another class
pub end_stays : (class : ℕ → Bool) (text : List ℕ) (last : ℕ)
    → class last ≡ false
    → without_end class (text ++ last ∷ []) ≡ text ++ last ∷ []
end_stays class text last is =
    let whole : reverse (last ∷ reverse text) ≡ text ++ last ∷ [] =
    sym (ap reverse (mirrored text last)) ∙ reverse-reverse (text ++ last ∷ []) in
    let image : reverse (without_front class (last ∷ reverse text)) ≡ reverse (last ∷ reverse text) =
    ap (λ b. reverse (if b then without_front class (reverse text) else last ∷ reverse text)) is in
    ap (λ t. reverse (without_front class t)) (mirrored text last) ∙ image ∙ whole

pub ruleset text_ends = (end_goes, end_stays)

reverse-map : (f : List ℕ → List ℕ) (xs : List (List ℕ)) → reverse (map f xs) ≡ map f (reverse xs)
reverse-map f [] = refl
reverse-map f (x ∷ xs) =
    reverse-append (f x ∷ []) (map f xs)
    ∙ ap (λ l. l ++ f x ∷ []) (reverse-map f xs)
    ∙ sym (map-append f (reverse xs) (x ∷ []))
    ∙ ap (map f) (sym (reverse-append (x ∷ []) xs))

-- what is made of words in a mirror image, in reverse, is made of the words of the text
pub mirrored_words : (cuts : ℕ) (text : List ℕ)
    → reverse (map (word_text direction.End) (words cuts (reverse text)))
    ≡ map encode_utf8_all (last_words cuts text)
mirrored_words cuts text = each (words cuts (reverse text))
  where
    twice : (all : List (List ℕ))
        → map (word_text direction.End) all ≡ map encode_utf8_all (map reverse all)
    twice [] = refl
    twice (word ∷ all) = ap (λ texts. encode_utf8_all (reverse word) ∷ texts) (twice all)

    each : (all : List (List ℕ))
        → reverse (map (word_text direction.End) all)
        ≡ map encode_utf8_all (reverse (map reverse all))
    each all = ap reverse (twice all) ∙ reverse-map encode_utf8_all (map reverse all)
