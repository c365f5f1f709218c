-- Words, one by one.
use Rattle.std.proofs.Common.{◌≡◌, ℕ, ◌+◌, ◌-◌, ◌<◌, ◌≤◌, List, [], ◌∷◌, length, take, drop, ap}
use Rattle.std.proofs.Common.{◌∙◌}
use Rattle.std.proofs.Common.{arith, map, refl, sym, ◌++◌}
use Rattle.std.proofs.lemmas.List.{append-nil}
use Rattle.star_scalars.specs.Letters.{is_space, without_front}
use Rattle.star_scalars.specs.Pieces.{first_word, last_word, word_length, words_from}
use Rattle.star_scalars.proofs.Cuts.{one_more, over}

word_next : (more : List ℕ → List (List ℕ)) (rest : List ℕ)
    → 0 < length rest
    → first_word more rest ≡ take (word_length rest) rest ∷ more (drop (word_length rest) rest)
word_next more [] some = absurd (omega (arith, some))
word_next more (c ∷ rest) some = refl

word_end : (more : List ℕ → List (List ℕ)) (rest : List ℕ)
    → length rest ≡ 0
    → first_word more rest ≡ []
word_end more [] none = refl
word_end more (c ∷ rest) none = absurd (omega (arith, none))

pub word_cut : (cuts turn : ℕ) (rest : List ℕ)
    → turn < cuts
    → 0 < length rest
    → words_from (cuts - turn) rest
    ≡ take (word_length rest) rest
    ∷ words_from (cuts - (turn + 1)) (without_front is_space (drop (word_length rest) rest))
unfolding words_from
word_cut cuts turn rest is some =
    ap (λ n. words_from n rest) (one_more cuts turn is)
    ∙ word_next (λ behind. words_from (cuts - (turn + 1)) (without_front is_space behind)) rest some

pub word_none : (cuts turn : ℕ) (rest : List ℕ)
    → turn < cuts
    → length rest ≡ 0
    → words_from (cuts - turn) rest ≡ []
unfolding words_from
word_none cuts turn rest is none =
    ap (λ n. words_from n rest) (one_more cuts turn is)
    ∙ word_end (λ behind. words_from (cuts - (turn + 1)) (without_front is_space behind)) rest none

pub word_over : (cuts turn : ℕ) (rest : List ℕ)
    → cuts ≤ turn
    → words_from (cuts - turn) rest ≡ last_word rest
unfolding words_from
word_over cuts turn rest is = ap (λ n. words_from n rest) (over cuts turn is)

pub ruleset word_cuts = (word_cut, word_none, word_over)

pub word_cut_at : (cuts turn : ℕ) (rest word behind : List ℕ)
    → turn < cuts
    → 0 < length rest
    → word ≡ take (word_length rest) rest
    → behind ≡ without_front is_space (drop (word_length rest) rest)
    → words_from (cuts - turn) rest ≡ word ∷ words_from (cuts - (turn + 1)) behind
word_cut_at cuts turn rest word behind is some one two =
    word_cut cuts turn rest is some
    ∙ (λ i. sym one i ∷ words_from (cuts - (turn + 1)) (sym two i))

pub word_stop : (encode : List ℕ → List ℕ) (cuts turn : ℕ) (rest : List ℕ)
    (made whole : List (List ℕ))
    → turn < cuts
    → length rest ≡ 0
    → made ++ map encode (words_from (cuts - turn) rest) ≡ whole
    → made ≡ whole
word_stop encode cuts turn rest made whole is none all =
    sym (append-nil made)
    ∙ ap (λ words. made ++ map encode words) (sym (word_none cuts turn rest is none))
    ∙ all
