-- Pieces, cut by cut.
use Rattle.std.proofs.Common.{◌≡◌, ℕ, suc, ◌+◌, ◌-◌, ◌<◌, ◌≤◌, List, [], ◌∷◌, ◌++◌, Some, None, ap}
use Rattle.std.proofs.Common.{◌∙◌}
use Rattle.std.proofs.Common.{append_assoc, arith, map, reverse, sym}
use Rattle.std.proofs.lemmas.List.{map-append, reverse-append}
use Rattle.star_scalars.specs.Pieces.{first_piece, first_pieces, last_piece, last_pieces}
use Rattle.star_scalars.specs.Searches.{cut_first, cut_last}

pub one_more : (cuts turn : ℕ) → turn < cuts → cuts - turn ≡ suc (cuts - (turn + 1))
one_more cuts turn before = omega (arith, before)

pub over : (cuts turn : ℕ) → cuts ≤ turn → cuts - turn ≡ 0
over cuts turn behind = omega (arith, behind)

pub first_cut : (cuts turn : ℕ) (separator rest before behind : List ℕ)
    → turn < cuts
    → cut_first separator rest ≡ Some (before, behind)
    → first_pieces (cuts - turn) separator rest
    ≡ before ∷ first_pieces (cuts - (turn + 1)) separator behind
unfolding first_pieces
first_cut cuts turn separator rest before behind is cut =
    ap (λ n. first_pieces n separator rest) (one_more cuts turn is)
    ∙ ap (first_piece (first_pieces (cuts - (turn + 1)) separator) rest) cut

pub first_whole : (cuts turn : ℕ) (separator rest : List ℕ)
    → turn < cuts
    → cut_first separator rest ≡ None
    → first_pieces (cuts - turn) separator rest ≡ rest ∷ []
unfolding first_pieces
first_whole cuts turn separator rest is cut =
    ap (λ n. first_pieces n separator rest) (one_more cuts turn is)
    ∙ ap (first_piece (first_pieces (cuts - (turn + 1)) separator) rest) cut

pub first_over : (cuts turn : ℕ) (separator rest : List ℕ)
    → cuts ≤ turn
    → first_pieces (cuts - turn) separator rest ≡ rest ∷ []
unfolding first_pieces
first_over cuts turn separator rest is = ap (λ n. first_pieces n separator rest) (over cuts turn is)

pub ruleset first_cuts = (first_cut, first_whole, first_over)

-- one piece more is made of those that are left
pub one_made : (encode : List ℕ → List ℕ) (made pushed whole left rest : List (List ℕ))
    (piece : List ℕ)
    → made ++ map encode left ≡ whole
    → left ≡ piece ∷ rest
    → pushed ≡ made ++ encode piece ∷ []
    → pushed ++ map encode rest ≡ whole
one_made encode made pushed whole left rest piece all is push =
    ap (λ texts. texts ++ map encode rest) push
    ∙ append_assoc made (encode piece ∷ []) (map encode rest)
    ∙ ap (λ texts. made ++ map encode texts) (sym is)
    ∙ all

pub last_cut : (cuts turn : ℕ) (separator rest before behind : List ℕ)
    → turn < cuts
    → cut_last separator rest ≡ Some (before, behind)
    → last_pieces (cuts - turn) separator rest
    ≡ last_pieces (cuts - (turn + 1)) separator before ++ behind ∷ []
unfolding last_pieces
last_cut cuts turn separator rest before behind is cut =
    ap (λ n. last_pieces n separator rest) (one_more cuts turn is)
    ∙ ap (last_piece (last_pieces (cuts - (turn + 1)) separator) rest) cut

pub last_whole : (cuts turn : ℕ) (separator rest : List ℕ)
    → turn < cuts
    → cut_last separator rest ≡ None
    → last_pieces (cuts - turn) separator rest ≡ rest ∷ []
unfolding last_pieces
last_whole cuts turn separator rest is cut =
    ap (λ n. last_pieces n separator rest) (one_more cuts turn is)
    ∙ ap (last_piece (last_pieces (cuts - (turn + 1)) separator) rest) cut

pub last_over : (cuts turn : ℕ) (separator rest : List ℕ)
    → cuts ≤ turn
    → last_pieces (cuts - turn) separator rest ≡ rest ∷ []
unfolding last_pieces
last_over cuts turn separator rest is = ap (λ n. last_pieces n separator rest) (over cuts turn is)

pub ruleset last_cuts = (last_cut, last_whole, last_over)

-- one piece more is made of those that are left, in front of those behind it
pub one_made_before : (encode : List ℕ → List ℕ) (made pushed whole left rest : List (List ℕ))
    (piece : List ℕ)
    → map encode left ++ reverse made ≡ whole
    → left ≡ rest ++ piece ∷ []
    → pushed ≡ made ++ encode piece ∷ []
    → map encode rest ++ reverse pushed ≡ whole
one_made_before encode made pushed whole left rest piece all is push =
    ap (λ texts. map encode rest ++ reverse texts) push
    ∙ ap (λ texts. map encode rest ++ texts) (reverse-append made (encode piece ∷ []))
    ∙ sym (append_assoc (map encode rest) (encode piece ∷ []) (reverse made))
    ∙ ap (λ texts. texts ++ reverse made) (sym (map-append encode rest (piece ∷ [])))
    ∙ ap (λ texts. map encode texts ++ reverse made) (sym is)
    ∙ all
