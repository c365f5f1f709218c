-- Lines, one by one.
use Rattle.std.proofs.Common.{◌≡◌, ℕ, ◌+◌, ◌-◌, ◌<◌, ◌≤◌, Bool, List, [], ◌∷◌, ◌++◌}
use Rattle.std.proofs.Common.{length, drop, map, ap, ◌∙◌, arith, refl, sym}
use Rattle.std.proofs.lemmas.List.{append-nil}
use Rattle.star_scalars.specs.Lines.{first_line, line_and_more, lines_within, whole_length}
use Rattle.star_scalars.proofs.Cuts.{one_more, over}

line_next : (more : List ℕ → List (List ℕ)) (keep : Bool) (rest : List ℕ)
    → 0 < length rest
    → line_and_more more keep rest ≡ first_line keep rest ∷ more (drop (whole_length rest) rest)
line_next more keep [] some = absurd (omega (arith, some))
line_next more keep (c ∷ rest) some = refl

line_end : (more : List ℕ → List (List ℕ)) (keep : Bool) (rest : List ℕ)
    → length rest ≡ 0
    → line_and_more more keep rest ≡ []
line_end more keep [] none = refl
line_end more keep (c ∷ rest) none = absurd (omega (arith, none))

pub line_cut : (most turn : ℕ) (keep : Bool) (rest line behind : List ℕ)
    → turn < most
    → 0 < length rest
    → line ≡ first_line keep rest
    → behind ≡ drop (whole_length rest) rest
    → lines_within (most - turn) keep rest ≡ line ∷ lines_within (most - (turn + 1)) keep behind
unfolding lines_within
line_cut most turn keep rest line behind is some one two =
    ap (λ n. lines_within n keep rest) (one_more most turn is)
    ∙ line_next (lines_within (most - (turn + 1)) keep) keep rest some
    ∙ (λ i. sym one i ∷ lines_within (most - (turn + 1)) keep (sym two i))

line_none : (most turn : ℕ) (keep : Bool) (rest : List ℕ)
    → turn < most
    → length rest ≡ 0
    → lines_within (most - turn) keep rest ≡ []
unfolding lines_within
line_none most turn keep rest is none =
    ap (λ n. lines_within n keep rest) (one_more most turn is)
    ∙ line_end (lines_within (most - (turn + 1)) keep) keep rest none

line_over : (most turn : ℕ) (keep : Bool) (rest : List ℕ)
    → most ≤ turn
    → lines_within (most - turn) keep rest ≡ []
unfolding lines_within
line_over most turn keep rest is = ap (λ n. lines_within n keep rest) (over most turn is)

nothing_left : (encode : List ℕ → List ℕ) (made whole left : List (List ℕ))
    → left ≡ []
    → made ++ map encode left ≡ whole
    → made ≡ whole
nothing_left encode made whole left none all =
    sym (append-nil made) ∙ ap (λ lines. made ++ map encode lines) (sym none) ∙ all

pub lines_stop : (encode : List ℕ → List ℕ) (most turn : ℕ) (keep : Bool) (rest : List ℕ)
    (made whole : List (List ℕ))
    → turn < most
    → length rest ≡ 0
    → made ++ map encode (lines_within (most - turn) keep rest) ≡ whole
    → made ≡ whole
lines_stop encode most turn keep rest made whole is none all =
    nothing_left encode made whole (lines_within (most - turn) keep rest)
    (line_none most turn keep rest is none) all

pub lines_over : (encode : List ℕ → List ℕ) (most turn : ℕ) (keep : Bool) (rest : List ℕ)
    (made whole : List (List ℕ))
    → most ≤ turn
    → made ++ map encode (lines_within (most - turn) keep rest) ≡ whole
    → made ≡ whole
lines_over encode most turn keep rest made whole is all =
    nothing_left encode made whole (lines_within (most - turn) keep rest)
    (line_over most turn keep rest is) all
