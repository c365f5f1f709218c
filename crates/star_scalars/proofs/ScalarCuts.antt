-- Single characters as pieces.
use Rattle.std.proofs.Common.{◌≡◌, ℕ, zero, suc, ◌+◌, ◌-◌, ◌<◌, ◌≤◌, List, [], ◌∷◌, ◌++◌}
use Rattle.std.proofs.Common.{length, drop, take, map, ap, ◌∙◌, arith, refl, sym}
use Rattle.std.specs.Str.{encode_utf8_all}
use Rattle.std.proofs.Common.{Result, Ok, Err, IfOk}
use Rattle.bz_text.specs.declared.memory.OutOfMemory.{OutOfMemory}
use Rattle.star_scalars.specs.Lines.{empty_pieces, scalar_pieces}
use Rattle.star_scalars.proofs.Cuts.{one_more, over}

scalar_next : (cuts : ℕ) (rest : List ℕ)
    → 0 < length rest
    → scalar_pieces (suc cuts) rest ≡ take 1 rest ∷ scalar_pieces cuts (drop 1 rest)
unfolding scalar_pieces
scalar_next cuts [] some = absurd (omega (arith, some))
scalar_next cuts (c ∷ rest) some = refl

scalar_end : (cuts : ℕ) (rest : List ℕ)
    → length rest ≡ 0
    → scalar_pieces cuts rest ≡ rest ∷ []
unfolding scalar_pieces
scalar_end zero [] none = refl
scalar_end (suc cuts) [] none = refl
scalar_end cuts (c ∷ rest) none = absurd (omega (arith, none))

pub scalar_cut : (cuts turn : ℕ) (rest scalar behind : List ℕ)
    → turn < cuts
    → 0 < length rest
    → scalar ≡ take 1 rest
    → behind ≡ drop 1 rest
    → scalar_pieces (cuts - turn) rest ≡ scalar ∷ scalar_pieces (cuts - (turn + 1)) behind
scalar_cut cuts turn rest scalar behind is some one two =
    ap (λ n. scalar_pieces n rest) (one_more cuts turn is)
    ∙ scalar_next (cuts - (turn + 1)) rest some
    ∙ (λ i. sym one i ∷ scalar_pieces (cuts - (turn + 1)) (sym two i))

scalar_over : (cuts turn : ℕ) (rest : List ℕ)
    → cuts ≤ turn
    → scalar_pieces (cuts - turn) rest ≡ rest ∷ []
unfolding scalar_pieces
scalar_over cuts turn rest is = ap (λ n. scalar_pieces n rest) (over cuts turn is)

with_whole : (made all : List (List ℕ)) (rest : List ℕ) (whole : List (List ℕ))
    (left : List (List ℕ))
    → left ≡ rest ∷ []
    → all ≡ made ++ encode_utf8_all rest ∷ []
    → made ++ map encode_utf8_all left ≡ whole
    → all ≡ whole
with_whole made all rest whole left is so inv =
    so ∙ ap (λ texts. made ++ map encode_utf8_all texts) (sym is) ∙ inv

with_whole_if_ok : (made : List (List ℕ)) (rest : List ℕ) (whole left : List (List ℕ))
    (all : Result (List (List ℕ)) OutOfMemory)
    → left ≡ rest ∷ []
    → made ++ map encode_utf8_all left ≡ whole
    → IfOk all (λ texts. texts ≡ made ++ encode_utf8_all rest ∷ [])
    → IfOk all (λ texts. texts ≡ whole)
with_whole_if_ok made rest whole left (Ok all) is inv so = with_whole made all rest whole left is so inv
with_whole_if_ok made rest whole left (Err want) is inv so = tt

pub scalars_stop : (cuts turn : ℕ) (rest : List ℕ) (made whole : List (List ℕ))
    (all : Result (List (List ℕ)) OutOfMemory)
    → length rest ≡ 0
    → made ++ map encode_utf8_all (scalar_pieces (cuts - turn) rest) ≡ whole
    → IfOk all (λ texts. texts ≡ made ++ encode_utf8_all rest ∷ [])
    → IfOk all (λ texts. texts ≡ whole)
scalars_stop cuts turn rest made whole all none inv so =
    with_whole_if_ok made rest whole (scalar_pieces (cuts - turn) rest) all
    (scalar_end (cuts - turn) rest none) inv so

pub scalars_over : (cuts turn : ℕ) (rest : List ℕ) (made whole : List (List ℕ))
    (all : Result (List (List ℕ)) OutOfMemory)
    → cuts ≤ turn
    → made ++ map encode_utf8_all (scalar_pieces (cuts - turn) rest) ≡ whole
    → IfOk all (λ texts. texts ≡ made ++ encode_utf8_all rest ∷ [])
    → IfOk all (λ texts. texts ≡ whole)
scalars_over cuts turn rest made whole all is inv so =
    with_whole_if_ok made rest whole (scalar_pieces (cuts - turn) rest) all
    (scalar_over cuts turn rest is) inv so

-- the first piece is empty
pub first_empty : (cuts : ℕ) (text : List ℕ)
    → 0 < cuts
    → empty_pieces cuts text ≡ [] ∷ scalar_pieces (cuts - 1) text
unfolding empty_pieces
first_empty zero text some = absurd (omega (arith, some))
first_empty (suc cuts) text some =
    let same : suc cuts - 1 ≡ cuts = omega arith in
    ap (λ n. [] ∷ scalar_pieces n text) (sym same)
