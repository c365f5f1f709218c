-- A value is written in layers.
use Rattle.std.proofs.Common.{◌≡◌, ℕ, zero, suc, ◌-◌, ◌<◌, List, refl, arith, ap, sym}
use Rattle.star_core.specs.Heaps.{HeapState}
use Rattle.star_core.specs.declared.values.Val.{Val}
use Rattle.star_print.specs.Forms.{form_of}
use Rattle.star_print.specs.Prints.{form_behind, pieces_behind}
use Rattle.star_print.specs.Prints.{pieces_within, repr_within}
use Rattle.star_print.specs.declared.forms.Piece.{Piece}

pub repr_within-layer : (depth : ℕ) (heap : HeapState) (value : Val) (text : List ℕ)
    → repr_within depth heap value text
    ≡ form_behind (pieces_within depth heap) (form_of heap value) text
unfolding repr_within pieces_within
repr_within-layer zero heap value text = refl
repr_within-layer (suc depth) heap value text = refl

pub pieces_within-layer : (depth : ℕ) (heap : HeapState) (pieces : List Piece) (text : List ℕ)
    → 0 < depth
    → pieces_within depth heap pieces text
    ≡ pieces_behind (repr_within (depth - 1) heap) pieces text
unfolding pieces_within
pieces_within-layer zero heap pieces text some = absurd (omega (arith, some))
pieces_within-layer (suc depth) heap pieces text some =
    let same : suc depth - 1 ≡ depth = omega arith in
    ap (λ d. pieces_behind (repr_within d heap) pieces text) (sym same)

pub ruleset layers = (repr_within-layer, pieces_within-layer)
