-- The pieces of a text, from the end on: `last_pieces_joined_are_the_text` and
-- `no_last_piece_has_the_separator`.
use Rattle.std.proofs.Common.{◌≡◌, ℕ, zero, suc, ◌+◌, ◌≤◌, ◌<◌, List, [], ◌∷◌, ◌++◌}
use Rattle.std.proofs.Common.{Option, Some, None, length, take, drop, refl, ap, sym, ◌∙◌, arith}
use Rattle.std.proofs.Common.{append_assoc, All}
use Rattle.std.proofs.Math.Seq.{drop-append_seam}
use Rattle.std.proofs.lemmas.Grind.{flat_map-append}
use Rattle.std.proofs.lemmas.List.{length-append}
use Rattle.std.proofs.lemmas.List.Elements.{All-append, All-cons, All-nil}
use Rattle.star_scalars.specs.Pieces.{last_piece, last_pieces}
use Rattle.star_scalars.specs.Searches.{last_index, parts_at}
use Rattle.star_text_laws.specs.Places.{IsLast, StandsNowhere, joined}
use Rattle.star_text_laws.proofs.Lasts.{before_short, greatest_parts, last_clean, last_greatest}
use Rattle.star_text_laws.proofs.Pieces.{behind_each, one_alone, too_short}

further_round : (more : List ℕ → List (List ℕ)) (separator text : List ℕ) (found : Option ℕ)
    → IsLast separator text found
    → ((before : List ℕ) → behind_each separator (more before) ≡ separator ++ before)
    → behind_each separator (last_piece more text (parts_at (length separator) text found))
    ≡ separator ++ text
further_round more separator text None last left = one_alone separator text
further_round more separator text (Some index) last left =
    let behind = drop (index + length separator) text in
    flat_map-append (λ piece. separator ++ piece) (more (take index text)) (behind ∷ [])
    ∙ (λ i. left (take index text) i ++ one_alone separator behind i)
    ∙ append_assoc separator (take index text)
    (separator ++ drop (index + length separator) text)
    ∙ ap (λ t. separator ++ t)
    (sym (append_assoc (take index text) separator (drop (index + length separator) text)))
    ∙ ap (λ t. separator ++ t) (sym (greatest_parts separator index text last))

behind_pieces : (cuts : ℕ) (separator text : List ℕ)
    → behind_each separator (last_pieces cuts separator text) ≡ separator ++ text
unfolding last_pieces
behind_pieces zero separator text = one_alone separator text
behind_pieces (suc cuts) separator text =
    further_round (last_pieces cuts separator) separator text (last_index separator text)
    (last_greatest separator text) (behind_pieces cuts separator)

-- a separator in front of both sides
same_behind : (separator one other : List ℕ) → separator ++ one ≡ separator ++ other → one ≡ other
same_behind separator one other is =
    sym (drop-append_seam separator one)
    ∙ ap (drop (length separator)) is
    ∙ drop-append_seam separator other

-- pieces are the text, where those with the separator before each are it behind one more
pub without_first : (separator : List ℕ) (pieces : List (List ℕ)) (text : List ℕ)
    → behind_each separator pieces ≡ separator ++ text
    → joined separator pieces ≡ text
without_first separator [] [] is = refl
without_first separator [] (c ∷ text) is =
    absurd (omega (arith, ap length is, length-append separator (c ∷ text)))
without_first separator (piece ∷ pieces) text is =
    same_behind separator (piece ++ behind_each separator pieces) text
    (sym (append_assoc separator piece (behind_each separator pieces)) ∙ is)

pub joined_last_pieces : (cuts : ℕ) (separator text : List ℕ)
    → joined separator (last_pieces cuts separator text) ≡ text
joined_last_pieces cuts separator text =
    without_first separator (last_pieces cuts separator text) text
    (behind_pieces cuts separator text)

clean_round : (cuts : ℕ) (more : List ℕ → List (List ℕ)) (separator text : List ℕ)
    (found : Option ℕ)
    → 0 < length separator
    → length text ≤ suc cuts
    → IsLast separator text found
    → ((before : List ℕ) → length before ≤ cuts → All (StandsNowhere separator) (more before))
    → All (StandsNowhere separator)
    (last_piece more text (parts_at (length separator) text found))
clean_round cuts more separator text None some short last left =
    All-cons (StandsNowhere separator) text [] last (All-nil (StandsNowhere separator))
clean_round cuts more separator text (Some index) some short last left =
    All-append (StandsNowhere separator) (more (take index text))
    (drop (index + length separator) text ∷ [])
    (left (take index text)
    (omega (arith, short, before_short separator index text some last)))
    (All-cons (StandsNowhere separator) (drop (index + length separator) text) []
    (last_clean separator index text some last) (All-nil (StandsNowhere separator)))

pub clean_last_pieces : (cuts : ℕ) (separator text : List ℕ)
    → 0 < length separator
    → length text ≤ cuts
    → All (StandsNowhere separator) (last_pieces cuts separator text)
unfolding last_pieces
clean_last_pieces zero separator text some short =
    All-cons (StandsNowhere separator) text [] (too_short separator text some short)
    (All-nil (StandsNowhere separator))
clean_last_pieces (suc cuts) separator text some short =
    clean_round cuts (last_pieces cuts separator) separator text (last_index separator text)
    some short (last_greatest separator text)
    (λ before fits. clean_last_pieces cuts separator before some fits)
