-- The pieces of a text: `pieces_joined_are_the_text` and `no_piece_has_the_separator`.
use Rattle.std.proofs.Common.{◌≡◌, ℕ, zero, suc, ◌+◌, ◌≤◌, ◌<◌, List, [], ◌∷◌, ◌++◌}
use Rattle.std.proofs.Common.{Option, Some, None, length, take, drop, ap, sym, ◌∙◌, arith}
use Rattle.std.proofs.Common.{append_assoc, All}
use Rattle.std.proofs.lemmas.List.{append-nil, length-append, length-drop}
use Rattle.std.proofs.lemmas.List.Elements.{All-cons, All-nil}
use Rattle.std.specs.List.{flat_map}
use Rattle.star_scalars.specs.Pieces.{first_piece, first_pieces}
use Rattle.star_scalars.specs.Searches.{first_index, parts_at}
use Rattle.star_text_laws.specs.Places.{IsFirst, StandsNowhere, joined}
use Rattle.star_text_laws.proofs.Firsts.{first_least, least_clean, least_parts}

-- pieces with the separator before each
abbrev pub behind_each : List ℕ → List (List ℕ) → List ℕ
behind_each separator pieces = flat_map (λ piece. separator ++ piece) pieces

pub one_alone : (separator text : List ℕ) → behind_each separator (text ∷ []) ≡ separator ++ text
one_alone separator text = append-nil (separator ++ text)

-- the separator and the text, where what is left is so
further_round : (more : List ℕ → List (List ℕ)) (separator text : List ℕ) (found : Option ℕ)
    → IsFirst separator text found
    → ((behind : List ℕ) → behind_each separator (more behind) ≡ separator ++ behind)
    → behind_each separator (first_piece more text (parts_at (length separator) text found))
    ≡ separator ++ text
further_round more separator text None first left = one_alone separator text
further_round more separator text (Some index) first left =
    ap (λ t. (separator ++ take index text) ++ t) (left (drop (index + length separator) text))
    ∙ append_assoc separator (take index text)
    (separator ++ drop (index + length separator) text)
    ∙ ap (λ t. separator ++ t)
    (sym (append_assoc (take index text) separator (drop (index + length separator) text)))
    ∙ ap (λ t. separator ++ t) (sym (least_parts separator index text first))

behind_pieces : (cuts : ℕ) (separator text : List ℕ)
    → behind_each separator (first_pieces cuts separator text) ≡ separator ++ text
unfolding first_pieces
behind_pieces zero separator text = one_alone separator text
behind_pieces (suc cuts) separator text =
    further_round (first_pieces cuts separator) separator text (first_index separator text)
    (first_least separator text) (behind_pieces cuts separator)

joined_round : (more : List ℕ → List (List ℕ)) (separator text : List ℕ) (found : Option ℕ)
    → IsFirst separator text found
    → ((behind : List ℕ) → behind_each separator (more behind) ≡ separator ++ behind)
    → joined separator (first_piece more text (parts_at (length separator) text found)) ≡ text
joined_round more separator text None first left = append-nil text
joined_round more separator text (Some index) first left =
    ap (λ t. take index text ++ t) (left (drop (index + length separator) text))
    ∙ sym (append_assoc (take index text) separator (drop (index + length separator) text))
    ∙ sym (least_parts separator index text first)

pub joined_pieces : (cuts : ℕ) (separator text : List ℕ)
    → joined separator (first_pieces cuts separator text) ≡ text
unfolding first_pieces
joined_pieces zero separator text = append-nil text
joined_pieces (suc cuts) separator text =
    joined_round (first_pieces cuts separator) separator text (first_index separator text)
    (first_least separator text) (behind_pieces cuts separator)

-- a text stands in none that is shorter
pub too_short : (separator text : List ℕ)
    → 0 < length separator
    → length text ≤ 0
    → StandsNowhere separator text
too_short separator text some short index stands = absurd
    (omega (
      arith,
      some,
      short,
      ap length stands.parts,
      length-append (stands.before ++ separator) stands.behind,
      length-append stands.before separator,
    ))

clean_round : (cuts : ℕ) (more : List ℕ → List (List ℕ)) (separator text : List ℕ)
    (found : Option ℕ)
    → 0 < length separator
    → length text ≤ suc cuts
    → IsFirst separator text found
    → ((behind : List ℕ) → length behind ≤ cuts → All (StandsNowhere separator) (more behind))
    → All (StandsNowhere separator)
    (first_piece more text (parts_at (length separator) text found))
clean_round cuts more separator text None some short first left =
    All-cons (StandsNowhere separator) text [] first (All-nil (StandsNowhere separator))
clean_round cuts more separator text (Some index) some short first left =
    All-cons (StandsNowhere separator) (take index text) _
    (least_clean separator index text some first)
    (left (drop (index + length separator) text)
    (omega (arith, some, short, length-drop (index + length separator) text)))

pub clean_pieces : (cuts : ℕ) (separator text : List ℕ)
    → 0 < length separator
    → length text ≤ cuts
    → All (StandsNowhere separator) (first_pieces cuts separator text)
unfolding first_pieces
clean_pieces zero separator text some short =
    All-cons (StandsNowhere separator) text [] (too_short separator text some short)
    (All-nil (StandsNowhere separator))
clean_pieces (suc cuts) separator text some short =
    clean_round cuts (first_pieces cuts separator) separator text (first_index separator text)
    some short (first_least separator text)
    (λ behind fits. clean_pieces cuts separator behind some fits)
