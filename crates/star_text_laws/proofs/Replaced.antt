-- A text that `replace` gives: `replaced_texts_are_joined`.
use Rattle.std.proofs.Common.{◌≡◌, ℕ, Bool, true, false, List, [], ◌∷◌, ◌++◌, Ok, Err, refl, ap}
use Rattle.std.proofs.Common.{sym, ◌∙◌, append_assoc, subst, if◌then◌else◌, Option, ◌+◌, length}
use Rattle.std.proofs.Common.{map}
use Rattle.std.proofs.lemmas.List.{append-nil}
use Rattle.std.specs.Str.{encode_utf8_all}
use Rattle.star_core.specs.declared.faults.Fault.TheVariants as fault
use Rattle.star_core.specs.declared.values.Val.{Val}
use Rattle.star_print.specs.Prints.{Printed, and_behind, extended}
use Rattle.star_text.specs.Answers.{pieces_behind, pieces_joined, pieces_round, replaced_by}
use Rattle.star_text.specs.Answers.{with_pieces}
use Rattle.star_text.specs.ArgumentValues.{cuts_of, result_then}
use Rattle.star_text.specs.declared.text_answers.TextAnswer.TheVariants as answer
use Rattle.star_text_laws.specs.Places.{joined}
use Rattle.star_text_laws.specs.Replaced.{IsTextOrTooLarge}
use Rattle.star_text_laws.proofs.Pieces.{behind_each}

-- what is written is this text, or too large
abbrev IsWhole : List ℕ → Printed → Type 0
IsWhole whole (Ok text) = text ≡ whole
IsWhole whole (Err reason) = reason ≡ fault.Size

extended_whole : (text more : List ℕ) → IsWhole (text ++ more) (extended text more)
unfolding extended
extended_whole text more = either _
  where
    either : (large : Bool)
        → IsWhole (text ++ more) (if large then Err fault.Size else Ok (text ++ more))
    either true = refl
    either false = refl

whole_behind : (printed : Printed) (first whole : List ℕ) (next : List ℕ → Printed)
    → IsWhole first printed
    → IsWhole whole (next first)
    → IsWhole whole (and_behind printed next)
whole_behind (Ok text) first whole next is left =
    subst (λ t. IsWhole whole (next t)) (sym is) left
whole_behind (Err reason) first whole next is left = is

pieces_whole : (new : List ℕ) (pieces : List (List ℕ)) (text : List ℕ)
    → IsWhole (text ++ behind_each new pieces) (pieces_behind new pieces text)
pieces_whole new [] text = sym (append-nil text)
pieces_whole new (piece ∷ pieces) text =
    whole_behind _ (text ++ new ++ piece) (text ++ (new ++ piece ++ behind_each new pieces))
    (pieces_behind new pieces)
    (whole_behind (extended text new) (text ++ new) (text ++ new ++ piece)
    (λ whole. extended whole piece) (extended_whole text new)
    (extended_whole (text ++ new) piece))
    (subst (λ whole. IsWhole whole (pieces_behind new pieces (text ++ new ++ piece)))
    (ap (λ t. t ++ behind_each new pieces) (append_assoc text new piece)
    ∙ append_assoc text (new ++ piece) (behind_each new pieces))
    (pieces_whole new pieces (text ++ new ++ piece)))

joined_whole : (new : List ℕ) (pieces : List (List ℕ))
    → IsWhole (joined new pieces) (pieces_joined new pieces)
joined_whole new [] = refl
joined_whole new (piece ∷ pieces) = pieces_whole new pieces piece

as_an_answer : (whole : List ℕ) (printed : Printed)
    → IsWhole whole printed
    → IsTextOrTooLarge whole (result_then printed (λ text. Ok (answer.Text text)))
as_an_answer whole (Ok text) is = ap answer.Text is
as_an_answer whole (Err reason) is = is

pub replaced_whole : (old new : List ℕ) (most : Option Val) (cuts : ℕ) (text : List ℕ)
    → cuts_of (length text + 1) most ≡ Ok cuts
    → IsTextOrTooLarge
    (joined (encode_utf8_all new) (map encode_utf8_all (pieces_round cuts old text)))
    (replaced_by old new most text)
replaced_whole old new most cuts text is =
    subst
    (λ result. IsTextOrTooLarge
    (joined (encode_utf8_all new) (map encode_utf8_all (pieces_round cuts old text)))
    (result_then result (λ n. with_pieces (encode_utf8_all new)
    (map encode_utf8_all (pieces_round n old text)))))
    (sym is)
    (as_an_answer _ _
    (joined_whole (encode_utf8_all new) (map encode_utf8_all (pieces_round cuts old text))))
