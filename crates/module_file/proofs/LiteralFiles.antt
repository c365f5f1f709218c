-- What is read as a module file in the literal form has it, and the other way round.
use Rattle.std.proofs.Common.{◌≡◌, ℕ, ◌<◌, true, false, nat_lt, length, List, [], ◌∷◌, ◌++◌, Result}
use Rattle.std.proofs.Common.{Ok, Err, inl, inr, refl, sym, ap, ◌∙◌, subst, append_assoc}
use Rattle.std.proofs.Common.{append-nil, ltb-true, lt-ltb}
use Rattle.std.specs.List.{AllByRecursion, join_with_byte, list_all}
use Rattle.std.proofs.Math.Dec.{eqb-suc-zero}
use Rattle.std.proofs.lemmas.Bool.{and_from, and_parts, cases_Bool}
use Rattle.std.proofs.lemmas.List.Splits.{join_with_byte-slice_split}
use Rattle.module_file.specs.LiteralForms.{end_of, is_in_order, lines_from, lines_in_order}
use Rattle.module_file.specs.LiteralForms.{literal_lines, texts_of, with_line}
use Rattle.module_file.specs.LiteralGrammar.{HasLiteralForm, IsFile, IsLine}
use Rattle.module_file.specs.LiteralLines.{line_of}
use Rattle.module_file.specs.declared.literal_line.LiteralLine.{LiteralLine}
use Rattle.module_file.specs.declared.literal_line.NotLiteral.{NotLiteral}
use Rattle.module_file.proofs.LiteralDirectives.{Lacks-line, line_is_read, line_is_spelled}
use Rattle.module_file.proofs.LiteralMarks.{split-at_mark}
use Rattle.module_file.proofs.LiteralOrders.{IsOrdered-from_test, in_order-from_IsOrdered}
use Rattle.module_file.proofs.LiteralTexts.{lines_from_next}

-- the lines behind those that were read before
abbrev AreFurther : List LiteralLine → List LiteralLine → List ℕ → Type 0
AreFurther before all bytes = (lines : List LiteralLine) × (all ≡ before ++ lines)
    × IsFile lines bytes

end-further : (before all : List LiteralLine) (rest : List ℕ)
    → end_of before rest ≡ Ok all
    → AreFurther before all rest
end-further before all [] e = ([], sym (cc e) ∙ sym (append-nil before), refl)
end-further before all (b ∷ rest) e = absurd (cc (rw (eqb-suc-zero (length rest)) at e))

-- one more line stands before the further ones
line-further : (before all : List LiteralLine) (line : LiteralLine) (text rest : List ℕ)
    → IsLine line text
    → AreFurther (before ++ line ∷ []) all rest
    → AreFurther before all (text ++ 10 ∷ rest)
line-further before all line text rest spelled further = (
  line ∷ further.0,
  further.1
      ∙ append_assoc before (line ∷ []) further.0,
  (text, rest, spelled, refl, further.2),
)

lines-further : (texts : List (List ℕ)) (before all : List LiteralLine)
    → lines_from (Ok before) texts ≡ Ok all
    → AreFurther before all (join_with_byte 10 texts)
lines-further [] before all e = ([], sym (cc e) ∙ sym (append-nil before), refl)
lines-further (text ∷ []) before all e = end-further before all text e
lines-further (text ∷ next ∷ texts) before all e =
    (elim (line_of text) as
    (λ (r : Result LiteralLine NotLiteral). line_of text ≡ r
    → lines_from (with_line before r) (next ∷ texts) ≡ Ok all
    → AreFurther before all (text ++ 10 ∷ join_with_byte 10 (next ∷ texts))) [
      | Ok line ↦ λ read e. line-further before all line text (join_with_byte 10 (next ∷ texts))
          (line_is_spelled text line read)
          (lines-further (next ∷ texts) (before ++ line ∷ []) all e)
      | Err missed ↦ λ read e. absurd (cc e)
    ]) refl e

file_is_spelled : (bytes : List ℕ) (lines : List LiteralLine)
    → lines_from (Ok []) (texts_of bytes) ≡ Ok lines
    → IsFile lines bytes
file_is_spelled bytes lines e =
    let further = lines-further (texts_of bytes) [] lines e in
    subst (λ (l : List LiteralLine). IsFile l bytes) (sym further.1)
    (subst (IsFile further.0) (join_with_byte-slice_split 10 bytes) further.2)

file_is_read : (lines before : List LiteralLine) (bytes : List ℕ)
    → IsFile lines bytes
    → lines_from (Ok before) (texts_of bytes) ≡ Ok (before ++ lines)
file_is_read [] before bytes file = rw (file, append-nil before) refl
file_is_read (line ∷ lines) before bytes file =
    let text = file.0 in
    let rest = file.1 in
    let cut = split-at_mark 10 text rest (Lacks-line text line file.2) in
    ap (λ b. lines_from (Ok before) (texts_of b)) file.3
    ∙ lines_from_next before (text ++ 10 ∷ rest) text rest cut
    ∙ ap (λ r. lines_from (with_line before r) (texts_of rest)) (line_is_read text line file.2)
    ∙ file_is_read lines (before ++ line ∷ []) rest file.4
    ∙ ap (λ (l : List LiteralLine). Ok l) (append_assoc before (line ∷ []) lines)

ascii-from_test : (bytes : List ℕ)
    → list_all (λ b. nat_lt b 128) bytes ≡ true
    → AllByRecursion (λ b. b < 128) bytes
ascii-from_test [] all = tt
ascii-from_test (b ∷ bytes) all =
    let parts = and_parts (nat_lt b 128) (list_all (λ b. nat_lt b 128) bytes) all in
    (ltb-true b 128 parts.0, ascii-from_test bytes parts.1)

test-from_ascii : (bytes : List ℕ)
    → AllByRecursion (λ b. b < 128) bytes
    → list_all (λ b. nat_lt b 128) bytes ≡ true
test-from_ascii [] all = refl
test-from_ascii (b ∷ bytes) all = and_from (nat_lt b 128) (list_all (λ b. nat_lt b 128) bytes)
    (lt-ltb b 128 all.0) (test-from_ascii bytes all.1)

lines_in_order-Ok : (read : Result (List LiteralLine) NotLiteral) (lines : List LiteralLine)
    → lines_in_order read ≡ Ok lines
    → (read ≡ Ok lines) × (is_in_order false lines ≡ true)
lines_in_order-Ok (Err missed) lines e = absurd (cc e)
lines_in_order-Ok (Ok found) lines e = elim (cases_Bool (is_in_order false found)) [
  | inl ordered ↦
      let same : found ≡ lines = cc (rw ordered at e) in (
        ap (λ (l : List LiteralLine). Ok l) same,
        subst
            (λ (l : List LiteralLine). is_in_order false l ≡ true) same ordered,
      )
  | inr other ↦ absurd (cc (rw other at e))
]

pub form_is_spelled : (bytes : List ℕ) (lines : List LiteralLine)
    → literal_lines bytes ≡ Ok lines
    → HasLiteralForm bytes lines
unfolding literal_lines
form_is_spelled bytes lines e = elim (cases_Bool (list_all (λ b. nat_lt b 128) bytes)) [
  | inl ascii ↦
      let read = lines_in_order-Ok (lines_from (Ok []) (texts_of bytes)) lines (rw ascii at e) in
      record {
        ascii = ascii-from_test bytes ascii;
        file = file_is_spelled bytes lines read.0;
        order = IsOrdered-from_test lines read.1;
      }
  | inr other ↦ absurd (cc (rw other at e))
]

pub form_is_read : (bytes : List ℕ) (lines : List LiteralLine)
    → HasLiteralForm bytes lines
    → literal_lines bytes ≡ Ok lines
unfolding literal_lines
form_is_read bytes lines form =
    rw (
      test-from_ascii bytes form.ascii,
      file_is_read lines [] bytes form.file,
      in_order-from_IsOrdered lines form.order,
    ) refl
