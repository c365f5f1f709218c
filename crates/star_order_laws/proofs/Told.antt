-- Texts that say where they end: two of them are one, or differ whatever stands behind them.
use Rattle.std.proofs.Common.{◌≡◌, ◌∙◌, ◌≢◌, ℕ, suc, ◌+◌, ◌%◌, ◌^◌, ◌<◌, ap, arith, refl, subst}
use Rattle.std.proofs.Common.{Bool, true, false, ◌&&◌, List, [], ◌∷◌, ◌++◌, append_assoc, length}
use Rattle.std.proofs.Common.{sym}
use Rattle.std.proofs.Common.{ℤ, pos, negsuc, Decides, Result, Ok, Err, bytes_eq, codes, decimal}
use Rattle.std.proofs.lemmas.Fmt.{decimal_by_steps, decimal_injective, signed_decimal_injective}
use Rattle.std.proofs.lemmas.List.{append_cancel_left}
use Rattle.std.proofs.lemmas.Slice.Eq.{bytes_eq-Decides}
use Rattle.std.proofs.lemmas.Bool.Decides.{Decides-int_eq}
use Rattle.std.specs.Fmt.{signed_decimal}
use Rattle.std.specs.Ordering.{int_eq}
use lib.Signed.{mag}
use Rattle.bz_base.specs.declared.labels.Label.{Label}
use Rattle.star_core.specs.Contents.{Content, label_content, measured}
use Rattle.star_core.specs.declared.faults.Fault.{Fault}
use Rattle.star_order.specs.Equality.{and_equal, labels_equal}
use Rattle.star_order_laws.specs.KeyContents.{IsShort}

-- two texts are one, or differ whatever stands behind them
abbrev pub Parts : Bool → List ℕ → List ℕ → Type 0
Parts true text other = text ≡ other
Parts false text other = (rest other_rest : List ℕ) → text ++ rest ≡ other ++ other_rest → ⊥

-- an answer says whether two texts are one
abbrev pub Told : Result Bool Fault → List ℕ → List ℕ → Type 0
Told answer text other = (same : Bool) × (answer ≡ Ok same) × Parts same text other

-- an answer says whether two contents are one, where both are there
abbrev pub Tells : Result Bool Fault → Content → Content → Type 0
Tells answer (Ok text) (Ok other) = Told answer text other
Tells answer (Ok text) (Err reason) = Unit {0}
Tells answer (Err reason) other = Unit {0}

pub tells_missed : (answer : Result Bool Fault) (content : Content) (reason : Fault)
    → Tells answer content (Err reason)
tells_missed answer (Ok text) reason = tt
tells_missed answer (Err other) reason = tt

-- texts that begin otherwise
pub told_apart : (one other : ℕ) (text other_text : List ℕ)
    → one ≢ other
    → Told (Ok false) (one ∷ text) (other ∷ other_text)
told_apart one other text other_text differ =
    (false, refl, λ rest other_rest is. let it : one ≡ other = cc in differ it)

-- one more letter before both
pub told_behind : (answer : Result Bool Fault) (letter : ℕ) (text other : List ℕ)
    → Told answer text other
    → Told answer (letter ∷ text) (letter ∷ other)
told_behind answer letter text other (true, is, same) = (true, is, ap (λ one. letter ∷ one) same)
told_behind answer letter text other (false, is, differ) = (
  false,
  is,
  λ rest other_rest whole.
      let it : text ++ rest ≡ other ++ other_rest = cc in differ rest other_rest it,
)

joined_on : (same : Bool) (text more other_more : List ℕ)
    → Parts same more other_more
    → Parts same (text ++ more) (text ++ other_more)
joined_on true text more other_more is = ap (λ one. text ++ one) is
joined_on false text more other_more differ =
    λ rest other_rest is. differ rest other_rest
    (append_cancel_left text (more ++ rest) (other_more ++ other_rest)
    (sym (append_assoc text more rest) ∙ is ∙ append_assoc text other_more other_rest))

-- two texts behind two
pub told_joined : (one rest : Result Bool Fault) (text other more other_more : List ℕ)
    → Told one text other
    → Told rest more other_more
    → Told (and_equal one rest) (text ++ more) (other ++ other_more)
told_joined one rest text other more other_more (true, is, same) (behind, rest_is, parts) = (
  behind,
  ap (λ first. and_equal first rest) is ∙ rest_is,
  subst (λ front. Parts behind (text ++ more) (front ++ other_more)) same
      (joined_on behind text more other_more parts),
)
told_joined one rest text other more other_more (false, is, differ) (behind, rest_is, parts) = (
  false,
  ap (λ first. and_equal first rest) is,
  λ last other_last whole. differ (more ++ last) (other_more ++ other_last)
      (sym (append_assoc text more last) ∙ whole ∙ append_assoc other other_more other_last),
)

decided_by : {A : Type 0} (test same : Bool) (one other : A) (written : A → List ℕ)
    → Decides test (one ≡ other)
    → ((rest other_rest : List ℕ) → written one ++ rest ≡ written other ++ other_rest → one ≡ other)
    → test ≡ same
    → Told (Ok test) (written one) (written other)
decided_by test true one other written decides cuts is =
    (true, ap (λ answer. Ok answer) is, ap written (decides.0 is))
decided_by test false one other written decides cuts is = (
  false,
  ap (λ answer. Ok answer) is,
  λ rest other_rest whole.
      let yes : test ≡ true = decides.1 (cuts rest other_rest whole) in
      let not : true ≡ false = sym yes ∙ is in absurd (cc),
)

-- what is written of a thing tells it, and where it ends
decided : {A : Type 0} (test : Bool) (one other : A) (written : A → List ℕ)
    → Decides test (one ≡ other)
    → ((rest other_rest : List ℕ) → written one ++ rest ≡ written other ++ other_rest → one ≡ other)
    → Told (Ok test) (written one) (written other)
decided test one other written decides cuts =
    decided_by test test one other written decides cuts refl

-- no byte of a text is a mark
abbrev pub Lacks : ℕ → List ℕ → Type 0
Lacks mark [] = Unit {0}
Lacks mark (byte ∷ bytes) = (byte ≢ mark) × Lacks mark bytes

lacks_pushed : (mark byte : ℕ) (bytes : List ℕ)
    → Lacks mark bytes
    → byte ≢ mark
    → Lacks mark (bytes ++ byte ∷ [])
lacks_pushed mark byte [] lacks differ = (differ, tt)
lacks_pushed mark byte (one ∷ bytes) lacks differ =
    (lacks.0, lacks_pushed mark byte bytes lacks.1 differ)

-- no digit is a mark behind the digits
decimal_lacks : (mark number : ℕ) → 57 < mark → number < 2 ^ 64 → Lacks mark (decimal number)
decimal_lacks mark number above fits =
    decimal_by_steps (λ n digits. Lacks mark digits)
    (λ n below. (λ is. omega (arith, above, below, is), tt))
    (λ n digits least lacks. lacks_pushed mark (48 + n % 10) digits lacks
    (λ is. omega (arith, above, is)))
    number fits

signed_lacks : (mark : ℕ) (number : ℤ)
    → 57 < mark
    → mag number < 2 ^ 63
    → Lacks mark (signed_decimal number)
signed_lacks mark (pos number) above fits = decimal_lacks mark number above (omega (arith, fits))
signed_lacks mark (negsuc number) above fits =
    (λ is. omega (arith, above, is), decimal_lacks mark (suc number) above (omega (arith, fits)))

-- a text ends at the first mark
until_mark : (mark : ℕ) (text other rest other_rest : List ℕ)
    → Lacks mark text
    → Lacks mark other
    → text ++ mark ∷ rest ≡ other ++ mark ∷ other_rest
    → (text ≡ other) × (rest ≡ other_rest)
until_mark mark [] [] rest other_rest lacks other_lacks is = (refl, cc)
until_mark mark [] (byte ∷ bytes) rest other_rest lacks other_lacks is =
    let it : byte ≡ mark = cc in absurd (other_lacks.0 it)
until_mark mark (byte ∷ bytes) [] rest other_rest lacks other_lacks is =
    let it : byte ≡ mark = cc in absurd (lacks.0 it)
until_mark mark (byte ∷ bytes) (first ∷ others) rest other_rest lacks other_lacks is =
    let head : byte ≡ first = cc in
    let tail : bytes ++ mark ∷ rest ≡ others ++ mark ∷ other_rest = cc in
    let more : (bytes ≡ others) × (rest ≡ other_rest) =
    until_mark mark bytes others rest other_rest lacks.1 other_lacks.1 tail in
    (ap (λ one. one ∷ bytes) head ∙ ap (λ all. first ∷ all) more.0, more.1)

-- texts of one length that stand in front
same_front : (text other rest other_rest : List ℕ)
    → length text ≡ length other
    → text ++ rest ≡ other ++ other_rest
    → text ≡ other
same_front [] [] rest other_rest lengths is = refl
same_front [] (byte ∷ bytes) rest other_rest lengths is = absurd (omega (arith, lengths))
same_front (byte ∷ bytes) [] rest other_rest lengths is = absurd (omega (arith, lengths))
same_front (byte ∷ bytes) (first ∷ others) rest other_rest lengths is =
    let head : byte ≡ first = cc in
    let tail : bytes ++ rest ≡ others ++ other_rest = cc in
    let more : bytes ≡ others =
    same_front bytes others rest other_rest (omega (arith, lengths)) tail in
    ap (λ one. one ∷ bytes) head ∙ ap (λ all. first ∷ all) more

measured_regrouped : (digits mark text rest : List ℕ)
    → ((digits ++ mark) ++ text) ++ rest ≡ digits ++ (mark ++ (text ++ rest))
measured_regrouped digits mark text rest =
    append_assoc (digits ++ mark) text rest ∙ append_assoc digits mark (text ++ rest)

pub cut_measured : (text other rest other_rest : List ℕ)
    → IsShort text
    → IsShort other
    → measured text ++ rest ≡ measured other ++ other_rest
    → text ≡ other
cut_measured text other rest other_rest short other_short is =
    let whole : decimal (length text) ++ 58 ∷ (text ++ rest)
    ≡ decimal (length other) ++ 58 ∷ (other ++ other_rest) =
    sym (measured_regrouped (decimal (length text)) (58 ∷ []) text rest) ∙ is
    ∙ measured_regrouped (decimal (length other)) (58 ∷ []) other other_rest in
    let parts : (decimal (length text) ≡ decimal (length other))
    × (text ++ rest ≡ other ++ other_rest) =
    until_mark 58 (decimal (length text)) (decimal (length other)) (text ++ rest)
    (other ++ other_rest) (decimal_lacks 58 (length text) (omega arith) short)
    (decimal_lacks 58 (length other) (omega arith) other_short) whole in
    same_front text other rest other_rest
    (decimal_injective (length text) (length other) short other_short parts.0) parts.1

-- texts behind their lengths
pub measured_told : (text other : List ℕ)
    → IsShort text
    → IsShort other
    → Told (Ok (bytes_eq text other)) (measured text) (measured other)
measured_told text other short other_short =
    decided (bytes_eq text other) text other measured (bytes_eq-Decides text other)
    (λ rest other_rest is. cut_measured text other rest other_rest short other_short is)

-- a number between its letter and its end
abbrev pub written_number : ℤ → List ℕ
written_number number = codes "i" ++ signed_decimal number ++ codes ";"

cut_number : (number other : ℤ) (rest other_rest : List ℕ)
    → mag number < 2 ^ 63
    → mag other < 2 ^ 63
    → written_number number ++ rest ≡ written_number other ++ other_rest
    → number ≡ other
cut_number number other rest other_rest fits other_fits is =
    let tail : (signed_decimal number ++ 59 ∷ []) ++ rest
    ≡ (signed_decimal other ++ 59 ∷ []) ++ other_rest = cc in
    let whole : signed_decimal number ++ 59 ∷ rest ≡ signed_decimal other ++ 59 ∷ other_rest =
    sym (append_assoc (signed_decimal number) (59 ∷ []) rest) ∙ tail
    ∙ append_assoc (signed_decimal other) (59 ∷ []) other_rest in
    signed_decimal_injective number other fits other_fits
    (until_mark 59 (signed_decimal number) (signed_decimal other) rest other_rest
    (signed_lacks 59 number (omega arith) fits) (signed_lacks 59 other (omega arith) other_fits)
    whole).0

pub number_told : (number other : ℤ)
    → mag number < 2 ^ 63
    → mag other < 2 ^ 63
    → Told (Ok (int_eq number other)) (written_number number) (written_number other)
number_told number other fits other_fits =
    decided (int_eq number other) number other written_number (Decides-int_eq number other)
    (λ rest other_rest is. cut_number number other rest other_rest fits other_fits is)

both_answers : (one other : Bool) → and_equal (Ok one) (Ok other) ≡ Ok (one && other)
both_answers true other = refl
both_answers false other = refl

three_answers : (first second third : Bool)
    → and_equal (and_equal (Ok first) (Ok second)) (Ok third) ≡ Ok (first && (second && third))
three_answers true true third = refl
three_answers true false third = refl
three_answers false second third = refl

-- labels, text by text
pub label_told : (label other : Label)
    → IsShort label.repo × IsShort label.package × IsShort label.name
    → IsShort other.repo × IsShort other.package × IsShort other.name
    → Told (Ok (labels_equal label other)) (label_content label) (label_content other)
label_told label other short other_short =
    subst (λ answer. Told answer (label_content label) (label_content other))
    (three_answers (bytes_eq label.repo other.repo) (bytes_eq label.package other.package)
    (bytes_eq label.name other.name))
    (told_behind
    (and_equal (and_equal (Ok (bytes_eq label.repo other.repo))
    (Ok (bytes_eq label.package other.package))) (Ok (bytes_eq label.name other.name))) 108
    ((measured label.repo ++ measured label.package) ++ measured label.name)
    ((measured other.repo ++ measured other.package) ++ measured other.name)
    (told_joined
    (and_equal (Ok (bytes_eq label.repo other.repo)) (Ok (bytes_eq label.package other.package)))
    (Ok (bytes_eq label.name other.name)) (measured label.repo ++ measured label.package)
    (measured other.repo ++ measured other.package) (measured label.name) (measured other.name)
    (told_joined (Ok (bytes_eq label.repo other.repo)) (Ok (bytes_eq label.package other.package))
    (measured label.repo) (measured other.repo) (measured label.package) (measured other.package)
    (measured_told label.repo other.repo short.0 other_short.0)
    (measured_told label.package other.package short.1 other_short.1))
    (measured_told label.name other.name short.2 other_short.2)))
