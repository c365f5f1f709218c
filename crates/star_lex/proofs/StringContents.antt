-- The contents of a string, item by item: what completes the rest completes the whole, and nothing
-- else reads the whole.
use Rattle.std.proofs.Common.{◌≡◌, ℕ, zero, suc, ◌<◌, ◌≤◌, ◌+◌, ◌-◌, Bool, true, false, ◌&&◌, cond}
use Rattle.std.proofs.Common.{List, [], ◌∷◌, ◌++◌, length, drop, slice_index, Option, Some, None}
use Rattle.std.proofs.Common.{eqb, refl, arith, sym, subst, ap, ◌∙◌}
use Rattle.std.proofs.lemmas.Bool.{and_parts, both_ways, eqb-true}
use Rattle.std.proofs.lemmas.List.{append_assoc, append-nil, length-drop}
use Rattle.star_lex.specs.declared.strings.Style.{Style}
use Rattle.star_lex.specs.declared.strings.Meaning.{Meaning}
use Rattle.star_lex.specs.Strings.{Contents, closes, item, bytes_of, quotes, is_tripled, IsString}
use Rattle.star_lex.specs.Strings.{style_of, opening, prefix}
use Rattle.star_lex.specs.Strings.Contents.{ends, goes}
use Rattle.star_lex.proofs.StringItems.{item-within}

abbrev unwrap_or_at : {A : Type 0} → A → Option A → A
unwrap_or_at other None = other
unwrap_or_at other (Some a) = a

pub some-pair : {A B : Type 0} (a c : A) (b d : B)
    → ◌≡◌ {A = Option (A × B)} (Some (a, b)) (Some (c, d))
    → (a ≡ c) × (b ≡ d)
some-pair {A} {B} a c b d e =
    let same : ◌≡◌ {A = A × B} (a, b) (c, d) = ap (unwrap_or_at (a, b)) e in
    (ap (λ (p : A × B). p.0) same, ap (λ (p : A × B). p.1) same)

pub none-some : {A : Type 0} (a : A) (o : Option A) → o ≡ None → o ≡ Some a → ⊥
none-some a None e f = cc
none-some a (Some b) e f = cc

-- what is left of a value and of a length behind a first item
pub record Left (style : Style) (text value front : List ℕ) (n size : ℕ) : Type 0 where
  pub more : List ℕ
  pub left : ℕ
  pub value_is : value ≡ front ++ more
  pub size_is : n ≡ size + left
  pub contents : Contents style text more left

Contents-ended : (style : Style) (text value : List ℕ) (n : ℕ)
    → closes style text ≡ true
    → Contents style text value n
    → (value ≡ []) × (n ≡ quotes style)
Contents-ended style text value n e (ends _ here) = (refl, refl)
Contents-ended style text value n e (goes _ more meaning size left unended first contents) = absurd
    (both_ways _ unended e)

Contents-gone : (style : Style) (text value : List ℕ) (n : ℕ) (meaning : Meaning) (size : ℕ)
    → closes style text ≡ false
    → item style text ≡ Some (meaning, size)
    → Contents style text value n
    → Left style (drop size text) value (bytes_of meaning) n size
Contents-gone style text value n meaning size e first (ends _ here) = absurd (both_ways _ e here)
Contents-gone style text value n meaning size e first
    (goes _ more other step left unended here contents) =
    let same = some-pair meaning other size step (sym first ∙ here) in
    let kind : meaning ≡ other = same.0 in
    let long : size ≡ step = same.1 in
    record {
      more = more;
      left = left;
      value_is = ap (λ (m : Meaning). bytes_of m ++ more) (sym kind);
      size_is = ap (λ (k : ℕ). k + left) (sym long);
      contents = subst (λ (k : ℕ). Contents style (drop k text) more left) (sym long) contents;
    }

Contents-absent : (style : Style) (text value : List ℕ) (n : ℕ)
    → closes style text ≡ false
    → item style text ≡ None
    → Contents style text value n
    → ⊥
Contents-absent style text value n e none (ends _ here) = both_ways _ e here
Contents-absent style text value n e none (goes _ more meaning size left unended here contents) =
    none-some (meaning, size) (item style text) none here

-- the value so far and the rest of the text, beside the whole text
pub record Continues (style : Style) (whole value rest : List ℕ) : Type 0 where
  pub within : length rest ≤ length whole
  pub completes : (more : List ℕ) (n : ℕ)
      → Contents style rest more n
      → Contents style whole (value ++ more) (length whole - length rest + n)
  pub only : (all : List ℕ) (n : ℕ)
      → Contents style whole all n
      → Left style rest all value n (length whole - length rest)

pub Continues-start : (style : Style) (whole : List ℕ) → Continues style whole [] whole
Continues-start style whole = record {
  within = omega arith;
  completes = λ more n contents. let e : n
      ≡ length whole - length whole + n = omega arith in subst
      (λ (k : ℕ). Contents style whole more k) e contents;
  only = λ all n contents. record
      { more = all; left = n; value_is = refl; size_is = omega arith; contents = contents };
}

pub Continues-step : (style : Style) (whole value rest : List ℕ) (meaning : Meaning) (size : ℕ)
    → Continues style whole value rest
    → closes style rest ≡ false
    → item style rest ≡ Some (meaning, size)
    → Continues style whole (value ++ bytes_of meaning) (drop size rest)
Continues-step style whole value rest meaning size so_far unended first =
    let inside = item-within style rest meaning size first in
    let shorter : length (drop size rest) ≡ length rest - size = length-drop size rest in
    let within : length rest ≤ length whole = so_far.within in
    let out : length whole - length (drop size rest)
    ≡ length whole - length rest + size = omega arith in
    record {
      within = omega arith;
      completes = λ more n contents.
          let longer : length whole - length rest + (size + n)
          ≡ length whole - length (drop size rest) + n = omega arith in
          let all : Contents style whole (value ++ (bytes_of meaning ++ more))
          (length whole - length rest + (size + n)) = so_far.completes
          (bytes_of meaning ++ more) (size + n)
          (goes rest more meaning size n unended first contents) in
          subst (λ (k : ℕ). Contents style whole ((value ++ bytes_of meaning) ++ more) k) longer
          (subst (λ (v : List ℕ). Contents style whole v (length whole - length rest + (size + n)))
          (sym (append_assoc value (bytes_of meaning) more)) all);
      only = λ all n contents.
          let left = so_far.only all n contents in
          let next = Contents-gone style rest left.more left.left meaning size unended first
          left.contents in
          let ends_so : n ≡ length whole - length rest + left.left = left.size_is in
          let goes_so : left.left ≡ size + next.left = next.size_is in
          record {
            more = next.more;
            left = next.left;
            value_is = left.value_is
                ∙ (ap (λ (v : List ℕ). value ++ v) next.value_is
                ∙ sym (append_assoc value (bytes_of meaning) next.more));
            size_is = omega arith;
            contents = next.contents;
          };
    }

pub Continues-ended : (style : Style) (whole value rest : List ℕ)
    → Continues style whole value rest
    → closes style rest ≡ true
    → Contents style whole value (length whole - length rest + quotes style)
Continues-ended style whole value rest so_far here =
    subst (λ (v : List ℕ). Contents style whole v (length whole - length rest + quotes style))
    (append-nil value) (so_far.completes [] (quotes style) (ends rest here))

pub Continues-absent : (style : Style) (whole value rest : List ℕ)
    → Continues style whole value rest
    → closes style rest ≡ false
    → item style rest ≡ None
    → (all : List ℕ) (n : ℕ)
    → Contents style whole all n
    → ⊥
Continues-absent style whole value rest so_far unended none all n contents =
    let left = so_far.only all n contents in
    Contents-absent style rest left.more left.left unended none left.contents

-- a quote stands in the text
pub quote-within : (quote : ℕ) (text : List ℕ) (i : ℕ)
    → 0 < quote
    → eqb (slice_index text i) quote ≡ true
    → i < length text
quote-within quote [] i some here = let e : 0
    ≡ quote = eqb-true 0 quote here in absurd (omega arith)
quote-within quote (b ∷ text) zero some here = omega arith
quote-within quote (b ∷ text)
    (suc i) some here = let more : i < length text = quote-within quote text i some here in omega
    arith

tripled-within : (quote : ℕ) (text : List ℕ)
    → 0 < quote
    → is_tripled quote text ≡ true
    → 3 ≤ length text
tripled-within quote text some here =
    let later = and_parts (eqb (slice_index text 0) quote)
    (eqb (slice_index text 1) quote && eqb (slice_index text 2) quote) here in
    let last = and_parts (eqb (slice_index text 1) quote)
    (eqb (slice_index text 2) quote) later.1 in
    quote-within quote text 2 some last.1

pub closes-within : (style : Style) (text : List ℕ)
    → 0 < style.quote
    → closes style text ≡ true
    → quotes style ≤ length text
unfolding closes
closes-within style text some here = closes-by style.triple style.quote text some here
  where
    closes-by : (triple : Bool) (quote : ℕ) (text : List ℕ)
        → 0 < quote
        → cond triple (is_tripled quote text) (eqb (slice_index text 0) quote) ≡ true
        → cond triple 3 1 ≤ length text
    closes-by true quote text some here = tripled-within quote text some here
    closes-by false quote text some here = let inside : 0 < length text = quote-within quote text 0
        some here in omega arith

-- contents end within the text, and have one value and one length
pub Contents-within : (style : Style) (text value : List ℕ) (n : ℕ)
    → 0 < style.quote
    → Contents style text value n
    → n ≤ length text
Contents-within style text value n some (ends _ here) = closes-within style text some here
Contents-within style text value n some (goes _ more meaning size left unended first contents) =
    let inside = item-within style text meaning size first in
    let later : left ≤ length (drop size text) = Contents-within style
    (drop size text) more left some contents in
    let shorter : length (drop size text) ≡ length text - size = length-drop size text in
    omega arith

pub Contents-unique : (style : Style) (text value other : List ℕ) (n m : ℕ)
    → Contents style text value n
    → Contents style text other m
    → (value ≡ other) × (n ≡ m)
Contents-unique style text value other n m (ends _ here) second =
    let e = Contents-ended style text other m here second in (sym e.0, sym e.1)
Contents-unique style text value other n m
    (goes _ more meaning size left unended first contents) second =
    let next = Contents-gone style text other m meaning size unended first second in
    let same = Contents-unique style
    (drop size text) more next.more left next.left contents next.contents in
    let long : m ≡ size + next.left = next.size_is in
    let even : left ≡ next.left = same.1 in
    (ap (λ (v : List ℕ). bytes_of meaning ++ v) same.0 ∙ sym next.value_is, omega arith)

pub style_of-quote : (text : List ℕ) → (style_of text).quote ≡ slice_index text (prefix text)
unfolding style_of
style_of-quote text = refl

pub IsString-made : (text value : List ℕ) (size n : ℕ)
    → Contents (style_of text) (drop (opening text) text) value size
    → n ≡ opening text + size
    → IsString text value n
IsString-made text value size n contents whole = record
    { size = size; contents = contents; whole = whole }

pub IsString-absent : (text : List ℕ)
    → ((value : List ℕ) (n : ℕ) → Contents (style_of text) (drop (opening text) text) value n → ⊥)
    → (value : List ℕ) (n : ℕ)
    → IsString text value n
    → ⊥
IsString-absent text none value n string = none value string.size string.contents

pub IsString-unique : (text value other : List ℕ) (n m : ℕ)
    → IsString text value n
    → IsString text other m
    → (value ≡ other) × (n ≡ m)
IsString-unique text value other n m one two =
    let same = Contents-unique (style_of text)
    (drop (opening text) text) value other one.size two.size one.contents two.contents in
    (same.0, one.whole ∙ (ap (λ (k : ℕ). opening text + k) same.1 ∙ sym two.whole))

pub quotes-some : (triple : Bool) → 0 < cond triple 3 1
quotes-some true = omega arith
quotes-some false = omega arith

Contents-some : (style : Style) (text value : List ℕ) (n : ℕ) → Contents style text value n → 0 < n
Contents-some style text value n (ends _ here) = quotes-some style.triple
Contents-some style text value n
    (goes _ more meaning size left unended first contents) = let inside = item-within style text
    meaning size first in omega arith

pub opening-some : (text : List ℕ) → 0 < opening text
opening-some text = let some : 0 < quotes (style_of text) = quotes-some
    (style_of text).triple in omega arith

pub IsString-within : (text value : List ℕ) (n : ℕ)
    → 0 < slice_index text (prefix text)
    → IsString text value n
    → (0 < n) × (n ≤ length text)
IsString-within text value n some string =
    let quoted : 0 < (style_of text).quote = rw (style_of-quote text) some in
    let inside : string.size ≤ length (drop (opening text) text) = Contents-within (style_of text)
    (drop (opening text) text) value string.size quoted string.contents in
    let shorter : length (drop (opening text) text)
    ≡ length text - opening text = length-drop (opening text) text in
    let whole : n ≡ opening text + string.size = string.whole in
    let low = opening-some text in
    let front : 0 < string.size = Contents-some (style_of text)
    (drop (opening text) text) value string.size string.contents in
    (omega arith, omega arith)
