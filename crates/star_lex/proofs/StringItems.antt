-- An item of a string stands in the text.
use Rattle.std.proofs.Common.{◌≡◌, ℕ, zero, suc, ◌<◌, ◌≤◌, ◌+◌, ◌-◌, Bool, true, false, ◌&&◌, cond}
use Rattle.std.proofs.Common.{List, [], ◌∷◌, length, take, drop, slice_index, Option, Some, None}
use Rattle.std.proofs.Common.{option_and_then, leb, eqb, arith, subst}
use Rattle.std.proofs.lemmas.Bool.{and_parts, cond_both, eqb-true, leb-true}
use Rattle.std.proofs.lemmas.List.{length-drop}
use Rattle.star_lex.specs.declared.strings.Style.{Style}
use Rattle.star_lex.specs.declared.strings.Meaning.{Meaning}
use Rattle.star_lex.specs.declared.strings.Meaning.TheVariants.{Byte, Kept, Scalar}
use Rattle.star_lex.specs.Bytes.{line_end, is_visible}
use Rattle.star_lex.specs.Integers.{number}
use Rattle.star_lex.specs.Strings.{item, escape, raw_pair, plain, plain_byte, kept_byte, continued}
use Rattle.star_lex.specs.Strings.{one_letter, numbered_escape, ascii, scalar, front_number}
use Rattle.star_lex.specs.Strings.{octal_digits, simple_escape, is_scalar}

-- something of at least one byte, and no more than the text has
abbrev pub Fits : List ℕ → ℕ → Type 0
Fits text n = (0 < n) × (n ≤ length text)

-- the part of an answer that is a length, where there is one
abbrev pub FitsIn : List ℕ → ℕ → Option (Meaning × ℕ) → Type 0
FitsIn text before None = Unit {0}
FitsIn text before (Some found) = (0 < found.1) × (found.1 ≤ before + length text)

-- a byte other than 0 stands in the text
pub byte-within : (text : List ℕ) (i b : ℕ) → slice_index text i ≡ b → 0 < b → i < length text
byte-within [] i b e some = absurd (omega arith)
byte-within (c ∷ text) zero b e some = omega arith
byte-within (c ∷ text)
    (suc i) b e some = let more : i < length text = byte-within text i b e some in omega arith

abbrev pub Item : Type 0
Item = Option (Meaning × ℕ)

and_then-both : (o : Option ℕ) (f : ℕ → Item) (P : Item → Type 0)
    → P None
    → ((code : ℕ) → P (f code))
    → P (option_and_then f o)
and_then-both None f P none some = none
and_then-both (Some code) f P none some = some code

front-both : (base size : ℕ) (text : List ℕ) (f : ℕ → Item) (P : Item → Type 0)
    → P None
    → (size ≤ length text → (code : ℕ) → P (f code))
    → P (option_and_then f (front_number base size text))
front-both base size text f P none some =
    cond_both (leb size (length text)) (number base (take size text)) None
    (λ (o : Option ℕ). P (option_and_then f o))
    (λ e. and_then-both (number base (take size text)) f P none
    (some (leb-true size (length text) e)))
    (λ e. none)

ascii-both : (size code : ℕ) (P : Item → Type 0)
    → P None
    → P (Some (Byte code, size))
    → P (ascii size code)
ascii-both size code P none some = cond_both (leb code 127) (Some (Byte code, size)) None P
    (λ e. some) (λ e. none)

scalar-both : (size code : ℕ) (P : Item → Type 0)
    → P None
    → P (Some (Scalar code, size))
    → P (scalar size code)
scalar-both size code P none some = cond_both (is_scalar code) (Some (Scalar code, size)) None P
    (λ e. some) (λ e. none)

coded-x : (text : List ℕ)
    → FitsIn text 1 (option_and_then (ascii 4) (front_number 16 2 (drop 1 text)))
coded-x text = front-both 16 2 (drop 1 text) (ascii 4) (FitsIn text 1) tt
    (λ within code. ascii-both 4 code (FitsIn text 1) tt
    (let shorter : length (drop 1 text)
    ≡ length text - 1 = length-drop 1 text in (omega arith, omega arith)))

coded-u : (text : List ℕ)
    → FitsIn text 1 (option_and_then (scalar 6) (front_number 16 4 (drop 1 text)))
coded-u text = front-both 16 4 (drop 1 text) (scalar 6) (FitsIn text 1) tt
    (λ within code. scalar-both 6 code (FitsIn text 1) tt
    (let shorter : length (drop 1 text)
    ≡ length text - 1 = length-drop 1 text in (omega arith, omega arith)))

coded-long : (text : List ℕ)
    → FitsIn text 1 (option_and_then (scalar 10) (front_number 16 8 (drop 1 text)))
coded-long text = front-both 16 8 (drop 1 text) (scalar 10) (FitsIn text 1) tt
    (λ within code. scalar-both 10 code (FitsIn text 1) tt
    (let shorter : length (drop 1 text)
    ≡ length text - 1 = length-drop 1 text in (omega arith, omega arith)))

coded-octal : (text : List ℕ) (size : ℕ)
    → FitsIn text 1 (option_and_then (ascii (1 + size)) (front_number 8 size text))
coded-octal text size = front-both 8 size text (ascii (1 + size)) (FitsIn text 1) tt
    (λ within code. ascii-both (1 + size) code (FitsIn text 1) tt (omega arith, omega arith))

numbered-fits : (text : List ℕ) → FitsIn text 1 (numbered_escape text)
unfolding numbered_escape
numbered-fits text =
    cond_both (eqb (slice_index text 0) 120) _ _ (FitsIn text 1) (λ e. coded-x text)
    (λ e. cond_both (eqb (slice_index text 0) 117) _ _ (FitsIn text 1) (λ f. coded-u text)
    (λ f. cond_both (eqb (slice_index text 0) 85) _ _ (FitsIn text 1) (λ g. coded-long text)
    (λ g. coded-octal text (octal_digits text))))

abbrev pub FitsLine : List ℕ → Option ℕ → Type 0
FitsLine text None = Unit {0}
FitsLine text (Some n) = Fits text n

-- a line end stands in the text
line_end-fits : (text : List ℕ) → FitsLine text (line_end text)
line_end-fits text =
    cond_both (eqb (slice_index text 0) 10) (Some 1)
    (cond (eqb (slice_index text 0) 13 && eqb (slice_index text 1) 10) (Some 2) None)
    (FitsLine text)
    (λ e. let here : 0 < length text = byte-within text 0 10 (eqb-true (slice_index text 0) 10 e)
    (omega arith) in (omega arith, omega arith))
    (λ e. cond_both (eqb (slice_index text 0) 13 && eqb (slice_index text 1) 10) (Some 2) None
    (FitsLine text)
    (λ f. let next = and_parts (eqb (slice_index text 0) 13) (eqb (slice_index text 1) 10) f in
    let here : 1 < length text = byte-within text 1 10 (eqb-true (slice_index text 1) 10 next.1)
    (omega arith) in (omega arith, omega arith))
    (λ f. tt))

pub line_end-within : (text : List ℕ) (n : ℕ) → line_end text ≡ Some n → Fits text n
line_end-within text n e = subst (λ (o : Option ℕ). FitsLine text o) e (line_end-fits text)

one_letter-fits : (o : Option ℕ) (b : ℕ) (text : List ℕ)
    → FitsIn (b ∷ text) 1 (one_letter o (b ∷ text))
one_letter-fits None b text = numbered-fits (b ∷ text)
one_letter-fits (Some c) b text = (omega arith, omega arith)

letter-fits : (text : List ℕ) → FitsIn text 1 (one_letter (simple_escape (slice_index text 0)) text)
letter-fits [] = numbered-fits []
letter-fits (b ∷ text) = one_letter-fits (simple_escape b) b text

continued-fits : (o : Option ℕ) (text : List ℕ) → FitsLine text o → FitsIn text 1 (continued o text)
continued-fits None text line = letter-fits text
continued-fits (Some n) text line = (omega arith, omega arith)

escape-fits : (text : List ℕ) → FitsIn text 1 (escape text)
unfolding escape
escape-fits text = continued-fits (line_end text) text (line_end-fits text)

kept-fits : (o : Option ℕ) (text : List ℕ)
    → FitsLine text o
    → FitsIn text 1 (kept_byte o (slice_index text 0))
kept-fits (Some n) text line = (omega arith, omega arith)
kept-fits None [] line = tt
kept-fits None (b ∷ text) line = cond_both (is_visible b) (Some (Kept b, 2)) None
    (FitsIn (b ∷ text) 1) (λ e. (omega arith, omega arith)) (λ e. tt)

raw_pair-fits : (text : List ℕ) → FitsIn text 1 (raw_pair text)
unfolding raw_pair
raw_pair-fits text = kept-fits (line_end text) text (line_end-fits text)

plain_byte-fits : (o : Option ℕ) (triple : Bool) (text : List ℕ)
    → FitsLine text o
    → FitsIn text 0 (plain_byte o triple (slice_index text 0))
plain_byte-fits (Some n) true text line = (omega arith, omega arith)
plain_byte-fits (Some n) false text line = tt
plain_byte-fits None triple [] line = tt
plain_byte-fits None triple (b ∷ text) line = cond_both (is_visible b) (Some (Byte b, 1)) None
    (FitsIn (b ∷ text) 0) (λ e. (omega arith, omega arith)) (λ e. tt)

plain-fits : (triple : Bool) (text : List ℕ) → FitsIn text 0 (plain triple text)
unfolding plain
plain-fits triple text = plain_byte-fits (line_end text) triple text (line_end-fits text)

-- what stands behind one byte
fits-behind : (b : ℕ) (text : List ℕ) (o : Item) → FitsIn text 1 o → FitsIn (b ∷ text) 0 o
fits-behind b text None fits = tt
fits-behind b text (Some found) fits = (fits.0, omega arith)

paired-fits : (raw : Bool) (b : ℕ) (text : List ℕ)
    → FitsIn (b ∷ text) 0 (cond raw (raw_pair text) (escape text))
paired-fits true b text = fits-behind b text (raw_pair text) (raw_pair-fits text)
paired-fits false b text = fits-behind b text (escape text) (escape-fits text)

item-fits : (style : Style) (text : List ℕ) → FitsIn text 0 (item style text)
unfolding item
item-fits style [] = plain-fits style.triple []
item-fits style (b ∷ text) =
    cond_both (eqb b 92) (cond style.raw (raw_pair text) (escape text))
    (plain style.triple (b ∷ text)) (FitsIn (b ∷ text) 0)
    (λ e. paired-fits style.raw b text)
    (λ e. plain-fits style.triple (b ∷ text))

pub item-within : (style : Style) (text : List ℕ) (meaning : Meaning) (n : ℕ)
    → item style text ≡ Some (meaning, n)
    → Fits text n
item-within style text meaning n e = let fits : FitsIn text 0 (Some (meaning, n)) = subst
    (λ (o : Item). FitsIn text 0 o) e (item-fits style text) in (fits.0, omega arith)
