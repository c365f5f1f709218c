-- What the definition of the parser is made of: readers, which take what stands at the front of
-- some symbols.
use Rattle.std.specs.Prelude.{◌≡◌, ℕ, zero, suc, max, Bool, true, false, not, ◌&&◌, if◌then◌else◌}
use Rattle.std.specs.Prelude.{List, [], ◌∷◌, ◌++◌, length, Option, Some, None, option_and_then}
use Rattle.std.specs.Prelude.{is_some}
use denote.Enum.Bare.{sameb}
use Rattle.star_grammar.specs.contracts.symbols.Sign.{the_type}
use Rattle.star_grammar.specs.declared.symbols.Sign.{Sign}
use Rattle.star_grammar.specs.declared.symbols.Sign.TheVariants as s
use Rattle.star_grammar.specs.declared.symbols.Symbol.{Symbol}
use Rattle.star_grammar.specs.declared.symbols.SymbolKind.{SymbolKind}
use Rattle.star_grammar.specs.declared.symbols.SymbolKind.TheVariants as kind
use Rattle.star_grammar.specs.Rules.{Deep, front_line}

abbrev pub Reader : Type 0 → Type 0
Reader A = List Symbol → Option (A × List Symbol)

abbrev pub and_then : {A B : Type 0}
    → Option (A × List Symbol)
    → (A → Reader B)
    → Option (B × List Symbol)
and_then None next = None
and_then (Some found) next = next found.0 found.1

infixl 10 ◌>>=◌
abbrev pub ◌>>=◌ : {A B : Type 0} → Reader A → (A → Reader B) → Reader B
reader >>= next = λ i. and_then (reader i) next

infixl 10 ◌>>◌
abbrev pub ◌>>◌ : {A B : Type 0} → Reader A → Reader B → Reader B
reader >> next = reader >>= (λ _. next)

abbrev pub pure : {A : Type 0} → A → Reader A
pure a = λ i. Some (a, i)

abbrev pub refuse : {A : Type 0} → Reader A
refuse = λ i. None

-- a value that there may be, without a symbol
abbrev pub given : {A : Type 0} → Option A → Reader A
given None = λ i. None
given (Some a) = λ i. Some (a, i)

abbrev pub checked : Bool → Reader (Unit {0})
checked holds = λ i. if holds then Some (tt, i) else None

-- ---- the next symbols

unfoldable pub same_sign : Sign → Sign → Bool
same_sign = sameb the_type

abbrev pub is_sign : Sign → SymbolKind → Bool
is_sign what (kind.Sign other) = same_sign other what
is_sign what (kind.Name name) = false
is_sign what (kind.Int value) = false
is_sign what (kind.Text text) = false

abbrev pub sees : Sign → List Symbol → Bool
sees what [] = false
sees what (symbol ∷ _) = is_sign what symbol.kind

abbrev pub behind : List Symbol → List Symbol
behind [] = []
behind (_ ∷ i) = i

abbrev pub is_word : SymbolKind → Bool
is_word (kind.Name name) = true
is_word _ = false

abbrev pub sees_word : List Symbol → Bool
sees_word [] = false
sees_word (symbol ∷ _) = is_word symbol.kind

abbrev pub sign_of : SymbolKind → Option Sign
sign_of (kind.Sign what) = Some what
sign_of _ = None

abbrev pub front_sign : List Symbol → Option Sign
front_sign [] = None
front_sign (symbol ∷ _) = sign_of symbol.kind

-- what a table says of the next symbol
abbrev pub front_of : {A : Type 0} → (Sign → Option A) → List Symbol → Option A
front_of table i = option_and_then table (front_sign i)

-- whether another item comes: behind the sign between items the sign that may close them doesn't
-- stand
abbrev pub goes_on : Sign → Option Sign → List Symbol → Bool
goes_on between None i = sees between i
goes_on between (Some close) i = sees between i && not (sees close (behind i))

-- ---- steps

abbrev pub skip : Reader (Unit {0})
skip = λ i. Some (tt, behind i)

abbrev pub past : Sign → List Symbol → List Symbol
past what i = if sees what i then behind i else i

-- takes the sign, if it comes next
abbrev pub eat : Sign → Reader Bool
eat what = λ i. Some (sees what i, past what i)

abbrev pub expect : Sign → Reader (Unit {0})
expect what = λ i. if sees what i then Some (tt, behind i) else None

abbrev pub look : {A : Type 0} → (List Symbol → A) → Reader A
look test = λ i. Some (test i, i)

abbrev pub name_in : SymbolKind → Option (List ℕ)
name_in (kind.Name name) = Some name
name_in _ = None

abbrev pub text_in : SymbolKind → Option (List ℕ)
text_in (kind.Text text) = Some text
text_in _ = None

abbrev pub taken : {A : Type 0} → (SymbolKind → Option A) → Reader A
taken part [] = None
taken part (symbol ∷ i) = given (part symbol.kind) i

abbrev pub name : Reader (List ℕ)
name = taken name_in

abbrev pub text : Reader (List ℕ)
text = taken text_in

-- [sign] close
abbrev pub closed : Sign → Sign → Reader (Unit {0})
closed between close = eat between >> expect close

-- ---- lists. The number bounds the turns; each turn takes a symbol, so that the count of symbols
-- is enough.

unfoldable pub rounds : {A : Type 0} → (List Symbol → Bool) → (A → Reader A) → ℕ → A → Reader A
rounds goes turn zero a = pure a
rounds goes turn (suc n) a = λ i. if goes i then (turn a >>= rounds goes turn n) i else Some (a, i)

-- turn after turn, as long as another begins
abbrev pub turns : {A : Type 0} → (List Symbol → Bool) → (A → Reader A) → A → Reader A
turns goes turn a = λ i. rounds goes turn (length i) a i

abbrev pub one : {A : Type 0} → Deep A → Deep (List A)
one a = (a.0 ∷ [], a.1)

abbrev pub adds : {A : Type 0} → Reader (Deep A) → Deep (List A) → Reader (Deep (List A))
adds item items = do
  a ← item
  pure (items.0 ++ a.0 ∷ [], max items.1 a.1)

abbrev pub joins : {A : Type 0} → Reader (Deep (List A)) → Deep (List A) → Reader (Deep (List A))
joins more items = do
  a ← more
  pure (items.0 ++ a.0, max items.1 a.1)

-- {sign item}, behind the items so far
abbrev pub more : {A : Type 0}
    → Sign
    → Option Sign
    → Reader (Deep A)
    → Deep (List A)
    → Reader (Deep (List A))
more between close item = turns (goes_on between close) (λ items. skip >> adds item items)
