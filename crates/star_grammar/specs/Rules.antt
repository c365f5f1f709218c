-- What rules of a grammar are made of. A rule says what stands at the front of some symbols and
-- which symbols come behind it, so that one rule after another needs no list to be cut.
use Rattle.std.specs.Prelude.{◌≡◌, ℕ, ◌+◌, max, nat_lt, if◌then◌else◌, List, [], ◌∷◌, ◌++◌, Option}
use Rattle.std.specs.Prelude.{Some, None}
use Rattle.star_grammar.specs.declared.symbols.Sign.{Sign}
use Rattle.star_grammar.specs.declared.symbols.Sign.TheVariants as s
use Rattle.star_grammar.specs.declared.symbols.Symbol.{Symbol}
use Rattle.star_grammar.specs.declared.symbols.SymbolKind.TheVariants as kind
use Rattle.star_trees.specs.Nesting.{deepest}

abbrev pub Rule : Type 0 → Type 1
Rule A = List Symbol → A → List Symbol → Type 0

-- a sign, a name and a string on a line
abbrev pub sign : Sign → ℕ → Symbol
sign what line = record { kind = kind.Sign what; line = line }

abbrev pub word : List ℕ → ℕ → Symbol
word name line = record { kind = kind.Name name; line = line }

abbrev pub string : List ℕ → ℕ → Symbol
string text line = record { kind = kind.Text text; line = line }

-- the line of the first symbol
abbrev pub front_line : List Symbol → ℕ
front_line [] = 0
front_line (symbol ∷ _) = symbol.line

-- A tree and its depth. What isn't split further counts 1, a list as much as its deepest item.
abbrev pub Deep : Type 0 → Type 0
Deep A = A × ℕ

-- A construct counts one more than its deepest part, and `deepest` at most: nothing deeper is a tree.
unfoldable pub deep : {A : Type 0} → A → ℕ → Option (Deep A)
deep tree parts = if nat_lt parts deepest then Some (tree, parts + 1) else None

-- first {turn}, where a turn makes more of what was read before it
pub data Repeated {A : Type 0} (first : Rule A) (turn : A → Rule A) : List Symbol
    → A
    → List Symbol
    → Type 0 where
  begins : {i r : List Symbol} {a : A} → first i a r → Repeated first turn i a r
  goes : {i j r : List Symbol} {a b : A}
      → Repeated first turn i a j
      → turn a j b r
      → Repeated first turn i b r

-- nothing, as an empty list
pub data Nothing {A : Type 0} : List Symbol → Deep (List A) → List Symbol → Type 0 where
  nothing : {i : List Symbol} → Nothing i ([], 0) i

-- one item, as a list
pub data One {A : Type 0} (item : Rule (Deep A)) : List Symbol
    → Deep (List A)
    → List Symbol
    → Type 0 where
  one : {i r : List Symbol} {a : Deep A} → item i a r → One item i (a.0 ∷ [], a.1) r

-- one more item
pub data Adds {A : Type 0} (item : Rule (Deep A)) (items : Deep (List A)) : List Symbol
    → Deep (List A)
    → List Symbol
    → Type 0 where
  adds : {i r : List Symbol} {a : Deep A}
      → item i a r
      → Adds item items i (items.0 ++ a.0 ∷ [], max items.1 a.1) r

-- more items
pub data Joins {A : Type 0} (more : Rule (Deep (List A))) (items : Deep (List A)) : List Symbol
    → Deep (List A)
    → List Symbol
    → Type 0 where
  joins : {i r : List Symbol} {a : Deep (List A)}
      → more i a r
      → Joins more items i (items.0 ++ a.0, max items.1 a.1) r

-- sign rule
pub data After {A : Type 0} (what : Sign) (rule : Rule A) : List Symbol
    → A
    → List Symbol
    → Type 0 where
  after : {i r : List Symbol} {a : A} {l : ℕ} → rule i a r → After what rule (sign what l ∷ i) a r

-- item {sign item}
abbrev pub Series : {A : Type 0} → Sign → Rule (Deep A) → Rule (Deep (List A))
Series between item = Repeated (One item) (Adds (After between item))

-- rule [sign] close
pub data Closed {A : Type 0} (between close : Sign) (rule : Rule A) : List Symbol
    → A
    → List Symbol
    → Type 0 where
  plain : {i r : List Symbol} {a : A} {l : ℕ}
      → rule i a (sign close l ∷ r)
      → Closed between close rule i a r
  trailed : {i r : List Symbol} {a : A} {l m : ℕ}
      → rule i a (sign between l ∷ sign close m ∷ r)
      → Closed between close rule i a r

-- [item {',' item} [',']] close
pub data Listed {A : Type 0} (close : Sign) (item : Rule (Deep A)) : List Symbol
    → Deep (List A)
    → List Symbol
    → Type 0 where
  none : {r : List Symbol} {l : ℕ} → Listed close item (sign close l ∷ r) ([], 0) r
  some : {i r : List Symbol} {a : Deep (List A)}
      → Closed s.Comma close (Series s.Comma item) i a r
      → Listed close item i a r
