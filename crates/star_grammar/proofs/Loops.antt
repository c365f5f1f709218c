-- Whatever stands item after item is read turn after turn.
use Rattle.std.proofs.Common.{◌≡◌, ℕ, zero, suc, ◌<◌, ◌≤◌, Bool, true, false, List, [], ◌∷◌, length}
use Rattle.std.proofs.Common.{Option, Some, None, refl, arith, ◌∙◌, ap, le_refl}
use Rattle.star_grammar.specs.declared.symbols.Sign.{Sign}
use Rattle.star_grammar.specs.declared.symbols.Symbol.{Symbol}
use Rattle.star_grammar.specs.Rules.{Rule, Deep, sign, Repeated, Nothing, One, Adds, After, Series}
use Rattle.star_grammar.specs.Rules.{Closed}
use Rattle.star_grammar.specs.Readers.{Reader, and_then, ◌>>◌, same_sign, sees, skip, rounds, turns}
use Rattle.star_grammar.specs.Readers.{goes_on, one, adds, more, closed}
use Rattle.star_grammar.proofs.Steps.{same-sign}
use Rattle.star_grammar.proofs.Shrinks.{Shrinks, Takes, Adds-takes, After-takes}

-- what is found is passed on
pub then-is : {A B : Type 0} {found : Option (A × List Symbol)}
    (next : A → Reader B) {a : A} {j : List Symbol} {b : Option (B × List Symbol)}
    → found ≡ Some (a, j)
    → next a j ≡ b
    → and_then found next ≡ b
then-is {A} next e so = ap (λ (o : Option (A × List Symbol)). and_then o next) e ∙ so

-- what relates is read, if the symbols behind it are so
abbrev pub Complete : {A : Type 0} → (List Symbol → Type 0) → Reader A → Rule A → Type 0
Complete {A} Stop reader rule = (i : List Symbol) (a : A) (r : List Symbol)
    → rule i a r
    → Stop r
    → reader i ≡ Some (a, r)

-- what a turn that relates gives, that it begins as turns do, and that it takes a symbol
pub record IsTurn {A : Type 0} (Turn : A → Rule A) (Stop : List Symbol → Type 0)
    (begins_turn : List Symbol → Bool) (turn : A → Reader A) : Type 0 where
  pub complete : (a : A) → Complete Stop (turn a) (Turn a)
  pub opens : (a : A) (i : List Symbol) (b : A) (r : List Symbol)
      → Turn a i b r
      → Stop i × (begins_turn i ≡ true)
  pub takes : (a : A) → Takes (Turn a)

-- where a repeated rule begins, and that the turns lead from there to what stands
record Begun {A : Type 0} (First : Rule A) (Stop : List Symbol → Type 0)
    (begins_turn : List Symbol → Bool) (turn : A → Reader A) (i : List Symbol) (a : A)
    (j : List Symbol) : Type 0 where
  start : A
  rest : List Symbol
  stands : First i start rest
  stops : Stop rest
  left : ℕ
  enough : length j ≤ left
  same : rounds begins_turn turn (length rest) start rest ≡ rounds begins_turn turn left a j

-- where a repeated rule begins, and that the turns give what stands
pub record RepeatedRead {A : Type 0} (First : Rule A) (Stop : List Symbol → Type 0)
    (begins_turn : List Symbol → Bool) (turn : A → Reader A) (i : List Symbol) (a : A)
    (r : List Symbol) : Type 0 where
  pub start : A
  pub rest : List Symbol
  pub stands : First i start rest
  pub stops : Stop rest
  pub read : turns begins_turn turn start rest ≡ Some (a, r)

one-round : {A : Type 0} (begins_turn : List Symbol → Bool) (turn : A → Reader A) (n : ℕ) (a : A)
    (j : List Symbol) (b : A) (k : List Symbol)
    → length k < n
    → begins_turn j ≡ true
    → turn a j ≡ Some (b, k)
    → (m : ℕ) × (length k ≤ m) × (rounds begins_turn turn n a j ≡ rounds begins_turn turn m b k)
unfolding rounds
one-round begins_turn turn zero a j b k room begun e = absurd (omega arith)
one-round begins_turn turn (suc n) a j b k room begun e =
    (n, omega arith, rw begun (then-is _ e refl))

rounds-stopped : {A : Type 0} (begins_turn : List Symbol → Bool) (turn : A → Reader A) (n : ℕ)
    (a : A) (r : List Symbol) → begins_turn r ≡ false → rounds begins_turn turn n a r ≡ Some (a, r)
unfolding rounds
rounds-stopped begins_turn turn zero a r none = refl
rounds-stopped begins_turn turn (suc n) a r none = rw none refl

module _ {A : Type 0}
    (First : Rule A) {Turn : A
    → Rule A} {Stop : List Symbol
    → Type 0} {begins_turn : List Symbol
    → Bool} {turn : A
    → Reader A} (turning : IsTurn Turn Stop begins_turn turn) where
  Repeated-begun : (i : List Symbol) (a : A) (j : List Symbol)
      → Repeated First Turn i a j
      → Stop j
      → Begun First Stop begins_turn turn i a j
  Repeated-begun i a j
      (Repeated.begins so) stops = record {
        start = a;
        rest = j;
        stands = so;
        stops = stops;
        left = length j;
        enough = le_refl _;
        same =
            refl;
      }
  Repeated-begun i a j (Repeated.goes {j = k} {a = b} so more) stops =
      let opened = turning.opens b k a j more in
      further b k more (Repeated-begun i b k so opened.0) opened.1 stops
    where
      further : (b : A) (k : List Symbol)
          → Turn b k a j
          → Begun First Stop begins_turn turn i b k
          → begins_turn k ≡ true
          → Stop j
          → Begun First Stop begins_turn turn i a j
      further b k more begun goes_on stops =
          let shorter = turning.takes b k a j more in
          let room : length j < begun.left = omega (arith, begun.enough) in
          let next = one-round begins_turn turn begun.left b k a j room goes_on
          (turning.complete b k a j more stops) in
          record {
            start = begun.start;
            rest = begun.rest;
            stands = begun.stands;
            stops =
                begun.stops;
            left = next.0;
            enough = next.1;
            same = begun.same ∙ next.2;
          }

  pub Repeated-read : (i : List Symbol) (a : A) (r : List Symbol)
      → Repeated First Turn i a r
      → Stop r
      → begins_turn r ≡ false
      → RepeatedRead First Stop begins_turn turn i a r
  Repeated-read i a r so stops none =
      let begun = Repeated-begun i a r so stops in
      record {
        start = begun.start;
        rest = begun.rest;
        stands = begun.stands;
        stops = begun.stops;
        read = begun.same ∙ rounds-stopped begins_turn turn begun.left a r none;
      }

-- a list that may be empty is read from nothing on
pub Nothing-read : {A : Type 0} {Turn : Deep (List A)
    → Rule (Deep (List A))} {Stop : List Symbol
    → Type 0} {begins_turn : List Symbol
    → Bool} {turn : Deep (List A)
    → Reader (Deep (List A))}
    → IsTurn Turn Stop begins_turn turn
    → (i : List Symbol) (a : Deep (List A)) (r : List Symbol)
    → Repeated Nothing Turn i a r
    → Stop r
    → begins_turn r ≡ false
    → turns begins_turn turn ([], 0) i ≡ Some (a, r)
Nothing-read {A} {Turn} {Stop} {begins_turn} {turn} turning i a r so stops none =
    let all = Repeated-read Nothing turning i a r so stops none in
    from_nothing all.start all.rest all.stands all.read
  where
    from_nothing : (start : Deep (List A)) (rest : List Symbol)
        → Nothing i start rest
        → turns begins_turn turn start rest ≡ Some (a, r)
        → turns begins_turn turn ([], 0) i ≡ Some (a, r)
    from_nothing start rest Nothing.nothing read = read

-- ---- series

-- the sign that may close a list comes next
abbrev pub closes : Option Sign → List Symbol → Bool
closes None i = false
closes (Some close) i = sees close i

-- what an item that relates gives, that no closing sign begins it, and that the sign between items
-- may stand behind it
pub record IsItem {A : Type 0} (between : Sign) (close : Option Sign) (item : Reader (Deep A))
    (Item : Rule (Deep A)) (Stop : List Symbol → Type 0) : Type 0 where
  pub complete : Complete Stop item Item
  pub opens : (i : List Symbol) (a : Deep A) (r : List Symbol) → Item i a r → closes close i ≡ false
  pub between_stops : (l : ℕ) (i : List Symbol) → Stop (sign between l ∷ i)
  pub shrinks : Shrinks Item

-- the first item of a series, and that the others are read behind it
pub record SeriesRead {A : Type 0} (between : Sign) (close : Option Sign) (item : Reader (Deep A))
    (Item : Rule (Deep A)) (Stop : List Symbol → Type 0) (i : List Symbol) (items : Deep (List A))
    (r : List Symbol) : Type 0 where
  pub first : Deep A
  pub rest : List Symbol
  pub stands : Item i first rest
  pub stops : Stop rest
  pub read : more between close item (one first) rest ≡ Some (items, r)

begins-item : (between : Sign) (close : Option Sign) (l : ℕ) (i : List Symbol)
    → closes close i ≡ false
    → goes_on between close (sign between l ∷ i) ≡ true
begins-item between None l i open_ = same-sign between
begins-item between (Some close) l i open_ = rw (same-sign between) (rw open_ refl)

module _ {A : Type 0} {between : Sign} {close : Option Sign} {item : Reader (Deep A)} {Item : Rule
    (Deep A)} {Stop : List Symbol → Type 0} (listed : IsItem between close item Item Stop) where
  -- a sign and an item behind it are a turn
  pub item_turn : IsTurn (Adds (After between Item)) Stop (goes_on between close)
      (λ items. skip >> adds item items)
  item_turn = record {
    complete = complete;
    opens = opens;
    takes = Adds-takes (After between Item)
        (After-takes between Item listed.shrinks);
  }
    where
      complete : (items : Deep (List A))
          → Complete Stop (skip >> adds item items) (Adds (After between Item) items)
      complete items i a r (Adds.adds (After.after {i = j} {a = b} so)) stops = then-is _
          (listed.complete j b r so stops) refl

      opens : (items : Deep (List A)) (i : List Symbol) (b : Deep (List A)) (r : List Symbol)
          → Adds (After between Item) items i b r
          → Stop i × (goes_on between close i ≡ true)
      opens items i a r (Adds.adds (After.after {i = j} {a = b} {l} so)) =
          (listed.between_stops l j, begins-item between close l j (listed.opens j b r so))

  pub Series-read : (i : List Symbol) (items : Deep (List A)) (r : List Symbol)
      → Series between Item i items r
      → Stop r
      → goes_on between close r ≡ false
      → SeriesRead between close item Item Stop i items r
  Series-read i items r so stops none =
      let all = Repeated-read (One Item) item_turn i items r so stops none in
      from_one all.start all.rest all.stands all.stops all.read
    where
      from_one : (start : Deep (List A)) (rest : List Symbol)
          → One Item i start rest
          → Stop rest
          → more between close item start rest ≡ Some (items, r)
          → SeriesRead between close item Item Stop i items r
      from_one start rest (One.one {a} stands) stops read = record {
        first = a;
        rest = rest;
        stands
            = stands;
        stops = stops;
        read = read;
      }

-- the first item of a closed series, that the others are read behind it, and the closing signs
-- behind them
pub record ClosedRead {A : Type 0} (between close : Sign) (item : Reader (Deep A))
    (Item : Rule (Deep A)) (Stop : List Symbol → Type 0) (i : List Symbol) (items : Deep (List A))
    (r : List Symbol) : Type 0 where
  pub first : Deep A
  pub rest : List Symbol
  pub stands : Item i first rest
  pub stops : Stop rest
  pub end : List Symbol
  pub read : more between (Some close) item (one first) rest ≡ Some (items, end)
  pub ends : closed between close end ≡ Some (tt, r)

closed-plain : (between close : Sign)
    → same_sign close between ≡ false
    → (l : ℕ) (r : List Symbol)
    → closed between close (sign close l ∷ r) ≡ Some (tt, r)
closed-plain between close apart l r = rw (apart, same-sign close) refl

closed-trailed : (between close : Sign) (l m : ℕ) (r : List Symbol)
    → closed between close (sign between l ∷ sign close m ∷ r) ≡ Some (tt, r)
closed-trailed between close l m r = rw (same-sign between, same-sign close) refl

goes_on-plain : (between close : Sign)
    → same_sign close between ≡ false
    → (l : ℕ) (r : List Symbol)
    → goes_on between (Some close) (sign close l ∷ r) ≡ false
goes_on-plain between close apart l r = rw apart refl

goes_on-trailed : (between close : Sign) (l m : ℕ) (r : List Symbol)
    → goes_on between (Some close) (sign between l ∷ sign close m ∷ r) ≡ false
goes_on-trailed between close l m r = rw (same-sign between, same-sign close) refl

pub Closed-read : {A : Type 0} {between close : Sign} {item : Reader (Deep A)} {Item : Rule
    (Deep A)} {Stop : List Symbol → Type 0} → IsItem between (Some close) item Item Stop
    → same_sign close between ≡ false
    → ((l : ℕ) (i : List Symbol) → Stop (sign close l ∷ i))
    → (i : List Symbol) (items : Deep (List A)) (r : List Symbol)
    → Closed between close (Series between Item) i items r
    → ClosedRead between close item Item Stop i items r
Closed-read {between} {close} listed apart close_stops i items r (Closed.plain {l} so) =
    let all = Series-read listed i items _ so (close_stops l r)
    (goes_on-plain between close apart l r) in
    record {
      first = all.first;
      rest = all.rest;
      stands = all.stands;
      stops = all.stops;
      end = sign
          close l ∷ r;
      read = all.read;
      ends = closed-plain between close apart l r;
    }
Closed-read {between} {close} listed apart close_stops i items r (Closed.trailed {l} {m} so) =
    let all = Series-read listed i items _ so (listed.between_stops l (sign close m ∷ r))
    (goes_on-trailed between close l m r) in
    record {
      first = all.first;
      rest = all.rest;
      stands = all.stands;
      stops = all.stops;
      end = sign
          between l ∷ sign close m ∷ r;
      read = all.read;
      ends = closed-trailed between close l m r;
    }
