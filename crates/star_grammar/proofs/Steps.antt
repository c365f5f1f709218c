-- The steps of readers: what each gives, and when.
use Rattle.std.proofs.Common.{◌≡◌, ℕ, zero, suc, Bool, true, false, cond, List, [], ◌∷◌, ◌++◌}
use Rattle.std.proofs.Common.{length, max, Option, Some, None, refl, sym, subst, ap, ◌∙◌}
use Rattle.std.proofs.Common.{option_and_then}
use denote.Enum.Bare.{same_true}
use Rattle.std.proofs.lemmas.Bool.{cond_both, and_parts, false≢true}
use Rattle.star_grammar.specs.contracts.symbols.Sign.{the_type}
use Rattle.star_grammar.specs.declared.symbols.Sign.{Sign}
use Rattle.star_grammar.specs.declared.symbols.Symbol.{Symbol}
use Rattle.star_grammar.specs.declared.symbols.SymbolKind.{SymbolKind}
use Rattle.star_grammar.specs.declared.symbols.SymbolKind.TheVariants as kind
use Rattle.star_grammar.specs.Rules.{front_line, Rule, Deep, sign, word, string, Repeated, Adds}
use Rattle.star_grammar.specs.Rules.{After, Closed}
use Rattle.star_grammar.specs.Rules.Repeated.{goes}
use Rattle.star_grammar.specs.Readers.{Reader, and_then, ◌>>◌, pure, given, same_sign, is_sign}
use Rattle.star_grammar.specs.Readers.{sees, behind, sees_word, past, skip, taken, name_in, text_in}
use Rattle.star_grammar.specs.Readers.{is_word, sign_of, front_of, rounds, goes_on, adds, more}

-- what was found, if anything was, is so
pub data Gives {A : Type 0} (so : A → List Symbol → Type 0) : Option (A × List Symbol)
    → Type 0 where
  refuses : Gives so None
  gives : {a : A} {r : List Symbol} → so a r → Gives so (Some (a, r))

-- what the reader gives relates
abbrev pub Sound : {A : Type 0} → Reader A → Rule A → Type 0
Sound reader rule = (i : List Symbol) → Gives (rule i) (reader i)

pub then-gives : {A B : Type 0} {P : A
    → List Symbol
    → Type 0} {Q : B
    → List Symbol
    → Type 0} {found : Option (A × List Symbol)} {next : A
    → Reader B} → Gives P found → ((a : A) (j : List Symbol)
    → P a j
    → Gives Q (next a j)) → Gives Q (and_then found next)
then-gives refuses more = refuses
then-gives (gives {a} {r} so) more = more a r so

is-sign : (what : Sign) (is : SymbolKind) (line : ℕ)
    → is_sign what is ≡ true
    → ◌≡◌ {A = Symbol} (record { kind = is; line = line }) (sign what line)
unfolding same_sign
is-sign what (kind.Sign other) line e = ap (λ (o : Sign). sign o line)
    (same_true the_type tt other what e)
is-sign what (kind.Name _) line e = absurd (false≢true e)
is-sign what (kind.Int _) line e = absurd (false≢true e)
is-sign what (kind.Text _) line e = absurd (false≢true e)

-- either the sign stands in front, or it isn't seen
pub by_sign : (what : Sign) (P : List Symbol → Type 0)
    → ((l : ℕ) (j : List Symbol) → P (sign what l ∷ j))
    → (i : List Symbol)
    → (sees what i ≡ false → P i)
    → P i
by_sign what P seen [] unseen = unseen refl
by_sign what P seen (symbol ∷ j) unseen = go (is_sign what symbol.kind) refl
  where
    go : (b : Bool) → is_sign what symbol.kind ≡ b → P (symbol ∷ j)
    go true e = subst (λ (x : Symbol). P (x ∷ j)) (sym (is-sign what symbol.kind symbol.line e))
        (seen symbol.line j)
    go false e = unseen e

pub same-sign : (what : Sign) → same_sign what what ≡ true
unfolding same_sign
same-sign what = denote.Enum.Bare.true_same the_type what what refl

-- a sign first
pub expect-gives : {B : Type 0} (Q : List Symbol → B → List Symbol → Type 0) (what : Sign)
    (next : Unit {0} → Reader B)
    → ((l : ℕ) (j : List Symbol) → Gives (Q (sign what l ∷ j)) (next tt j))
    → (i : List Symbol)
    → Gives (Q i) (and_then (cond (sees what i) (Some (tt, behind i)) None) next)
expect-gives Q what next seen i = by_sign what
    (λ i. Gives (Q i) (and_then (cond (sees what i) (Some (tt, behind i)) None) next))
    (λ l j. rw (same-sign what) (seen l j)) i (λ e. rw e refuses)

-- one way behind the sign, another where it doesn't come next
pub sees-gives : {B : Type 0} (Q : List Symbol → B → List Symbol → Type 0) (what : Sign)
    (met : ℕ → Reader B) {other : Option (B × List Symbol)}
    → ((l : ℕ) (j : List Symbol) → Gives (Q (sign what l ∷ j)) (met l j))
    → (i : List Symbol)
    → (sees what i ≡ false → Gives (Q i) other)
    → Gives (Q i) (cond (sees what i) (met (front_line i) (behind i)) other)
sees-gives {B} Q what met {other} seen i unseen = by_sign what
    (λ i. (o : Option (B × List Symbol))
    → (sees what i ≡ false → Gives (Q i) o)
    → Gives (Q i) (cond (sees what i) (met (front_line i) (behind i)) o))
    (λ l j o _. rw (same-sign what) (seen l j)) i (λ e o un. rw e (un e)) other unseen

pub eat-gives : {B : Type 0} (Q : List Symbol → B → List Symbol → Type 0) (what : Sign)
    (met other : Reader B) → ((l : ℕ) (j : List Symbol) → Gives (Q (sign what l ∷ j)) (met j))
    → (i : List Symbol)
    → (sees what i ≡ false → Gives (Q i) (other i))
    → Gives (Q i) (cond (sees what i) met other (past what i))
eat-gives Q what met other seen i unseen = by_sign what
    (λ i. (sees what i ≡ false → Gives (Q i) (other i))
    → Gives (Q i) (cond (sees what i) met other (past what i)))
    (λ l j _. rw (same-sign what) (seen l j)) i (λ e un. rw e (un e)) unseen

-- a sign behind what stands
pub met-gives : {B : Type 0} {Q : B → List Symbol → Type 0} (P : List Symbol → Type 0) (what : Sign)
    (next : Unit {0} → Reader B)
    → ((l : ℕ) (j : List Symbol) → P (sign what l ∷ j) → Gives Q (next tt j))
    → (j : List Symbol)
    → P j
    → Gives Q (and_then (cond (sees what j) (Some (tt, behind j)) None) next)
met-gives {B} {Q} P what next more j so = by_sign what
    (λ j. P j → Gives Q (and_then (cond (sees what j) (Some (tt, behind j)) None) next))
    (λ l j so. rw (same-sign what) (more l j so)) j (λ e so. rw e refuses) so

-- a rule and a sign behind it
pub then_expect-gives : {A B : Type 0} {P : A
    → List Symbol
    → Type 0} {Q : B
    → List Symbol
    → Type 0} {found : Option (A × List Symbol)} (what : Sign) (next : A
    → Unit {0}
    → Reader B)
    → Gives P found
    → ((a : A) (l : ℕ) (j : List Symbol) → P a (sign what l ∷ j) → Gives Q (next a tt j))
    → Gives Q (and_then found (λ a j. and_then (cond (sees what j) (Some (tt, behind j)) None) (next
    a)))
then_expect-gives {A} {B} {P} {Q} {found} what next finds more = then-gives finds
    (λ a j so. met-gives (P a) what (next a) (more a) j so)

-- behind a rule, one way where the sign comes next, another where it doesn't
pub then_sees-gives : {A B : Type 0} {P : A
    → List Symbol
    → Type 0} {Q : B
    → List Symbol
    → Type 0} {found : Option (A × List Symbol)} (what : Sign) (met other : A
    → Reader B) → Gives P found
    → ((a : A) (l : ℕ) (j : List Symbol)
    → P a (sign what l ∷ j)
    → Gives Q (met a (sign what l ∷ j))) → ((a : A) (j : List Symbol)
    → sees what j ≡ false
    → P a j
    → Gives Q (other a j))
    → Gives Q (and_then found (λ a j. cond (sees what j) (met a j) (other a j)))
then_sees-gives {A} {B} {P} {Q} {found} what met other finds seen unseen = then-gives finds
    (λ a j. by_sign what (λ j. P a j → Gives Q (cond (sees what j) (met a j) (other a j)))
    (λ l j so. rw (same-sign what) (seen a l j so)) j (λ e so. rw e (unseen a j e so)))

pub then_eat-gives : {A B : Type 0} {P : A
    → List Symbol
    → Type 0} {Q : B
    → List Symbol
    → Type 0} {found : Option (A × List Symbol)} (what : Sign) (met other : A
    → Reader B) → Gives P found
    → ((a : A) (l : ℕ) (j : List Symbol) → P a (sign what l ∷ j) → Gives Q (met a j))
    → ((a : A) (j : List Symbol) → sees what j ≡ false → P a j → Gives Q (other a j))
    → Gives Q (and_then found (λ a j. cond (sees what j) (met a) (other a) (past what j)))
then_eat-gives {A} {B} {P} {Q} {found} what met other finds seen unseen = then-gives finds
    (λ a j. by_sign what (λ j. P a j → Gives Q (cond (sees what j) (met a) (other a) (past what j)))
    (λ l j so. rw (same-sign what) (seen a l j so)) j (λ e so. rw e (unseen a j e so)))

pub given-gives : {A : Type 0} {Q : A → List Symbol → Type 0} (o : Option A) (i : List Symbol)
    → ((a : A) → o ≡ Some a → Q a i)
    → Gives Q (given o i)
given-gives None i so = refuses
given-gives (Some a) i so = gives (so a refl)

pub given_then-gives : {A B : Type 0} {Q : B → List Symbol → Type 0} (o : Option A)
    (i : List Symbol) (next : A → Reader B)
    → ((a : A) → o ≡ Some a → Gives Q (next a i))
    → Gives Q (and_then (given o i) next)
given_then-gives None i next so = refuses
given_then-gives (Some a) i next so = so a refl

pub checked-gives : {B : Type 0} {Q : B → List Symbol → Type 0} (holds : Bool)
    (next : Unit {0} → Reader B) (i : List Symbol)
    → (holds ≡ true → Gives Q (next tt i))
    → Gives Q (and_then (cond holds (Some (tt, i)) None) next)
checked-gives true next i so = so refl
checked-gives false next i so = refuses

-- ---- names and strings

is-word : (is : SymbolKind) (line : ℕ)
    → is_word is ≡ true
    → (called : List ℕ) × (◌≡◌ {A = Symbol} (record { kind = is; line = line }) (word called line))
is-word (kind.Name called) line e = (called, refl)
is-word (kind.Sign _) line e = absurd (false≢true e)
is-word (kind.Int _) line e = absurd (false≢true e)
is-word (kind.Text _) line e = absurd (false≢true e)

-- either a name stands in front, or none is seen
pub by_word : (P : List Symbol → Type 0)
    → ((called : List ℕ) (l : ℕ) (j : List Symbol) → P (word called l ∷ j))
    → (i : List Symbol)
    → (sees_word i ≡ false → P i)
    → P i
by_word P seen [] unseen = unseen refl
by_word P seen (symbol ∷ j) unseen = go (is_word symbol.kind) refl
  where
    go : (b : Bool) → is_word symbol.kind ≡ b → P (symbol ∷ j)
    go true e = let found = is-word symbol.kind symbol.line e in subst (λ (x : Symbol). P (x ∷ j))
        (sym found.1) (seen found.0 symbol.line j)
    go false e = unseen e

pub name-gives : {B : Type 0} (Q : List Symbol → B → List Symbol → Type 0)
    (next : List ℕ → Reader B)
    → ((called : List ℕ) (l : ℕ) (j : List Symbol) → Gives (Q (word called l ∷ j)) (next called j))
    → (i : List Symbol)
    → Gives (Q i) (and_then (taken name_in i) next)
name-gives Q next seen [] = refuses
name-gives Q next seen (symbol ∷ j) = go symbol.kind symbol.line
  where
    go : (is : SymbolKind) (l : ℕ)
        → Gives (Q (record { kind = is; line = l } ∷ j)) (and_then (given (name_in is) j) next)
    go (kind.Name called) l = seen called l j
    go (kind.Sign _) l = refuses
    go (kind.Int _) l = refuses
    go (kind.Text _) l = refuses

-- a name first, or something else
pub word-gives : {B : Type 0} (Q : List Symbol → B → List Symbol → Type 0)
    (next : ℕ → List ℕ → Reader B) {other : Option (B × List Symbol)}
    → ((called : List ℕ) (l : ℕ) (j : List Symbol)
    → Gives (Q (word called l ∷ j)) (next l called j))
    → (i : List Symbol)
    → (sees_word i ≡ false
    → Gives (Q i) other)
    → Gives (Q i) (cond (sees_word i) (and_then (taken name_in i) (next (front_line i))) other)
word-gives {B} Q next {other} seen i unseen = by_word
    (λ i. (o : Option (B × List Symbol))
    → (sees_word i ≡ false → Gives (Q i) o)
    → Gives (Q i) (cond (sees_word i) (and_then (taken name_in i) (next (front_line i))) o))
    (λ called l j o _. seen called l j) i (λ e o un. rw e (un e)) other unseen

pub text-gives : {B : Type 0} (Q : List Symbol → B → List Symbol → Type 0)
    (next : List ℕ → Reader B)
    → ((said : List ℕ) (l : ℕ) (j : List Symbol) → Gives (Q (string said l ∷ j)) (next said j))
    → (i : List Symbol)
    → Gives (Q i) (and_then (taken text_in i) next)
text-gives Q next seen [] = refuses
text-gives Q next seen (symbol ∷ j) = go symbol.kind symbol.line
  where
    go : (is : SymbolKind) (l : ℕ)
        → Gives (Q (record { kind = is; line = l } ∷ j)) (and_then (given (text_in is) j) next)
    go (kind.Text said) l = seen said l j
    go (kind.Sign _) l = refuses
    go (kind.Int _) l = refuses
    go (kind.Name _) l = refuses

-- ---- tables of signs

-- either a sign of the table stands in front, or none does
pub by_front : {B : Type 0} (table : Sign → Option B) (P : List Symbol → Option B → Type 0)
    → ((what : Sign) (l : ℕ) (op : B) (j : List Symbol)
    → table what ≡ Some op
    → P (sign what l ∷ j) (Some op))
    → (i : List Symbol)
    → (front_of table i ≡ None → P i None)
    → P i (front_of table i)
by_front table P seen [] unseen = unseen refl
by_front {B} table P seen (symbol ∷ j) unseen = go symbol.kind symbol.line unseen
  where
    sort : (what : Sign) (l : ℕ) (o : Option B)
        → table what ≡ o
        → (table what ≡ None → P (sign what l ∷ j) None)
        → P (sign what l ∷ j) (table what)
    sort what l None e un = rw e (un e)
    sort what l (Some op) e un = rw e (seen what l op j e)

    go : (is : SymbolKind) (l : ℕ)
        → (option_and_then table (sign_of is) ≡ None → P (record { kind = is; line = l } ∷ j) None)
        → P (record { kind = is; line = l } ∷ j) (option_and_then table (sign_of is))
    go (kind.Sign what) l un = sort what l (table what) refl un
    go (kind.Name _) l un = un refl
    go (kind.Int _) l un = un refl
    go (kind.Text _) l un = un refl

-- ---- lists

pub rounds-gives : {A : Type 0} (First : Rule A) (Turn : A → Rule A)
    (begins_turn : List Symbol → Bool) (turn : A → Reader A)
    → ((a : A) (j : List Symbol) → begins_turn j ≡ true → Gives (Turn a j) (turn a j))
    → (n : ℕ) (i : List Symbol) (a : A) (j : List Symbol)
    → Repeated First Turn i a j
    → Gives (Repeated First Turn i) (rounds begins_turn turn n a j)
unfolding rounds
rounds-gives First Turn begins_turn turn each zero i a j so = gives so
rounds-gives First Turn begins_turn turn each (suc n) i a j so =
    cond_both (begins_turn j) (and_then (turn a j) (rounds begins_turn turn n)) (Some (a, j))
    (Gives (Repeated First Turn i))
    (λ e. then-gives (each a j e)
    (λ b k one. rounds-gives First Turn begins_turn turn each n i b k (goes so one)))
    (λ e. gives so)

goes_on-sees : (between : Sign) (close : Option Sign) (j : List Symbol)
    → goes_on between close j ≡ true
    → sees between j ≡ true
goes_on-sees between None j e = e
goes_on-sees between (Some close) j e = (and_parts _ _ e).0

-- more items behind some
pub more-gives : {A : Type 0} (between : Sign) (close : Option Sign) (item : Reader (Deep A))
    (Item : Rule (Deep A)) (First : Rule (Deep (List A))) → Sound item Item
    → (i : List Symbol) (items : Deep (List A)) (j : List Symbol)
    → Repeated First (Adds (After between Item)) i items j
    → Gives (Repeated First (Adds (After between Item)) i) (more between close item items j)
more-gives {A} between close item Item First item-sound i items j so = rounds-gives First
    (Adds (After between Item)) (goes_on between close) (λ items. skip >> adds item items) each
    (length j) i items j so
  where
    each : (items : Deep (List A)) (j : List Symbol)
        → goes_on between close j ≡ true
        → Gives (Adds (After between Item) items j)
        (and_then (item (behind j)) (λ a. pure (items.0 ++ a.0 ∷ [], max items.1 a.1)))
    each items j e =
        by_sign between (λ j. sees between j ≡ true → Gives (Adds (After between Item) items j)
        (and_then (item (behind j)) (λ a. pure (items.0 ++ a.0 ∷ [], max items.1 a.1))))
        (λ l j _. then-gives (item-sound j) (λ a r so. gives (Adds.adds (After.after so)))) j
        (λ un is. absurd (false≢true (sym un ∙ is))) (goes_on-sees between close j e)

-- a sign that may stand between items, and the one that closes them
pub closed-gives : {A B : Type 0} {Q : B → List Symbol → Type 0} (rule : Rule A)
    (between close : Sign) (i : List Symbol) (a : A) (j : List Symbol) (next : Unit {0} → Reader B)
    → rule i a j
    → ((r : List Symbol) → Closed between close rule i a r → Gives Q (next tt r))
    → Gives Q (and_then (cond (sees close (past between j)) (Some (tt, behind (past between j)))
    None) next)
closed-gives {A} {B} {Q} rule between close i a j next so more = by_sign between
    (λ j. rule i a j
    → Gives Q (and_then (cond (sees close (past between j)) (Some (tt, behind (past between j)))
    None) next)) trailing j plain so
  where
    trailing : (l : ℕ) (j : List Symbol)
        → rule i a (sign between l ∷ j)
        → Gives Q (and_then (cond (sees close (past between (sign between l ∷ j))) (Some (
          tt,
          behind
              (past between (sign between l ∷ j)),
        )) None) next)
    trailing l j so = rw (same-sign between)
        (by_sign close (λ j. rule i a (sign between l ∷ j) → Gives Q (and_then (cond (sees close j)
        (Some (tt, behind j)) None) next))
        (λ m j so. rw (same-sign close) (more j (Closed.trailed so))) j (λ e so. rw e refuses) so)

    plain : sees between j ≡ false
        → rule i a j
        → Gives Q (and_then (cond (sees close (past between j)) (Some (tt, behind (past between j)))
        None) next)
    plain e so = rw e (by_sign close (λ j. rule i a j → Gives Q (and_then (cond (sees close j) (Some
        (tt, behind j)) None) next)) (λ m j so. rw (same-sign close) (more j (Closed.plain so))) j
        (λ e so. rw e refuses) so)
