-- What each item of a rule meets is met by the lists that rules are made of.
use Rattle.std.proofs.Common.{◌≡◌, ℕ, ◌+◌, ◌≤◌, ◌<◌, max, Bool, true, false, nat_lt, if◌then◌else◌}
use Rattle.std.proofs.Common.{List, [], All, IfSome, Some, None, arith, refl, subst, ltb-true}
use Rattle.std.proofs.lemmas.List.Elements.{All-append, All-cons, All-nil, All-push, All-weaker}
use Rattle.star_grammar.specs.declared.symbols.Sign.{Sign}
use Rattle.star_grammar.specs.declared.symbols.Sign.TheVariants as s
use Rattle.star_grammar.specs.declared.symbols.Symbol.{Symbol}
use Rattle.star_grammar.specs.Rules.{Rule, Deep, deep, Repeated, Nothing, One, Adds, Joins, After}
use Rattle.star_grammar.specs.Rules.{Series, Closed, Listed}

-- a tree and its depth: the condition holds of the tree at that depth, which is 128 at most
pub record Held {A : Type 0} (Q : ℕ → A → Type 0) (a : Deep A) : Type 0 where
  pub shallow : a.1 ≤ 128
  pub so : Q a.1 a.0

-- whatever a rule reads meets a condition
abbrev pub Reads : {A : Type 0} → Rule A → (A → Type 0) → Type 0
Reads {A} rule Q = (i : List Symbol) (a : A) (r : List Symbol) → rule i a r → Q a

-- each of some trees at a depth
abbrev pub EachOf : {A : Type 0} → (ℕ → A → Type 0) → ℕ → List A → Type 0
EachOf Q n items = All (Q n) items

pub deepened : {A : Type 0} (Q : ℕ → A → Type 0) (tree : A) (parts : ℕ) (a : Deep A)
    → deep tree parts ≡ Some a
    → (parts < 128 → Q (parts + 1) tree)
    → Held Q a
unfolding deep
deepened {A} Q tree parts a is so = limited (nat_lt parts 128) refl is
  where
    limited : (below : Bool)
        → nat_lt parts 128 ≡ below
        → (if below then Some (tree, parts + 1) else None) ≡ Some a
        → Held Q a
    limited true test is = let less = ltb-true parts 128 test in subst
        (λ one. IfSome one (Held Q)) is (record { shallow = omega (arith, less); so = so less })
    limited false test is = subst (λ one. IfSome one (Held Q)) is tt

pub Repeated-held : {A : Type 0} (Q : A → Type 0) (First : Rule A) (Turn : A → Rule A)
    → Reads First Q
    → ((b : A) → Q b → Reads (Turn b) Q)
    → Reads (Repeated First Turn) Q
Repeated-held Q First Turn first each i a r (Repeated.begins so) = first i a r so
Repeated-held Q First Turn first each i a r (Repeated.goes {j} {a = b} so more) = each b
    (Repeated-held Q First Turn first each i b j so) j a r more

pub After-held : {B : Type 0} (what : Sign) (rule : Rule B) (R : B → Type 0)
    → Reads rule R
    → Reads (After what rule) R
After-held what rule R reads i a r (After.after {i = j} so) = reads j a r so

module _ {A : Type 0} (Q : ℕ → A → Type 0)
    (deeper : (n m : ℕ) (x : A) → n ≤ m → Q n x → Q m x) where
  pub each-deeper : (n m : ℕ) (items : List A) → n ≤ m → All (Q n) items → All (Q m) items
  each-deeper n m items within all = All-weaker (Q n) (Q m) (λ x. deeper n m x within) items all

  pub Nothing-held : Reads (Nothing {A = A}) (Held (EachOf Q))
  Nothing-held i a r Nothing.nothing = record { shallow = omega arith; so = All-nil (Q 0) }

  pub One-held : (item : Rule (Deep A)) → Reads item (Held Q) → Reads (One item) (Held (EachOf Q))
  One-held item held i a r
      (One.one {a = b} so) = let one = held i b r so in record
      { shallow = one.shallow; so = All-cons (Q b.1) b.0 [] one.so (All-nil (Q b.1)) }

  pub Adds-held : (item : Rule (Deep A))
      → Reads item (Held Q)
      → (items : Deep (List A))
      → Held (EachOf Q) items
      → Reads (Adds item items) (Held (EachOf Q))
  Adds-held item held items all i a r (Adds.adds {a = b} so) =
      let one = held i b r so in
      let some = all.shallow in
      let few = one.shallow in
      record {
        shallow = omega (arith, some, few);
        so = All-push (Q (max items.1 b.1)) items.0 b.0
            (each-deeper items.1 (max items.1 b.1) items.0 (omega arith) all.so)
            (deeper b.1 (max items.1 b.1) b.0 (omega arith) one.so);
      }

  pub Joins-held : (more : Rule (Deep (List A)))
      → Reads more (Held (EachOf Q))
      → (items : Deep (List A))
      → Held (EachOf Q) items
      → Reads (Joins more items) (Held (EachOf Q))
  Joins-held more held items all i a r (Joins.joins {a = b} so) =
      let others = held i b r so in
      let some = all.shallow in
      let few = others.shallow in
      record {
        shallow = omega (arith, some, few);
        so = All-append (Q (max items.1 b.1)) items.0 b.0
            (each-deeper items.1 (max items.1 b.1) items.0 (omega arith) all.so)
            (each-deeper b.1 (max items.1 b.1) b.0 (omega arith) others.so);
      }

  pub Series-held : (between : Sign) (item : Rule (Deep A))
      → Reads item (Held Q)
      → Reads (Series between item) (Held (EachOf Q))
  Series-held between item held = Repeated-held (Held (EachOf Q)) (One item)
      (Adds (After between item)) (One-held item held)
      (Adds-held (After between item) (After-held between item (Held Q) held))

pub Closed-held : {B : Type 0} (between close : Sign) (rule : Rule B) (R : B → Type 0)
    → Reads rule R
    → Reads (Closed between close rule) R
Closed-held between close rule R reads i a r (Closed.plain so) = reads i a _ so
Closed-held between close rule R reads i a r (Closed.trailed so) = reads i a _ so

pub Listed-held : {A : Type 0} (Q : ℕ → A → Type 0)
    → ((n m : ℕ) (x : A) → n ≤ m → Q n x → Q m x)
    → (close : Sign) (item : Rule (Deep A))
    → Reads item (Held Q)
    → Reads (Listed close item) (Held (EachOf Q))
Listed-held Q deeper close item held i a r Listed.none = record
    { shallow = omega arith; so = All-nil (Q 0) }
Listed-held Q deeper close item held i a r (Listed.some so) = Closed-held s.Comma close
    (Series s.Comma item) (Held (EachOf Q)) (Series-held Q deeper s.Comma item held) i a r so
