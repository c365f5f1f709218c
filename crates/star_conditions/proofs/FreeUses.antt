-- The free names that some uses gather: none is lost, and each that is used is among them.
use Rattle.std.proofs.Common.{◌≡◌, ℕ, suc, ◌+◌, ◌<◌, Bool, true, false, not, cond, true≢false, List}
use Rattle.std.proofs.Common.{[], ◌∷◌, ◌++◌, length, map, Option, Some, None, Result, Ok, Err, IfOk}
use Rattle.std.proofs.Common.{IfSome, if◌then◌else◌, ◌||◌, refl, ap, subst, sym, ◌∙◌, arith}
use Rattle.std.proofs.lemmas.Bool.{lt-ltb, or_left, or_right}
use Rattle.std.proofs.lemmas.List.Folds.{list_any-append}
use Rattle.std.proofs.lemmas.Slice.Eq.{bytes_eq-Decides}
use Rattle.std.specs.List.{list_any, prefix_len}
use Rattle.std.specs.Option.{is_some}
use Rattle.std.specs.Str.{bytes_eq}
use Rattle.star_grammar.specs.declared.bare_expressions.BareName.{BareName}
use Rattle.star_trees.specs.Variables.{Names, scope_and_slot, here_or_further, slot_of}
use Rattle.star_trees.specs.Variables.{with_binding, Binding, each_binds, name_binds}
use Rattle.star_scopes.specs.declared.dialects.Dialect.{Dialect}
use Rattle.star_scopes.specs.declared.unbound.Unbound.{Unbound}
use Rattle.star_scopes.specs.FreeNames.{has_free}
use Rattle.star_scopes.specs.Uses.{Uses, ◌>>◌, then_uses, no_use, each_uses, use_found, name_uses}

-- a name is among some
abbrev pub Has : Names → List ℕ → Type 0
Has names name = list_any (bytes_eq name) names ≡ true

pub record Within (names others : Names) : Type 0 where
  pub has : (name : List ℕ) → Has names name → Has others name

pub within-self : (names : Names) → Within names names
within-self names = record { has = λ name has. has }

within-both : {names others more : Names}
    → Within names others
    → Within others more
    → Within names more
within-both one two = record { has = λ name has. two.has name (one.has name has) }

-- ---- one more name

appended-has : (names : Names) (name : List ℕ) → Has (names ++ name ∷ []) name
appended-has names name = list_any-append (bytes_eq name) names (name ∷ [])
    ∙ or_right _ _ (or_left _ _ ((bytes_eq-Decides name name).1 refl))

pub with_binding-within : (names : Names) (name : List ℕ) → Within names (with_binding names name)
with_binding-within names name = by (list_any (bytes_eq name) names)
  where
    by : (there : Bool) → Within names (if there then names else names ++ name ∷ [])
    by true = within-self names
    by false = record {
      has = λ other has. list_any-append (bytes_eq other) names (name ∷ [])
          ∙ or_left _ _ has;
    }

with_binding-has : (names : Names) (name : List ℕ) → Has (with_binding names name) name
with_binding-has names name = by (list_any (bytes_eq name) names) refl
  where
    by : (there : Bool)
        → list_any (bytes_eq name) names ≡ there
        → Has (if there then names else names ++ name ∷ []) name
    by true is = is
    by false is = appended-has names name

-- ---- uses

-- what was gathered before stays
pub record Grows (uses : Uses) : Type 0 where
  pub within : (before after : Names) → uses before ≡ Ok after → Within before after

-- the free names have all that some uses gather
pub record Covered (free : Names) (uses : Uses) : Type 0 where
  pub before : Names
  pub after : Names
  pub gathers : uses before ≡ Ok after
  pub within : Within after free

ok-same : (names after : Names)
    → ◌≡◌ {A = Result Names Unbound} (Ok names) (Ok after)
    → names ≡ after
ok-same names after is = subst
    (λ (result : Result Names Unbound). IfOk result (λ other. names ≡ other)) is refl

pub no_use-grows : Grows no_use
no_use-grows = record {
  within = λ before after is. subst (λ other. Within before other)
      (ok-same before after is) (within-self before);
}

-- what some uses gather before others do
record Halfway (first : Result Names Unbound) (second : Uses) (after : Names) : Type 0 where
  pub names : Names
  pub gathers : first ≡ Ok names
  pub goes : second names ≡ Ok after

halfway : (first : Result Names Unbound) (second : Uses) (after : Names)
    → then_uses first second ≡ Ok after
    → Halfway first second after
halfway (Ok names) second after is = record { names = names; gathers = refl; goes = is }
halfway (Err unbound) second after is = absurd
    (subst (λ (result : Result Names Unbound). IfOk result (λ _. ⊥)) is tt)

pub both-grow : {first second : Uses} → Grows first → Grows second → Grows (first >> second)
both-grow {first} {second} one two = record {
  within = λ before after is.
      let middle = halfway (first before) second after is in
      within-both (one.within before middle.names middle.gathers)
      (two.within middle.names after middle.goes);
}

pub first-covered : {free : Names} {first second : Uses}
    → Grows second
    → Covered free (first >> second)
    → Covered free first
first-covered {free} {first} {second} grows covered =
    let middle = halfway (first covered.before) second covered.after covered.gathers in
    record {
      before = covered.before;
      after = middle.names;
      gathers = middle.gathers;
      within =
          within-both (grows.within middle.names covered.after middle.goes) covered.within;
    }

pub second-covered : {free : Names} (first : Uses) {second : Uses}
    → Covered free (first >> second)
    → Covered free second
second-covered {free} first {second} covered =
    let middle = halfway (first covered.before) second covered.after covered.gathers in
    record {
      before = middle.names;
      after = covered.after;
      gathers = middle.goes;
      within =
          covered.within;
    }

-- ---- one name

abbrev gathered : Bool → BareName → Uses
gathered known name = λ names. if known then Ok (with_binding names name.name)
    else Err (record { line = name.line; name = name.name })

gathered-within : (known : Bool) (name : BareName) (before after : Names)
    → gathered known name before ≡ Ok after
    → Within before after
gathered-within true name before after is = subst (λ other. Within before other)
    (ok-same (with_binding before name.name) after is) (with_binding-within before name.name)
gathered-within false name before after is = absurd
    (subst (λ (result : Result Names Unbound). IfOk result (λ _. ⊥)) is tt)

gathered-has : (known : Bool) (name : BareName) (before after : Names)
    → gathered known name before ≡ Ok after
    → Has after name.name
gathered-has true name before after is = subst (λ other. Has other name.name)
    (ok-same (with_binding before name.name) after is) (with_binding-has before name.name)
gathered-has false name before after is = absurd
    (subst (λ (result : Result Names Unbound). IfOk result (λ _. ⊥)) is tt)

pub name_uses-grows : (name : BareName) (dialect : Dialect) (scopes : List Names)
    → Grows (name_uses name dialect scopes)
unfolding name_uses
name_uses-grows name dialect scopes = by (scope_and_slot scopes name.name)
  where
    by : (at : Option (ℕ × ℕ)) → Grows (use_found dialect name at)
    by (Some variable) = no_use-grows
    by None = record { within = gathered-within (has_free dialect name.name) name }

-- a name that no scope binds is among the free names that cover its use
pub record FreeThere (free : Names) (name : List ℕ) (at : Option (ℕ × ℕ)) : Type 0 where
  pub has : at ≡ None → Has free name

pub name-covered : (free : Names) (name : BareName) (dialect : Dialect) (scopes : List Names)
    → Covered free (name_uses name dialect scopes)
    → FreeThere free name.name (scope_and_slot scopes name.name)
unfolding name_uses
name-covered free name dialect scopes covered = by (scope_and_slot scopes name.name) covered.gathers
  where
    by : (at : Option (ℕ × ℕ))
        → use_found dialect name at covered.before ≡ Ok covered.after
        → FreeThere free name.name at
    by (Some variable) is = record {
      has = λ none. absurd
          (subst (λ (one : Option (ℕ × ℕ)). IfSome one (λ _. ⊥)) (sym none) tt);
    }
    by None is = record {
      has = λ none. covered.within.has name.name
          (gathered-has (has_free dialect name.name) name covered.before covered.after is);
    }

-- ---- bindings

prefix-short : {A : Type 0} (passes : A → Bool) (xs : List A)
    → list_any passes xs ≡ true
    → prefix_len (λ x. not (passes x)) xs < length xs
prefix-short passes [] any = absurd (true≢false (sym any))
prefix-short passes (x ∷ xs) any = by (passes x) any (prefix-short passes xs)
  where
    by : (here : Bool)
        → (here || list_any passes xs) ≡ true
        → (list_any passes xs ≡ true → prefix_len (λ x. not (passes x)) xs < length xs)
        → cond (not here) (1 + prefix_len (λ x. not (passes x)) xs) 0 < suc (length xs)
    by true so rest = omega arith
    by false so rest = let further = rest so in omega (arith, further)

pub has-slot : (free : Names) (name : List ℕ)
    → Has free name
    → slot_of free name ≡ Some (prefix_len (λ x. not (bytes_eq name x)) free)
has-slot free name has = ap (λ t. cond t (Some (prefix_len (λ x. not (bytes_eq name x)) free)) None)
    (lt-ltb _ _ (prefix-short (bytes_eq name) free has))

-- bindings that keep what was bound before
pub record Keeps (bound : Binding) : Type 0 where
  pub within : (names : Names) → Within names (bound names)

pub both-keep : {first second : Binding}
    → Keeps first
    → Keeps second
    → Keeps (λ names. second (first names))
both-keep {first} one two = record {
  within = λ names. within-both (one.within names)
      (two.within (first names));
}

-- the innermost scope
abbrev here : List Names → Names
here [] = []
here (names ∷ outer) = names

-- the innermost scope has what is bound in it
pub record Bounded (scopes : List Names) (bound : Binding) : Type 0 where
  pub before : Names
  pub within : Within (bound before) (here scopes)

pub first-bounded : (scopes : List Names) (first second : Binding)
    → Keeps second
    → Bounded scopes (λ names. second (first names))
    → Bounded scopes first
first-bounded scopes first second keeps bounded = record {
  before = bounded.before;
  within = within-both
      (keeps.within (first bounded.before)) bounded.within;
}

pub second-bounded : (scopes : List Names) (first second : Binding)
    → Bounded scopes (λ names. second (first names))
    → Bounded scopes second
second-bounded scopes first second bounded = record
    { before = first bounded.before; within = bounded.within }

scope_and_slot-bound : (scopes : List Names) (name : List ℕ)
    → Has (here scopes) name
    → is_some (scope_and_slot scopes name) ≡ true
scope_and_slot-bound [] name has = absurd (true≢false (sym has))
scope_and_slot-bound (names ∷ outer) name has = ap
    (λ at. is_some (here_or_further at (scope_and_slot outer name))) (has-slot names name has)

-- a name that is bound where it stands is no free name
pub bound-there : (free : Names) (scopes : List Names) (name : List ℕ)
    → Bounded scopes (name_binds name)
    → FreeThere free name (scope_and_slot scopes name)
bound-there free scopes name bounded = record {
  has = λ none. absurd
      (true≢false (sym (scope_and_slot-bound scopes name (bounded.within.has name (with_binding-has
      bounded.before name))) ∙ ap is_some none));
}

-- ---- each of some

-- something holds of each of some
pub data Each {B : Type 0} (P : B → Type 0) : List B → Type 0 where
  none : Each P []
  more : {b : B} {bs : List B} → P b → Each P bs → Each P (b ∷ bs)

pub each-of : {B C : Type 0} {P : C → Type 0} {Q : B → Type 0} (means : C → B)
    → ((c : C) → P c → Q (means c))
    → (items : List ((c : C) × P c))
    → Each Q (map means (map (λ item. item.0) items))
each-of means holds [] = Each.none
each-of means holds (item ∷ items) = Each.more (holds item.0 item.1) (each-of means holds items)

pub each-sure : {B C : Type 0} {Q : B → Type 0} (means : C → B)
    → ((c : C) → Q (means c))
    → (items : List C)
    → Each Q (map means items)
each-sure means holds [] = Each.none
each-sure means holds (item ∷ items) = Each.more (holds item) (each-sure means holds items)

pub each-apply : {B : Type 0} {P Q : B → Type 0} (bs : List B)
    → Each (λ b. P b → Q b) bs
    → Each P bs
    → Each Q bs
each-apply [] Each.none Each.none = Each.none
each-apply (b ∷ bs) (Each.more goes others) (Each.more one all) = Each.more (goes one)
    (each-apply bs others all)

pub each-grows : {B : Type 0} (uses : B → Uses) (bs : List B)
    → Each (λ b. Grows (uses b)) bs
    → Grows (each_uses (map uses bs))
each-grows uses [] Each.none = no_use-grows
each-grows uses (b ∷ bs) (Each.more one all) = both-grow one (each-grows uses bs all)

pub binds-keep : {B : Type 0} (bound : B → Binding) (bs : List B)
    → Each (λ b. Keeps (bound b)) bs
    → Keeps (each_binds (map bound bs))
binds-keep bound [] Each.none = record { within = within-self }
binds-keep bound (b ∷ bs) (Each.more one all) = both-keep one (binds-keep bound bs all)

pub each-bounded : {B : Type 0} (scopes : List Names) (bound : B → Binding) (bs : List B)
    → Each (λ b. Keeps (bound b)) bs
    → Bounded scopes (each_binds (map bound bs))
    → Each (λ b. Bounded scopes (bound b)) bs
each-bounded scopes bound [] Each.none bounded = Each.none
each-bounded scopes bound (b ∷ bs) (Each.more one all) bounded = Each.more
    (first-bounded scopes (bound b) _ (binds-keep bound bs all) bounded)
    (each-bounded scopes bound bs all (second-bounded scopes (bound b) _ bounded))
