-- A set of names takes a name.
use Rattle.std.proofs.Common.{◌≡◌, ℕ, Bool, true, false, cond, not, ◌&&◌, ◌||◌, List, [], ◌∷◌}
use Rattle.std.proofs.Common.{Option, Some, None, refl, ap, sym, ◌∙◌, bytes_eq}
use Rattle.std.specs.List.{list_any}
use Rattle.std.specs.BTreeSet.{BTreeSet, contains_text}
use Rattle.std.specs.Prelude.{String}
use Rattle.std.specs.declared.alloc.Global.{Global}
use Rattle.star_trees.specs.Lists.{all_new, with_name}
use Rattle.star_expressions.specs.NameSets.{Holds, Adds}

cond-or : (b c : Bool) → cond b true c ≡ (b || c)
cond-or true c = refl
cond-or false c = refl

new-from : (name : List ℕ) (before rest : List (List ℕ)) (found : Bool)
    → list_any (λ other. bytes_eq other name) before ≡ found
    → all_new before (name ∷ rest) ≡ (not found && all_new (name ∷ before) rest)
new-from name before rest found is = ap (λ b. not b && all_new (name ∷ before) rest) is

pub Adds-some : (name : List ℕ) (old new : BTreeSet (String Global)) (fresh : Bool)
    → fresh ≡ not (contains_text old name)
    → ((q : List ℕ) → contains_text new q ≡ cond (bytes_eq name q) true (contains_text old q))
    → Adds (Some name) old new fresh
Adds-some name old new fresh is updates = record {
  added = λ yes before rest holds. (
    name ∷ before,
    (
        λ q. updates q ∙ (cond-or (bytes_eq name q) (contains_text old q) ∙ ap (λ b. bytes_eq name q
        || b) (holds q))),
    new-from name before rest false
        (sym (holds name) ∙ absent (contains_text old name) (sym is ∙ yes)),
  );
  known = λ none before rest holds. new-from name before rest true
      (sym (holds name) ∙ present (contains_text old name) (sym is ∙ none));
}
  where
    absent : (b : Bool) → not b ≡ true → b ≡ false
    absent true e = sym e
    absent false e = refl

    present : (b : Bool) → not b ≡ false → b ≡ true
    present true e = refl
    present false e = sym e

pub Adds-none : (set : BTreeSet (String Global)) → Adds None set set true
Adds-none set = record {
  added = λ _ before rest holds. (before, holds, refl);
  known = λ none before rest holds. absurd (differ none);
}
  where
    differ : true ≡ false → ⊥
    differ e = cc

-- a set holds the names so far, and what is left decides
abbrev pub Held : BTreeSet (String Global) → Bool → List (List ℕ) → Type 0
Held set whole names = (before : List (List ℕ)) × Holds set before × (whole ≡ all_new before names)

pub Held-added : (name : Option (List ℕ)) (old new : BTreeSet (String Global)) (fresh whole : Bool)
    (names rest : List (List ℕ))
    → Adds name old new fresh
    → fresh ≡ true
    → names ≡ with_name name rest
    → Held old whole names
    → Held new whole rest
Held-added name old new fresh whole names rest adds fresh_is is held =
    let next = adds.added fresh_is held.0 rest held.1 in
    (next.0, next.1, held.2 ∙ (ap (all_new held.0) is ∙ next.2))

pub Held-known : (name : Option (List ℕ)) (old new : BTreeSet (String Global)) (fresh whole : Bool)
    (names rest : List (List ℕ))
    → Adds name old new fresh
    → fresh ≡ false
    → names ≡ with_name name rest
    → Held old whole names
    → whole ≡ false
Held-known name old new fresh whole names rest adds known_is is held =
    held.2 ∙ (ap (all_new held.0) is ∙ adds.known known_is held.0 rest held.1)
