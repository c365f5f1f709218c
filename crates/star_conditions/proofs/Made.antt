-- What is made, whatever stands in the lists before it: a condition on the value, and one on each
-- function that is added.
use Rattle.std.proofs.Common.{◌≡◌, ℕ, List, [], ◌∷◌, ◌++◌, length, map, set, All, append-nil}
use Rattle.std.proofs.Common.{append_assoc, refl, sym, ap, ◌∙◌}
use Rattle.std.proofs.lemmas.List.Elements.{All-append, All-cons, All-head, All-nil, All-tail}
use Rattle.std.specs.List.{AllZip}
use Rattle.star_conditions.proofs.Trees.{Lists}
use Rattle.star_trees.specs.declared.files.FnCode.{FnCode}
use Rattle.star_trees.specs.declared.loads.Load.{Load}
use Rattle.star_scopes.specs.Making.{Making, ◌>>=◌, ◌>>◌, pure, each, begin, finish, load}
use Rattle.star_trees.specs.Functions.{unfinished_code}

-- a place that was taken behind some functions is put a code, whatever came behind it
pub set-behind : (before more : List FnCode) (code : FnCode)
    → set ((before ++ unfinished_code ∷ []) ++ more) (length before) code ≡ before ++ code ∷ more
set-behind [] more code = refl
set-behind (first ∷ before) more code = ap (λ rest. first ∷ rest) (set-behind before more code)

module _ (Code : FnCode → Type 0) where
  -- the functions before stay, and those that are added meet the condition
  pub record Added (before after : List FnCode) : Type 0 where
    pub more : List FnCode
    pub is : after ≡ before ++ more
    pub right : All Code more

  pub record Makes {A : Type 0} (Value : A → Type 0) (making : Making A) : Type 0 where
    pub value : (lists : Lists) → Value (making lists).0
    pub added : (lists : Lists) → Added lists.functions (making lists).1.functions

  none-added : (functions : List FnCode) → Added functions functions
  none-added functions = record { more = []; is = sym (append-nil functions); right = All-nil Code }

  both-added : (before between after : List FnCode)
      → Added before between
      → Added between after
      → Added before after
  both-added before between after first second = record {
    more = first.more ++ second.more;
    is = second.is ∙ ap (λ functions. functions ++ second.more) first.is
        ∙ append_assoc before first.more second.more;
    right = All-append Code first.more second.more first.right second.right;
  }

  pub pure-makes : {A : Type 0} {Value : A → Type 0} (a : A) → Value a → Makes Value (pure a)
  pure-makes a so = record { value = λ lists. so; added = λ lists. none-added lists.functions }

  pub bind-makes : {A B : Type 0} {Value : A
      → Type 0} {After : B
      → Type 0} {making : Making A} {next : A
      → Making B} → Makes Value making → ((a : A)
      → Value a
      → Makes After (next a)) → Makes After (making >>= next)
  bind-makes {making} first goes = record {
    value = λ lists. (goes (making lists).0 (first.value lists)).value (making lists).1;
    added = λ lists. both-added _ _ _ (first.added lists)
        ((goes (making lists).0 (first.value lists)).added (making lists).1);
  }

  -- the condition on a value may be replaced by one that follows
  pub makes-also : {A : Type 0} {Value Other : A → Type 0} {making : Making A}
      → ((a : A) → Value a → Other a)
      → Makes Value making
      → Makes Other making
  makes-also {making} follows first = record {
    value = λ lists. follows (making lists).0
        (first.value lists);
    added = first.added;
  }

  -- both of two conditions on a value
  pub makes-both : {A : Type 0} {Value Other : A → Type 0} {making : Making A}
      → Makes Value making
      → Makes Other making
      → Makes (λ a. Value a × Other a) making
  makes-both first second = record {
    value = λ lists.
        (first.value lists, second.value lists);
    added = first.added;
  }

  pub each-makes : {A B C : Type 0} (Item : C → Type 0) (Value : C → A → Type 0)
      (make : B → Making A) (means : C → B) → ((c : C) → Item c → Makes (Value c) (make (means c)))
      → (items : List C)
      → All Item items
      → Makes (λ made. AllZip Value items made) (each (map make (map means items)))
  each-makes Item Value make means makes [] all = pure-makes [] tt
  each-makes Item Value make means makes (item ∷ more) all =
      bind-makes (makes item (All-head Item item more all)) (λ a so.
      bind-makes (each-makes Item Value make means makes more (All-tail Item item more all))
      (λ others also.
      pure-makes (a ∷ others) (so, also)))

  -- a function whose parts are made before its code is put at the place that it took
  pub function-makes : {A B : Type 0} {Value : A → Type 0} {After : B → Type 0} (inner : Making A)
      (code : A → FnCode) (result : ℕ → B)
      → Makes Value inner
      → ((a : A) → Value a → Code (code a))
      → ((place : ℕ) → After (result place))
      → Makes After (begin >>= (λ place. inner >>= (λ a. finish place (code a) >> pure (result
      place))))
  function-makes inner code result makes codes results = record {
    value = λ lists. results (length lists.functions);
    added = λ lists.
        let begins = (begin lists).1 in
        let parts = makes.added begins in
        record {
          more = code (inner begins).0 ∷ parts.more;
          is = ap (λ functions. set functions (length lists.functions) (code (inner begins).0))
              parts.is ∙ set-behind lists.functions parts.more (code (inner begins).0);
          right = All-cons Code (code (inner begins).0) parts.more
              (codes (inner begins).0 (makes.value begins)) parts.right;
        };
  }

  pub load-makes : (loaded : Load) → Makes (λ place. Unit {0}) (load loaded)
  load-makes loaded = record { value = λ lists. tt; added = λ lists. none-added lists.functions }
