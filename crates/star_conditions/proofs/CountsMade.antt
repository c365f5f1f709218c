-- What is made, when the scopes round so many functions, and so many loads, are known.
use Rattle.std.proofs.Common.{◌≡◌, ℕ, zero, suc, ◌≤◌, ◌<◌, true, List, [], ◌∷◌, length, map, set}
use Rattle.std.proofs.Common.{get_or, ◌++◌, arith, le_refl, le_trans, lt_of_lt_of_le, length-append}
use Rattle.std.proofs.Common.{length-set, ◌∙◌, refl, sym}
use Rattle.std.proofs.Math.ListN.{get_or-append}
use Rattle.std.proofs.Math.Seq.{get_or-append_seam}
use Rattle.std.proofs.lemmas.Bool.{and_from}
use Rattle.star_conditions.proofs.FreeUses.{Covered, Each, Grows, both-grow, first-covered}
use Rattle.star_conditions.proofs.FreeUses.{no_use-grows, second-covered}
use Rattle.star_conditions.proofs.Trees.{Lists}
use Rattle.star_trees.specs.Counted.{Counted, Tally, all_counted, bound_of, each_counted}
use Rattle.star_trees.specs.Counted.{code_counted, no_load}
use Rattle.star_trees.specs.declared.files.FnCode.{FnCode}
use Rattle.star_trees.specs.declared.loads.Load.{Load}
use Rattle.star_trees.specs.Variables.{Names, Binding}
use Rattle.star_scopes.specs.Making.{Making, ◌>>=◌, pure, each, begin, finish, load}
use Rattle.star_trees.specs.Functions.{unfinished_code}
use Rattle.star_scopes.specs.Uses.{Uses, each_uses}

-- what stands in a file beside its trees: its loads, and the scopes round each of its functions
pub record Whole : Type 0 where
  pub loads : List Load
  pub around : ℕ → List Names

-- as much of it as is known when so many functions have unfinished_code
pub record Known : Type 0 where
  pub count : ℕ
  pub whole : Whole

-- what is known stays
pub record Keeps (known : Known) (whole : Whole) : Type 0 where
  pub around : (place : ℕ) → place < known.count → known.whole.around place ≡ whole.around place
  pub loads : (place : ℕ)
      → place < length known.whole.loads
      → get_or known.whole.loads place no_load ≡ get_or whole.loads place no_load

pub record Later (known later : Known) : Type 0 where
  pub count : known.count ≤ later.count
  pub loads : length known.whole.loads ≤ length later.whole.loads
  pub keeps : Keeps known later.whole

pub still : (known : Known) → Later known known
still known = record {
  count = le_refl _;
  loads = le_refl _;
  keeps = record
      { around = λ place _. refl; loads = λ place _. refl };
}

pub back : {known later : Known} {whole : Whole}
    → Later known later
    → Keeps later whole
    → Keeps known whole
back up keeps = record {
  around = λ place below. up.keeps.around place below
      ∙ keeps.around place (lt_of_lt_of_le below up.count);
  loads = λ place below. up.keeps.loads place below
      ∙ keeps.loads place (lt_of_lt_of_le below up.loads);
}

pub again : {known later last : Known} → Later known later → Later later last → Later known last
again up further = record {
  count = le_trans up.count further.count;
  loads = le_trans up.loads further.loads;
  keeps = back
      up further.keeps;
}

abbrev pub known_of : Lists → (ℕ → List Names) → Known
known_of lists around = record
    { count = length lists.functions; whole = record { loads = lists.loads; around = around } }

-- ---- makings, of a file with these free names

module _ (free : Names) where
  abbrev pub CodesCounted : Whole → List FnCode → Type 0
  CodesCounted whole functions = (place : ℕ)
      → place < length functions
      → code_counted free whole.loads whole.around (get_or functions place unfinished_code)
      (whole.around place) ≡ true

  -- what holds after a value is made: nothing that is known changes, and the value and the codes
  -- are right with all that may come later
  pub record Sound {A : Type 0} (ok : Whole → A → Type 0) (start : ℕ → List Names) (before : Lists)
      (made : A × Lists) : Type 0 where
    pub now : ℕ → List Names
    pub later : Later (known_of before start) (known_of made.1 now)
    pub value : (whole : Whole) → Keeps (known_of made.1 now) whole → ok whole made.0
    pub codes : (whole : Whole)
        → Keeps (known_of made.1 now) whole
        → CodesCounted whole before.functions
        → CodesCounted whole made.1.functions

  -- a making that is sound from what is known on
  abbrev pub Good : {A : Type 0} → Known → (Whole → A → Type 0) → Making A → Type 0
  Good known ok making = (lists : Lists) (start : ℕ → List Names)
      → Later known (known_of lists start)
      → Sound ok start lists (making lists)

  -- a making that is always sound
  abbrev pub Always : {A : Type 0} → (Whole → A → Type 0) → Making A → Type 0
  Always ok making = (lists : Lists) (start : ℕ → List Names) → Sound ok start lists (making lists)

  -- a meaning whose uses grow, and whose making is sound where these are covered
  pub record Item {A B : Type 0} (ok : Whole → B → A → Type 0) (uses : B → Uses)
      (make : B → Making A) (b : B) : Type 0 where
    pub grows : Grows (uses b)
    pub sound : Covered free (uses b) → Always (λ whole. ok whole b) (make b)

abbrev nothing_known : Known
nothing_known = record { count = 0; whole = record { loads = []; around = λ place. [] } }

-- the items of two lists, each with the one beside it
pub data Pairwise {A B : Type 0} (R : B → A → Type 0) : List B → List A → Type 0 where
  none : Pairwise R [] []
  more : {b : B} {a : A} {bs : List B} {made : List A}
      → R b a
      → Pairwise R bs made
      → Pairwise R (b ∷ bs) (a ∷ made)

module _ {free : Names} where
  pub from-nothing : {A : Type 0} {ok : Whole → A → Type 0} {making : Making A}
      → Good free nothing_known ok making
      → Always free ok making
  from-nothing good lists start = good lists start
      (record {
        count = omega arith;
        loads = omega arith;
        keeps = record {
          around = λ place below.
              absurd (omega (arith, below));
          loads = λ place below. absurd (omega (arith, below));
        };
      })

  pub done : {A : Type 0} {ok : Whole → A → Type 0} (known : Known) (a : A)
      → ((whole : Whole) → Keeps known whole → ok whole a)
      → Good free known ok (pure a)
  done known a so lists start up = record {
    now = start;
    later = still _;
    value = λ whole keeps. so whole (back up keeps);
    codes = λ whole _ codes. codes;
  }

  pub bind-good : {A B : Type 0} {f : Whole
      → A
      → Type 0} {ok : Whole
      → B
      → Type 0} {making : Making A} {next : A
      → Making B} {known : Known} → Good free known f making
      → ((a : A) (later : Known)
      → Later known later
      → ((whole : Whole) → Keeps later whole → f whole a)
      → Good free later ok (next a)) → Good free known ok (making >>= next)
  bind-good {f} {ok} {making} {next} {known} good goes lists start up =
      let first = good lists start up in
      let after = (making lists).1 in
      let second = goes (making lists).0 (known_of after first.now)
      (again up first.later) first.value after first.now (still _) in
      record {
        now = second.now;
        later = again first.later second.later;
        value = second.value;
        codes = λ whole keeps so. second.codes whole keeps
            (first.codes whole (back second.later keeps) so);
      }

  -- a making that is always sound, and what comes behind it
  pub then : {A B : Type 0} {f : Whole
      → A
      → Type 0} {ok : Whole
      → B
      → Type 0} {making : Making A} {next : A
      → Making B} {known : Known} → Always free f making
      → ((a : A) (later : Known)
      → Later known later
      → ((whole : Whole) → Keeps later whole → f whole a)
      → Good free later ok (next a)) → Good free known ok (making >>= next)
  then {f} {ok} {making} {next} {known} good goes = bind-good {f = f} {ok = ok} {making = making}
      {next = next} {known = known} (λ lists start _. good lists start) goes

  -- the same, where nothing is known yet
  pub first : {A B : Type 0} {f : Whole
      → A
      → Type 0} {ok : Whole
      → B
      → Type 0} {making : Making A} {next : A
      → Making B} → Always free f making
      → ((a : A) (later : Known)
      → ((whole : Whole) → Keeps later whole → f whole a)
      → Good free later ok (next a)) → Always free ok (making >>= next)
  first {f} {ok} {making} {next} good goes = from-nothing {ok = ok} {making = making >>= next}
      (then {f = f} {ok = ok} {making = making} {next = next} good (λ a later _. goes a later))

  pub only : {A : Type 0} {ok : Whole → A → Type 0} (a : A)
      → ((whole : Whole) → ok whole a)
      → Always free ok (pure a)
  only {ok} a so = from-nothing {ok = ok} {making = pure a} (done _ a (λ whole _. so whole))

  items-grow : {A B : Type 0} (ok : Whole → B → A → Type 0) (uses : B → Uses) (make : B → Making A)
      (bs : List B) → Each (Item free ok uses make) bs → Grows (each_uses (map uses bs))
  items-grow ok uses make [] Each.none = no_use-grows
  items-grow ok uses make (b ∷ bs) (Each.more item all) = both-grow item.grows
      (items-grow ok uses make bs all)

  -- each in turn
  pub each-good : {A B : Type 0} (ok : Whole → B → A → Type 0) (uses : B → Uses)
      (make : B → Making A) (bs : List B)
      → Each (Item free ok uses make) bs
      → Covered free (each_uses (map uses bs))
      → Always free (λ whole made. Pairwise (ok whole) bs made) (each (map make bs))
  each-good ok uses make [] Each.none covered = only [] (λ whole. Pairwise.none)
  each-good ok uses make (b ∷ bs) (Each.more item all) covered =
      first {making = make b} {next = λ a. each (map make bs) >>= (λ others. pure (a ∷ others))}
      (item.sound (first-covered (items-grow ok uses make bs all) covered)) (λ a known one.
      then {making = each (map make bs)} {next = λ others. pure (a ∷ others)}
      (each-good ok uses make bs all (second-covered _ covered)) (λ others later up more.
      done later (a ∷ others)
      (λ whole keeps. Pairwise.more (one whole (back up keeps)) (more whole keeps))))

-- ---- a tree that binds what its meaning does, and whose variables are counted right

pub record Fits (tally : Tally) (scopes : List Names) (binding : Binding) : Type 0 where
  pub counted : tally.counted scopes ≡ true
  pub bound : tally.bound ≡ binding

module _ {A B : Type 0} (tally : A → Tally) (bound : B → Binding) (scopes : List Names) where
  pub all-fit : (bs : List B) (made : List A)
      → Pairwise (λ b a. Fits (tally a) scopes (bound b)) bs made
      → all_counted (map tally made) scopes ≡ true
  all-fit bs made Pairwise.none = refl
  all-fit bs made (Pairwise.more {bs = others} {made = rest} one all) = and_from _ _ one.counted
      (all-fit others rest all)

  pub all-bound : (bs : List B) (made : List A)
      → Pairwise (λ b a. Fits (tally a) scopes (bound b)) bs made
      → map bound_of (map tally made) ≡ map bound bs
  all-bound bs made Pairwise.none = refl
  all-bound bs made (Pairwise.more {bs = others} {made = rest} one all) = λ i. one.bound i ∷
      all-bound others rest all i

pub each-counted : {A B : Type 0} (counted : A → Counted) (scopes : List Names) (bs : List B)
    (made : List A)
    → Pairwise (λ b a. counted a scopes ≡ true) bs made
    → each_counted (map counted made) scopes ≡ true
each-counted counted scopes bs made Pairwise.none = refl
each-counted counted scopes bs made
    (Pairwise.more {bs = others} {made = rest} one all) = and_from _ _ one
    (each-counted counted scopes others rest all)

-- ---- places that are taken, and codes that are put

each-behind : {A : Type 0} (P : ℕ → A → Type 0) (xs : List A) (x d : A)
    → ((k : ℕ) → k < length xs → P k (get_or xs k d))
    → P (length xs) x
    → (k : ℕ)
    → k < length (xs ++ x ∷ [])
    → P k (get_or (xs ++ x ∷ []) k d)
each-behind P [] x d all one zero below = one
each-behind P [] x d all one (suc k) below = absurd (omega (arith, below))
each-behind P (y ∷ xs) x d all one zero below = all zero (omega arith)
each-behind P (y ∷ xs) x d all one (suc k) below = each-behind (λ j. P (suc j)) xs x d
    (λ j low. all (suc j) (omega (arith, low))) one k (omega (arith, below))

each-set : {A : Type 0} (P : ℕ → A → Type 0) (xs : List A) (i : ℕ) (x d : A)
    → ((k : ℕ) → k < length xs → P k (get_or xs k d))
    → P i x
    → (k : ℕ)
    → k < length xs
    → P k (get_or (set xs i x) k d)
each-set P [] i x d all one k below = absurd (omega (arith, below))
each-set P (y ∷ xs) zero x d all one zero below = one
each-set P (y ∷ xs) zero x d all one (suc k) below = all (suc k) below
each-set P (y ∷ xs) (suc i) x d all one zero below = all zero below
each-set P (y ∷ xs) (suc i) x d all one (suc k) below = each-set (λ j. P (suc j)) xs i x d
    (λ j low. all (suc j) (omega (arith, low))) one k (omega (arith, below))

-- the scopes round each function, with those of one place
placed : ℕ → List Names → (ℕ → List Names) → ℕ → List Names
placed zero scopes around zero = scopes
placed zero scopes around (suc k) = around (suc k)
placed (suc place) scopes around zero = around zero
placed (suc place) scopes around (suc k) = placed place scopes (λ j. around (suc j)) k

placed-here : (place : ℕ) (scopes : List Names) (around : ℕ → List Names)
    → placed place scopes around place ≡ scopes
unfolding placed
placed-here zero scopes around = refl
placed-here (suc place) scopes around = placed-here place scopes (λ j. around (suc j))

placed-before : (place : ℕ) (scopes : List Names) (around : ℕ → List Names) (k : ℕ)
    → k < place
    → around k ≡ placed place scopes around k
unfolding placed
placed-before zero scopes around k below = absurd (omega (arith, below))
placed-before (suc place) scopes around zero below = refl
placed-before (suc place) scopes around (suc k) below = placed-before place scopes
    (λ j. around (suc j)) k (omega (arith, below))

pub begin-good : (free : Names) (scopes : List Names)
    → Always free (λ whole place. whole.around place ≡ scopes) begin
begin-good free scopes lists start =
    let functions = lists.functions in
    let more = length-append functions (unfinished_code ∷ []) in
    record {
      now = placed (length functions) scopes start;
      later = record {
        count = omega
            (arith, more);
        loads = le_refl _;
        keeps = record {
          around = placed-before
              (length functions) scopes start;
          loads = λ place _. refl;
        };
      };
      value = λ whole keeps. sym (keeps.around (length functions) (omega (arith, more)))
          ∙ placed-here (length functions) scopes start;
      codes = λ whole keeps so. each-behind
          (λ place code. code_counted free whole.loads whole.around code (whole.around place)
          ≡ true) functions unfinished_code unfinished_code so refl;
    }

pub finish-good : (free : Names) (known : Known) (place : ℕ) (code : FnCode)
    → ((whole : Whole)
    → Keeps known whole
    → code_counted free whole.loads whole.around code (whole.around place) ≡ true)
    → Good free known (λ _ _. Unit {0}) (finish place code)
finish-good free known place code fits lists start up =
    let functions = lists.functions in
    let same = length-set functions place code in
    let later : Later (known_of lists start)
    (record {
      count = length
          (set functions place code);
      whole = record { loads = lists.loads; around = start };
    }) =
    record {
      count = omega
          (arith, same);
      loads = le_refl _;
      keeps = record
          { around = λ _ _. refl; loads = λ _ _. refl };
    } in
    record {
      now = start;
      later = later;
      value = λ whole keeps. tt;
      codes = λ whole keeps so k below. each-set
          (λ at one. code_counted free whole.loads whole.around one (whole.around at)
          ≡ true) functions place code unfinished_code so
          (fits whole (back (again up later) keeps)) k (omega (arith, same, below));
    }

pub load-good : (free : Names) (loaded : Load)
    → Always free (λ whole place. get_or whole.loads place no_load ≡ loaded) (load loaded)
load-good free loaded lists start =
    let loads = lists.loads in
    let more = length-append loads (loaded ∷ []) in
    record {
      now = start;
      later = record {
        count = le_refl _;
        loads = omega
            (arith, more);
        keeps = record {
          around = λ place _. refl;
          loads = λ place below. sym
              (get_or-append loads (loaded ∷ []) no_load place below);
        };
      };
      value = λ whole keeps. sym (keeps.loads (length loads) (omega (arith, more)))
          ∙ get_or-append_seam loads loaded [] no_load;
      codes = λ whole keeps so. so;
    }
