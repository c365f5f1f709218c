-- What is made, when the functions and the loads so far are at least so many.
use Rattle.std.proofs.Common.{ℕ, zero, suc, ◌+◌, ◌≤◌, List, [], ◌∷◌, length, map, set, ◌++◌, arith}
use Rattle.std.proofs.Common.{le_refl, le_trans, length-append, length-set}
use Rattle.star_trees.specs.Indexes.{greatest, functions_of_code, loads_of_code}
use Rattle.star_conditions.proofs.Trees.{Lists}
use Rattle.star_trees.specs.declared.files.FnCode.{FnCode}
use Rattle.star_trees.specs.declared.loads.Load.{Load}
use Rattle.star_scopes.specs.Making.{Making, ◌>>=◌, pure, each, begin, finish, load}
use Rattle.star_trees.specs.Functions.{unfinished_code}

-- what holds after a value is made: the lists don't shrink, the value speaks of what is there, and
-- so do the functions' codes where they did before
pub record Fine {A : Type 0} (functions : A → ℕ) (loads : A → ℕ) (before : Lists)
    (made : A × Lists) : Type 0 where
  pub functions_grow : length before.functions ≤ length made.1.functions
  pub loads_grow : length before.loads ≤ length made.1.loads
  pub value_functions : functions made.0 ≤ length made.1.functions
  pub value_loads : loads made.0 ≤ length made.1.loads
  pub code_functions : (n : ℕ)
      → length made.1.functions ≤ n
      → greatest (map functions_of_code before.functions) ≤ n
      → greatest (map functions_of_code made.1.functions) ≤ n
  pub code_loads : (n : ℕ)
      → length made.1.loads ≤ n
      → greatest (map loads_of_code before.functions) ≤ n
      → greatest (map loads_of_code made.1.functions) ≤ n

-- a making that is fine from so many functions and loads on
abbrev pub Good : {A : Type 0} → ℕ → ℕ → (A → ℕ) → (A → ℕ) → Making A → Type 0
Good n m functions loads making = (lists : Lists)
    → n ≤ length lists.functions
    → m ≤ length lists.loads
    → Fine functions loads lists (making lists)

pub from-good : {A : Type 0} {functions loads : A → ℕ} {making : Making A} (n m : ℕ)
    → Good 0 0 functions loads making
    → Good n m functions loads making
from-good n m good lists _ _ = good lists (omega arith) (omega arith)

pub pure-good : {A : Type 0} (n m : ℕ) (functions loads : A → ℕ) (a : A)
    → functions a ≤ n
    → loads a ≤ m
    → Good n m functions loads (pure a)
pure-good n m functions loads a within loaded lists enough enough_loads = record {
  functions_grow = le_refl _;
  loads_grow = le_refl _;
  value_functions = le_trans within enough;
  value_loads = le_trans loaded enough_loads;
  code_functions = λ k _ so. so;
  code_loads = λ k _ so. so;
}

pub bind-good : {A B : Type 0} (n m : ℕ) (f h : A → ℕ) (functions loads : B → ℕ) (making : Making A)
    (next : A → Making B) → Good n m f h making
    → ((a : A) (i j : ℕ) → n ≤ i → m ≤ j → f a ≤ i → h a ≤ j → Good i j functions loads (next a))
    → Good n m functions loads (making >>= next)
bind-good n m f h functions loads making next good goes lists enough enough_loads =
    let first = good lists enough enough_loads in
    let after = (making lists).1 in
    let second = goes (making lists).0 (length after.functions) (length after.loads)
    (le_trans enough first.functions_grow)
    (le_trans enough_loads first.loads_grow) first.value_functions first.value_loads after
    (le_refl _) (le_refl _) in
    record {
      functions_grow = le_trans first.functions_grow second.functions_grow;
      loads_grow = le_trans first.loads_grow second.loads_grow;
      value_functions = second.value_functions;
      value_loads = second.value_loads;
      code_functions = λ k above so. second.code_functions k above
          (first.code_functions k (le_trans second.functions_grow above) so);
      code_loads = λ k above so. second.code_loads k above
          (first.code_loads k (le_trans second.loads_grow above) so);
    }

-- a making that is always fine, and what comes behind it
pub then : {A B : Type 0} {f h : A
    → ℕ} {functions loads : B
    → ℕ} {making : Making A} {next : A
    → Making B} {n m : ℕ} → Good 0 0 f h making
    → ((a : A) (i j : ℕ) → n ≤ i → m ≤ j → f a ≤ i → h a ≤ j → Good i j functions loads (next a))
    → Good n m functions loads (making >>= next)
then {f} {h} {functions} {loads} {making} {next} {n} {m} good goes = bind-good n m f h functions
    loads making next (from-good n m good) goes

pub each-good : {A B C : Type 0} {P : C → Type 0} (functions loads : A → ℕ) (make : B → Making A)
    (means : C → B) → ((c : C) → P c → Good 0 0 functions loads (make (means c)))
    → (items : List ((c : C) × P c))
    → Good 0 0 (λ made. greatest (map functions made)) (λ made. greatest (map loads made))
    (each (map make (map means (map (λ item. item.0) items))))
each-good functions loads make means good [] = pure-good 0 0 _ _ [] (le_refl _) (le_refl _)
each-good functions loads make means good (item ∷ more) =
    bind-good 0 0 functions loads _ _ (make (means item.0)) _ (good item.0 item.1)
    (λ a i j _ _ within loaded.
    bind-good i j (λ made. greatest (map functions made))
    (λ made. greatest (map loads made)) _ _ _ _
    (from-good i j (each-good functions loads make means good more))
    (λ others k l fewer fewer_loads many many_loads.
    pure-good k l _ _ (a ∷ others) (omega arith) (omega arith)))

pub each-sure : {A B C : Type 0} (functions loads : A → ℕ) (make : B → Making A) (means : C → B)
    → ((c : C) → Good 0 0 functions loads (make (means c)))
    → (items : List C)
    → Good 0 0 (λ made. greatest (map functions made)) (λ made. greatest (map loads made))
    (each (map make (map means items)))
each-sure functions loads make means good [] = pure-good 0 0 _ _ [] (le_refl _) (le_refl _)
each-sure functions loads make means good (item ∷ more) =
    bind-good 0 0 functions loads _ _ (make (means item)) _ (good item) (λ a i j _ _ within loaded.
    bind-good i j (λ made. greatest (map functions made))
    (λ made. greatest (map loads made)) _ _ _ _
    (from-good i j (each-sure functions loads make means good more))
    (λ others k l fewer fewer_loads many many_loads.
    pure-good k l _ _ (a ∷ others) (omega arith) (omega arith)))

-- what has no indexes
abbrev pub none : {A : Type 0} → A → ℕ
none a = 0

-- a value that speaks of no loads
pub done : {A : Type 0} {functions : A → ℕ} (n m : ℕ) (a : A)
    → functions a ≤ n
    → Good n m functions none (pure a)
done {functions} n m a within = pure-good n m functions none a within (omega arith)

-- ---- indexes that are taken, and codes that are put

greatest-behind : {A : Type 0} (f : A → ℕ) (k : ℕ) (xs : List A) (x : A)
    → greatest (map f xs) ≤ k
    → f x ≤ k
    → greatest (map f (xs ++ x ∷ [])) ≤ k
greatest-behind f k [] x all one = omega arith
greatest-behind f k (y ∷ xs) x all one = let more = greatest-behind f k xs x
    (omega arith) one in omega arith

greatest-set : {A : Type 0} (f : A → ℕ) (k : ℕ) (xs : List A) (i : ℕ) (x : A)
    → greatest (map f xs) ≤ k
    → f x ≤ k
    → greatest (map f (set xs i x)) ≤ k
greatest-set f k [] i x all one = all
greatest-set f k (y ∷ xs) zero x all one = omega arith
greatest-set f k (y ∷ xs) (suc i) x all one = let more = greatest-set f k xs i x
    (omega arith) one in omega arith

pub begin-good : (n m : ℕ) → Good n m (λ index. index + 1) none begin
begin-good n m lists enough enough_loads =
    let more = length-append lists.functions (unfinished_code ∷ []) in
    record {
      functions_grow = omega (arith, more);
      loads_grow = le_refl _;
      value_functions = omega (arith, more);
      value_loads = omega arith;
      code_functions = λ k above so. greatest-behind functions_of_code k lists.functions
          unfinished_code so (omega arith);
      code_loads = λ k above so. greatest-behind loads_of_code k lists.functions unfinished_code so
          (omega arith);
    }

pub finish-good : (n m index : ℕ) (code : FnCode)
    → functions_of_code code ≤ n
    → loads_of_code code ≤ m
    → Good n m none none (finish index code)
finish-good n m index code within loaded lists enough enough_loads =
    let same = length-set lists.functions index code in
    record {
      functions_grow = omega (arith, same);
      loads_grow = le_refl _;
      value_functions = omega arith;
      value_loads = omega arith;
      code_functions = λ k above so. greatest-set functions_of_code k lists.functions index code so
          (omega (arith, same));
      code_loads = λ k above so. greatest-set loads_of_code k lists.functions index code so
          (omega arith);
    }

pub load-good : (n m : ℕ) (loaded : Load) → Good n m none (λ index. index + 1) (load loaded)
load-good n m loaded lists enough enough_loads =
    let more = length-append lists.loads (loaded ∷ []) in
    record {
      functions_grow = le_refl _;
      loads_grow = omega (arith, more);
      value_functions = omega arith;
      value_loads = omega (arith, more);
      code_functions = λ k above so. so;
      code_loads = λ k above so. so;
    }
