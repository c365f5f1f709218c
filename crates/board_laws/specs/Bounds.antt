-- Why the recursion ends.
use Rattle.std.specs.Prelude.{ℕ, ◌<◌, ◌≤◌, true, ◌≡◌, List, [], ◌∷◌, length}
use Rattle.board_laws.specs.Works.{Done, Reads, Asks, Answer, Found, Value, Rules}
use Rattle.board_laws.specs.Results.{AllDiffer, AllOwn}

pub data StandsIn {X : Type 0} (x : X) : List X → Type 0 where
  here : {xs : List X} → StandsIn x (x ∷ xs)
  there : {y : X} {xs : List X} → StandsIn x xs → StandsIn x (y ∷ xs)

-- the job was given so many answers, whatever they say
pub data MayBeGiven {J F A V R : Type 0} (rules : Rules J F A V R) : J → List (Answer A V)
    → Type 0 where
  none : {j : J} → MayBeGiven rules j []
  file : {j : J} {answers : List (Answer A V)} {f : F} (a : A) → MayBeGiven rules j answers
      → rules.run j answers ≡ Reads f → MayBeGiven rules j (Found a ∷ answers)
  value : {j : J} {answers : List (Answer A V)} {k : J} (v : V) → MayBeGiven rules j answers
      → rules.run j answers ≡ Asks k → MayBeGiven rules j (Value v ∷ answers)

-- some jobs and values to which they come with some answers
pub data AreOutcomes {J F A V R : Type 0} (rules : Rules J F A V R) : List (J × V) → Type 0 where
  nil : AreOutcomes rules []
  cons : {j : J} {v : V} {answers : List (Answer A V)} {values : List (J × V)}
      → rules.run j answers ≡ Done v → AreOutcomes rules values
      → AreOutcomes rules ((j, v) ∷ values)

-- the answers are files and such values
pub data GivenFrom {J F A V R : Type 0} (rules : Rules J F A V R) (values : List (J × V)) : J
    → List (Answer A V) → Type 0 where
  none : {j : J} → GivenFrom rules values j []
  file : {j : J} {answers : List (Answer A V)} {f : F} → GivenFrom rules values j answers
      → rules.run j answers ≡ Reads f → GivenFrom rules values j (Found (rules.file f) ∷ answers)
  value : {j : J} {answers : List (Answer A V)} {k : J} {v : V}
      → GivenFrom rules values j answers → rules.run j answers ≡ Asks k → StandsIn (k, v) values
      → GivenFrom rules values j (Value v ∷ answers)

-- each asks the one before it, after such answers
pub data LeadsThrough {J F A V R : Type 0} (rules : Rules J F A V R) (values : List (J × V)) : List
    J → J → Type 0 where
  nil : {j : J} → LeadsThrough rules values [] j
  cons : {j k : J} {path : List J} {answers : List (Answer A V)}
      → GivenFrom rules values k answers → rules.run k answers ≡ Asks j
      → LeadsThrough rules values path k → LeadsThrough rules values (k ∷ path) j

-- so many needs has a job at most, and so many jobs a path
pub record Bounded {J F A V R : Type 0} (rules : Rules J F A V R) : Type 0 where
  pub most : ℕ
  pub deep : ℕ
  pub reads : (j : J) (answers : List (Answer A V)) (f : F) → rules.own j ≡ true
      → MayBeGiven rules j answers → rules.run j answers ≡ Reads f → length answers < most
  pub asks : (j k : J) (answers : List (Answer A V)) → rules.own j ≡ true
      → MayBeGiven rules j answers → rules.run j answers ≡ Asks k → length answers < most
  pub paths : (values : List (J × V)) (j : J) (path : List J) → AreOutcomes rules values
      → LeadsThrough rules values path j
      → AllDiffer rules (j ∷ path) → AllOwn rules (j ∷ path) → length (j ∷ path) ≤ deep
