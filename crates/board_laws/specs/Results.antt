-- The same without a path.
use Rattle.std.specs.Prelude.{true, ◌≡◌, ◌≢◌, List, [], ◌∷◌, Result, Ok, Err}
use Rattle.board_laws.specs.Works.{Done, Refused, Reads, Asks, Answer, Found, Value, Rules}
use Rattle.board_laws.specs.Recursive.{cycle_of}

-- from these answers the job comes to the value
pub data ComesTo {J F A V R : Type 0} (rules : Rules J F A V R) : J → List (Answer A V) → V
    → Type 0 where
  done : {j : J} {answers : List (Answer A V)} {v : V} → rules.run j answers ≡ Done v
      → ComesTo rules j answers v
  reads : {j : J} {answers : List (Answer A V)} {f : F} {v : V}
      → rules.run j answers ≡ Reads f → ComesTo rules j (Found (rules.file f) ∷ answers) v
      → ComesTo rules j answers v
  given : {j : J} {answers : List (Answer A V)} {k : J} {w v : V}
      → rules.run j answers ≡ Asks k → ComesTo rules k [] w → ComesTo rules j (Value w ∷ answers) v
      → ComesTo rules j answers v

-- each of these answers is what the job was to be given
pub data IsGiven {J F A V R : Type 0} (rules : Rules J F A V R) : J → List (Answer A V)
    → Type 0 where
  none : {j : J} → IsGiven rules j []
  file : {j : J} {answers : List (Answer A V)} {f : F} → IsGiven rules j answers
      → rules.run j answers ≡ Reads f → IsGiven rules j (Found (rules.file f) ∷ answers)
  value : {j : J} {answers : List (Answer A V)} {k : J} {v : V}
      → IsGiven rules j answers → rules.run j answers ≡ Asks k → ComesTo rules k [] v
      → IsGiven rules j (Value v ∷ answers)

-- the job asks that one after such answers
pub record AsksNext {J F A V R : Type 0} (rules : Rules J F A V R) (j k : J) : Type 0 where
  pub answers : List (Answer A V)
  pub is_given : IsGiven rules j answers
  pub asks : rules.run j answers ≡ Asks k

-- j asks the first of the jobs, each asks the next, and the last asks k
pub data Chain {J F A V R : Type 0} (rules : Rules J F A V R) : J → List J → J → Type 0 where
  last : {j k : J} → AsksNext rules j k → Chain rules j [] k
  more : {j i k : J} {jobs : List J} → AsksNext rules j i → Chain rules i jobs k
      → Chain rules j (i ∷ jobs) k

-- no text stands twice
pub data DiffersFrom {J F A V R : Type 0} (rules : Rules J F A V R) (j : J) : List J → Type 0 where
  nil : DiffersFrom rules j []
  cons : {k : J} {jobs : List J} → rules.text j ≢ rules.text k → DiffersFrom rules j jobs
      → DiffersFrom rules j (k ∷ jobs)

pub data AllDiffer {J F A V R : Type 0} (rules : Rules J F A V R) : List J → Type 0 where
  nil : AllDiffer rules []
  cons : {j : J} {jobs : List J} → DiffersFrom rules j jobs → AllDiffer rules jobs
      → AllDiffer rules (j ∷ jobs)

-- a refusal of its own, that of a job that it asks, or that of the cycle on which it stands
pub data IsRefusedWith {J F A V R : Type 0} (rules : Rules J F A V R) : J → R → Type 0 where
  own : {j : J} {answers : List (Answer A V)} {r : R} → IsGiven rules j answers
      → rules.run j answers ≡ Refused r → IsRefusedWith rules j r
  asked : {j k : J} {r : R} → AsksNext rules j k → IsRefusedWith rules k r → IsRefusedWith rules j r
  cycle : {j : J} {jobs : List J} → Chain rules j jobs j → AllDiffer rules (j ∷ jobs)
      → IsRefusedWith rules j (cycle_of rules (j ∷ jobs))

abbrev pub HasResult : {J F A V R : Type 0} → Rules J F A V R → J → Result V R → Type 0
HasResult rules j (Ok v) = ComesTo rules j [] v
HasResult rules j (Err r) = IsRefusedWith rules j r

-- each job of the path asks the one that stands before it, and the first asks j
pub data LeadsTo {J F A V R : Type 0} (rules : Rules J F A V R) : List J → J → Type 0 where
  nil : {j : J} → LeadsTo rules [] j
  cons : {j k : J} {path : List J} → AsksNext rules k j → LeadsTo rules path k
      → LeadsTo rules (k ∷ path) j

pub data AllOwn {J F A V R : Type 0} (rules : Rules J F A V R) : List J → Type 0 where
  nil : AllOwn rules []
  cons : {j : J} {jobs : List J} → rules.own j ≡ true → AllOwn rules jobs → AllOwn rules (j ∷ jobs)

-- the path is of different own jobs, each asks the next, and the last asks this job
pub record PathOf {J F A V R : Type 0} (rules : Rules J F A V R) (path : List J) (j : J) : Type 0
  where
    pub leads : LeadsTo rules path j
    pub apart : AllDiffer rules path
    pub owned : AllOwn rules (j ∷ path)
