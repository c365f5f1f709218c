-- Recursive evaluation. A path stands latest first: each job on it was asked by the next one.
use Rattle.std.specs.Prelude.{Bool, true, false, ◌≡◌, List, [], ◌∷◌, if◌then◌else◌, map, Result, Ok}
use Rattle.std.specs.Prelude.{Err, MatchBool}
use Rattle.std.specs.Str.{bytes_eq}
use Rattle.board_laws.specs.Works.{Done, Refused, Reads, Asks, Answer, Found, Value, Rules}
use Rattle.board_laws.specs.Rounds.{cycle_texts}

-- two jobs have one text
abbrev pub same_job : {J F A V R : Type 0} → Rules J F A V R → J → J → Bool
same_job rules j k = bytes_eq (rules.text j) (rules.text k)

-- the job stands on the path
abbrev pub on_path : {J F A V R : Type 0} → Rules J F A V R → J → List J → Bool
on_path rules j [] = false
on_path rules j (k ∷ path) = if same_job rules j k then true else on_path rules j path

-- the path from that job on, in the order in which they ask, before what stands behind it
abbrev pub path_from : {J F A V R : Type 0} → Rules J F A V R → J → List J → List J → List J
path_from rules j [] behind = behind
path_from rules j (k ∷ path) behind =
    if same_job rules j k then k ∷ behind else path_from rules j path (k ∷ behind)

abbrev pub cycle_of : {J F A V R : Type 0} → Rules J F A V R → List J → R
cycle_of rules jobs = rules.cycle (cycle_texts (map rules.text jobs))

-- a job that isn't on its path, and that was given these answers, comes to this outcome
pub data Evaluates {J F A V R : Type 0} (rules : Rules J F A V R) : List J → J → List (Answer A V)
    → Result V R → Type 0 where
  -- it is done, or refused
  done : {path : List J} {j : J} {answers : List (Answer A V)} {v : V}
      → rules.run j answers ≡ Done v → Evaluates rules path j answers (Ok v)
  refused : {path : List J} {j : J} {answers : List (Answer A V)} {r : R}
      → rules.run j answers ≡ Refused r → Evaluates rules path j answers (Err r)
  -- it goes on with what stands at the file
  reads : {path : List J} {j : J} {answers : List (Answer A V)} {f : F} {o : Result V R}
      → rules.run j answers ≡ Reads f → Evaluates rules path j (Found (rules.file f) ∷ answers) o
      → Evaluates rules path j answers o
  -- it asks a job on the path, or itself
  round_trip : {path : List J} {j : J} {answers : List (Answer A V)} {k : J}
      → rules.run j answers ≡ Asks k → on_path rules k (j ∷ path) ≡ true
      → Evaluates rules path j answers (Err (cycle_of rules (path_from rules k (j ∷ path) [])))
  -- it goes on with the value of the job that it asks, or is refused as that is
  given : {path : List J} {j : J} {answers : List (Answer A V)} {k : J} {v : V} {o : Result V R}
      → rules.run j answers ≡ Asks k → on_path rules k (j ∷ path) ≡ false
      → Evaluates rules (j ∷ path) k [] (Ok v)
      → Evaluates rules path j (Value v ∷ answers) o → Evaluates rules path j answers o
  passed : {path : List J} {j : J} {answers : List (Answer A V)} {k : J} {r : R}
      → rules.run j answers ≡ Asks k → on_path rules k (j ∷ path) ≡ false
      → Evaluates rules (j ∷ path) k [] (Err r) → Evaluates rules path j answers (Err r)

-- the outcome of a job that is asked on a path
abbrev pub Recursive : {J F A V R : Type 0} → Rules J F A V R → List J → J → Result V R → Type 0
Recursive rules path j o =
    MatchBool (on_path rules j path) (o ≡ Err (cycle_of rules (path_from rules j path [])))
    (Evaluates rules path j [] o)
