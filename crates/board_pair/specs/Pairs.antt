-- What the two jobs mean, and that they make a work.
use Rattle.std.specs.Prelude.{ℕ, ◌≡◌, ◌<◌, ◌≤◌, Bool, true, false, List, [], ◌∷◌, length}
use Rattle.std.proofs.Common.{arith, refl}
use Rattle.bz_base.specs.declared.refusals.Refusal.{Refusal}
use Rattle.bz_tree.specs.declared.tree.Found.{Found}
use Rattle.board_laws.specs.Works.{Turn, Done, Asks, Answer, Rules, Lawful}
use Rattle.board_laws.specs.Works
use Rattle.board_pair.specs.declared.pair.Lower.{Lower}
use Rattle.board_pair.specs.declared.pair.Lower.TheVariants.{AsksBack, Reads, Refused, Value}
use Rattle.bz_base.specs.Refusals.{refusal_of}
use Rattle.bz_base.specs.declared.refusals.Code.TheVariants.{NoRepo}
use Rattle.board_laws.specs.Results.{AllDiffer, AllOwn, DiffersFrom}
use Rattle.board_laws.specs.Bounds.{Bounded, MayBeGiven, AreOutcomes, LeadsThrough}
use Rattle.board_work.specs.Turns.{Meaning, rules_of}

-- the upper job asks the lower one, which has the value 7, is refused, asks back, or reads a file
abbrev pub first_turn : (lower : Lower) (upper : Bool) → Turn Bool (List ℕ) ℕ Refusal
first_turn lower true = Asks false
first_turn Value false = Done 7
first_turn Refused false = Works.Refused (refusal_of NoRepo)
first_turn AsksBack false = Asks true
first_turn (Reads path) false = Works.Reads path

-- a job that asked has the value of the job that it asked, and one that read has the value 7
abbrev pub pair_run : (lower : Lower) (upper : Bool) → List (Answer Found ℕ)
    → Turn Bool (List ℕ) ℕ Refusal
pair_run lower upper [] = first_turn lower upper
pair_run lower upper (Works.Value v ∷ answers) = Done v
pair_run lower upper (Works.Found found ∷ answers) = Done 7

abbrev pub pair_text : Bool → List ℕ
pair_text true = 98 ∷ []
pair_text false = 97 ∷ []

abbrev pub pair_meaning : (lower : Lower) → Meaning Bool ℕ
pair_meaning lower =
    record {
      run = pair_run lower;
      ticks = λ job answers. 1;
      text = pair_text;
      own = λ job. true;
    }

pub pair_lawful : (lower : Lower) (file : List ℕ → Found)
    → Lawful (rules_of (pair_meaning lower) file)
pair_lawful lower file = record { same = same; owns = λ j k answers own e. refl }
  where
    same : (j k : Bool) → true ≡ true → true ≡ true → pair_text j ≡ pair_text k → j ≡ k
    same true true o p e = refl
    same true false o p e = absurd (grind arith)
    same false true o p e = absurd (grind arith)
    same false false o p e = refl

-- of three jobs two are the same one
two_alike : (lower : Lower) (file : List ℕ → Found) (j k l : Bool) (path : List Bool)
    → AllDiffer (rules_of (pair_meaning lower) file) (j ∷ k ∷ l ∷ path) → ⊥
two_alike lower file true true l path (AllDiffer.cons (DiffersFrom.cons off rest) others) =
    off refl
two_alike lower file false false l path (AllDiffer.cons (DiffersFrom.cons off rest) others) =
    off refl
two_alike lower file true false true path
    (AllDiffer.cons (DiffersFrom.cons off (DiffersFrom.cons apart rest)) others) = apart refl
two_alike lower file false true false path
    (AllDiffer.cons (DiffersFrom.cons off (DiffersFrom.cons apart rest)) others) = apart refl
two_alike lower file true false false path
    (AllDiffer.cons one (AllDiffer.cons (DiffersFrom.cons off rest) others)) = off refl
two_alike lower file false true true path
    (AllDiffer.cons one (AllDiffer.cons (DiffersFrom.cons off rest) others)) = off refl

pub pair_bounded : (lower : Lower) (file : List ℕ → Found)
    → Bounded (rules_of (pair_meaning lower) file)
pair_bounded lower file =
    record { most = 1; deep = 2; reads = reads; asks = asks; paths = paths }
  where
    reads : (j : Bool) (answers : List (Answer Found ℕ)) (f : List ℕ) → true ≡ true
        → MayBeGiven (rules_of (pair_meaning lower) file) j answers
        → pair_run lower j answers ≡ Works.Reads f → length answers < 1
    reads j [] f o t e = omega arith
    reads j (Works.Value v ∷ answers) f o t e = absurd (cc)
    reads j (Works.Found found ∷ answers) f o t e = absurd (cc)

    asks : (j k : Bool) (answers : List (Answer Found ℕ)) → true ≡ true
        → MayBeGiven (rules_of (pair_meaning lower) file) j answers
        → pair_run lower j answers ≡ Asks k → length answers < 1
    asks j k [] o t e = omega arith
    asks j k (Works.Value v ∷ answers) o t e = absurd (cc)
    asks j k (Works.Found found ∷ answers) o t e = absurd (cc)

    paths : (values : List (Bool × ℕ)) (j : Bool) (path : List Bool)
        → AreOutcomes (rules_of (pair_meaning lower) file) values
        → LeadsThrough (rules_of (pair_meaning lower) file) values path j
        → AllDiffer (rules_of (pair_meaning lower) file) (j ∷ path)
        → AllOwn (rules_of (pair_meaning lower) file) (j ∷ path) → length (j ∷ path) ≤ 2
    paths values j [] real leads apart owned = omega arith
    paths values j (k ∷ []) real leads apart owned = omega arith
    paths values j (k ∷ l ∷ path) real leads apart owned =
        absurd (two_alike lower file j k l path apart)
