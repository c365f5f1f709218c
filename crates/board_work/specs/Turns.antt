-- What turns mean.
use Rattle.std.specs.Prelude.{ℕ, Bool, ◌≡◌, List, [], ◌∷◌, Option, None, Some}
use Rattle.std.specs.Arc.{arc_value}
use Rattle.bz_tree.specs.declared.tree.Found.{Found}
use Rattle.bz_base.specs.declared.refusals.Refusal.{Refusal}
use Rattle.board_laws.specs.Works.{Turn, Done, Refused, Reads, Asks, Answer, Value, Rules}
use Rattle.board_laws.specs.Works
use Rattle.board_work.specs.Cycles.{cycle_refusal}
use Rattle.board_work.specs.declared.turns.Need.{Need}
use Rattle.board_work.specs.declared.turns.Need
use Rattle.board_work.specs.declared.turns.Given.{Given}
use Rattle.board_work.specs.declared.turns.Given
use Rattle.board_work.specs.declared.turns.TurnOf.{TurnOf}
use Rattle.board_work.specs.declared.turns.TurnOf

-- what a work's jobs come to, and by how many steps
pub record Meaning (J V : Type 0) : Type 0 where
  pub run : J → List (Answer Found V) → Turn J (List ℕ) V Refusal
  pub ticks : J → List (Answer Found V) → ℕ
  pub text : J → List ℕ
  pub own : J → Bool

abbrev pub rules_of : {J V : Type 0} → Meaning J V → (List ℕ → Found)
    → Rules J (List ℕ) Found V Refusal
rules_of meaning file =
    record {
      run = meaning.run;
      file = file;
      text = meaning.text;
      own = meaning.own;
      cycle =
          cycle_refusal;
    }

abbrev pub answer_of : {V : Type 0} → Given V → Answer Found V
answer_of (Given.TheVariants.File found) = Works.Found (arc_value found)
answer_of (Given.TheVariants.Value value) = Value (arc_value value)

-- the answers with the one that is given
abbrev pub after : {V : Type 0} → List (Answer Found V) → Option (Given V) → List (Answer Found V)
after answers None = answers
after answers (Some given) = answer_of given ∷ answers

abbrev pub need_turn : {J V : Type 0} → Need J → Turn J (List ℕ) V Refusal
need_turn (Need.TheVariants.File path) = Reads path
need_turn (Need.TheVariants.Job job) = Asks job

abbrev pub turn_of : {P J V : Type 0} → TurnOf P J V → Turn J (List ℕ) V Refusal
turn_of (TurnOf.TheVariants.Done value) = Done value
turn_of (TurnOf.TheVariants.Refused refusal) = Refused refusal
turn_of (TurnOf.TheVariants.Needs part need) = need_turn need

abbrev pub GoesOn : {P J V : Type 0} → TurnOf P J V → (P → Type 0) → Type 0
GoesOn (TurnOf.TheVariants.Needs part need) So = So part
GoesOn (TurnOf.TheVariants.Done value) So = Unit {0}
GoesOn (TurnOf.TheVariants.Refused refusal) So = Unit {0}

-- what is given answers the need, and nothing is given at first
abbrev pub Answers : {J V : Type 0} → Turn J (List ℕ) V Refusal → Answer Found V → Type 0
Answers (Reads path) (Works.Found found) = Unit {0}
Answers (Asks job) (Value value) = Unit {0}
Answers (Reads path) (Value value) = ⊥
Answers (Asks job) (Works.Found found) = ⊥
Answers (Done value) answer = ⊥
Answers (Refused refusal) answer = ⊥

abbrev pub Fits : {J V : Type 0} → Turn J (List ℕ) V Refusal → List (Answer Found V)
    → Option (Given V) → Type 0
Fits turn answers None = answers ≡ []
Fits turn answers (Some given) = Answers turn (answer_of given)
