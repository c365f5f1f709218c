-- Tables of answers: finite maps from questions to their answers.
use Rattle.std.specs.Prelude.{◌≡◌, ◌≢◌, ◌&&◌, Bool, bytes_eq, nat_eq, if◌then◌else◌, List, [], ◌∷◌}
use Rattle.std.specs.Prelude.{Option, Some, None, All, AllPairs, map}
use Rattle.star_core.specs.Questions.{IsAnswerTo, first_text, question_kind, second_text}
use Rattle.star_core.specs.Questions.{third_text}
use Rattle.star_core.specs.declared.questions.Question.{Question}
use Rattle.star_core.specs.declared.questions.Answer.{Answer}

-- a question with its answer
pub record Known : Type 0 where
  pub question : Question
  pub answer : Answer

abbrev pub Table : Type 0
Table = List Known

abbrev pub known_of : List (Question × Answer) → Table
known_of entries = map (λ entry. record { question = entry.0; answer = entry.1 }) entries

-- two questions are one where their kinds and their texts are
abbrev pub same_question : Question → Question → Bool
same_question one other =
    nat_eq (question_kind one) (question_kind other)
    && (bytes_eq (first_text one) (first_text other)
    && (bytes_eq (second_text one) (second_text other)
    && bytes_eq (third_text one) (third_text other)))

-- the answer of a question, where the table has it
abbrev pub answer_in : Table → Question → Option Answer
answer_in [] question = None
answer_in (known ∷ table) question =
    if same_question question known.question then Some known.answer else answer_in table question

-- the table with an answer: that of a known question is replaced, a new one goes last
abbrev pub with_answer : Table → Question → Answer → Table
with_answer [] question answer = record { question = question; answer = answer } ∷ []
with_answer (known ∷ table) question answer =
    if same_question question known.question
    then record { question = known.question; answer = answer } ∷ table
    else known ∷ with_answer table question answer

-- the second table has every answer of the first
pub record Within (less more : Table) : Type 0 where
  pub kept : (question : Question) (answer : Answer)
      → answer_in less question ≡ Some answer
      → answer_in more question ≡ Some answer

-- each question stands once, with an answer that is one for it
pub record AreAnswers (table : Table) : Type 0 where
  pub fit : All (λ known. IsAnswerTo known.question known.answer) table
  pub differ : AllPairs (λ one other. one.question ≢ other.question) table
