-- Tables of answers, kept under their questions.
use Rattle.std.proofs.Common.{◌≡◌, Bool, true, false, List, [], ◌∷◌, Some, if◌then◌else◌, refl, ap}
use Rattle.std.specs.Map.{lookup}
use Rattle.indexmap.specs.IndexMap.{insert_entry}
use Rattle.star_core.specs.Tables.{answer_in, known_of, same_question, with_answer}
use Rattle.star_core.specs.declared.questions.Question.{Question}
use Rattle.star_core.specs.declared.questions.Answer.{Answer}

pub lookup-answer_in : (question : Question) (entries : List (Question × Answer))
    → lookup (same_question question) entries ≡ answer_in (known_of entries) question
lookup-answer_in question [] = refl
lookup-answer_in question (e ∷ es) =
    ap (λ r. if same_question question e.0 then Some e.1 else r) (lookup-answer_in question es)

pub known_of-insert_entry : (entries : List (Question × Answer)) (question : Question)
    (answer : Answer)
    → known_of (insert_entry same_question entries question answer)
    ≡ with_answer (known_of entries) question answer
known_of-insert_entry [] question answer = refl
known_of-insert_entry (e ∷ es) question answer =
    by (same_question question e.0) (known_of-insert_entry es question answer)
  where
    by : (t : Bool)
        → known_of (insert_entry same_question es question answer)
        ≡ with_answer (known_of es) question answer
        → known_of (if t then (e.0, answer) ∷ es
        else e ∷ insert_entry same_question es question answer)
        ≡ (if t then record { question = e.0; answer = answer } ∷ known_of es
        else record { question = e.0; answer = e.1 } ∷ with_answer (known_of es) question answer)
    by true further = refl
    by false further = ap (λ l. record { question = e.0; answer = e.1 } ∷ l) further
