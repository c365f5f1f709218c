-- Questions about the world, by their kind and at most three texts, and which answers fit them.
use Rattle.std.specs.Prelude.{◌≡◌, ℕ, List, [], ⊤}
use Rattle.star_core.specs.declared.questions.Question.{Question}
use Rattle.star_core.specs.declared.questions.Question.TheVariants as question
use Rattle.star_core.specs.declared.questions.Answer.{Answer}
use Rattle.star_core.specs.declared.questions.Answer.TheVariants as answer

abbrev pub question_kind : Question → ℕ
question_kind (question.File label) = 0
question_kind (question.Dirents label) = 1
question_kind (question.Env name) = 2
question_kind question.OsName = 3
question_kind question.OsArch = 4
question_kind (question.Map home apparent) = 5

abbrev pub first_text : Question → List ℕ
first_text (question.File label) = label.repo
first_text (question.Dirents label) = label.repo
first_text (question.Env name) = name
first_text question.OsName = []
first_text question.OsArch = []
first_text (question.Map home apparent) = home

abbrev pub second_text : Question → List ℕ
second_text (question.File label) = label.package
second_text (question.Dirents label) = label.package
second_text (question.Env name) = []
second_text question.OsName = []
second_text question.OsArch = []
second_text (question.Map home apparent) = apparent

abbrev pub third_text : Question → List ℕ
third_text (question.File label) = label.name
third_text (question.Dirents label) = label.name
third_text (question.Env name) = []
third_text question.OsName = []
third_text question.OsArch = []
third_text (question.Map home apparent) = []

-- what may be said of a file: its bytes, that it is too large, that it is a directory (of which no
-- name is told), or that nothing is there
abbrev pub IsOfFile : Answer → Type 0
IsOfFile (answer.Bytes bytes) = ⊤
IsOfFile answer.Large = ⊤
IsOfFile (answer.Names names) = names ≡ []
IsOfFile answer.Absent = ⊤
IsOfFile (answer.Text text) = ⊥
IsOfFile answer.Nothing = ⊥

-- of a directory: its names, that it is a file (of which no byte is told), or that nothing is there
abbrev pub IsOfDirectory : Answer → Type 0
IsOfDirectory (answer.Bytes bytes) = bytes ≡ []
IsOfDirectory answer.Large = ⊥
IsOfDirectory (answer.Names names) = ⊤
IsOfDirectory answer.Absent = ⊤
IsOfDirectory (answer.Text text) = ⊥
IsOfDirectory answer.Nothing = ⊥

-- of a name: its value, or that it has none
abbrev pub IsOfName : Answer → Type 0
IsOfName (answer.Bytes bytes) = ⊥
IsOfName answer.Large = ⊥
IsOfName (answer.Names names) = ⊥
IsOfName answer.Absent = ⊥
IsOfName (answer.Text text) = ⊤
IsOfName answer.Nothing = ⊤

-- of the system: a text
abbrev pub IsOfSystem : Answer → Type 0
IsOfSystem (answer.Bytes bytes) = ⊥
IsOfSystem answer.Large = ⊥
IsOfSystem (answer.Names names) = ⊥
IsOfSystem answer.Absent = ⊥
IsOfSystem (answer.Text text) = ⊤
IsOfSystem answer.Nothing = ⊥

-- the answer is one for that question
abbrev pub IsAnswerTo : Question → Answer → Type 0
IsAnswerTo (question.File label) = IsOfFile
IsAnswerTo (question.Dirents label) = IsOfDirectory
IsAnswerTo (question.Env name) = IsOfName
IsAnswerTo question.OsName = IsOfSystem
IsAnswerTo question.OsArch = IsOfSystem
IsAnswerTo (question.Map home apparent) = IsOfName
