-- What an evaluation is begun as, what it stands for, and what a turn answers of it.
use Rattle.std.specs.Prelude.{◌≡◌, ℕ, zero, suc, List, [], ◌∷◌, length, map, reverse, Option}
use Rattle.std.specs.Prelude.{Some, None, Result, Ok, Err, slice_get, ⊤}
use Rattle.bz_base.specs.Counts.{counted}
use Rattle.bz_base.specs.declared.refusals.Refusal.{Refusal}
use Rattle.bz_text.specs.declared.memory.Miss.{Miss}
use Rattle.bz_text.specs.declared.memory.Miss.TheVariants as miss
use Rattle.bz_text.specs.declared.memory.OutOfMemory.{OutOfMemory}
use Rattle.star_code.specs.declared.code.Code.{Code}
use Rattle.star_core.specs.Heaps.{HeapState, restarted}
use Rattle.star_core.specs.Hosts.{HostCall, Meaning}
use Rattle.star_core.specs.Scopes.{with_scope}
use Rattle.star_core.specs.Tables.{Table, Within}
use Rattle.star_core.specs.declared.scopes.Scope.{Scope}
use Rattle.star_core.specs.declared.values.Val.{Val}
use Rattle.star_eval.specs.Loaded.{IsAdded, IsLoaded, Loaded, with_call}
use Rattle.star_eval.specs.Reasons.{placed, refusal_for}
use Rattle.star_eval.specs.declared.evaluation.Evaluation.{Evaluation}
use Rattle.star_eval.specs.declared.evaluation.Store.{Store}
use Rattle.star_eval.specs.declared.evaluation.TurnEnd.{TurnEnd}
use Rattle.star_eval.specs.declared.evaluation.TurnEnd.TheVariants as end
use Rattle.star_machine.specs.Configs.{config_of, world_of}
use Rattle.star_machine.specs.declared.machine.Machine.{Machine}
use Rattle.star_machine.specs.declared.machine.Task.{Task}
use Rattle.star_meaning.specs.Arguments.{no_args}
use Rattle.star_meaning.specs.Libraries.{Rows}
use Rattle.star_meaning.specs.Results.{Done, Outcome, Refused, RefusedByHost, Unanswered}
use Rattle.star_meaning.specs.Worlds.{World}
use Rattle.star_meaning.specs.declared.reasons.Place.{Place}
use Rattle.star_meaning.specs.declared.reasons.Reason.{Reason}
use Rattle.star_runs.specs.Runs.{Comes, call_begun, file_begun}
use Rattle.star_trees.specs.declared.files.File.{File}
use Rattle.star_turn.specs.declared.turns.Came.{Came}
use Rattle.star_turn.specs.declared.turns.Came.TheVariants as came

abbrev pub set_slots : List Val → List (Option Val)
set_slots values = map Some values

-- the free names of a file stand in a scope of their own, and the file's own within it
abbrev pub file_scopes : List Val → List Scope → List Scope
file_scopes free scopes =
    with_scope (with_scope scopes (length scopes) (set_slots free)) (length scopes) []

-- the number of the file's own scope
abbrev pub file_scope : List Val → List Scope → ℕ
file_scope free scopes = length (with_scope scopes (length scopes) (set_slots free))

-- the world in which a file begins
abbrev pub file_world : List Val → ℕ → List Scope → HeapState → World
file_world free limit scopes heap =
    record {
      scope = file_scope free scopes;
      scopes = file_scopes free scopes;
      heap = heap;
      count = 0;
      limit = limit;
      place = None;
    }

-- the world in which a call from outside begins
abbrev pub call_world : ℕ → List Scope → HeapState → World
call_world limit scopes heap =
    record {
      scope = 0;
      scopes = scopes;
      heap = restarted heap;
      count = 0;
      limit = limit;
      place = None;
    }

abbrev pub or_zero : Option Code → ℕ
or_zero None = 0
or_zero (Some code) = code.top

-- the block of a file's statements
abbrev pub top_of : List Code → ℕ → ℕ
top_of codes number = or_zero (slice_get codes number)

-- a value to be called, below its arguments
abbrev pub operands : Val → List Val → List Val
operands f values = reverse (f ∷ values)

abbrev pub beginning : ℕ → ℕ → ℕ → List Val → Task
beginning file block scope stack =
    record {
      file = file;
      block = block;
      next = 0;
      stack = stack;
      later = [];
      scope = scope;
      place = None;
    }

-- a machine before its first step
pub record IsStanding (task : Task) (scopes : List Scope) (heap : HeapState) (limit : ℕ)
    (machine : Machine) : Type 0 where
  pub task_is : machine.task ≡ task
  pub gathered_is : machine.gathered ≡ no_args
  pub callers_are : machine.callers ≡ []
  pub leaving_is : machine.leaving ≡ None
  pub running_is : machine.running ≡ []
  pub heap_is : machine.heap ≡ heap
  pub scopes_are : machine.scopes ≡ scopes
  pub count_is : machine.count ≡ 0
  pub limit_is : machine.limit ≡ limit

-- a file that is there is about to run
pub record IsBegun (files : Loaded) (number : ℕ) (free : List Val) (scopes : List Scope)
    (heap : HeapState) (limit : ℕ) (evaluation : Evaluation) : Type 0 where
  pub files_are : evaluation.files ≡ files
  pub stands :
      IsStanding (beginning number (top_of files.codes number) (file_scope free scopes) [])
      (file_scopes free scopes) heap limit evaluation.machine

-- A file is about to run, behind those that were there, in a heap whose sum of sizes begins anew.
pub record IsFileBegun (store : Store) (file : File) (name : List ℕ) (free : List Val) (limit : ℕ)
    (evaluation : Evaluation) : Type 0 where
  pub heap : HeapState
  pub added : IsAdded file name (restarted store.heap) store.files evaluation.files heap
  pub begins :
      config_of evaluation.files.codes evaluation.machine
      ≡ file_begun evaluation.files.codes (length store.files.programs) added.code
      (file_world free limit store.scopes heap)

-- A value is about to be called.
pub record IsCallBegun (store : Store) (f : Val) (values : List Val) (limit : ℕ)
    (evaluation : Evaluation) : Type 0 where
  pub files : evaluation.files ≡ with_call (length values) store.files
  pub loaded : IsLoaded evaluation.files.programs evaluation.files.codes
  pub begins :
      config_of evaluation.files.codes evaluation.machine
      ≡ call_begun 0 f values (call_world limit store.scopes store.heap)

abbrev pub store_of : Evaluation → Store
store_of evaluation =
    record {
      files = evaluation.files;
      scopes = evaluation.machine.scopes;
      heap = evaluation.machine.heap;
    }

-- What is left to do comes to what the whole means, for each table that has these answers and more.
pub record Stands {H : Type 0} (does : Meaning H HostCall) (library : Rows)
    (meaning : Table → Outcome H) (answers : Table) (evaluation : Evaluation) (host : H)
    : Type 0 where
  pub comes : (more : Table)
      → Within answers more
      → Comes does library evaluation.files.codes more
      (config_of evaluation.files.codes evaluation.machine) host (meaning more)

-- a refusal is that of the outcome, and so is the count
abbrev pub IsRefusedWith : {H : Type 0} → Outcome H → Refusal → Evaluation → Type 0
IsRefusedWith (Done value world host) refusal evaluation = ⊥
IsRefusedWith (Refused why place count) refusal evaluation =
    (refusal ≡ refusal_for evaluation.files.names why place) × (evaluation.machine.count ≡ count)
IsRefusedWith (RefusedByHost denied place count) refusal evaluation =
    (refusal ≡ placed evaluation.files.names denied place) × (evaluation.machine.count ≡ count)
IsRefusedWith (Unanswered question) refusal evaluation = ⊥

-- a turn answers with that outcome, unless memory ran out
abbrev pub AnswersFor : {H : Type 0}
    → Outcome H
    → Result TurnEnd OutOfMemory
    → Evaluation
    → H
    → Type 0
AnswersFor outcome (Ok (end.Done value)) evaluation host =
    outcome ≡ Done value (world_of evaluation.machine) host
AnswersFor outcome (Ok (end.Refused refusal)) evaluation host =
    IsRefusedWith outcome refusal evaluation
AnswersFor outcome (Ok (end.Asks question)) evaluation host = outcome ≡ Unanswered question
AnswersFor outcome (Err memory) evaluation host = ⊤

-- where a turn asks, that holds
abbrev pub AsksOnly : Result TurnEnd OutOfMemory → Type 0 → Type 0
AsksOnly (Ok (end.Asks question)) holds = holds
AsksOnly (Ok (end.Done value)) holds = ⊤
AsksOnly (Ok (end.Refused refusal)) holds = ⊤
AsksOnly (Err memory) holds = ⊤

-- what is made of what a machine came to
abbrev pub IsEnd : List (List ℕ)
    → Option Place
    → Result Came (Miss Reason)
    → Result TurnEnd OutOfMemory
    → Type 0
IsEnd names place answer (Err memory) = ⊤
IsEnd names place (Ok came.On) (Ok given) = ⊥
IsEnd names place (Ok (came.Done value)) (Ok given) = given ≡ end.Done value
IsEnd names place (Ok (came.Asks question)) (Ok given) = given ≡ end.Asks question
IsEnd names place (Ok (came.Denied denied)) (Ok given) =
    given ≡ end.Refused (placed names denied place)
IsEnd names place (Err (miss.Because why)) (Ok given) =
    given ≡ end.Refused (refusal_for names why place)
IsEnd names place (Err miss.OutOfMemory) (Ok given) = ⊥

-- a count of so many steps more, which stays at 2^64 - 1
abbrev pub ticked : ℕ → ℕ → ℕ
ticked zero count = count
ticked (suc steps) count = counted (ticked steps count)
