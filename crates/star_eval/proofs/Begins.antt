-- Where a machine stands before its first step.
use Rattle.std.proofs.Common.{◌≡◌, refl, sym, subst, ℕ, List, [], ◌∷◌, length, Some}
use Rattle.std.proofs.Common.{slice_get, slice_set, IfOk, Result, Ok, Err}
use Rattle.std.proofs.lemmas.List.{reverse-append}
use Rattle.bz_text.specs.declared.memory.OutOfMemory.{OutOfMemory}
use Rattle.star_code.specs.declared.code.Code.{Code}
use Rattle.star_core.specs.Heaps.{HeapState, restarted}
use Rattle.star_core.specs.declared.scopes.Scope.{Scope}
use Rattle.star_core.specs.declared.values.Val.{Val}
use Rattle.star_eval.specs.Evaluations.{IsBegun, IsCallBegun, IsFileBegun, IsStanding, beginning, call_world, file_scope, file_scopes}
use Rattle.star_eval.specs.Evaluations.{file_world, operands, top_of}
use Rattle.star_eval.specs.Loaded.{IsAdded, IsLoaded, Loaded, call_code, with_call}
use Rattle.star_eval.specs.declared.evaluation.Evaluation.{Evaluation}
use Rattle.star_eval.specs.declared.evaluation.Store.{Store}
use Rattle.star_machine.specs.Configs.{block_of, config_of, left_of}
use Rattle.star_machine.specs.declared.machine.Machine.{Machine}
use Rattle.star_machine.specs.declared.machine.Task.{Task}
use Rattle.star_meaning.specs.Expressions.{Program}
use Rattle.star_runs.specs.Runs.{call_begun, file_begun}
use Rattle.star_trees.specs.declared.files.File.{File}

called_first : (count : ℕ) (programs : List Program) (codes : List Code)
    → IsLoaded programs (slice_set codes 0 (call_code count))
    → slice_get (slice_set codes 0 (call_code count)) 0 ≡ Some (call_code count)
called_first count [] codes loaded = absurd (cc loaded.first)
called_first count (p ∷ programs) [] loaded = absurd (loaded.coded.each 0)
called_first count (p ∷ programs) (c ∷ codes) loaded = refl

call_begins : (codes : List Code) (machine : Machine) (f : Val) (values : List Val)
    (scopes : List Scope) (heap : HeapState) (limit : ℕ)
    → slice_get codes 0 ≡ Some (call_code (length values))
    → IsStanding (beginning 0 1 0 (operands f values)) scopes (restarted heap) limit machine
    → config_of codes machine ≡ call_begun 0 f values (call_world limit scopes heap)
unfolding block_of left_of
call_begins codes machine f values scopes heap limit here stands =
    subst (λ stack. config_of codes machine ≡ record (call_begun 0 f values
    (call_world limit scopes heap)) { stack = stack }) (reverse-append (f ∷ []) values)
    (rw (
      stands.task_is,
      stands.gathered_is,
      stands.callers_are,
      stands.leaving_is,
      stands.running_is,
      stands.heap_is,
      stands.scopes_are,
      stands.count_is,
      stands.limit_is,
      here,
    ) refl)

file_begins : (codes : List Code) (machine : Machine) (number : ℕ) (code : Code)
    (free : List Val) (scopes : List Scope) (heap : HeapState) (limit : ℕ)
    → slice_get codes number ≡ Some code
    → IsStanding (beginning number (top_of codes number)
    (file_scope free scopes) [])
    (file_scopes free scopes) heap limit machine
    → config_of codes machine ≡ file_begun codes number code (file_world free limit scopes heap)
unfolding block_of left_of
file_begins codes machine number code free scopes heap limit here stands =
    rw (
      stands.task_is,
      stands.gathered_is,
      stands.callers_are,
      stands.leaving_is,
      stands.running_is,
      stands.heap_is,
      stands.scopes_are,
      stands.count_is,
      stands.limit_is,
      here,
    ) refl

pub standing_at : (task wanted : Task) (scopes : List Scope) (heap now : HeapState) (limit : ℕ)
    (machine : Machine)
    → task ≡ wanted
    → heap ≡ now
    → IsStanding task scopes heap limit machine
    → IsStanding wanted scopes now limit machine
standing_at task wanted scopes heap now limit machine is are stands =
    subst (λ t. IsStanding t scopes now limit machine) is
    (subst (λ h. IsStanding task scopes h limit machine) are stands)

pub call_begun_of : (store : Store) (f : Val) (values : List Val) (limit : ℕ) (files : Loaded)
    (machine : Machine)
    → files ≡ with_call (length values) store.files
    → IsLoaded files.programs files.codes
    → IsStanding (beginning 0 1 0 (operands f values)) store.scopes (restarted store.heap) limit
    machine
    → IsCallBegun store f values limit (record { files = files; machine = machine })
call_begun_of store f values limit files machine is loaded stands =
    let here : slice_get files.codes 0 ≡ Some (call_code (length values)) =
    subst (λ (l : Loaded). slice_get l.codes 0 ≡ Some (call_code (length values))) (sym is)
    (called_first (length values) store.files.programs store.files.codes
    (subst (λ (l : Loaded). IsLoaded l.programs l.codes) is loaded)) in
    record {
      files = is;
      loaded = loaded;
      begins = call_begins files.codes machine f values store.scopes store.heap limit here stands;
    }

file_begun_at : (store : Store) (file : File) (name : List ℕ) (free : List Val) (limit number : ℕ)
    (files : Loaded) (heap : HeapState) (evaluation : Evaluation)
    → number ≡ length store.files.programs
    → IsAdded file name (restarted store.heap) store.files files heap
    → IsBegun files number free store.scopes heap limit evaluation
    → IsFileBegun store file name free limit evaluation
file_begun_at store file name free limit number files heap evaluation long added begun =
    let there : IsAdded file name (restarted store.heap) store.files evaluation.files heap =
    subst (λ f. IsAdded file name (restarted store.heap) store.files f heap)
    (sym begun.files_are) added in
    let stands : IsStanding (beginning (length store.files.programs)
    (top_of evaluation.files.codes (length store.files.programs)) (file_scope free store.scopes) [])
    (file_scopes free store.scopes) heap limit evaluation.machine =
    subst (λ (f : Loaded). IsStanding (beginning (length store.files.programs)
    (top_of f.codes (length store.files.programs)) (file_scope free store.scopes) [])
    (file_scopes free store.scopes) heap limit evaluation.machine) (sym begun.files_are)
    (subst (λ n. IsStanding (beginning n (top_of files.codes n) (file_scope free store.scopes) [])
    (file_scopes free store.scopes) heap limit evaluation.machine) long begun.stands) in
    record {
      heap = heap;
      added = there;
      begins = file_begins evaluation.files.codes evaluation.machine (length store.files.programs)
          there.code free store.scopes heap limit there.here stands;
    }

pub file_begun_of : (store : Store) (file : File) (name : List ℕ) (free : List Val)
    (limit number : ℕ) (files : Loaded) (heap : HeapState) (answer : Result Evaluation OutOfMemory)
    → number ≡ length store.files.programs
    → IsAdded file name (restarted store.heap) store.files files heap
    → IfOk answer (IsBegun files number free store.scopes heap limit)
    → IfOk answer (IsFileBegun store file name free limit)
file_begun_of store file name free limit number files heap (Ok evaluation) long added begun =
    file_begun_at store file name free limit number files heap evaluation long added begun
file_begun_of store file name free limit number files heap (Err memory) long added begun = tt
