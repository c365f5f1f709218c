-- What calls of functions and runs of files mean: the Starlark specification, "Functions" and
-- "Module execution". At most 64 calls run at once, and no function is called while a call of it
-- runs.
use Rattle.std.specs.Prelude.{ℕ, zero, suc, ◌==◌, ◌&&◌, Bool, true, false, List, [], ◌∷◌, length, map}
use Rattle.std.specs.Prelude.{Option, Some, None, slice_get, if◌then◌else◌}
use Rattle.std.specs.List.{list_any}
use Rattle.star_core.specs.Hosts.{HostCall, Meaning, Method}
use Rattle.star_core.specs.Tables.{Table}
use Rattle.star_core.specs.declared.faults.Fault.TheVariants as fault
use Rattle.star_core.specs.declared.values.Args.{Args}
use Rattle.star_core.specs.declared.values.Val.{Val}
use Rattle.star_core.specs.declared.values.Val.TheVariants as val
use Rattle.star_meaning.specs.Arguments.{by_position}
use Rattle.star_meaning.specs.Attributes.{Callee, Defined, Nothing, OfHost, OfLibrary, callee_of}
use Rattle.star_meaning.specs.Expressions.{Program, Setting, functions_made, meaning}
use Rattle.star_meaning.specs.Libraries.{Rows}
use Rattle.star_meaning.specs.Loops.{Flow, Left, Next}
use Rattle.star_meaning.specs.Parameters.{bound, formal_of}
use Rattle.star_meaning.specs.Results.{Done, Gives, M, Outcome, Res, Stops, ◌>>=◌, asked, fail, lift}
use Rattle.star_meaning.specs.Results.{refuse}
use Rattle.star_meaning.specs.Statements.{body_meaning}
use Rattle.star_meaning.specs.Worlds.{World, line_of, on_heap, opened}
use Rattle.star_meaning.specs.declared.reasons.Closure.{Closure}
use Rattle.star_meaning.specs.declared.reasons.Exit.{Exit}
use Rattle.star_meaning.specs.declared.reasons.Exit.TheVariants as exit
use Rattle.star_meaning.specs.declared.reasons.Reason.TheVariants as reason
use Rattle.star_meaning.specs.declared.reasons.Running.{Running}
use Rattle.star_meaning.specs.declared.reasons.TheConstants.{MOST_CALLS}
use Rattle.star_trees.specs.declared.files.FnBody.{FnBody}
use Rattle.star_trees.specs.declared.files.FnBody.TheVariants as body
use Rattle.star_trees.specs.declared.files.FnCode.{FnCode}

-- what a function gives that is left so
abbrev pub given_by : Exit → Val
given_by (exit.Return value) = value
given_by exit.Break = val.None
given_by exit.Continue = val.None

abbrev pub value_of : Flow → Val
value_of Next = val.None
value_of (Left exit) = given_by exit

abbrev pub flow_value : {H : Type 0} → Res H Flow → Res H Val
flow_value (Gives flow world host) = Gives (value_of flow) world host
flow_value (Stops outcome) = Stops outcome

-- a body's value
abbrev pub body_value : {H : Type 0} → FnBody → Setting H → M H Val
body_value (body.Block stmts) s = λ world host. flow_value (body_meaning stmts s world host)
body_value (body.Value value) s = (meaning value).value s

-- a call's value, behind which the caller's variables and its statement are there again
abbrev pub back : {H : Type 0} → World → Res H Val → Res H Val
back caller (Gives value world host) =
    Gives value (record world { scope = caller.scope; place = caller.place }) host
back caller (Stops outcome) = Stops outcome

-- a function's body is run in a new scope within the one round the function
abbrev pub run_body : {H : Type 0} → Setting H → ℕ → FnCode → List Val → M H Val
run_body s around code values =
    λ world host. back world (body_value code.body s (opened around values world) host)

abbrev pub is_same : Running → Running → Bool
is_same one other = (one.file == other.file) && (one.function == other.function)

-- whether a call of a function is running
unfoldable pub is_running : Running → List Running → Bool
is_running function running = list_any (is_same function) running

-- the function that a closure is of
abbrev pub running_of : Closure → Running
running_of function = record { file = function.file; function = function.function }

-- how a function's body is run that may be called
abbrev pub Run : Type 0 → Type 0
Run H = Running → ℕ → Program → FnCode → List Val → M H Val

-- no call of the function may be running
abbrev pub run_if : {H : Type 0}
    → Run H
    → List Running
    → Closure
    → Program
    → FnCode
    → List Val
    → M H Val
run_if run running f program code values =
    if is_running (running_of f) running
    then fail fault.Recursion
    else run (running_of f) f.around program code values

-- the arguments are bound to the parameters first
abbrev pub call_bound : {H : Type 0}
    → Rows
    → Run H
    → List Running
    → Closure
    → List Val
    → Program
    → FnCode
    → Args
    → M H Val
call_bound library run running f defaults program code args = do
  values ← lift (on_heap (bound library (map formal_of code.params) defaults args))
  run_if run running f program code values

abbrev pub call_code : {H : Type 0}
    → Rows
    → Run H
    → List Running
    → Closure
    → List Val
    → Program
    → Option FnCode
    → Args
    → M H Val
call_code library run running f defaults program None args = fail fault.Kind
call_code library run running f defaults program (Some code) args =
    call_bound library run running f defaults program code args

abbrev pub call_in : {H : Type 0}
    → Rows
    → Run H
    → List Running
    → Closure
    → List Val
    → Option Program
    → Args
    → M H Val
call_in library run running f defaults None args = fail fault.Kind
call_in library run running f defaults (Some program) args =
    call_code library run running f defaults program
    (slice_get program.tree.functions f.function) args

abbrev pub library_if : {H : Type 0} → Bool → M H Val → M H Val
library_if true plain = refuse reason.Unbuilt
library_if false plain = plain

-- a call of the library that neither calls back nor asks the host
abbrev pub library_call : {H : Type 0} → Rows → Val → Args → M H Val
library_call library f args =
    λ world host.
    library_if (library.calls_back f args world.heap) (lift (on_heap (library.call f args))) world host

-- a call of a host's object, by the statement that runs
abbrev pub host_call : {H : Type 0}
    → Meaning H HostCall
    → Table
    → (object : ℕ) (method : List ℕ)
    → Args
    → M H Val
host_call does answers object method args =
    λ world host.
    asked does answers (Method object method args (line_of world.place)) world host

-- a call of what was found
abbrev pub call_callee : {H : Type 0}
    → Meaning H HostCall
    → Table
    → Rows
    → List Program
    → Run H
    → List Running
    → Val
    → Callee
    → Args
    → M H Val
call_callee does answers library programs run running of (Defined f defaults) args =
    call_in library run running f defaults (slice_get programs f.file) args
call_callee does answers library programs run running of (OfHost object method) args =
    host_call does answers object method args
call_callee does answers library programs run running of OfLibrary args =
    library_call library of args
call_callee does answers library programs run running of Nothing args = fail fault.Kind

abbrev pub call_value : {H : Type 0}
    → Meaning H HostCall
    → Table
    → Rows
    → List Program
    → Run H
    → List Running
    → Val
    → Args
    → M H Val
call_value does answers library programs run running f args =
    λ world host.
    call_callee does answers library programs run running f (callee_of world.heap f) args world host

abbrev pub bare_setting : {H : Type 0}
    → Meaning H HostCall
    → Table
    → Rows
    → ℕ
    → Program
    → (Val → Args → M H Val)
    → Setting H
bare_setting does answers library file program call =
    record {
      does = does;
      answers = answers;
      library = library;
      file = file;
      program = program;
      call = call;
      make = λ function. fail fault.Kind;
    }

-- what stands round code of a file, in which functions are made as the file defines them
abbrev pub setting_with : {H : Type 0}
    → Meaning H HostCall
    → Table
    → Rows
    → ℕ
    → Program
    → (Val → Args → M H Val)
    → Setting H
setting_with does answers library file program call =
    record (bare_setting does answers library file program call) {
      make = functions_made (length program.tree.functions) 0
          (bare_setting does answers library file program call);
    }

-- a call of a value where so many calls more may run besides those that are running
unfoldable pub calls : {H : Type 0}
    → Meaning H HostCall
    → Table
    → Rows
    → List Program
    → ℕ
    → List Running
    → Val
    → Args
    → M H Val
calls does answers library programs zero running =
    call_value does answers library programs (λ f around program code values. fail fault.Depth) running
calls does answers library programs (suc depth) running =
    call_value does answers library programs (λ f around program code values.
    run_body (setting_with does answers library f.file program
    (calls does answers library programs depth (f ∷ running))) around code values) running

-- what stands round the statements of a file where so many calls more may run
abbrev pub setting : {H : Type 0}
    → Meaning H HostCall
    → Table
    → Rows
    → List Program
    → ℕ
    → Program
    → ℕ
    → List Running
    → Setting H
setting does answers library programs file program depth running =
    setting_with does answers library file program
    (calls does answers library programs depth running)

abbrev pub ended : {H : Type 0} → Res H Val → Outcome H
ended (Gives value world host) = Done value world host
ended (Stops outcome) = outcome

-- what the run of a file means
abbrev pub file_meaning : {H : Type 0}
    → Meaning H HostCall
    → Table
    → Rows
    → List Program
    → ℕ
    → Program
    → World
    → H
    → Outcome H
file_meaning does answers library programs file program world host =
    ended (flow_value (body_meaning program.tree.body
    (setting does answers library programs file program MOST_CALLS []) world host))

-- what a call of a value from outside means
abbrev pub call_meaning : {H : Type 0}
    → Meaning H HostCall
    → Table
    → Rows
    → List Program
    → Val
    → List Val
    → World
    → H
    → Outcome H
call_meaning does answers library programs f values world host =
    ended (calls does answers library programs MOST_CALLS [] f (by_position values) world host)
