-- Calls do what they mean, however many more may run; and so does a file.
use Rattle.std.proofs.Common.{◌≡◌, ◌∙◌, ap, refl, sym, subst, arith, ℕ, zero, suc, ◌+◌, ◌≤◌, Bool, true}
use Rattle.std.proofs.Common.{false, nat_lt, if◌then◌else◌, List, [], ◌∷◌, length, map, Option, Some}
use Rattle.std.proofs.Common.{None, slice_get, reverse, ◌++◌}
use Rattle.std.proofs.lemmas.Bool.{lt-leb, lt-ltb, ltb-false}
use Rattle.std.proofs.lemmas.Option.{slice_get_past}
use Rattle.star_code.specs.Codes.{BodyCode, BothCoded, FileCoded, FilesCoded, FnCoded, MakeCode}
use Rattle.star_code.specs.Codes.{PairCoded, Tables, from_function, tables_of}
use Rattle.star_code.specs.declared.code.Code.{Code}
use Rattle.star_code.specs.declared.code.FnEntry.{FnEntry}
use Rattle.star_code.specs.declared.code.Instr.{Instr}
use Rattle.star_code.specs.declared.code.Instr.TheVariants as instr
use Rattle.star_core.specs.Conditions.{printed_name}
use Rattle.star_core.specs.Hosts.{HostCall, Meaning, Method}
use Rattle.star_core.specs.Stacks.{taken}
use Rattle.star_core.specs.Tables.{Table}
use Rattle.star_core.specs.declared.faults.Fault.TheVariants as fault
use Rattle.star_core.specs.declared.values.Args.{Args}
use Rattle.star_core.specs.declared.values.Val.{Val}
use Rattle.star_core.specs.declared.values.Val.TheVariants as val
use Rattle.star_machine.specs.Configs.{Behind, Caller, Config, Onward, block_of, or_nothing}
use Rattle.star_machine.specs.Steps.{after, called, defaulted_of, defined_of, entered, entered_if}
use Rattle.star_machine.specs.Steps.{entered_of, faults, function_entry, library_if, perform, pushed}
use Rattle.star_machine.specs.Steps.{returned, waiting}
use Rattle.star_meaning.specs.Arguments.{by_position, no_args}
use Rattle.star_meaning.specs.Attributes.{Callee, Defined, Nothing, OfHost, OfLibrary, callee_of}
use Rattle.star_meaning.specs.Calls.{Run as BodyRun, back, bare_setting, body_value, call_callee}
use Rattle.star_meaning.specs.Calls.{call_code, call_in, call_meaning, call_value, calls, ended}
use Rattle.star_meaning.specs.Calls.{file_meaning, flow_value, given_by, is_running, library_call}
use Rattle.star_meaning.specs.Calls.{library_if as meant_if, run_body, run_if, running_of, setting}
use Rattle.star_meaning.specs.Calls.{setting_with, value_of}
use Rattle.star_meaning.specs.Expressions.{Program, Setting, closure, functions_made, made_with}
use Rattle.star_meaning.specs.Expressions.{meaning}
use Rattle.star_meaning.specs.Libraries.{Rows}
use Rattle.star_meaning.specs.Loops.{Flow}
use Rattle.star_meaning.specs.Parameters.{bound, defaults_of, formal_of}
use Rattle.star_meaning.specs.Results.{Done, Gives, M, Outcome, Res, Stops, each, fail, lift}
use Rattle.star_meaning.specs.Statements.{body_meaning}
use Rattle.star_meaning.specs.Worlds.{Work, World, line_of, on_heap, opened}
use Rattle.star_meaning.specs.declared.reasons.Closure.{Closure}
use Rattle.star_meaning.specs.declared.reasons.Exit.{Exit}
use Rattle.star_meaning.specs.declared.reasons.Exit.TheVariants as exit
use Rattle.star_meaning.specs.declared.reasons.Running.{Running}
use Rattle.star_meaning.specs.declared.reasons.TheConstants.{MOST_CALLS}
use Rattle.star_runs.proofs.Combine.{Leads, Run, after_leads, bind_runs, conf, finish, last_leads}
use Rattle.star_runs.proofs.Combine.{leaves, step}
use Rattle.star_runs.proofs.ExprRuns.{CallServes, ExprServes, MakesServe, called_performed}
use Rattle.star_runs.proofs.ExprRuns.{expr_serves, exprs_serve, kind_serves_value, many_leads}
use Rattle.star_runs.proofs.ExprRuns.{reply_leads}
use Rattle.star_runs.proofs.Instructions.{call_step, def_step, defaults_step, return_step}
use Rattle.star_runs.proofs.StmtRuns.{stmts_serve}
use Rattle.star_runs.proofs.Tops.{taken_top}
use Rattle.star_runs.specs.Runs.{call_begun, call_wanted, instructed, method_wanted, went}
use Rattle.star_trees.specs.declared.files.FnBody.{FnBody}
use Rattle.star_trees.specs.declared.files.FnCode.{FnCode}

module _ {H : Type 0} (does : Meaning H HostCall) (library : Rows) (codes : List Code)
    (answers : Table) where
  abbrev RunTo : Config → H → Outcome H → Type 0
  RunTo = Run does library codes answers

  there_of : (file : ℕ) (this : Code)
      → slice_get codes file ≡ Some this
      → (block : ℕ) (code : List Instr)
      → slice_get this.blocks block ≡ Some code
      → block_of codes file block ≡ code
  unfolding block_of
  there_of file this here block code there = rw here (ap or_nothing there)

  entry_of : (file function : ℕ) (this : Code)
      → slice_get codes file ≡ Some this
      → function_entry codes file function ≡ slice_get this.functions function
  unfolding function_entry
  entry_of file function this here = rw here refl

  no_entry : (file function : ℕ)
      → slice_get codes file ≡ None
      → function_entry codes file function ≡ None
  unfolding function_entry
  no_entry file function here = rw here refl

  library_leads : (calls_back : Bool) (work : World → Work Val) (config : Config)
      (below : List Val) (host : H) (K : Val → World → H → Outcome H)
      → ((value : Val) (world : World)
      → Leads does library codes answers (went (pushed config below value world) host)
      (K value world host))
      → Leads does library codes answers
      (went (library_if calls_back (after (work config.world) (pushed config below)) config) host)
      (finish (meant_if calls_back (lift work) config.world host) K)
  library_leads true work config below host K next = refl
  library_leads false work config below host K next =
      last_leads does library codes answers (work config.world) (pushed config below) host K next

  flow_runs : (r : Res H Flow) (K : Val → World → H → Outcome H) (config : Config) (host : H)
      → RunTo config host (finish r (λ flow w h. K (value_of flow) w h))
      → RunTo config host (finish (flow_value r) K)
  flow_runs (Gives flow w h) K config host runs = runs
  flow_runs (Stops outcome) K config host runs = runs

  back_runs : (caller : World) (r : Res H Val) (K : Val → World → H → Outcome H) (config : Config)
      (host : H)
      → RunTo config host (finish r (λ v w h.
      K v (record w { scope = caller.scope; place = caller.place }) h))
      → RunTo config host (finish (back caller r) K)
  back_runs caller (Gives v w h) K config host runs = runs
  back_runs caller (Stops outcome) K config host runs = runs

  ended_runs : (r : Res H Val) (config : Config) (host : H)
      → RunTo config host (finish r Done)
      → RunTo config host (ended r)
  ended_runs (Gives v w h) config host runs = runs
  ended_runs (Stops outcome) config host runs = runs

  -- making a function, whose defaults are evaluated first
  module _ (file : ℕ) (running : List Running) (program : Program) (this : Code)
      (here : slice_get codes file ≡ Some this) (coded : FileCoded program this)
      (call : Val → Args → M H Val) (calls_serve : CallServes does library codes answers file running call)
    where
      abbrev bare : Setting H
      bare = bare_setting does answers library file program call

      abbrev tables_from : ℕ → Tables
      tables_from least = from_function least (tables_of this program.literals)

      abbrev Makes : ℕ → (ℕ → M H Val) → Type 0
      Makes least make = MakesServe does library codes answers file running (tables_from least) make

      abbrev Serves : List Instr → List Instr → M H Val → Type 0
      Serves is rest m = ExprServes does library codes answers file running is rest m

      no_entry_here : (function : ℕ) (tree : Option FnCode) (entry : Option FnEntry)
          → tree ≡ None
          → BothCoded (tables_of this program.literals) function tree entry
          → entry ≡ None
      no_entry_here function None None none both = refl
      no_entry_here function None (Some entry) none both = absurd both
      no_entry_here function (Some tree) entry none both = absurd (cc)

      one_later : (count least function : ℕ)
          → length program.tree.functions ≤ suc count + least
          → nat_lt function least ≡ false
          → length program.tree.functions ≤ count + suc function
      one_later count least function fits may =
          omega (arith, fits, ltb-false function least may)

      past_all : (least function : ℕ)
          → length program.tree.functions ≤ 0 + least
          → nat_lt function least ≡ false
          → slice_get program.tree.functions function ≡ None
      past_all least function fits may =
          slice_get_past program.tree.functions function
          (omega (arith, fits, ltb-false function least may))

      none_leads : (function : ℕ)
          → slice_get this.functions function ≡ None
          → (rest : List Instr)
          → Serves (instr.Defaults function ∷ instr.Def function ∷ rest) rest (fail fault.Kind)
      none_leads function at rest =
          record {
            runs = λ stack onward callers world host K next.
                defaults_step does library codes answers file running (instr.Def function ∷ rest) stack
                onward callers world host _ function
                (subst (λ o. Leads does library codes answers (went (defaulted_of codes o
                (conf file running (instr.Def function ∷ rest) stack onward callers world)) host)
                (finish (fail {A = Val} fault.Kind world host) K))
                (sym (entry_of file function this here ∙ at)) refl);
          }

      made_leads : (function : ℕ) (make : ℕ → M H Val) (makes : Makes (suc function) make)
          (tree : Option FnCode) (entry : Option FnEntry)
          → slice_get this.functions function ≡ entry
          → BothCoded (tables_of this program.literals) function tree entry
          → (rest : List Instr)
          → Serves (instr.Defaults function ∷ instr.Def function ∷ rest) rest
          (made_with function tree (record bare { make = make }))
      made_leads function make makes None None at both rest = none_leads function at rest
      made_leads function make makes None (Some entry) at both rest = absurd both
      made_leads function make makes (Some tree) None at both rest = absurd both
      made_leads function make makes (Some tree) (Some entry) at both rest =
          record {
            runs = λ stack onward callers world host K next.
                defaults_step does library codes answers file running (instr.Def function ∷ rest) stack
                onward callers world host _ function
                (subst (λ o. Leads does library codes answers (went (defaulted_of codes o
                (conf file running (instr.Def function ∷ rest) stack onward callers world)) host)
                (finish (made_with function (Some tree) (record bare { make = make }) world host) K))
                (sym (entry_of file function this here ∙ at))
                (subst (λ b. RunTo (conf file running b stack
                (Behind (instr.Def function ∷ rest) ∷ onward) callers world) host
                (finish (made_with function (Some tree) (record bare { make = make }) world host) K))
                (sym (there_of file this here entry.defaults both.defaults both.defaults_there))
                (bind_runs does library codes answers
                (each (map (λ default. default.value (record bare { make = make }))
                (map meaning (defaults_of tree.params))) world host)
                (λ defaults. lift (closure file function (printed_name tree.name) defaults)) K _ host
                ((exprs_serve does library codes answers file running program this here call
                calls_serve (suc function) make makes both.on_defaults).runs stack
                (Behind (instr.Def function ∷ rest) ∷ onward) callers world host _ (λ vs w h long.
                step does library codes answers _ h _
                (def_step does library codes answers file running rest (reverse vs ++ stack) onward
                callers w h _ function
                (subst (λ o. Leads does library codes answers (went (defined_of function o
                (conf file running rest (reverse vs ++ stack) onward callers w)) h)
                (finish (lift (closure file function (printed_name tree.name) vs) w h) K))
                (sym (entry_of file function this here ∙ at))
                (rw (both.name)
                (many_leads does library codes answers file running
                (conf file running rest (reverse vs ++ stack) onward callers w)
                (taken entry.optional [] (reverse vs ++ stack)) vs stack
                (λ defaults below. after (closure file function (printed_name tree.name) defaults w)
                (pushed (conf file running rest (reverse vs ++ stack) onward callers w) below)) h _
                (taken_top entry.optional vs stack (long ∙ sym both.optional))
                (last_leads does library codes answers
                (closure file function (printed_name tree.name) vs w)
                (pushed (conf file running rest (reverse vs ++ stack) onward callers w) stack) h K
                (λ v w2. next v w2 h)))))))))));
          }

      refused_make : (function : ℕ) (rest : List Instr) (m : M H Val)
          → m ≡ fail fault.Kind
          → Serves (instr.NotAssignable ∷ rest) rest m
      refused_make function rest m is =
          subst (λ x. Serves (instr.NotAssignable ∷ rest) rest x) (sym is)
          (kind_serves_value does library codes answers file running rest)

      make_serves : (count least : ℕ)
          → length program.tree.functions ≤ count + least
          → {function : ℕ} {rest is : List Instr}
          → MakeCode (tables_from least) function rest is
          → Serves is rest (functions_made count least bare function)
      unfolding functions_made
      make_serves zero least fits {function} {rest} (MakeCode.may may) =
          none_leads function (no_entry_here function (slice_get program.tree.functions function)
          (slice_get this.functions function) (past_all least function fits may)
          (coded.functions function)) rest
      make_serves zero least fits {function} {rest} (MakeCode.may_not may_not) =
          refused_make function rest _ refl
      make_serves (suc count) least fits {function} {rest} (MakeCode.may may) =
          subst (λ b. Serves (instr.Defaults function ∷ instr.Def function ∷ rest) rest
          (if b then fail fault.Kind
          else made_with function (slice_get program.tree.functions function)
          (record bare { make = functions_made count (suc function) bare }))) (sym may)
          (made_leads function (functions_made count (suc function) bare)
          (record {
            serves = λ {function} {rest} {is} on_make.
                make_serves count (suc _) (one_later count least _ fits may) on_make;
          })
          (slice_get program.tree.functions function) (slice_get this.functions function) refl
          (coded.functions function) rest)
      make_serves (suc count) least fits {function} {rest} (MakeCode.may_not may_not) =
          refused_make function rest _ (ap (λ b. if b then fail fault.Kind
          else made_with function (slice_get program.tree.functions function)
          (record bare { make = functions_made count (suc function) bare })) may_not)

      pub file_makes : Makes 0 (functions_made (length program.tree.functions) 0 bare)
      file_makes =
          record {
            serves = λ {function} {rest} {is} on_make.
                make_serves (length program.tree.functions) 0 (omega arith) on_make;
          }

  -- a body of a function, from its block's beginning to what its caller does with its value
  body_runs : (file : ℕ) (running : List Running) (program : Program) (this : Code)
      (here : slice_get codes file ≡ Some this) (coded : FileCoded program this)
      (call : Val → Args → M H Val)
      → CallServes does library codes answers file running call
      → (of : FnBody) (block : List Instr)
      → BodyCode (from_function 0 (tables_of this program.literals)) of block
      → (callers : List Caller) (world : World) (host : H) (K : Val → World → H → Outcome H)
      → ((v : Val) (out : Exit) (stack : List Val) (w : World) (h : H)
      → Leads does library codes answers
      (went (returned v callers (leaves file running out stack [] callers w)) h) (K v w h))
      → RunTo (conf file running block [] [] callers world) host
      (finish (body_value of (setting_with does answers library file program call) world host) K)
  body_runs file running program this here coded call calls_serve of block (BodyCode.block {stmts} {code}
      on_stmts) callers world host K next =
      flow_runs (body_meaning stmts (setting_with does answers library file program call) world host) K _ host
      ((stmts_serve does library codes answers file running program this here call calls_serve 0
      (functions_made (length program.tree.functions) 0
      (bare_setting does answers library file program call))
      (file_makes file running program this here coded call calls_serve) on_stmts).runs [] [] callers world host (λ flow w h. K (value_of flow) w h) (record {
        next = λ w h. step does library codes answers _ h _ (step does library codes answers _ h _
            (next val.None (exit.Return val.None) [] w h));
        left = λ out w h. step does library codes answers _ h _ (next (given_by out) out [] w h);
      }))
  body_runs file running program this here coded call calls_serve of block (BodyCode.value {of = value} {code}
      on_value) callers world host K next =
      (expr_serves does library codes answers file running program this here call calls_serve 0
      (functions_made (length program.tree.functions) 0
      (bare_setting does answers library file program call))
      (file_makes file running program this here coded call calls_serve) on_value).runs [] [] callers world host K (λ v w h.
      return_step does library codes answers file running [] (v ∷ []) [] callers w h _
      (step does library codes answers _ h _ (next v (exit.Return v) [] w h)))

  -- how a body is run where its function may be called
  record RunServes (file : ℕ) (running : List Running) (run : BodyRun H) : Type 0 where
    serves : (f : Closure) (program : Program) (this : Code)
        → slice_get codes f.file ≡ Some this
        → FileCoded program this
        → (tree : FnCode) (entry : FnEntry)
        → FnCoded (tables_of this program.literals) f.function tree entry
        → (values stack below : List Val) (rest : List Instr) (onward : List Onward)
        (callers : List Caller) (world : World) (host : H) (K : Val → World → H → Outcome H)
        → ((v : Val) (w : World) (h : H)
        → RunTo (conf file running rest (v ∷ below) onward callers w) h (K v w h))
        → Leads does library codes answers (went (if nat_lt (length running) MOST_CALLS
        then entered codes f entry.block values below
        (conf file running rest stack onward callers world)
        else faults fault.Depth (conf file running rest stack onward callers world)) host)
        (finish (run (running_of f) f.around program tree values world host) K)

  module _ (file : ℕ) (running : List Running) (run : BodyRun H) (runs : RunServes file running run)
    where
      bound_leads : (f : Closure) (program : Program) (this : Code)
          → slice_get codes f.file ≡ Some this
          → FileCoded program this
          → (tree : FnCode) (entry : FnEntry)
          → FnCoded (tables_of this program.literals) f.function tree entry
          → (runs_already : Bool)
          → (values stack below : List Val) (rest : List Instr) (onward : List Onward)
          (callers : List Caller) (world : World) (host : H) (K : Val → World → H → Outcome H)
          → ((v : Val) (w : World) (h : H)
          → RunTo (conf file running rest (v ∷ below) onward callers w) h (K v w h))
          → Leads does library codes answers (went (if runs_already
          then faults fault.Recursion (conf file running rest stack onward callers world)
          else (if nat_lt (length running) MOST_CALLS
          then entered codes f entry.block values below
          (conf file running rest stack onward callers world)
          else faults fault.Depth (conf file running rest stack onward callers world))) host)
          (finish ((if runs_already
          then fail fault.Recursion
          else run (running_of f) f.around program tree values) world host) K)
      bound_leads f program this here coded tree entry on_entry true values stack below rest onward
          callers world host K next = refl
      bound_leads f program this here coded tree entry on_entry false values stack below rest onward
          callers world host K next =
          runs.serves f program this here coded tree entry on_entry values stack below rest onward callers
          world host K next

      code_leads : (f : Closure) (defaults : List Val) (program : Program) (this : Code)
          → slice_get codes f.file ≡ Some this
          → FileCoded program this
          → (tree : Option FnCode) (entry : Option FnEntry)
          → BothCoded (tables_of this program.literals) f.function tree entry
          → (args : Args) (stack below : List Val) (rest : List Instr) (onward : List Onward)
          (callers : List Caller) (world : World) (host : H) (K : Val → World → H → Outcome H)
          → ((v : Val) (w : World) (h : H)
          → RunTo (conf file running rest (v ∷ below) onward callers w) h (K v w h))
          → Leads does library codes answers (went (entered_of library codes f defaults entry args
          below (conf file running rest stack onward callers world)) host)
          (finish (call_code library run running f defaults program tree args world host) K)
      code_leads f defaults program this here coded None None both args stack below rest onward callers
          world host K next = refl
      code_leads f defaults program this here coded None (Some entry) both args stack below rest onward
          callers world host K next = absurd both
      code_leads f defaults program this here coded (Some tree) None both args stack below rest onward
          callers world host K next = absurd both
      code_leads f defaults program this here coded (Some tree) (Some entry) both args stack below rest
          onward callers world host K next =
          subst (λ formals. Leads does library codes answers (went (after
          (on_heap (bound library formals defaults args) world)
          (λ values w. entered_if codes f entry values below
          (conf file running rest stack onward callers w))) host)
          (finish (call_code library run running f defaults program (Some tree) args world host) K))
          (sym both.params)
          (after_leads does library codes answers
          (on_heap (bound library (map formal_of tree.params) defaults args) world)
          (λ values w. entered_if codes f entry values below
          (conf file running rest stack onward callers w))
          (λ values. run_if run running f program tree values) host K
          (λ values w. bound_leads f program this here coded tree entry both
          (is_running (running_of f) running) values stack below rest onward callers w host K next))

      program_leads : (f : Closure) (defaults : List Val) (program : Option Program)
          (found : Option Code)
          → slice_get codes f.file ≡ found
          → PairCoded program found
          → (args : Args) (stack below : List Val) (rest : List Instr) (onward : List Onward)
          (callers : List Caller) (world : World) (host : H) (K : Val → World → H → Outcome H)
          → ((v : Val) (w : World) (h : H)
          → RunTo (conf file running rest (v ∷ below) onward callers w) h (K v w h))
          → Leads does library codes answers (went (entered_of library codes f defaults
          (function_entry codes f.file f.function) args below
          (conf file running rest stack onward callers world)) host)
          (finish (call_in library run running f defaults program args world host) K)
      program_leads f defaults None None is both args stack below rest onward callers world host K next =
          rw (no_entry f.file f.function is) refl
      program_leads f defaults None (Some this) is both args stack below rest onward callers world host K
          next = absurd both
      program_leads f defaults (Some program) None is both args stack below rest onward callers world host
          K next = absurd both
      program_leads f defaults (Some program) (Some this) is both args stack below rest onward callers
          world host K next =
          subst (λ o. Leads does library codes answers (went (entered_of library codes f defaults o args
          below (conf file running rest stack onward callers world)) host)
          (finish (call_in library run running f defaults (Some program) args world host) K))
          (sym (entry_of f.file f.function this is))
          (code_leads f defaults program this is both (slice_get program.tree.functions f.function)
          (slice_get this.functions f.function) (both.functions f.function) args stack below rest
          onward callers world host K next)

      callee_leads : (programs : List Program)
          → FilesCoded programs codes
          → (callee : Callee) (f : Val) (args gathered : Args) (i : Instr) (below stack : List Val)
          (rest : List Instr) (onward : List Onward) (callers : List Caller) (world : World) (host : H)
          (K : Val → World → H → Outcome H)
          → perform library codes i
          (record (conf file running rest stack onward callers world) { gathered = gathered })
          ≡ called library codes f callee args below
          (conf file running rest stack onward callers world)
          → ((v : Val) (w : World) (h : H)
          → RunTo (conf file running rest (v ∷ below) onward callers w) h (K v w h))
          → Leads does library codes answers (instructed does library codes answers
          (method_wanted callee args world.place below) i
          (record (conf file running rest stack onward callers world) { gathered = gathered }) host)
          (finish (call_callee does answers library programs run running f callee args world host) K)
      callee_leads programs coded (OfHost object method) f args gathered i below stack rest onward callers
          world host K is next =
          reply_leads does library codes answers file running
          (does host world.heap (Method object method args (line_of world.place)) answers) gathered rest
          stack below onward callers world K next
      callee_leads programs coded (Defined closure defaults) f args gathered i below stack rest onward
          callers world host K is next =
          subst (λ to. Leads does library codes answers (went to host)
          (finish (call_in library run running closure defaults (slice_get programs closure.file) args
          world host) K)) (sym is)
          (program_leads closure defaults (slice_get programs closure.file)
          (slice_get codes closure.file) refl (coded.each closure.file) args stack below rest onward
          callers world host K next)
      callee_leads programs coded OfLibrary f args gathered i below stack rest onward callers world host K
          is next =
          subst (λ to. Leads does library codes answers (went to host)
          (finish (library_call library f args world host) K)) (sym is)
          (library_leads (library.calls_back f args world.heap) (on_heap (library.call f args))
          (conf file running rest stack onward callers world) below host K
          (λ v w. next v w host))
      callee_leads programs coded Nothing f args gathered i below stack rest onward callers world host K is
          next =
          subst (λ to. Leads does library codes answers (went to host)
          (finish (fail {A = Val} fault.Kind world host) K)) (sym is) refl

      calls_serve_with : (programs : List Program)
          → FilesCoded programs codes
          → CallServes does library codes answers file running
          (call_value does answers library programs run running)
      calls_serve_with programs coded =
          record {
            serves = λ f args gathered i below stack rest onward callers world host K is next.
                callee_leads programs coded (callee_of world.heap f) f args gathered i below stack rest
                onward callers world host K is next;
          }

  not_below : (count : ℕ) → count + 0 ≡ MOST_CALLS → nat_lt count MOST_CALLS ≡ false
  not_below count fit = lt-leb (suc count) MOST_CALLS (omega arith)

  below_most : (count depth : ℕ) → count + suc depth ≡ MOST_CALLS → nat_lt count MOST_CALLS ≡ true
  below_most count depth fit = lt-ltb count MOST_CALLS (omega arith)

  -- no call more may run
  none_serve : (file : ℕ) (running : List Running)
      → length running + 0 ≡ MOST_CALLS
      → RunServes file running (λ f around program code values. fail fault.Depth)
  none_serve file running fit =
      record {
        serves = λ f program this here coded tree entry on_entry values stack below rest onward callers
            world host K next. rw (not_below (length running) fit) refl;
      }

  -- bodies of which it is known what their calls do
  bodies_serve : (file : ℕ) (running : List Running) (depth : ℕ)
      → length running + suc depth ≡ MOST_CALLS
      → (call : Running → Val → Args → M H Val)
      → ((callee : ℕ) (f : Running)
      → CallServes does library codes answers callee (f ∷ running) (call f))
      → RunServes file running (λ f around program code values. run_body
      (setting_with does answers library f.file program (call f)) around code values)
  bodies_serve file running depth fit call serve =
      record {
        serves = λ f program this here coded tree entry on_entry values stack below rest onward callers
            world host K next.
            rw (
              below_most (length running) depth fit,
              there_of f.file this here entry.block on_entry.block on_entry.there,
            )
            (back_runs world (body_value tree.body
            (setting_with does answers library f.file program (call (running_of f)))
            (opened f.around values world) host) K _ host
            (body_runs f.file (running_of f ∷ running) program this here coded (call (running_of f))
            (serve f.file (running_of f)) tree.body on_entry.block on_entry.body
            (waiting (conf file running rest stack onward callers world) below ∷ callers)
            (opened f.around values world) host
            (λ v w h. K v (record w { scope = world.scope; place = world.place }) h)
            (λ v out st w h. next v (record w { scope = world.scope; place = world.place }) h)));
      }

  one_more : (f : Running) (running : List Running) (depth : ℕ)
      → length running + suc depth ≡ MOST_CALLS
      → length (f ∷ running) + depth ≡ MOST_CALLS
  one_more f running depth fit = omega (arith, fit)

  -- calls, however many more may run
  pub calls_serve : (programs : List Program)
      → FilesCoded programs codes
      → (depth file : ℕ) (running : List Running)
      → length running + depth ≡ MOST_CALLS
      → CallServes does library codes answers file running
      (calls does answers library programs depth running)
  unfolding calls
  calls_serve programs coded zero file running fit =
      calls_serve_with file running (λ f around program code values. fail fault.Depth)
      (none_serve file running fit) programs coded
  calls_serve programs coded (suc depth) file running fit =
      calls_serve_with file running _
      (bodies_serve file running depth fit
      (λ f. calls does answers library programs depth (f ∷ running))
      (λ callee f. calls_serve programs coded depth callee (f ∷ running)
      (one_more f running depth fit))) programs coded

  -- a machine at the beginning of a file's code comes to what the file means
  pub file_runs : (programs : List Program)
      → FilesCoded programs codes
      → (number : ℕ) (program : Program) (this : Code)
      → slice_get codes number ≡ Some this
      → FileCoded program this
      → (world : World) (host : H)
      → RunTo (conf number [] (block_of codes number this.top) [] [] [] world) host
      (file_meaning does answers library programs number program world host)
  file_runs programs coded number program this here on_file world host =
      rw (there_of number this here this.top on_file.block on_file.there)
      (ended_runs (flow_value (body_meaning program.tree.body
      (setting does answers library programs number program MOST_CALLS []) world host)) _ host
      (flow_runs (body_meaning program.tree.body
      (setting does answers library programs number program MOST_CALLS []) world host) Done _ host
      ((stmts_serve does library codes answers number [] program this here
      (calls does answers library programs MOST_CALLS [])
      (calls_serve programs coded MOST_CALLS number [] refl) 0
      (functions_made (length program.tree.functions) 0
      (bare_setting does answers library number program
      (calls does answers library programs MOST_CALLS [])))
      (file_makes number [] program this here on_file
      (calls does answers library programs MOST_CALLS [])
      (calls_serve programs coded MOST_CALLS number [] refl)) on_file.body).runs [] [] [] world host
      (λ flow w h. Done (value_of flow) w h) (record {
        next = λ w h. step does library codes answers _ h _
            (step does library codes answers _ h _ refl);
        left = λ out w h. step does library codes answers _ h _ refl;
      }))))

  -- a machine before a call from outside comes to what the call means
  pub call_runs : (programs : List Program)
      → FilesCoded programs codes
      → (number : ℕ) (f : Val) (values : List Val) (world : World) (host : H)
      → RunTo (call_begun number f values world) host
      (call_meaning does answers library programs f values world host)
  call_runs programs coded number f values world host =
      ended_runs (calls does answers library programs MOST_CALLS [] f (by_position values) world host) _
      host
      (call_step does library codes answers number [] (instr.Return ∷ [])
      (reverse values ++ (f ∷ [])) [] [] world host _ (length values)
      (subst (λ o. Leads does library codes answers (instructed does library codes answers
      (call_wanted o (conf number [] (instr.Return ∷ []) (reverse values ++ (f ∷ [])) [] [] world))
      (instr.Call (length values))
      (conf number [] (instr.Return ∷ []) (reverse values ++ (f ∷ [])) [] [] world) host)
      (finish (calls does answers library programs MOST_CALLS [] f (by_position values) world host)
      Done)) (sym (taken_top (length values) values (f ∷ []) refl))
      ((calls_serve programs coded MOST_CALLS number [] refl).serves f (by_position values) no_args
      (instr.Call (length values)) [] (reverse values ++ (f ∷ [])) (instr.Return ∷ []) [] [] world host
      Done
      (called_performed does library codes answers number [] (length values) values []
      (reverse values ++ (f ∷ [])) f (instr.Return ∷ []) [] [] world
      (taken_top (length values) values (f ∷ []) refl))
      (λ v w h. return_step does library codes answers number [] [] (v ∷ []) [] [] w h _
      (step does library codes answers _ h _ refl)))))
