-- The code of a statement does what the statement means, whatever comes behind it.
use Rattle.std.proofs.Common.{◌≡◌, refl, sym, subst, ℕ, Bool, true, false}
use Rattle.std.proofs.Common.{cond, List, [], ◌∷◌, map, Option, Some, None}
use Rattle.std.proofs.Common.{slice_get, option_map, Result, Ok, Err}
use Rattle.star_code.specs.Codes.{AugmentCode, ExprCode, KindCode, StmtCode, StmtsCode}
use Rattle.star_code.specs.Codes.{Tables, TargetCode, from_function, tables_of}
use Rattle.star_code.specs.declared.code.Code.{Code}
use Rattle.star_code.specs.declared.code.Instr.{Instr}
use Rattle.star_code.specs.declared.code.Instr.TheVariants as instr
use Rattle.star_core.specs.Heaps.{unwalked, walked}
use Rattle.star_core.specs.Hosts.{HostCall, Meaning}
use Rattle.star_core.specs.Tables.{Table}
use Rattle.star_core.specs.declared.faults.Fault.{Fault}
use Rattle.star_core.specs.declared.faults.Fault.TheVariants as fault
use Rattle.star_core.specs.declared.values.Args.{Args}
use Rattle.star_core.specs.declared.values.Val.{Val}
use Rattle.star_library.specs.Kinds.{items_of}
use Rattle.star_machine.specs.Configs.{Behind, Caller, Doing, Leaves, Onward, Runs, Turns}
use Rattle.star_machine.specs.Configs.{block_of}
use Rattle.star_machine.specs.Steps.{after, on_with, out_of_loop, put_some, turned}
use Rattle.star_meaning.specs.Expressions.{Program, Setting, assign_some}
use Rattle.star_meaning.specs.Expressions.{bound_meaning, in_setting, meaning, meanings}
use Rattle.star_meaning.specs.Expressions.{node, target_meaning}
use Rattle.star_meaning.specs.Arguments.{no_args}
use Rattle.star_meaning.specs.Libraries.{Rows}
use Rattle.star_meaning.specs.Results.{M, Outcome, ◌>>=◌, change_to, fail, lift, pure}
use Rattle.star_meaning.specs.Loops.{Flow, Left, Next, go_on, loop, then_next, turn_on, turns, unwalk}
use Rattle.star_meaning.specs.Loops.{walk}
use Rattle.star_meaning.specs.Statements.{StmtMeaning, augmented, in_turn, stmt_meaning}
use Rattle.star_meaning.specs.Statements.{stmt_meanings}
use Rattle.star_meaning.specs.Worlds.{Works, World, assigned, begin_at, of_result}
use Rattle.star_meaning.specs.Worlds.{on_heap, tick, truth, variable}
use Rattle.star_meaning.specs.declared.reasons.Exit.{Exit}
use Rattle.star_meaning.specs.declared.reasons.Exit.TheVariants as exit
use Rattle.star_meaning.specs.declared.reasons.Place.{Place}
use Rattle.star_meaning.specs.declared.reasons.Running.{Running}
use Rattle.star_runs.proofs.Combine.{Leads, Run, after_leads, bind_leads, bind_runs, conf, finish}
use Rattle.star_runs.proofs.Combine.{last_leads, leaves, step}
use Rattle.star_runs.proofs.ExprRuns.{CallServes, ExprServes, MakesServe, TargetServes}
use Rattle.star_runs.proofs.ExprRuns.{block_here, bound_serves, expr_serves, name_serves, name_target}
use Rattle.star_runs.proofs.ExprRuns.{target_serves}
use Rattle.star_runs.proofs.Instructions.{augment_index_step, augment_name_step, begin_step}
use Rattle.star_runs.proofs.Instructions.{break_step, continue_step, fetch_step, for_step, forget_step}
use Rattle.star_runs.proofs.Instructions.{if_step, not_assignable_step, return_step}
use Rattle.star_runs.proofs.Instructions.{tick_step}
use Rattle.star_runs.proofs.Places.{other_augment}
use Rattle.star_runs.specs.Runs.{went}
use Rattle.star_trees.proofs.Folds.{fold_expr-Index, fold_expr-Name, fold_kind-Assign}
use Rattle.star_trees.proofs.Folds.{fold_kind-Augment, fold_kind-Break, fold_kind-Continue}
use Rattle.star_trees.proofs.Folds.{fold_kind-Def, fold_kind-For, fold_kind-If, fold_kind-Load}
use Rattle.star_trees.proofs.Folds.{fold_kind-Pass, fold_kind-Return, fold_kind-Value, fold_stmt-roll}
use Rattle.star_trees.specs.Folds.{fold_kind}
use Rattle.star_trees.specs.declared.trees.BinOp.{BinOp}
use Rattle.star_trees.specs.declared.trees.Expr.{Expr}
use Rattle.star_trees.specs.declared.trees.Stmt.{Stmt}
use Rattle.star_trees.specs.declared.trees.StmtKind.{StmtKind}
use Rattle.star_trees.specs.declared.trees.Target.{Target}

module _ {H : Type 0} (does : Meaning H HostCall) (library : Rows) (codes : List Code)
    (answers : Table) (file : ℕ) (running : List Running) where
  abbrev At : List Instr → List Val → List Onward → List Caller → World → H → Outcome H → Type 0
  At is stack onward callers world host outcome =
      Run does library codes answers (conf file running is stack onward callers world) host outcome

  abbrev Serves : List Instr → List Instr → M H Val → Type 0
  Serves is rest m = ExprServes does library codes answers file running is rest m

  -- what goes on behind a statement, and where a loop or the function is left within it
  pub record GoesOn (rest : List Instr) (stack : List Val) (onward : List Onward)
      (callers : List Caller) (K : Flow → World → H → Outcome H) : Type 0 where
    pub next : (w : World) (h : H) → At rest stack onward callers w h (K Next w h)
    pub left : (out : Exit) (w : World) (h : H)
        → Run does library codes answers (leaves file running out stack onward callers w) h
        (K (Left out) w h)

  pub record StmtServes (is rest : List Instr) (m : M H Flow) : Type 0 where
    pub runs : (stack : List Val) (onward : List Onward) (callers : List Caller) (world : World)
        (host : H) (K : Flow → World → H → Outcome H)
        → GoesOn rest stack onward callers K
        → At is stack onward callers world host (finish (m world host) K)

  -- statements
  no_stmts : (rest : List Instr) → StmtServes rest rest (in_turn [])
  no_stmts rest = record { runs = λ stack onward callers world host K on. on.next world host }

  more_stmts : (is mid rest : List Instr) (first : M H Flow) (more : List (M H Flow))
      → StmtServes mid rest (in_turn more)
      → StmtServes is mid first
      → StmtServes is rest (in_turn (first ∷ more))
  more_stmts is mid rest first more on_more on_first =
      record {
        runs = λ stack onward callers world host K on.
            bind_runs does library codes answers (first world host)
            (λ flow. go_on flow (in_turn more)) K _ host
            (on_first.runs stack onward callers world host
            (λ flow w h. finish (go_on flow (in_turn more) w h) K)
            (record {
              next = λ w h. on_more.runs stack onward callers w h K on;
              left = λ out w h. on.left out w h;
            }));
      }

  block_runs : (block rest : List Instr) (m : M H Flow)
      → StmtServes block [] m
      → (stack : List Val) (onward : List Onward) (callers : List Caller) (world : World) (host : H)
      (K : Flow → World → H → Outcome H)
      → GoesOn rest stack onward callers K
      → At block stack (Behind rest ∷ onward) callers world host (finish (m world host) K)
  block_runs block rest m serves stack onward callers world host K on =
      serves.runs stack (Behind rest ∷ onward) callers world host K
      (record {
        next = λ w h. step does library codes answers _ h _ (on.next w h);
        left = λ out w h. step does library codes answers _ h _ (on.left out w h);
      })

  branch_runs : (counts : Bool) (chosen_at other_at : ℕ) (chosen_code other_code rest : List Instr)
      (chosen other : M H Flow)
      → block_of codes file chosen_at ≡ chosen_code
      → block_of codes file other_at ≡ other_code
      → StmtServes chosen_code [] chosen
      → StmtServes other_code [] other
      → (stack : List Val) (onward : List Onward) (callers : List Caller) (world : World) (host : H)
      (K : Flow → World → H → Outcome H)
      → GoesOn rest stack onward callers K
      → At (block_of codes file (cond counts chosen_at other_at)) stack (Behind rest ∷ onward) callers
      world host (finish (cond counts chosen other world host) K)
  branch_runs true chosen_at other_at chosen_code other_code rest chosen other is other_is on_chosen
      on_other stack onward callers world host K on =
      subst (λ b. At b stack (Behind rest ∷ onward) callers world host (finish (chosen world host) K))
      (sym is) (block_runs chosen_code rest chosen on_chosen stack onward callers world host K on)
  branch_runs false chosen_at other_at chosen_code other_code rest chosen other is other_is on_chosen
      on_other stack onward callers world host K on =
      subst (λ b. At b stack (Behind rest ∷ onward) callers world host (finish (other world host) K))
      (sym other_is) (block_runs other_code rest other on_other stack onward callers world host K on)

  -- the turns of a loop, whose walk ends with them
  abbrev unwalked_in : Val → World → World
  unwalked_in over w = record w { heap = unwalked over w.heap }

  record TurnsOn (over : Val) (rest : List Instr) (stack : List Val) (onward : List Onward)
      (callers : List Caller) (K : Flow → World → H → Outcome H) : Type 0 where
    next : (w : World) (h : H) → At rest stack onward callers (unwalked_in over w) h (K Next w h)
    left : (v : Val) (w : World) (h : H)
        → Run does library codes answers
        (leaves file running (exit.Return v) stack onward callers (unwalked_in over w)) h
        (K (Left (exit.Return v)) w h)

  out_leads : (body : List Instr) (m : M H Flow) (assign : Val → M H (Unit {0})) (items : List Val)
      (over : Val) (place : Option Place) (rest : List Instr) (stack : List Val)
      (onward before : List Onward) (callers : List Caller) (K : Flow → World → H → Outcome H)
      → TurnsOn over rest stack onward callers K
      → (out : Exit) (world : World) (host : H)
      → Leads does library codes answers (went (turned items over body place rest onward
      (leaves file running out stack before callers world)) host)
      (finish (turns place assign m items world host) K)
      → Leads does library codes answers (went (out_of_loop out items over body place rest onward
      (leaves file running out stack before callers world)) host)
      (finish (turn_on (Left out) (turns place assign m items) world host) K)
  out_leads body m assign items over place rest stack onward before callers K on (exit.Return v) world
      host again = on.left v world host
  out_leads body m assign items over place rest stack onward before callers K on exit.Break world host
      again = on.next world host
  out_leads body m assign items over place rest stack onward before callers K on exit.Continue world
      host again = again

  turns_lead : (body mid : List Instr) (m : M H Flow) (assign : Val → M H (Unit {0}))
      → StmtServes mid [] m
      → TargetServes does library codes answers file running body mid assign
      → (items : List Val) (over : Val) (place : Option Place) (doing : Doing) (rest : List Instr)
      (stack : List Val) (onward before : List Onward) (callers : List Caller) (world : World) (host : H)
      (K : Flow → World → H → Outcome H)
      → TurnsOn over rest stack onward callers K
      → Leads does library codes answers (went (turned items over body place rest onward (record {
        file = file;
        doing = doing;
        stack = stack;
        gathered = no_args;
        onward = before;
        callers = callers;
        running = running;
        world = world;
      })) host) (finish (turns place assign m items world host) K)
  turns_lead body mid m assign serves on_assign [] over place doing rest stack onward before callers
      world host K on = on.next world host
  turns_lead body mid m assign serves on_assign (v ∷ items) over place doing rest stack onward before
      callers world host K on =
      after_leads does library codes answers (begin_at place world) _
      (λ _. assign v >>= (λ _. m >>= (λ flow. turn_on flow (turns place assign m items)))) host K
      (λ _ w.
      bind_runs does library codes answers (assign v w host)
      (λ _. m >>= (λ flow. turn_on flow (turns place assign m items))) K _ host
      (on_assign.runs v stack (Turns items over body place rest ∷ onward) callers w host _ (λ w2 h2.
      bind_runs does library codes answers (m w2 h2)
      (λ flow. turn_on flow (turns place assign m items)) K _ h2
      (serves.runs stack (Turns items over body place rest ∷ onward) callers w2 h2
      (λ flow w3 h3. finish (turn_on flow (turns place assign m items) w3 h3) K)
      (record {
        next = λ w3 h3. step does library codes answers _ h3 _
            (turns_lead body mid m assign serves on_assign items over place (Runs []) rest stack
            onward (Turns items over body place rest ∷ onward) callers w3 h3 K on);
        left = λ out w3 h3. step does library codes answers _ h3 _
            (out_leads body m assign items over place rest stack onward
            (Turns items over body place rest ∷ onward) callers K on out w3 h3
            (turns_lead body mid m assign serves on_assign items over place (Leaves out) rest
            stack onward (Turns items over body place rest ∷ onward) callers w3 h3 K on));
      })))))

  abbrev walked_loop : Option Place → Val → (Val → M H (Unit {0})) → M H Flow → List Val → M H Flow
  walked_loop place over assign m items =
      walk over >>= (λ _. turns place assign m items >>= (λ flow. unwalk over >>= (λ _. pure flow)))

  items_lead : (items : Result (List Val) Fault) (block : ℕ) (body mid rest : List Instr)
      → block_of codes file block ≡ body
      → (m : M H Flow) (assign : Val → M H (Unit {0}))
      → StmtServes mid [] m
      → TargetServes does library codes answers file running body mid assign
      → (over : Val) (stack before : List Val) (onward : List Onward) (callers : List Caller)
      (world : World) (host : H) (K : Flow → World → H → Outcome H)
      → GoesOn rest stack onward callers K
      → Leads does library codes answers (went (after (of_result items world) (λ found w.
      turned found over (block_of codes file block) w.place rest onward
      (record (conf file running rest before onward callers world) {
        stack = stack;
        world = record w { heap = walked over w.heap };
      }))) host)
      (finish ((lift (λ w. of_result items w) >>= (λ found. walked_loop world.place over assign m found))
      world host) K)
  items_lead (Err why) block body mid rest is m assign serves on_assign over stack before onward callers
      world host K on = refl
  items_lead (Ok found) block body mid rest is m assign serves on_assign over stack before onward callers
      world host K on =
      bind_leads does library codes answers
      (turns world.place assign m found (record world { heap = walked over world.heap }) host)
      (λ flow. unwalk over >>= (λ _. pure flow)) K _
      (subst (λ b. Leads does library codes answers (went (turned found over b world.place rest onward
      (record (conf file running rest before onward callers world) {
        stack = stack;
        world = record world { heap = walked over world.heap };
      })) host) (finish (turns world.place assign m found
      (record world { heap = walked over world.heap }) host)
      (λ flow w2 h2. finish ((unwalk over >>= (λ _. pure flow)) w2 h2) K))) (sym is)
      (turns_lead body mid m assign serves on_assign found over world.place (Runs rest) rest stack
      onward onward callers (record world { heap = walked over world.heap }) host _
      (record {
        next = λ w2 h2. on.next (unwalked_in over w2) h2;
        left = λ v w2 h2. on.left (exit.Return v) (unwalked_in over w2) h2;
      })))

  loop_serves : (block : ℕ) (body mid is rest : List Instr) (over : M H Val)
      (assign : Val → M H (Unit {0})) (m : M H Flow)
      → block_of codes file block ≡ body
      → StmtServes mid [] m
      → TargetServes does library codes answers file running body mid assign
      → Serves is (instr.For block ∷ rest) over
      → StmtServes is rest (over >>= (λ value. loop value assign m))
  loop_serves block body mid is rest over assign m there serves on_assign on_over =
      record {
        runs = λ stack onward callers world host K on.
            bind_runs does library codes answers (over world host) (λ value. loop value assign m) K _ host
            (on_over.runs stack onward callers world host _ (λ v w h.
            for_step does library codes answers file running rest (v ∷ stack) onward callers w h _ block
            (items_lead (items_of w.heap v) block body mid rest there m assign serves on_assign v stack
            (v ∷ stack) onward callers w h K on)));
      }

  -- a statement that works on one value
  one_serves : (is rest : List Instr) (i : Instr) (value : M H Val) (m : Val → M H Flow)
      → Serves is (i ∷ rest) value
      → ((v : Val) (stack : List Val) (onward : List Onward) (callers : List Caller) (w : World) (h : H)
      (K : Flow → World → H → Outcome H)
      → GoesOn rest stack onward callers K
      → At (i ∷ rest) (v ∷ stack) onward callers w h (finish (m v w h) K))
      → StmtServes is rest (value >>= m)
  one_serves is rest i value m serves operate =
      record {
        runs = λ stack onward callers world host K on.
            bind_runs does library codes answers (value world host) m K _ host
            (serves.runs stack onward callers world host _
            (λ v w h. operate v stack onward callers w h K on));
      }

  target_stmt : (is mid rest : List Instr) (value : M H Val) (assign : Val → M H (Unit {0}))
      → TargetServes does library codes answers file running mid rest assign
      → Serves is mid value
      → StmtServes is rest (value >>= (λ v. then_next (assign v)))
  target_stmt is mid rest value assign on_assign on_value =
      record {
        runs = λ stack onward callers world host K on.
            bind_runs does library codes answers (value world host) (λ v. then_next (assign v)) K _ host
            (on_value.runs stack onward callers world host _ (λ v w h.
            bind_runs does library codes answers (assign v w h) (λ _. pure Next) K _ h
            (on_assign.runs v stack onward callers w h _ (λ w2 h2. on.next w2 h2))));
      }

  begin_serves : (is rest : List Instr) (line : ℕ) (m : M H Flow)
      → StmtServes is rest m
      → StmtServes (instr.Begin line ∷ is) rest
      (lift (begin_at (Some (record { file = file; line = line }))) >>= (λ _. m))
  begin_serves is rest line m serves =
      record {
        runs = λ stack onward callers world host K on.
            begin_step does library codes answers file running is stack onward callers world host _ line
            (after_leads does library codes answers
            (begin_at (Some (record { file = file; line = line })) world)
            (λ _ w. on_with (conf file running is stack onward callers world) stack w) (λ _. m) host K
            (λ _ w. serves.runs stack onward callers w host K on));
      }

  -- the value that an augmented assignment makes takes the place of the old one
  named_leads : (new : Option Val) (hops slot : ℕ) (rest : List Instr) (stack top : List Val)
      (onward : List Onward) (callers : List Caller) (world : World) (host : H)
      (K : Unit {0} → World → H → Outcome H)
      → ((w : World) (h : H) → At rest stack onward callers w h (K tt w h))
      → Leads does library codes answers (went (after (put_some
      (λ value there. Works tt (assigned hops slot value there)) new world)
      (λ _ w. on_with (conf file running rest top onward callers world) stack w)) host)
      (finish (assign_some (λ value. change_to (assigned hops slot value)) new world host) K)
  named_leads None hops slot rest stack top onward callers world host K next = next world host
  named_leads (Some value) hops slot rest stack top onward callers world host K next =
      next (assigned hops slot value world) host

  augment_name_serves : (op : BinOp) (hops slot : ℕ) (is rest : List Instr) (value : M H Val)
      → Serves is (instr.AugmentName op hops slot ∷ rest) value
      → StmtServes (instr.Name hops slot ∷ is) rest (then_next (node (lift (variable hops slot))
      >>= (λ old. (value >>= (λ by. lift (on_heap (augmented library op old by))))
      >>= (λ new. assign_some (λ v. change_to (assigned hops slot v)) new))))
  augment_name_serves op hops slot is rest value serves =
      record {
        runs = λ stack onward callers world host K on.
            bind_runs does library codes answers ((node (lift (variable hops slot))
            >>= (λ old. (value >>= (λ by. lift (on_heap (augmented library op old by))))
            >>= (λ new. assign_some (λ v. change_to (assigned hops slot v)) new))) world host)
            (λ _. pure Next) K _ host
            (bind_runs does library codes answers (node (lift (variable hops slot)) world host)
            (λ old. (value >>= (λ by. lift (on_heap (augmented library op old by))))
            >>= (λ new. assign_some (λ v. change_to (assigned hops slot v)) new)) _ _ host
            ((name_serves does library codes answers file running hops slot is).runs stack onward
            callers world host _ (λ old w h.
            bind_runs does library codes answers
            ((value >>= (λ by. lift (on_heap (augmented library op old by)))) w h)
            (λ new. assign_some (λ v. change_to (assigned hops slot v)) new) _ _ h
            (bind_runs does library codes answers (value w h)
            (λ by. lift (on_heap (augmented library op old by))) _ _ h
            (serves.runs (old ∷ stack) onward callers w h _ (λ by w2 h2.
            augment_name_step does library codes answers file running rest
            (by ∷ old ∷ stack) onward callers w2 h2 _ op hops slot
            (last_leads does library codes answers (on_heap (augmented library op old by) w2)
            _ h2 _ (λ new w3.
            named_leads new hops slot rest stack (by ∷ old ∷ stack) onward callers w3 h2 _
            (λ w4 h4. on.next w4 h4)))))))));
      }

  put_leads : (new : Option Val) (of at : Val) (rest : List Instr) (stack top : List Val)
      (onward : List Onward) (callers : List Caller) (world : World) (host : H)
      (K : Unit {0} → World → H → Outcome H)
      → ((w : World) (h : H) → At rest stack onward callers w h (K tt w h))
      → Leads does library codes answers (went (after (put_some
      (λ value. on_heap (library.set_index of at value)) new world)
      (λ _ w. on_with (conf file running rest top onward callers world) stack w)) host)
      (finish (assign_some (λ value. lift (on_heap (library.set_index of at value))) new world host) K)
  put_leads None of at rest stack top onward callers world host K next = next world host
  put_leads (Some value) of at rest stack top onward callers world host K next =
      last_leads does library codes answers (on_heap (library.set_index of at value) world) _ host K
      (λ _ w. next w host)

  abbrev augments : BinOp → M H Val → Val → Val → Val → M H (Unit {0})
  augments op value of at old =
      (value >>= (λ by. lift (on_heap (augmented library op old by))))
      >>= (λ new. assign_some (λ v. lift (on_heap (library.set_index of at v))) new)

  augment_index_serves : (op : BinOp) (is mid third rest : List Instr) (of at value : M H Val)
      → Serves third (instr.AugmentIndex op ∷ rest) value
      → Serves mid (instr.Fetch ∷ third) at
      → Serves is mid of
      → StmtServes (instr.Tick ∷ is) rest (then_next (node (of >>= (λ container. at >>= (λ place.
      lift (on_heap (library.index container place))
      >>= (λ old. augments op value container place old))))))
  augment_index_serves op is mid third rest of at value on_value on_at on_of =
      record {
        runs = λ stack onward callers world host K on.
            bind_runs does library codes answers (node (of >>= (λ container. at >>= (λ place.
            lift (on_heap (library.index container place))
            >>= (λ old. augments op value container place old)))) world host)
            (λ _. pure Next) K _ host
            (tick_step does library codes answers file running is stack onward callers world host _
            (after_leads does library codes answers (tick world)
            (λ _ w. on_with (conf file running is stack onward callers world) stack w)
            (λ _. of >>= (λ container. at >>= (λ place.
            lift (on_heap (library.index container place))
            >>= (λ old. augments op value container place old)))) host _ (λ _ w.
            bind_runs does library codes answers (of w host) (λ container. at >>= (λ place.
            lift (on_heap (library.index container place))
            >>= (λ old. augments op value container place old))) _ _ host
            (on_of.runs stack onward callers w host _ (λ container w2 h2.
            bind_runs does library codes answers (at w2 h2) (λ place.
            lift (on_heap (library.index container place))
            >>= (λ old. augments op value container place old)) _ _ h2
            (on_at.runs (container ∷ stack) onward callers w2 h2 _ (λ place w3 h3.
            fetch_step does library codes answers file running third
            (place ∷ container ∷ stack) onward callers w3 h3 _
            (after_leads does library codes answers
            (on_heap (library.index container place) w3) _
            (λ old. augments op value container place old) h3 _ (λ old w4.
            bind_runs does library codes answers
            ((value >>= (λ by. lift (on_heap (augmented library op old by)))) w4 h3)
            (λ new. assign_some (λ v. lift (on_heap (library.set_index container place v)))
            new) _ _ h3
            (bind_runs does library codes answers (value w4 h3)
            (λ by. lift (on_heap (augmented library op old by))) _ _ h3
            (on_value.runs (old ∷ place ∷ container ∷ stack) onward callers w4 h3 _
            (λ by w5 h5.
            augment_index_step does library codes answers file running rest
            (by ∷ old ∷ place ∷ container ∷ stack) onward callers w5 h5 _ op
            (last_leads does library codes answers
            (on_heap (augmented library op old by) w5) _ h5 _ (λ new w6.
            put_leads new container place rest stack
            (by ∷ old ∷ place ∷ container ∷ stack) onward callers w6 h5 _
            (λ w7 h7. on.next w7 h7)))))))))))))));
      }

  module _ (program : Program) (this : Code) (here : slice_get codes file ≡ Some this)
      (call : Val → Args → M H Val)
      (calls_serve : CallServes does library codes answers file running call) (least : ℕ)
      (make : ℕ → M H Val)
      (makes_serve : MakesServe does library codes answers file running
      (from_function least (tables_of this program.literals)) make) where
    abbrev s : Setting H
    s =
        record {
          does = does;
          answers = answers;
          library = library;
          file = file;
          program = program;
          call = call;
          make = make;
        }

    abbrev t : Tables
    t = from_function least (tables_of this program.literals)

    abbrev value_serves : {e : Expr} {rest is : List Instr}
        → ExprCode t e rest is
        → Serves is rest ((meaning e).value s)
    value_serves on_value =
        expr_serves does library codes answers file running program this here call calls_serve least
        make makes_serve on_value

    abbrev assigned_serves : {to : Target} {rest is : List Instr}
        → TargetCode t to rest is
        → TargetServes does library codes answers file running is rest (target_meaning to s)
    assigned_serves on_to =
        target_serves does library codes answers file running program this here call calls_serve least
        make makes_serve on_to

    abbrev block_at : (block : ℕ) (code : List Instr)
        → slice_get this.blocks block ≡ Some code
        → block_of codes file block ≡ code
    block_at block code there =
        block_here does library codes answers file running program this here call calls_serve least make
        makes_serve block code there

    not_assignable_serves : (rest : List Instr) (m : M H (Unit {0}))
        → m ≡ fail fault.Kind
        → StmtServes (instr.NotAssignable ∷ rest) rest (then_next m)
    not_assignable_serves rest m is =
        subst (λ x. StmtServes (instr.NotAssignable ∷ rest) rest (then_next x)) (sym is)
        (record {
          runs = λ stack onward callers world host K on.
              not_assignable_step does library codes answers file running rest stack onward callers world
              host _ refl;
        })

    abbrev augment_by : BinOp → Expr → Val → M H (Option Val)
    augment_by op value old =
        (meaning value).value s >>= (λ by. lift (on_heap (augmented library op old by)))

    augment_serves : {op : BinOp} {value to : Expr} {rest is : List Instr}
        → AugmentCode t op value to rest is
        → StmtServes is rest (then_next ((meaning to).augment s (augment_by op value)))
    augment_serves {op} {value} (AugmentCode.name {var} {rest} {is} on_value) =
        subst (λ m. StmtServes (instr.Name var.scope var.slot ∷ is) rest
        (then_next (m.augment s (augment_by op value))))
        (sym (fold_expr-Name (meanings {H = H}) var))
        (augment_name_serves op var.scope var.slot is rest _ (value_serves on_value))
    augment_serves {op} {value} (AugmentCode.index {of} {at} {rest} {third} {mid} {is} on_value on_at
        on_of) =
        subst (λ m. StmtServes (instr.Tick ∷ is) rest
        (then_next (m.augment s (augment_by op value))))
        (sym (fold_expr-Index (meanings {H = H}) of at))
        (augment_index_serves op is mid third rest _ _ _ (value_serves on_value) (value_serves on_at)
        (value_serves on_of))
    augment_serves {op} {value} {to} (AugmentCode.other {rest} is) =
        not_assignable_serves rest _ (other_augment s (augment_by op value) to is)

    as_kind : {is rest : List Instr} {m n : StmtMeaning H}
        → m ≡ n
        → StmtServes is rest (n s)
        → StmtServes is rest (m s)
    as_kind {is} {rest} same serves = subst (λ x. StmtServes is rest (x s)) (sym same) serves

    mutual
      kind_serves : {kind : StmtKind} {rest is : List Instr}
          → KindCode t kind rest is
          → StmtServes is rest (fold_kind (stmt_meanings {H = H}) kind s)
      kind_serves (KindCode.define {function} {to} {rest} {is} on_make) =
          as_kind (fold_kind-Def (stmt_meanings {H = H}) function to)
          (target_stmt is (instr.Set to.scope to.slot ∷ rest) rest (make function)
          (λ value. change_to (assigned to.scope to.slot value))
          (name_target does library codes answers file running to.scope to.slot rest)
          (makes_serve.serves on_make))
      kind_serves (KindCode.branch {test} {chosen} {other} {chosen_at} {other_at} {chosen_code}
          {other_code} {rest} {is} there on_chosen other_there on_other on_test) =
          as_kind (fold_kind-If (stmt_meanings {H = H}) test chosen other)
          (one_serves is rest (instr.If chosen_at other_at) ((meaning test).value s)
          (λ value. lift (truth value) >>= (λ counts. cond counts
          (in_turn (map (in_setting s) (map stmt_meaning chosen)))
          (in_turn (map (in_setting s) (map stmt_meaning other)))))
          (value_serves on_test) (λ v stack onward callers w h K on.
          if_step does library codes answers file running rest (v ∷ stack) onward callers w h _
          chosen_at other_at
          (branch_runs _ chosen_at other_at chosen_code other_code rest _ _
          (block_at chosen_at chosen_code there) (block_at other_at other_code other_there)
          (stmts_serve on_chosen) (stmts_serve on_other) stack onward callers w h K on)))
      kind_serves (KindCode.loop {to} {over} {body} {block} {code} {mid} {rest} {is} there on_body on_to
          on_over) =
          as_kind (fold_kind-For (stmt_meanings {H = H}) to over body)
          (loop_serves block code mid is rest ((meaning over).value s) (target_meaning to s)
          (in_turn (map (in_setting s) (map stmt_meaning body))) (block_at block code there)
          (stmts_serve on_body) (assigned_serves on_to) (value_serves on_over))
      kind_serves (KindCode.give {value} {rest} {is} on_value) =
          as_kind (fold_kind-Return (stmt_meanings {H = H}) value)
          (one_serves is rest instr.Return (bound_meaning (option_map meaning value) s)
          (λ v. pure (Left (exit.Return v)))
          (bound_serves does library codes answers file running program this here call calls_serve
          least make makes_serve on_value) (λ v stack onward callers w h K on.
          return_step does library codes answers file running rest (v ∷ stack) onward callers w h _
          (on.left (exit.Return v) w h)))
      kind_serves (KindCode.break {rest}) =
          as_kind (fold_kind-Break (stmt_meanings {H = H})) (record {
            runs = λ stack onward callers world host K on.
                break_step does library codes answers file running rest stack onward callers world host _
                (on.left exit.Break world host);
          })
      kind_serves (KindCode.continue {rest}) =
          as_kind (fold_kind-Continue (stmt_meanings {H = H})) (record {
            runs = λ stack onward callers world host K on.
                continue_step does library codes answers file running rest stack onward callers world host
                _ (on.left exit.Continue world host);
          })
      kind_serves (KindCode.pass {rest}) =
          as_kind (fold_kind-Pass (stmt_meanings {H = H})) (no_stmts rest)
      kind_serves (KindCode.load {rest} index) =
          as_kind (fold_kind-Load (stmt_meanings {H = H}) index) (no_stmts rest)
      kind_serves (KindCode.assign {to} {value} {rest} {mid} {is} on_to on_value) =
          as_kind (fold_kind-Assign (stmt_meanings {H = H}) to value)
          (target_stmt is mid rest ((meaning value).value s) (target_meaning to s)
          (assigned_serves on_to) (value_serves on_value))
      kind_serves (KindCode.augment {to} {op} {value} {rest} {is} on_augment) =
          as_kind (fold_kind-Augment (stmt_meanings {H = H}) to op value) (augment_serves on_augment)
      kind_serves (KindCode.value {of} {rest} {is} on_of) =
          as_kind (fold_kind-Value (stmt_meanings {H = H}) of)
          (one_serves is rest instr.Forget ((meaning of).value s) (λ v. pure Next) (value_serves on_of)
          (λ v stack onward callers w h K on.
          forget_step does library codes answers file running rest (v ∷ stack) onward callers w h _
          (on.next w h)))

      stmt_serves : {stmt : Stmt} {rest is : List Instr}
          → StmtCode t stmt rest is
          → StmtServes is rest (stmt_meaning stmt s)
      stmt_serves (StmtCode.begin {line} {kind} {rest} {is} on_kind) =
          as_kind (fold_stmt-roll (stmt_meanings {H = H}) line kind)
          (begin_serves is rest line _ (kind_serves on_kind))

      pub stmts_serve : {stmts : List Stmt} {rest is : List Instr}
          → StmtsCode t stmts rest is
          → StmtServes is rest (in_turn (map (in_setting s) (map stmt_meaning stmts)))
      stmts_serve (StmtsCode.none {rest}) = no_stmts rest
      stmts_serve (StmtsCode.some {first} {more} {rest} {mid} {is} on_more on_first) =
          more_stmts is mid rest (stmt_meaning first s)
          (map (in_setting s) (map stmt_meaning more)) (stmts_serve on_more) (stmt_serves on_first)
