-- The code of an expression does what the expression means, whatever comes behind it.
use Rattle.std.proofs.Common.{◌≡◌, ◌∙◌, ap, refl, sym, subst, ℕ, suc, ◌==◌, Bool, true, false}
use Rattle.std.proofs.Common.{cond, if◌then◌else◌, List, [], ◌∷◌, ◌++◌, append_assoc, length, reverse}
use Rattle.std.proofs.Common.{map, Option, Some, slice_get, option_map, Result, Ok, Err}
use Rattle.std.proofs.lemmas.Bool.{eqb-true}
use Rattle.std.proofs.lemmas.List.{append-nil, length-map}
use Rattle.star_code.specs.Codes.{ArgCode, ArgsCode, BoundCode, ClausesCode, ComprehensionCode}
use Rattle.star_code.specs.Codes.{ExprCode, ExprsCode, FillCode, Filling, Item, MakeCode, Pair}
use Rattle.star_code.specs.Codes.{PairsCode, Tables, TargetCode, TargetsCode, from_function}
use Rattle.star_code.specs.Codes.{tables_of}
use Rattle.star_code.specs.declared.code.Code.{Code}
use Rattle.star_code.specs.declared.code.Instr.{Instr}
use Rattle.star_code.specs.declared.code.Instr.TheVariants as instr
use Rattle.star_core.specs.Heaps.{HeapState, made, unwalked, walked}
use Rattle.star_core.specs.Hosts.{Asks, Field, HostCall, Lacks, Meaning, Refuses, Reply, Returns}
use Rattle.star_core.specs.Stacks.{taken}
use Rattle.star_core.specs.Tables.{Table}
use Rattle.star_core.specs.declared.cells.Cell.TheVariants as cell
use Rattle.star_core.specs.declared.faults.Fault.{Fault}
use Rattle.star_core.specs.declared.faults.Fault.TheVariants as fault
use Rattle.star_core.specs.declared.values.Args.{Args}
use Rattle.star_core.specs.declared.values.Val.{Val}
use Rattle.star_core.specs.declared.values.Val.TheVariants as val
use Rattle.star_library.specs.Kinds.{items_of}
use Rattle.star_machine.specs.Configs.{Behind, Caller, Config, Doing, Onward, Outwards, Runs, Turns}
use Rattle.star_machine.specs.Configs.{block_of, or_nothing}
use Rattle.star_machine.specs.Outcomes.{Step}
use Rattle.star_machine.specs.Steps.{after, attribute_pushed, called, gathered_by}
use Rattle.star_machine.specs.Steps.{into_block, name_of, on_many, on_with, perform, pushed, shape_of}
use Rattle.star_machine.specs.Steps.{turned}
use Rattle.star_meaning.specs.Arguments.{all_behind, all_plain, by_position, gathered, given_behind}
use Rattle.star_meaning.specs.Arguments.{names_differ, no_args, unless_twice, way_of, way_values}
use Rattle.star_meaning.specs.Attributes.{attribute_of, callee_of}
use Rattle.star_meaning.specs.Expressions.{ExprMeaning, Program, Setting}
use Rattle.star_meaning.specs.Expressions.{appended, args_in, assign_each}
use Rattle.star_meaning.specs.Expressions.{attribute_meaning, attribute_read, binary_meaning}
use Rattle.star_meaning.specs.Expressions.{bound_meaning, comprehension, entry_displayed}
use Rattle.star_meaning.specs.Expressions.{in_new_scope, items_checked}
use Rattle.star_meaning.specs.Expressions.{keywords_checked, literal, meaning, meanings}
use Rattle.star_meaning.specs.Expressions.{nested, node, put_each, same_bool, scope_left}
use Rattle.star_meaning.specs.Expressions.{target_meaning}
use Rattle.star_meaning.specs.Libraries.{Rows}
use Rattle.star_meaning.specs.Loops.{clause_loop, clause_turns, unwalk, walk}
use Rattle.star_meaning.specs.Results.{Gives, M, Outcome, Res, Stops, ◌>>=◌, change_to, each, fail}
use Rattle.star_meaning.specs.Results.{lift, pure, replied, then_with, worked}
use Rattle.star_meaning.specs.Worlds.{World, assigned, begin_at, of_result, on_heap, opened, tick}
use Rattle.star_meaning.specs.Worlds.{truth, unpacked, unpacked_in, variable}
use Rattle.star_meaning.specs.declared.arguments.Way.{Way}
use Rattle.star_meaning.specs.declared.arguments.Way.TheVariants as way
use Rattle.star_meaning.specs.declared.reasons.Attribute.{Attribute}
use Rattle.star_meaning.specs.declared.reasons.Attribute.TheVariants as attribute
use Rattle.star_meaning.specs.declared.reasons.Place.{Place}
use Rattle.star_meaning.specs.declared.reasons.Running.{Running}
use Rattle.star_runs.proofs.Combine.{Leads, Run, after_leads, bind_leads, bind_runs, conf, finish}
use Rattle.star_runs.proofs.Combine.{last_leads, step}
use Rattle.star_runs.proofs.Instructions.{attribute_step, binary_step, call_gathered_step, call_step}
use Rattle.star_runs.proofs.Instructions.{check_items_step, check_keywords_step, collect_entry_step}
use Rattle.star_runs.proofs.Instructions.{collect_step, constant_step, dict_step, entry_step, for_step}
use Rattle.star_runs.proofs.Instructions.{gather_step, if_step, index_step, list_step, name_step}
use Rattle.star_runs.proofs.Instructions.{not_assignable_step, push_step, set_index_step, set_step}
use Rattle.star_runs.proofs.Instructions.{short_step, slice_step, tick_step, tuple_step, unary_step}
use Rattle.star_runs.proofs.Instructions.{unpack_step, within_step}
use Rattle.star_runs.proofs.Tops.{reverse_cons, taken_top}
use Rattle.star_runs.specs.Runs.{attribute_wanted, call_wanted, field_wanted}
use Rattle.star_runs.specs.Runs.{instructed, method_wanted, replied_on, went}
use Rattle.star_trees.proofs.Folds.{fold_arg-DoubleStar, fold_arg-Named, fold_arg-Positional}
use Rattle.star_trees.proofs.Folds.{fold_arg-Star, fold_clause-For, fold_clause-If, fold_expr-Attr}
use Rattle.star_trees.proofs.Folds.{fold_expr-Binary, fold_expr-Call}
use Rattle.star_trees.proofs.Folds.{fold_expr-Cond, fold_expr-Dict, fold_expr-DictComp}
use Rattle.star_trees.proofs.Folds.{fold_expr-Index, fold_expr-Int, fold_expr-Lambda, fold_expr-List}
use Rattle.star_trees.proofs.Folds.{fold_expr-ListComp, fold_expr-Name, fold_expr-Slice}
use Rattle.star_trees.proofs.Folds.{fold_expr-Text, fold_expr-Tuple, fold_expr-Unary, fold_pair-roll}
use Rattle.star_trees.proofs.Folds.{fold_target-Index, fold_target-Many, fold_target-Name}
use Rattle.star_trees.specs.Folds.{fold_arg, fold_clause, fold_pair}
use Rattle.star_trees.specs.declared.trees.Arg.{Arg}
use Rattle.star_trees.specs.declared.trees.BinOp.{BinOp}
use Rattle.star_trees.specs.declared.trees.Clause.{Clause}
use Rattle.star_trees.specs.declared.trees.Expr.{Expr}
use Rattle.star_trees.specs.declared.trees.ExprPair.{ExprPair}
use Rattle.star_trees.specs.declared.trees.Target.{Target}
use Rattle.star_trees.specs.declared.trees.UnOp.{UnOp}

module _ {H : Type 0} (does : Meaning H HostCall) (library : Rows) (codes : List Code)
    (answers : Table) (file : ℕ) (running : List Running) where
  -- a run from a place in this file's code
  abbrev pub RunAt : List Instr → List Val → List Onward → List Caller → World → H → Outcome H → Type 0
  RunAt is stack onward callers world host outcome =
      Run does library codes answers (conf file running is stack onward callers world) host outcome

  -- a call of a value leads to what the call means, by whichever instruction it is made
  pub record CallServes (call : Val → Args → M H Val) : Type 0 where
    pub serves : (f : Val) (args gathered : Args) (i : Instr) (below stack : List Val)
        (rest : List Instr) (onward : List Onward) (callers : List Caller) (world : World) (host : H)
        (K : Val → World → H → Outcome H)
        → perform library codes i
        (record (conf file running rest stack onward callers world) { gathered = gathered })
        ≡ called library codes f (callee_of world.heap f) args below
        (conf file running rest stack onward callers world)
        → ((v : Val) (w : World) (h : H) → RunAt rest (v ∷ below) onward callers w h (K v w h))
        → Leads does library codes answers (instructed does library codes answers
        (method_wanted (callee_of world.heap f) args world.place below) i
        (record (conf file running rest stack onward callers world) { gathered = gathered }) host)
        (finish (call f args world host) K)

  -- code that puts a value on the stack
  pub record ExprServes (is rest : List Instr) (m : M H Val) : Type 0 where
    pub runs : (stack : List Val) (onward : List Onward) (callers : List Caller) (world : World)
        (host : H) (K : Val → World → H → Outcome H)
        → ((v : Val) (w : World) (h : H) → RunAt rest (v ∷ stack) onward callers w h (K v w h))
        → RunAt is stack onward callers world host (finish (m world host) K)

  -- code that puts so many there
  pub record ExprsServes (is rest : List Instr) (count : ℕ) (m : M H (List Val)) : Type 0 where
    pub runs : (stack : List Val) (onward : List Onward) (callers : List Caller) (world : World)
        (host : H) (K : List Val → World → H → Outcome H)
        → ((vs : List Val) (w : World) (h : H) → length vs ≡ count
        → RunAt rest (reverse vs ++ stack) onward callers w h (K vs w h))
        → RunAt is stack onward callers world host (finish (m world host) K)

  -- code that works on the value on the stack and leaves it there
  pub record KeepsServes (is rest : List Instr) (m : Val → M H (Unit {0})) : Type 0 where
    pub runs : (v : Val) (stack : List Val) (onward : List Onward) (callers : List Caller)
        (world : World) (host : H) (K : Unit {0} → World → H → Outcome H)
        → ((w : World) (h : H) → RunAt rest (v ∷ stack) onward callers w h (K tt w h))
        → RunAt is (v ∷ stack) onward callers world host (finish (m v world host) K)

  -- code that makes a function of the file
  pub record MakesServe (t : Tables) (make : ℕ → M H Val) : Type 0 where
    pub serves : {function : ℕ} {rest is : List Instr}
        → MakeCode t function rest is
        → ExprServes is rest (make function)

  -- code to which the top is assigned
  pub record TargetServes (is rest : List Instr) (m : Val → M H (Unit {0})) : Type 0 where
    pub runs : (v : Val) (stack : List Val) (onward : List Onward) (callers : List Caller)
        (world : World) (host : H) (K : Unit {0} → World → H → Outcome H)
        → ((w : World) (h : H) → RunAt rest stack onward callers w h (K tt w h))
        → RunAt is (v ∷ stack) onward callers world host (finish (m v world host) K)

  pub record TargetsServe (is rest : List Instr) (count : ℕ) (ms : List (Val → M H (Unit {0})))
      : Type 0 where
    pub runs : (vs stack : List Val) (onward : List Onward) (callers : List Caller) (world : World)
        (host : H) (K : Unit {0} → World → H → Outcome H)
        → length vs ≡ count
        → ((w : World) (h : H) → RunAt rest stack onward callers w h (K tt w h))
        → RunAt is (vs ++ stack) onward callers world host (finish (assign_each ms vs world host) K)

  node_serves : (is rest : List Instr) (m : M H Val)
      → ExprServes is rest m
      → ExprServes (instr.Tick ∷ is) rest (node m)
  node_serves is rest m serves =
      record {
        runs = λ stack onward callers world host K next.
            tick_step does library codes answers file running is stack onward callers world host _
            (after_leads does library codes answers (tick world)
            (λ _ w. on_with (conf file running is stack onward callers world) stack w) (λ _. m) host K
            (λ _ w. serves.runs stack onward callers w host K next));
      }

  constant_serves : (value : Val) (rest : List Instr)
      → ExprServes (instr.Constant value ∷ rest) rest (node (pure value))
  constant_serves value rest =
      record {
        runs = λ stack onward callers world host K next.
            constant_step does library codes answers file running rest stack onward callers world host _
            value (after_leads does library codes answers (tick world)
            (λ _ w. pushed (conf file running rest stack onward callers world) stack value w)
            (λ _. pure value) host K (λ _ w. next value w host));
      }

  text_serves : (o : Option Val) (value : Val) (rest : List Instr)
      → o ≡ Some value
      → ExprServes (instr.Constant value ∷ rest) rest (node (lift (literal o)))
  text_serves o value rest is =
      subst (λ x. ExprServes (instr.Constant value ∷ rest) rest (node (lift (literal x)))) (sym is)
      (record {
        runs = λ stack onward callers world host K next.
            constant_step does library codes answers file running rest stack onward callers world host _
            value (after_leads does library codes answers (tick world)
            (λ _ w. pushed (conf file running rest stack onward callers world) stack value w)
            (λ _. lift (literal (Some value))) host K (λ _ w. next value w host));
      })

  pub name_serves : (hops slot : ℕ) (rest : List Instr)
      → ExprServes (instr.Name hops slot ∷ rest) rest (node (lift (variable hops slot)))
  name_serves hops slot rest =
      record {
        runs = λ stack onward callers world host K next.
            name_step does library codes answers file running rest stack onward callers world host _ hops
            slot (after_leads does library codes answers (tick world) _
            (λ _. lift (variable hops slot)) host K (λ _ w.
            last_leads does library codes answers (variable hops slot w)
            (pushed (conf file running rest stack onward callers world) stack) host K
            (λ v w2. next v w2 host)));
      }

  pub many_leads : (c : Config) (found : Option (List Val × List Val)) (vs below : List Val)
      (next : List Val → List Val → Step) (host : H) (outcome : Outcome H)
      → found ≡ Some (vs, below)
      → Leads does library codes answers (went (next vs below) host) outcome
      → Leads does library codes answers (went (on_many c found next) host) outcome
  many_leads c found vs below next host outcome is leads =
      subst (λ f. Leads does library codes answers (went (on_many c f next) host) outcome) (sym is)
      leads

  none_serve : (rest : List Instr) → ExprsServes rest rest 0 (each [])
  none_serve rest =
      record { runs = λ stack onward callers world host K next. next [] world host refl }

  some_serve : (is mid rest : List Instr) (count : ℕ) (first : M H Val) (more : List (M H Val))
      → ExprsServes mid rest count (each more)
      → ExprServes is mid first
      → ExprsServes is rest (suc count) (each (first ∷ more))
  some_serve is mid rest count first more on_more on_first =
      record {
        runs = λ stack onward callers world host K next.
            bind_runs does library codes answers (first world host)
            (λ v. each more >>= (λ vs. pure (v ∷ vs))) K _ host
            (on_first.runs stack onward callers world host _ (λ v w h.
            bind_runs does library codes answers (each more w h) (λ vs. pure (v ∷ vs)) K _ h
            (on_more.runs (v ∷ stack) onward callers w h _ (λ vs w2 h2 long.
            subst (λ st. RunAt rest st onward callers w2 h2 (K (v ∷ vs) w2 h2))
            (sym (reverse_cons v vs stack)) (next (v ∷ vs) w2 h2 (ap suc long))))));
      }

  list_serves : (is rest : List Instr) (count : ℕ) (m : M H (List Val))
      → ExprsServes is (instr.List count ∷ rest) count m
      → ExprServes is rest (m >>= (λ values. lift (on_heap (made (cell.List values)))))
  list_serves is rest count m on_items =
      record {
        runs = λ stack onward callers world host K next.
            bind_runs does library codes answers (m world host)
            (λ values. lift (on_heap (made (cell.List values)))) K _ host
            (on_items.runs stack onward callers world host _ (λ vs w h long.
            list_step does library codes answers file running rest (reverse vs ++ stack) onward callers w
            h _ count (many_leads (conf file running rest (reverse vs ++ stack) onward callers w) _ vs stack _ h
            _ (taken_top count vs stack long)
            (last_leads does library codes answers (on_heap (made (cell.List vs)) w) _ h K
            (λ v w2. next v w2 h)))));
      }

  tuple_serves : (is rest : List Instr) (count : ℕ) (m : M H (List Val))
      → ExprsServes is (instr.Tuple count ∷ rest) count m
      → ExprServes is rest (m >>= (λ values. lift (on_heap (made (cell.Tuple values)))))
  tuple_serves is rest count m on_items =
      record {
        runs = λ stack onward callers world host K next.
            bind_runs does library codes answers (m world host)
            (λ values. lift (on_heap (made (cell.Tuple values)))) K _ host
            (on_items.runs stack onward callers world host _ (λ vs w h long.
            tuple_step does library codes answers file running rest (reverse vs ++ stack) onward callers
            w h _ count (many_leads (conf file running rest (reverse vs ++ stack) onward callers w) _ vs stack _ h
            _ (taken_top count vs stack long)
            (last_leads does library codes answers (on_heap (made (cell.Tuple vs)) w) _ h K
            (λ v w2. next v w2 h)))));
      }

  -- a display's entries
  no_pairs_serve : (rest : List Instr) → KeepsServes rest rest (put_each [])
  no_pairs_serve rest =
      record { runs = λ v stack onward callers world host K next. next world host }

  more_pairs_serve : (is mid after rest : List Instr) (key value : M H Val)
      (more : List (Val → M H (Unit {0})))
      → KeepsServes after rest (put_each more)
      → ExprServes mid (instr.Entry ∷ after) value
      → ExprServes is mid key
      → KeepsServes is rest (put_each ((λ dict. key >>= (λ k. value >>= (λ x.
      lift (on_heap (entry_displayed library dict k x))))) ∷ more))
  more_pairs_serve is mid after rest key value more on_more on_value on_key =
      record {
        runs = λ dict stack onward callers world host K next.
            bind_runs does library codes answers ((key >>= (λ k. value >>= (λ x.
            lift (on_heap (entry_displayed library dict k x))))) world host)
            (λ _. put_each more dict) K _ host
            (bind_runs does library codes answers (key world host) (λ k. value >>= (λ x.
            lift (on_heap (entry_displayed library dict k x)))) _ _ host
            (on_key.runs (dict ∷ stack) onward callers world host _ (λ k w h.
            bind_runs does library codes answers (value w h) (λ x.
            lift (on_heap (entry_displayed library dict k x))) _ _ h
            (on_value.runs (k ∷ dict ∷ stack) onward callers w h _ (λ x w2 h2.
            entry_step does library codes answers file running after (x ∷ k ∷ dict ∷ stack) onward
            callers w2 h2 _ (last_leads does library codes answers
            (on_heap (entry_displayed library dict k x) w2) _ h2 _
            (λ _ w3. on_more.runs dict stack onward callers w3 h2 K next)))))));
      }

  dict_serves : (is rest : List Instr) (m : Val → M H (Unit {0}))
      → KeepsServes is rest m
      → ExprServes (instr.Dict ∷ is) rest
      (lift (on_heap (made (cell.Dict []))) >>= (λ dict. m dict >>= (λ _. pure dict)))
  dict_serves is rest m serves =
      record {
        runs = λ stack onward callers world host K next.
            dict_step does library codes answers file running is stack onward callers world host _
            (after_leads does library codes answers (on_heap (made (cell.Dict [])) world)
            (pushed (conf file running is stack onward callers world) stack)
            (λ dict. m dict >>= (λ _. pure dict)) host K (λ dict w.
            bind_runs does library codes answers (m dict w host) (λ _. pure dict) K _ host
            (serves.runs dict stack onward callers w host _ (λ w2 h2. next dict w2 h2))));
      }

  unary_serves : (op : UnOp) (is rest : List Instr) (of : M H Val)
      → ExprServes is (instr.Unary op ∷ rest) of
      → ExprServes is rest (of >>= (λ x. lift (on_heap (library.unary op x))))
  unary_serves op is rest of serves =
      record {
        runs = λ stack onward callers world host K next.
            bind_runs does library codes answers (of world host)
            (λ x. lift (on_heap (library.unary op x))) K _ host
            (serves.runs stack onward callers world host _ (λ x w h.
            unary_step does library codes answers file running rest (x ∷ stack) onward callers w h _ op
            (last_leads does library codes answers (on_heap (library.unary op x) w) _ h K
            (λ v w2. next v w2 h))));
      }

  -- two values one behind the other
  two_serve : (is mid rest : List Instr) (first second : M H Val) (m : Val → Val → M H Val)
      → ExprServes mid rest second
      → ExprServes is mid first
      → ((x y : Val) (stack : List Val) (onward : List Onward) (callers : List Caller) (w : World)
      (h : H) (K : Val → World → H → Outcome H) (done : List Instr)
      → ((v : Val) (w2 : World) (h2 : H) → RunAt done (v ∷ stack) onward callers w2 h2 (K v w2 h2))
      → RunAt rest (y ∷ x ∷ stack) onward callers w h (finish (m x y w h) K))
      → (done : List Instr)
      → ExprServes is done (first >>= (λ x. second >>= (λ y. m x y)))
  two_serve is mid rest first second m on_second on_first work done =
      record {
        runs = λ stack onward callers world host K next.
            bind_runs does library codes answers (first world host)
            (λ x. second >>= (λ y. m x y)) K _ host
            (on_first.runs stack onward callers world host _ (λ x w h.
            bind_runs does library codes answers (second w h) (λ y. m x y) K _ h
            (on_second.runs (x ∷ stack) onward callers w h _ (λ y w2 h2.
            work x y stack onward callers w2 h2 K done next))));
      }

  binary_serves : (op : BinOp) (is mid rest : List Instr) (left right : M H Val)
      → ExprServes mid (instr.Binary op ∷ rest) right
      → ExprServes is mid left
      → ExprServes is rest (left >>= (λ x. right >>= (λ y. lift (on_heap (library.binary op x y)))))
  binary_serves op is mid rest left right on_right on_left =
      record {
        runs = λ stack onward callers world host K next.
            bind_runs does library codes answers (left world host)
            (λ x. right >>= (λ y. lift (on_heap (library.binary op x y)))) K _ host
            (on_left.runs stack onward callers world host _ (λ x w h.
            bind_runs does library codes answers (right w h)
            (λ y. lift (on_heap (library.binary op x y))) K _ h
            (on_right.runs (x ∷ stack) onward callers w h _ (λ y w2 h2.
            binary_step does library codes answers file running rest (y ∷ x ∷ stack) onward callers w2
            h2 _ op (last_leads does library codes answers (on_heap (library.binary op x y) w2) _
            h2 K (λ v w3. next v w3 h2))))));
      }

  index_serves : (is mid rest : List Instr) (of at : M H Val)
      → ExprServes mid (instr.Index ∷ rest) at
      → ExprServes is mid of
      → ExprServes is rest (of >>= (λ x. at >>= (λ y. lift (on_heap (library.index x y)))))
  index_serves is mid rest of at on_at on_of =
      record {
        runs = λ stack onward callers world host K next.
            bind_runs does library codes answers (of world host)
            (λ x. at >>= (λ y. lift (on_heap (library.index x y)))) K _ host
            (on_of.runs stack onward callers world host _ (λ x w h.
            bind_runs does library codes answers (at w h)
            (λ y. lift (on_heap (library.index x y))) K _ h
            (on_at.runs (x ∷ stack) onward callers w h _ (λ y w2 h2.
            index_step does library codes answers file running rest (y ∷ x ∷ stack) onward callers w2
            h2 _ (last_leads does library codes answers (on_heap (library.index x y) w2) _ h2 K
            (λ v w3. next v w3 h2))))));
      }

  -- a block, and then what is behind it
  block_runs : (block rest : List Instr) (m : M H Val)
      → ExprServes block [] m
      → (stack : List Val) (onward : List Onward) (callers : List Caller) (world : World) (host : H)
      (K : Val → World → H → Outcome H)
      → ((v : Val) (w : World) (h : H) → RunAt rest (v ∷ stack) onward callers w h (K v w h))
      → RunAt block stack (Behind rest ∷ onward) callers world host (finish (m world host) K)
  block_runs block rest m serves stack onward callers world host K next =
      serves.runs stack (Behind rest ∷ onward) callers world host K
      (λ v w h. step does library codes answers _ h _ (next v w h))

  short_leads : (right_on : Bool) (block : ℕ) (code rest : List Instr) (x : Val) (right : M H Val)
      → block_of codes file block ≡ code
      → ExprServes code [] right
      → (stack top : List Val) (onward : List Onward) (callers : List Caller) (world : World) (host : H)
      (K : Val → World → H → Outcome H)
      → ((v : Val) (w : World) (h : H) → RunAt rest (v ∷ stack) onward callers w h (K v w h))
      → Leads does library codes answers (went (cond right_on
      (into_block (conf file running rest top onward callers world) (block_of codes file block) stack)
      (on_with (conf file running rest top onward callers world) (x ∷ stack) world)) host)
      (finish (cond right_on right (pure x) world host) K)
  short_leads true block code rest x right is serves stack top onward callers world host K next =
      subst (λ b. RunAt b stack (Behind rest ∷ onward) callers world host
      (finish (right world host) K)) (sym is)
      (block_runs code rest right serves stack onward callers world host K next)
  short_leads false block code rest x right is serves stack top onward callers world host K next =
      next x world host

  short_serves : (wanted_truth : Bool) (block : ℕ) (code is rest : List Instr) (left right : M H Val)
      → block_of codes file block ≡ code
      → ExprServes code [] right
      → ExprServes is (instr.Short wanted_truth block ∷ rest) left
      → ExprServes is rest (left >>= (λ x. lift (truth x) >>= (λ counts.
      cond (same_bool wanted_truth counts) right (pure x))))
  short_serves wanted_truth block code is rest left right there on_right on_left =
      record {
        runs = λ stack onward callers world host K next.
            bind_runs does library codes answers (left world host) (λ x. lift (truth x) >>= (λ counts.
            cond (same_bool wanted_truth counts) right (pure x))) K _ host
            (on_left.runs stack onward callers world host _ (λ x w h.
            short_step does library codes answers file running rest (x ∷ stack) onward callers w h _
            wanted_truth block
            (short_leads (same_bool wanted_truth _) block code rest x right there on_right stack
            (x ∷ stack) onward callers w h K next)));
      }

  branch_runs : (counts : Bool) (chosen_at other_at : ℕ) (chosen_code other_code rest : List Instr)
      (chosen other : M H Val)
      → block_of codes file chosen_at ≡ chosen_code
      → block_of codes file other_at ≡ other_code
      → ExprServes chosen_code [] chosen
      → ExprServes other_code [] other
      → (stack : List Val) (onward : List Onward) (callers : List Caller) (world : World) (host : H)
      (K : Val → World → H → Outcome H)
      → ((v : Val) (w : World) (h : H) → RunAt rest (v ∷ stack) onward callers w h (K v w h))
      → RunAt (block_of codes file (cond counts chosen_at other_at)) stack (Behind rest ∷ onward)
      callers world host (finish (cond counts chosen other world host) K)
  branch_runs true chosen_at other_at chosen_code other_code rest chosen other is other_is on_chosen
      on_other stack onward callers world host K next =
      subst (λ b. RunAt b stack (Behind rest ∷ onward) callers world host
      (finish (chosen world host) K)) (sym is)
      (block_runs chosen_code rest chosen on_chosen stack onward callers world host K next)
  branch_runs false chosen_at other_at chosen_code other_code rest chosen other is other_is on_chosen
      on_other stack onward callers world host K next =
      subst (λ b. RunAt b stack (Behind rest ∷ onward) callers world host
      (finish (other world host) K)) (sym other_is)
      (block_runs other_code rest other on_other stack onward callers world host K next)

  cond_serves : (chosen_at other_at : ℕ) (chosen_code other_code is rest : List Instr)
      (test chosen other : M H Val)
      → block_of codes file chosen_at ≡ chosen_code
      → block_of codes file other_at ≡ other_code
      → ExprServes chosen_code [] chosen
      → ExprServes other_code [] other
      → ExprServes is (instr.If chosen_at other_at ∷ rest) test
      → ExprServes is rest (test >>= (λ x. lift (truth x) >>= (λ counts. cond counts chosen other)))
  cond_serves chosen_at other_at chosen_code other_code is rest test chosen other there other_there
      on_chosen on_other on_test =
      record {
        runs = λ stack onward callers world host K next.
            bind_runs does library codes answers (test world host)
            (λ x. lift (truth x) >>= (λ counts. cond counts chosen other)) K _ host
            (on_test.runs stack onward callers world host _ (λ x w h.
            if_step does library codes answers file running rest (x ∷ stack) onward callers w h _
            chosen_at other_at
            (branch_runs _ chosen_at other_at chosen_code other_code rest chosen other there
            other_there on_chosen on_other stack onward callers w h K next)));
      }

  absent_serves : (rest : List Instr) → ExprServes (instr.Push val.None ∷ rest) rest (pure val.None)
  absent_serves rest =
      record {
        runs = λ stack onward callers world host K next.
            push_step does library codes answers file running rest stack onward callers world host _
            val.None (next val.None world host);
      }

  slice_serves : (first second third is rest : List Instr) (of begin end by : M H Val)
      → ExprServes third (instr.Slice ∷ rest) by
      → ExprServes second third end
      → ExprServes first second begin
      → ExprServes is first of
      → ExprServes is rest (of >>= (λ x. begin >>= (λ b. end >>= (λ e. by >>= (λ s.
      lift (on_heap (library.slice x b e s)))))))
  slice_serves first second third is rest of begin end by on_by on_end on_begin on_of =
      record {
        runs = λ stack onward callers world host K next.
            bind_runs does library codes answers (of world host) (λ x. begin >>= (λ b. end >>= (λ e.
            by >>= (λ s. lift (on_heap (library.slice x b e s)))))) K _ host
            (on_of.runs stack onward callers world host _ (λ x w h.
            bind_runs does library codes answers (begin w h) (λ b. end >>= (λ e.
            by >>= (λ s. lift (on_heap (library.slice x b e s))))) K _ h
            (on_begin.runs (x ∷ stack) onward callers w h _ (λ b w2 h2.
            bind_runs does library codes answers (end w2 h2) (λ e.
            by >>= (λ s. lift (on_heap (library.slice x b e s)))) K _ h2
            (on_end.runs (b ∷ x ∷ stack) onward callers w2 h2 _ (λ e w3 h3.
            bind_runs does library codes answers (by w3 h3)
            (λ s. lift (on_heap (library.slice x b e s))) K _ h3
            (on_by.runs (e ∷ b ∷ x ∷ stack) onward callers w3 h3 _ (λ s w4 h4.
            slice_step does library codes answers file running rest
            (s ∷ e ∷ b ∷ x ∷ stack) onward callers w4 h4 _
            (last_leads does library codes answers (on_heap (library.slice x b e s) w4) _ h4 K
            (λ v w5. next v w5 h4))))))))));
      }

  pub reply_leads : (reply : Reply H) (gathered : Args) (rest : List Instr) (stack below : List Val)
      (onward : List Onward) (callers : List Caller) (world : World) (K : Val → World → H → Outcome H)
      → ((v : Val) (w : World) (h : H) → RunAt rest (v ∷ below) onward callers w h (K v w h))
      → Leads does library codes answers
      (replied_on reply below
      (record (conf file running rest stack onward callers world) { gathered = gathered }))
      (finish (replied reply world) K)
  reply_leads (Returns value heap host) gathered rest stack below onward callers world K next =
      next value (record world { heap = heap }) host
  reply_leads (Refuses refusal) gathered rest stack below onward callers world K next = refl
  reply_leads (Asks question) gathered rest stack below onward callers world K next = refl
  reply_leads Lacks gathered rest stack below onward callers world K next = refl

  pub name_target : (hops slot : ℕ) (rest : List Instr)
      → TargetServes (instr.Set hops slot ∷ rest) rest
      (λ value. change_to (assigned hops slot value))
  name_target hops slot rest =
      record {
        runs = λ v stack onward callers world host K next.
            set_step does library codes answers file running rest (v ∷ stack) onward callers world host _
            hops slot (next (assigned hops slot v world) host);
      }

  index_target : (is mid rest : List Instr) (of at : M H Val)
      → ExprServes mid (instr.SetIndex ∷ rest) at
      → ExprServes is mid of
      → TargetServes is rest (λ value. of >>= (λ container. at >>= (λ place.
      lift (on_heap (library.set_index container place value)))))
  index_target is mid rest of at on_at on_of =
      record {
        runs = λ v stack onward callers world host K next.
            bind_runs does library codes answers (of world host) (λ container. at >>= (λ place.
            lift (on_heap (library.set_index container place v)))) K _ host
            (on_of.runs (v ∷ stack) onward callers world host _ (λ container w h.
            bind_runs does library codes answers (at w h) (λ place.
            lift (on_heap (library.set_index container place v))) K _ h
            (on_at.runs (container ∷ v ∷ stack) onward callers w h _ (λ place w2 h2.
            set_index_step does library codes answers file running rest
            (place ∷ container ∷ v ∷ stack) onward callers w2 h2 _
            (last_leads does library codes answers
            (on_heap (library.set_index container place v) w2) _ h2 K
            (λ _ w3. next w3 h2))))));
      }

  no_targets : (rest : List Instr) → TargetsServe rest rest 0 []
  no_targets rest =
      record {
        runs = λ vs stack onward callers world host K long next.
            by vs stack onward callers world host K long next;
      }
    where
      by : (vs stack : List Val) (onward : List Onward) (callers : List Caller) (world : World) (host : H)
          (K : Unit {0} → World → H → Outcome H)
          → length vs ≡ 0
          → ((w : World) (h : H) → RunAt rest stack onward callers w h (K tt w h))
          → RunAt rest (vs ++ stack) onward callers world host (finish (assign_each [] vs world host) K)
      by [] stack onward callers world host K long next = next world host
      by (v ∷ vs) stack onward callers world host K long next = absurd (cc)

  more_targets : (is mid rest : List Instr) (count : ℕ) (first : Val → M H (Unit {0}))
      (more : List (Val → M H (Unit {0})))
      → TargetsServe mid rest count more
      → TargetServes is mid first
      → TargetsServe is rest (suc count) (first ∷ more)
  more_targets is mid rest count first more on_more on_first =
      record {
        runs = λ vs stack onward callers world host K long next.
            by vs stack onward callers world host K long next;
      }
    where
      by : (vs stack : List Val) (onward : List Onward) (callers : List Caller) (world : World) (host : H)
          (K : Unit {0} → World → H → Outcome H)
          → length vs ≡ suc count
          → ((w : World) (h : H) → RunAt rest stack onward callers w h (K tt w h))
          → RunAt is (vs ++ stack) onward callers world host
          (finish (assign_each (first ∷ more) vs world host) K)
      by [] stack onward callers world host K long next = absurd (cc)
      by (v ∷ vs) stack onward callers world host K long next =
          bind_runs does library codes answers (first v world host) (λ _. assign_each more vs) K _ host
          (on_first.runs v (vs ++ stack) onward callers world host _ (λ w h.
          on_more.runs vs stack onward callers w h K (cc) next))

  unpack_leads : (items : Result (List Val) Fault) (is rest : List Instr) (count : ℕ)
      (ms : List (Val → M H (Unit {0})))
      → TargetsServe is rest count ms
      → (stack top : List Val) (onward : List Onward) (callers : List Caller) (world : World) (host : H)
      (K : Unit {0} → World → H → Outcome H)
      → ((w : World) (h : H) → RunAt rest stack onward callers w h (K tt w h))
      → Leads does library codes answers (went (after (of_result (unpacked_in count items) world)
      (λ values w. on_with (conf file running is top onward callers world) (values ++ stack) w)) host)
      (finish ((lift (λ w. of_result (unpacked_in count items) w) >>= (λ values. assign_each ms values))
      world host) K)
  unpack_leads (Err why) is rest count ms serves stack top onward callers world host K next = refl
  unpack_leads (Ok vs) is rest count ms serves stack top onward callers world host K next =
      by (length vs == count) refl
    where
      by : (same : Bool)
          → (length vs == count) ≡ same
          → Leads does library codes answers (went (after
          (of_result (if same then Ok vs else Err fault.Value) world)
          (λ values w. on_with (conf file running is top onward callers world) (values ++ stack) w))
          host)
          (finish ((lift (λ w. of_result (if same then Ok vs else Err fault.Value) w)
          >>= (λ values. assign_each ms values)) world host) K)
      by true long = serves.runs vs stack onward callers world host K (eqb-true (length vs) count long) next
      by false long = refl

  many_target : (is rest : List Instr) (count : ℕ) (ms : List (Val → M H (Unit {0})))
      → TargetsServe is rest count ms
      → TargetServes (instr.Unpack count ∷ is) rest
      (λ value. lift (unpacked value count) >>= (λ values. assign_each ms values))
  unfolding unpacked
  many_target is rest count ms serves =
      record {
        runs = λ v stack onward callers world host K next.
            unpack_step does library codes answers file running is (v ∷ stack) onward callers world host _
            count (unpack_leads (items_of world.heap v) is rest count ms serves stack (v ∷ stack) onward
            callers world host K next);
      }

  -- the turns of a comprehension's clause, round what keeps its container on the stack
  abbrev walk_ended : Val → World → World
  walk_ended over w = record w { heap = unwalked over w.heap }

  clause_turns_lead : (body mid : List Instr) (m : Val → M H (Unit {0})) (assign : Val → M H (Unit {0}))
      → KeepsServes mid [] m
      → TargetServes body mid assign
      → (items : List Val) (over list : Val) (place : Option Place) (doing : Doing)
      (rest : List Instr) (stack : List Val) (onward before : List Onward) (callers : List Caller)
      (world : World) (host : H) (K : Unit {0} → World → H → Outcome H)
      → ((w : World) (h : H)
      → RunAt rest (list ∷ stack) onward callers (walk_ended over w) h (K tt w h))
      → Leads does library codes answers (went (turned items over body place rest onward (record {
        file = file;
        doing = doing;
        stack = list ∷ stack;
        gathered = no_args;
        onward = before;
        callers = callers;
        running = running;
        world = world;
      })) host) (finish (clause_turns place assign (m list) items world host) K)
  clause_turns_lead body mid m assign serves on_assign [] over list place doing rest stack onward before
      callers world host K next = next world host
  clause_turns_lead body mid m assign serves on_assign (v ∷ items) over list place doing rest stack onward
      before callers world host K next =
      after_leads does library codes answers (begin_at place world) _
      (λ _. assign v >>= (λ _. m list >>= (λ _. clause_turns place assign (m list) items))) host K
      (λ _ w.
      bind_runs does library codes answers (assign v w host)
      (λ _. m list >>= (λ _. clause_turns place assign (m list) items)) K _ host
      (on_assign.runs v (list ∷ stack) (Turns items over body place rest ∷ onward) callers w host _
      (λ w2 h2.
      bind_runs does library codes answers (m list w2 h2)
      (λ _. clause_turns place assign (m list) items) K _ h2
      (serves.runs list stack (Turns items over body place rest ∷ onward) callers w2 h2 _
      (λ w3 h3. step does library codes answers _ h3 _
      (clause_turns_lead body mid m assign serves on_assign items over list place (Runs []) rest stack
      onward (Turns items over body place rest ∷ onward) callers w3 h3 K next))))))

  abbrev walked_clause : Option Place
      → Val
      → (Val → M H (Unit {0}))
      → M H (Unit {0})
      → List Val
      → M H (Unit {0})
  walked_clause place over assign m items =
      walk over >>= (λ _. clause_turns place assign m items >>= (λ _. unwalk over))

  clause_items_lead : (items : Result (List Val) Fault) (block : ℕ) (body mid rest : List Instr)
      → block_of codes file block ≡ body
      → (m : Val → M H (Unit {0})) (assign : Val → M H (Unit {0}))
      → KeepsServes mid [] m
      → TargetServes body mid assign
      → (over list : Val) (stack before : List Val) (onward : List Onward) (callers : List Caller)
      (world : World) (host : H) (K : Unit {0} → World → H → Outcome H)
      → ((w : World) (h : H) → RunAt rest (list ∷ stack) onward callers w h (K tt w h))
      → Leads does library codes answers (went (after (of_result items world) (λ found w.
      turned found over (block_of codes file block) w.place rest onward
      (record (conf file running rest before onward callers world) {
        stack = list ∷ stack;
        world = record w { heap = walked over w.heap };
      }))) host)
      (finish ((lift (λ w. of_result items w)
      >>= (λ found. walked_clause world.place over assign (m list) found)) world host) K)
  clause_items_lead (Err why) block body mid rest is m assign serves on_assign over list stack before
      onward callers world host K next = refl
  clause_items_lead (Ok found) block body mid rest is m assign serves on_assign over list stack before
      onward callers world host K next =
      bind_leads does library codes answers
      (clause_turns world.place assign (m list) found
      (record world { heap = walked over world.heap }) host)
      (λ _. unwalk over) K _
      (subst (λ b. Leads does library codes answers (went (turned found over b world.place rest onward
      (record (conf file running rest before onward callers world) {
        stack = list ∷ stack;
        world = record world { heap = walked over world.heap };
      })) host) (finish (clause_turns world.place assign (m list) found
      (record world { heap = walked over world.heap }) host)
      (λ done w2 h2. finish (unwalk over w2 h2) K))) (sym is)
      (clause_turns_lead body mid m assign serves on_assign found over list world.place (Runs rest)
      rest stack onward onward callers (record world { heap = walked over world.heap }) host _
      (λ w2 h2. next (walk_ended over w2) h2)))

  each_serves : (block : ℕ) (body mid is rest : List Instr) (over : M H Val)
      (assign : Val → M H (Unit {0})) (m : Val → M H (Unit {0}))
      → block_of codes file block ≡ body
      → KeepsServes mid [] m
      → TargetServes body mid assign
      → ExprServes is (instr.For block ∷ rest) over
      → KeepsServes is rest (λ list. over >>= (λ value. clause_loop value assign (m list)))
  each_serves block body mid is rest over assign m there serves on_assign on_over =
      record {
        runs = λ list stack onward callers world host K next.
            bind_runs does library codes answers (over world host)
            (λ value. clause_loop value assign (m list)) K _ host
            (on_over.runs (list ∷ stack) onward callers world host _ (λ v w h.
            for_step does library codes answers file running rest (v ∷ list ∷ stack) onward callers w h _
            block (clause_items_lead (items_of w.heap v) block body mid rest there m assign serves
            on_assign v list stack (v ∷ list ∷ stack) onward callers w h K next)));
      }

  tested_runs : (counts : Bool) (chosen_at other_at : ℕ) (code rest : List Instr)
      (m : Val → M H (Unit {0}))
      → block_of codes file chosen_at ≡ code
      → block_of codes file other_at ≡ []
      → KeepsServes code [] m
      → (list : Val) (stack : List Val) (onward : List Onward) (callers : List Caller) (world : World)
      (host : H) (K : Unit {0} → World → H → Outcome H)
      → ((w : World) (h : H) → RunAt rest (list ∷ stack) onward callers w h (K tt w h))
      → RunAt (block_of codes file (cond counts chosen_at other_at)) (list ∷ stack)
      (Behind rest ∷ onward) callers world host (finish (cond counts (m list) (pure tt) world host) K)
  tested_runs true chosen_at other_at code rest m is none serves list stack onward callers world host K
      next =
      subst (λ b. RunAt b (list ∷ stack) (Behind rest ∷ onward) callers world host
      (finish (m list world host) K)) (sym is)
      (serves.runs list stack (Behind rest ∷ onward) callers world host K
      (λ w h. step does library codes answers _ h _ (next w h)))
  tested_runs false chosen_at other_at code rest m is none serves list stack onward callers world host K
      next =
      subst (λ b. RunAt b (list ∷ stack) (Behind rest ∷ onward) callers world host
      (K tt world host)) (sym none) (step does library codes answers _ host _ (next world host))

  where_serves : (chosen_at other_at : ℕ) (code is rest : List Instr) (test : M H Val)
      (m : Val → M H (Unit {0}))
      → block_of codes file chosen_at ≡ code
      → block_of codes file other_at ≡ []
      → KeepsServes code [] m
      → ExprServes is (instr.If chosen_at other_at ∷ rest) test
      → KeepsServes is rest (λ list. test >>= (λ value. lift (truth value) >>= (λ counts.
      cond counts (m list) (pure tt))))
  where_serves chosen_at other_at code is rest test m there none serves on_test =
      record {
        runs = λ list stack onward callers world host K next.
            bind_runs does library codes answers (test world host) (λ value.
            lift (truth value) >>= (λ counts. cond counts (m list) (pure tt))) K _ host
            (on_test.runs (list ∷ stack) onward callers world host _ (λ v w h.
            if_step does library codes answers file running rest (v ∷ list ∷ stack) onward callers w h _
            chosen_at other_at
            (tested_runs _ chosen_at other_at code rest m there none serves list stack onward callers w h
            K next)));
      }

  scope_runs : (scope : ℕ) (r : Res H (Unit {0})) (K : Unit {0} → World → H → Outcome H)
      (config : Config) (host : H)
      → Run does library codes answers config host
      (finish r (λ done w h. K tt (record w { scope = scope }) h))
      → Run does library codes answers config host (finish (scope_left scope r) K)
  scope_runs scope (Gives done w h) K config host runs = runs
  scope_runs scope (Stops outcome) K config host runs = runs

  within_serves : (inside block : ℕ) (body mid is rest : List Instr) (over : M H Val)
      (assign : Val → M H (Unit {0})) (m : Val → M H (Unit {0}))
      → block_of codes file inside ≡ instr.For block ∷ []
      → block_of codes file block ≡ body
      → KeepsServes mid [] m
      → TargetServes body mid assign
      → ExprServes is (instr.Within inside ∷ rest) over
      → KeepsServes is rest
      (λ list. over >>= (λ value. in_new_scope (clause_loop value assign (m list))))
  within_serves inside block body mid is rest over assign m within there serves on_assign on_over =
      record {
        runs = λ list stack onward callers world host K next.
            bind_runs does library codes answers (over world host)
            (λ value. in_new_scope (clause_loop value assign (m list))) K _ host
            (on_over.runs (list ∷ stack) onward callers world host _ (λ v w h.
            within_step does library codes answers file running rest (v ∷ list ∷ stack) onward callers w
            h _ inside
            (subst (λ b. RunAt b (v ∷ list ∷ stack) (Outwards w.scope rest ∷ onward) callers
            (opened w.scope [] w) h (finish (in_new_scope (clause_loop v assign (m list)) w h) K))
            (sym within)
            (scope_runs w.scope (clause_loop v assign (m list) (opened w.scope [] w) h) K _ h
            (for_step does library codes answers file running [] (v ∷ list ∷ stack)
            (Outwards w.scope rest ∷ onward) callers (opened w.scope [] w) h _ block
            (clause_items_lead (items_of (opened w.scope [] w).heap v) block body mid [] there m assign
            serves on_assign v list stack (v ∷ list ∷ stack) (Outwards w.scope rest ∷ onward) callers
            (opened w.scope [] w) h _ (λ w2 h2. step does library codes answers _ h2 _
            (next (record w2 { scope = w.scope }) h2))))))));
      }

  list_comp_serves : (is rest : List Instr) (m : Val → M H (Unit {0}))
      → KeepsServes is rest m
      → ExprServes (instr.List 0 ∷ is) rest
      (lift (on_heap (made (cell.List []))) >>= (λ list. m list >>= (λ _. pure list)))
  list_comp_serves is rest m serves =
      record {
        runs = λ stack onward callers world host K next.
            list_step does library codes answers file running is stack onward callers world host _ 0
            (many_leads (conf file running is stack onward callers world) _ [] stack _ host _
            (taken_top 0 [] stack refl)
            (after_leads does library codes answers (on_heap (made (cell.List [])) world)
            (pushed (conf file running is stack onward callers world) stack)
            (λ list. m list >>= (λ _. pure list)) host K (λ list w.
            bind_runs does library codes answers (m list w host) (λ _. pure list) K _ host
            (serves.runs list stack onward callers w host _ (λ w2 h2. next list w2 h2)))));
      }

  item_serves : (is rest : List Instr) (item : M H Val)
      → ExprServes is (instr.Collect ∷ rest) item
      → KeepsServes is rest (λ list. item >>= (λ x. lift (on_heap (appended list x))))
  item_serves is rest item on_item =
      record {
        runs = λ list stack onward callers world host K next.
            bind_runs does library codes answers (item world host)
            (λ x. lift (on_heap (appended list x))) K _ host
            (on_item.runs (list ∷ stack) onward callers world host _ (λ x w h.
            collect_step does library codes answers file running rest (x ∷ list ∷ stack) onward callers w
            h _ (last_leads does library codes answers (on_heap (appended list x) w) _ h K
            (λ _ w2. next w2 h))));
      }

  entry_serves : (is mid rest : List Instr) (key value : M H Val)
      → ExprServes mid (instr.CollectEntry ∷ rest) value
      → ExprServes is mid key
      → KeepsServes is rest (λ dict. key >>= (λ k. value >>= (λ x.
      lift (on_heap (library.set_index dict k x)))))
  entry_serves is mid rest key value on_value on_key =
      record {
        runs = λ dict stack onward callers world host K next.
            bind_runs does library codes answers (key world host) (λ k. value >>= (λ x.
            lift (on_heap (library.set_index dict k x)))) K _ host
            (on_key.runs (dict ∷ stack) onward callers world host _ (λ k w h.
            bind_runs does library codes answers (value w h) (λ x.
            lift (on_heap (library.set_index dict k x))) K _ h
            (on_value.runs (k ∷ dict ∷ stack) onward callers w h _ (λ x w2 h2.
            collect_entry_step does library codes answers file running rest (x ∷ k ∷ dict ∷ stack)
            onward callers w2 h2 _
            (last_leads does library codes answers (on_heap (library.set_index dict k x) w2) _ h2 K
            (λ _ w3. next w3 h2))))));
      }

  -- operands that are spread
  items_serve : (is rest : List Instr) (value : M H Val)
      → ExprServes is (instr.CheckItems ∷ rest) value
      → ExprServes is rest (value >>= (λ x. lift (items_checked x) >>= (λ _. pure x)))
  items_serve is rest value on_value =
      record {
        runs = λ stack onward callers world host K next.
            bind_runs does library codes answers (value world host)
            (λ x. lift (items_checked x) >>= (λ _. pure x)) K _ host
            (on_value.runs stack onward callers world host _ (λ x w h.
            check_items_step does library codes answers file running rest (x ∷ stack) onward callers w h _
            (after_leads does library codes answers (items_checked x w) _ (λ _. pure x) h K
            (λ _ w2. next x w2 h))));
      }

  keywords_serve : (is rest : List Instr) (value : M H Val)
      → ExprServes is (instr.CheckKeywords ∷ rest) value
      → ExprServes is rest (value >>= (λ x. lift (keywords_checked x) >>= (λ _. pure x)))
  keywords_serve is rest value on_value =
      record {
        runs = λ stack onward callers world host K next.
            bind_runs does library codes answers (value world host)
            (λ x. lift (keywords_checked x) >>= (λ _. pure x)) K _ host
            (on_value.runs stack onward callers world host _ (λ x w h.
            check_keywords_step does library codes answers file running rest (x ∷ stack) onward callers w
            h _ (after_leads does library codes answers (keywords_checked x w) _ (λ _. pure x) h K
            (λ _ w2. next x w2 h))));
      }

  -- what no file says is refused
  refused_serves : (rest : List Instr) (m : Val → M H (Unit {0}))
      → ((list : Val) → m list ≡ fail fault.Kind)
      → KeepsServes (instr.NotAssignable ∷ rest) rest m
  refused_serves rest m is =
      record {
        runs = λ list stack onward callers world host K next.
            subst (λ x. RunAt (instr.NotAssignable ∷ rest) (list ∷ stack) onward callers world host
            (finish (x world host) K)) (sym (is list))
            (not_assignable_step does library codes answers file running rest (list ∷ stack) onward
            callers world host _ refl);
      }

  pub kind_serves_value : (rest : List Instr) → ExprServes (instr.NotAssignable ∷ rest) rest (fail fault.Kind)
  kind_serves_value rest =
      record {
        runs = λ stack onward callers world host K next.
            not_assignable_step does library codes answers file running rest stack onward callers world
            host _ refl;
      }

  pub called_performed : (count : ℕ) (values below stack : List Val) (f : Val) (rest : List Instr)
      (onward : List Onward) (callers : List Caller) (world : World)
      → taken count [] stack ≡ Some (values, f ∷ below)
      → perform library codes (instr.Call count)
      (conf file running rest stack onward callers world)
      ≡ called library codes f (callee_of world.heap f) (by_position values) below
      (conf file running rest stack onward callers world)
  unfolding perform
  called_performed count values below stack f rest onward callers world there = rw there refl

  module _ (program : Program) (this : Code) (here : slice_get codes file ≡ Some this)
      (call : Val → Args → M H Val) (calls_serve : CallServes call) (least : ℕ)
      (make : ℕ → M H Val)
      (makes_serve : MakesServe (from_function least (tables_of this program.literals)) make) where
    abbrev s : Setting H
    s =
        record {
          does = does;
          answers = answers;
          library = library;
          file = file;
          program = program;
          call = call;
          make = make;
        }

    abbrev t : Tables
    t = from_function least (tables_of this program.literals)

    pub block_here : (block : ℕ) (code : List Instr)
        → slice_get this.blocks block ≡ Some code
        → block_of codes file block ≡ code
    unfolding block_of
    block_here block code there = rw here (ap or_nothing there)

    name_here : (index : ℕ) (name : List ℕ)
        → slice_get this.names index ≡ Some name
        → name_of codes file index ≡ Some name
    unfolding name_of
    name_here index name there = rw here there

    performed : (index : ℕ) (name : List ℕ) (x : Val) (rest : List Instr) (stack : List Val)
        (onward : List Onward) (callers : List Caller) (world : World) (a : Attribute)
        → name_of codes file index ≡ Some name
        → attribute_of world.heap x name ≡ a
        → perform library codes (instr.Attr index)
        (conf file running rest (x ∷ stack) onward callers world)
        ≡ attribute_pushed a x name stack (conf file running rest (x ∷ stack) onward callers world)
    unfolding perform
    performed index name x rest stack onward callers world a named is = rw (named, is) refl

    attribute_leads : (a : Attribute) (index : ℕ) (name : List ℕ) (x : Val) (rest : List Instr)
        (stack : List Val) (onward : List Onward) (callers : List Caller) (world : World) (host : H)
        (K : Val → World → H → Outcome H)
        → name_of codes file index ≡ Some name
        → attribute_of world.heap x name ≡ a
        → ((v : Val) (w : World) (h : H) → RunAt rest (v ∷ stack) onward callers w h (K v w h))
        → Leads does library codes answers (instructed does library codes answers
        (field_wanted a name stack) (instr.Attr index)
        (conf file running rest (x ∷ stack) onward callers world) host)
        (finish (attribute_read a x name s world host) K)
    attribute_leads (attribute.Hosted object) index name x rest stack onward callers world host K named
        is next =
        reply_leads (does host world.heap (Field object name) answers) no_args rest (x ∷ stack) stack
        onward callers world K next
    attribute_leads (attribute.Lies held) index name x rest stack onward callers world host K named is
        next =
        subst (λ to. Leads does library codes answers (went to host) (K held world host))
        (sym (performed index name x rest stack onward callers world _ named is)) (next held world host)
    attribute_leads attribute.IsMethod index name x rest stack onward callers world host K named is
        next =
        subst (λ to. Leads does library codes answers (went to host)
        (finish (lift (on_heap (made (cell.Bound x name))) world host) K))
        (sym (performed index name x rest stack onward callers world _ named is))
        (last_leads does library codes answers (on_heap (made (cell.Bound x name)) world)
        (pushed (conf file running rest (x ∷ stack) onward callers world) stack) host K
        (λ v w. next v w host))
    attribute_leads attribute.Missing index name x rest stack onward callers world host K named is
        next =
        subst (λ to. Leads does library codes answers (went to host)
        (finish (fail {A = Val} fault.Attr world host) K))
        (sym (performed index name x rest stack onward callers world _ named is)) refl

    attribute_serves : (index : ℕ) (name : List ℕ) (is rest : List Instr) (of : M H Val)
        → name_of codes file index ≡ Some name
        → ExprServes is (instr.Attr index ∷ rest) of
        → ExprServes is rest (of >>= (λ x. attribute_meaning x name s))
    attribute_serves index name is rest of named serves =
        record {
          runs = λ stack onward callers world host K next.
              bind_runs does library codes answers (of world host)
              (λ x. attribute_meaning x name s) K _ host
              (serves.runs stack onward callers world host _ (λ x w h.
              attribute_step does library codes answers file running rest (x ∷ stack) onward callers w
              h _ index
              (subst (λ o. Leads does library codes answers (instructed does library codes answers
              (attribute_wanted o (conf file running rest (x ∷ stack) onward callers w))
              (instr.Attr index) (conf file running rest (x ∷ stack) onward callers w) h)
              (finish (attribute_meaning x name s w h) K)) (sym named)
              (attribute_leads (attribute_of w.heap x name) index name x rest stack onward callers w
              h K named refl next))));
        }

    shape_here : (index : ℕ) (ways : List Way)
        → slice_get this.shapes index ≡ Some ways
        → shape_of codes file index ≡ Some ways
    unfolding shape_of
    shape_here index ways there = rw here there

    gathered_performed : (args : Args) (f : Val) (below : List Val) (rest : List Instr)
        (onward : List Onward) (callers : List Caller) (world : World)
        → perform library codes instr.CallGathered
        (record (conf file running rest (f ∷ below) onward callers world) { gathered = args })
        ≡ called library codes f (callee_of world.heap f) args below
        (conf file running rest (f ∷ below) onward callers world)
    unfolding perform
    gathered_performed args f below rest onward callers world = refl

    -- arguments by position alone
    plain_behind : (heap : HeapState) (args : Args) (ways : List Way) (values : List Val)
        → all_plain ways ≡ true
        → length values ≡ length ways
        → all_behind heap args ways values
        ≡ Ok (record args { positional = args.positional ++ values })
    unfolding all_plain given_behind
    plain_behind heap args [] [] plainly long =
        ap (λ all. Ok (record args { positional = all })) (sym (append-nil args.positional))
    plain_behind heap args [] (value ∷ values) plainly long = absurd (cc)
    plain_behind heap args (way.Positional ∷ ways) [] plainly long = absurd (cc)
    plain_behind heap args (way.Positional ∷ ways) (value ∷ values) plainly long =
        plain_behind heap (record args { positional = args.positional ++ value ∷ [] }) ways values
        plainly (cc)
        ∙ ap (λ all. Ok (record args { positional = all }))
        (append_assoc args.positional (value ∷ []) values)
    plain_behind heap args (way.Named name ∷ ways) values plainly long = absurd (cc)
    plain_behind heap args (way.Star ∷ ways) values plainly long = absurd (cc)
    plain_behind heap args (way.DoubleStar ∷ ways) values plainly long = absurd (cc)

    plain_gathered : (heap : HeapState) (ways : List Way) (values : List Val)
        → all_plain ways ≡ true
        → length values ≡ length ways
        → gathered heap ways values ≡ Ok (by_position values)
    unfolding gathered names_differ
    plain_gathered heap ways values plainly long =
        ap unless_twice (plain_behind heap no_args ways values plainly long)

    call_serves : (count : ℕ) (ways : List Way) (is mid rest : List Instr) (function : M H Val)
        (args : M H (List Val))
        → all_plain ways ≡ true
        → length ways ≡ count
        → ExprsServes mid (instr.Call count ∷ rest) count args
        → ExprServes is mid function
        → ExprServes is rest (function >>= (λ f. args >>= (λ values.
        lift (args_in ways values) >>= (λ given. call f given))))
    call_serves count ways is mid rest function args plainly many on_args on_function =
        record {
          runs = λ stack onward callers world host K next.
              bind_runs does library codes answers (function world host)
              (λ f. args >>= (λ values. lift (args_in ways values) >>= (λ given. call f given))) K _ host
              (on_function.runs stack onward callers world host _ (λ f w h.
              bind_runs does library codes answers (args w h)
              (λ values. lift (args_in ways values) >>= (λ given. call f given)) K _ h
              (on_args.runs (f ∷ stack) onward callers w h _ (λ vs w2 h2 long.
              subst (λ g. RunAt (instr.Call count ∷ rest) (reverse vs ++ f ∷ stack) onward callers w2
              h2 (finish (then_with (worked (of_result g w2) h2) (λ given. call f given)) K))
              (sym (plain_gathered w2.heap ways vs plainly (long ∙ sym many)))
              (call_step does library codes answers file running rest (reverse vs ++ f ∷ stack)
              onward callers w2 h2 _ count
              (subst (λ o. Leads does library codes answers (instructed does library codes answers
              (call_wanted o (conf file running rest (reverse vs ++ f ∷ stack) onward callers w2))
              (instr.Call count) (conf file running rest (reverse vs ++ f ∷ stack) onward callers w2)
              h2) (finish (call f (by_position vs) w2 h2) K))
              (sym (taken_top count vs (f ∷ stack) long))
              (calls_serve.serves f (by_position vs) no_args (instr.Call count) stack
              (reverse vs ++ f ∷ stack) rest onward callers w2 h2 K
              (called_performed count vs stack (reverse vs ++ f ∷ stack) f rest onward callers w2
              (taken_top count vs (f ∷ stack) long)) next)))))));
        }

    gathered_serves : (shape : ℕ) (ways : List Way) (count : ℕ) (is mid rest : List Instr)
        (function : M H Val) (args : M H (List Val))
        → shape_of codes file shape ≡ Some ways
        → length ways ≡ count
        → ExprsServes mid (instr.Gather shape ∷ instr.CallGathered ∷ rest) count args
        → ExprServes is mid function
        → ExprServes is rest (function >>= (λ f. args >>= (λ values.
        lift (args_in ways values) >>= (λ given. call f given))))
    gathered_serves shape ways count is mid rest function args there many on_args on_function =
        record {
          runs = λ stack onward callers world host K next.
              bind_runs does library codes answers (function world host)
              (λ f. args >>= (λ values. lift (args_in ways values) >>= (λ given. call f given))) K _ host
              (on_function.runs stack onward callers world host _ (λ f w h.
              bind_runs does library codes answers (args w h)
              (λ values. lift (args_in ways values) >>= (λ given. call f given)) K _ h
              (on_args.runs (f ∷ stack) onward callers w h _ (λ vs w2 h2 long.
              gather_step does library codes answers file running (instr.CallGathered ∷ rest)
              (reverse vs ++ f ∷ stack) onward callers w2 h2 _ shape
              (subst (λ o. Leads does library codes answers (went (gathered_by o
              (conf file running (instr.CallGathered ∷ rest) (reverse vs ++ f ∷ stack) onward callers
              w2)) h2)
              (finish ((lift (args_in ways vs) >>= (λ given. call f given)) w2 h2) K)) (sym there)
              (many_leads (conf file running (instr.CallGathered ∷ rest) (reverse vs ++ f ∷ stack)
              onward callers w2) _ vs (f ∷ stack) _ h2 _
              (taken_top (length ways) vs (f ∷ stack) (long ∙ sym many))
              (after_leads does library codes answers (args_in ways vs w2) _ (λ given. call f given)
              h2 K (λ given w3.
              call_gathered_step does library codes answers file running rest (f ∷ stack) onward
              callers w3 h2 _ given
              (calls_serve.serves f given given instr.CallGathered stack (f ∷ stack) rest onward
              callers w3 h2 K
              (gathered_performed given f stack rest onward callers w3) next)))))))));
        }

    way_is : {a : Arg} {rest is : List Instr}
        → ArgCode t a rest is
        → (fold_arg (meanings {H = H}) a).way ≡ way_of a
    way_is (ArgCode.positional {value} on_value) =
        ap (λ m. m.way) (fold_arg-Positional (meanings {H = H}) value)
        ∙ sym (fold_arg-Positional way_values value)
    way_is (ArgCode.named {name} {value} on_value) =
        ap (λ m. m.way) (fold_arg-Named (meanings {H = H}) name value)
        ∙ sym (fold_arg-Named way_values name value)
    way_is (ArgCode.star {value} on_value) =
        ap (λ m. m.way) (fold_arg-Star (meanings {H = H}) value)
        ∙ sym (fold_arg-Star way_values value)
    way_is (ArgCode.double_star {value} on_value) =
        ap (λ m. m.way) (fold_arg-DoubleStar (meanings {H = H}) value)
        ∙ sym (fold_arg-DoubleStar way_values value)

    ways_are : {args : List Arg} {rest is : List Instr}
        → ArgsCode t args rest is
        → map (λ arg. arg.way) (map (fold_arg (meanings {H = H})) args) ≡ map way_of args
    ways_are ArgsCode.all_args = refl
    ways_are (ArgsCode.one_arg {first} {more} on_more on_first) =
        rw (way_is on_first, ways_are on_more) refl

    -- what is done with a container in each turn
    abbrev filled : Filling → Val → M H (Unit {0})
    filled (Item of) list = (meaning of).value s >>= (λ x. lift (on_heap (appended list x)))
    filled (Pair key value) dict =
        (meaning key).value s >>= (λ k. (meaning value).value s >>= (λ x.
        lift (on_heap (library.set_index dict k x))))

    as_value : {is rest : List Instr} {m n : ExprMeaning H}
        → m ≡ n
        → ExprServes is rest (n.value s)
        → ExprServes is rest (m.value s)
    as_value {is} {rest} same serves = subst (λ x. ExprServes is rest (x.value s)) (sym same) serves

    mutual
      -- the code of an expression does what it means
      pub expr_serves : {e : Expr} {rest is : List Instr}
          → ExprCode t e rest is
          → ExprServes is rest ((meaning e).value s)
      expr_serves (ExprCode.name {var} {rest}) =
          as_value (fold_expr-Name (meanings {H = H}) var) (name_serves var.scope var.slot rest)
      expr_serves (ExprCode.int {number} {rest}) =
          as_value (fold_expr-Int (meanings {H = H}) number) (constant_serves (val.Int number) rest)
      expr_serves (ExprCode.text {text} {value} {rest} there) =
          as_value (fold_expr-Text (meanings {H = H}) text) (text_serves _ value rest there)
      expr_serves (ExprCode.list {items} {rest} {is} on_items) =
          as_value (fold_expr-List (meanings {H = H}) items)
          (node_serves is rest _ (list_serves is rest (length items) _ (exprs_serve on_items)))
      expr_serves (ExprCode.tuple {items} {rest} {is} on_items) =
          as_value (fold_expr-Tuple (meanings {H = H}) items)
          (node_serves is rest _ (tuple_serves is rest (length items) _ (exprs_serve on_items)))
      expr_serves (ExprCode.dict {pairs} {rest} {is} on_pairs) =
          as_value (fold_expr-Dict (meanings {H = H}) pairs)
          (node_serves (instr.Dict ∷ is) rest _ (dict_serves is rest _ (pairs_serve on_pairs)))
      expr_serves (ExprCode.list_comp {item} {clauses} {rest} {is} on_clauses) =
          as_value (fold_expr-ListComp (meanings {H = H}) item clauses)
          (node_serves (instr.List 0 ∷ is) rest _
          (list_comp_serves is rest (λ list. comprehension s (map (fold_clause (meanings {H = H})) clauses)
          (filled (Item item) list)) (comprehension_serves on_clauses)))
      expr_serves (ExprCode.dict_comp {key} {value} {clauses} {rest} {is} on_clauses) =
          as_value (fold_expr-DictComp (meanings {H = H}) key value clauses)
          (node_serves (instr.Dict ∷ is) rest _
          (dict_serves is rest (λ dict. comprehension s (map (fold_clause (meanings {H = H})) clauses)
          (filled (Pair key value) dict)) (comprehension_serves on_clauses)))
      expr_serves (ExprCode.unary {op} {of} {rest} {is} on_of) =
          as_value (fold_expr-Unary (meanings {H = H}) op of)
          (node_serves is rest _ (unary_serves op is rest _ (expr_serves on_of)))
      expr_serves (ExprCode.binary {op} {left} {right} {rest} {mid} {is} both on_right on_left) =
          as_value (fold_expr-Binary (meanings {H = H}) op left right)
          (node_serves is rest _ (subst (λ o. ExprServes is rest
          (binary_meaning o op (meaning left) (meaning right) s)) (sym both)
          (binary_serves op is mid rest _ _ (expr_serves on_right) (expr_serves on_left))))
      expr_serves (ExprCode.short {op} {left} {right} {wanted} {block} {code} {rest} {is} goes there
          on_right on_left) =
          as_value (fold_expr-Binary (meanings {H = H}) op left right)
          (node_serves is rest _ (subst (λ o. ExprServes is rest
          (binary_meaning o op (meaning left) (meaning right) s)) (sym goes)
          (short_serves wanted block code is rest _ _ (block_here block code there)
          (expr_serves on_right) (expr_serves on_left))))
      expr_serves (ExprCode.conditional {test} {chosen} {other} {chosen_at} {other_at} {chosen_code}
          {other_code} {rest} {is} there on_chosen other_there on_other on_test) =
          as_value (fold_expr-Cond (meanings {H = H}) test chosen other)
          (node_serves is rest _ (cond_serves chosen_at other_at chosen_code other_code is rest _ _ _
          (block_here chosen_at chosen_code there) (block_here other_at other_code other_there)
          (expr_serves on_chosen) (expr_serves on_other) (expr_serves on_test)))
      expr_serves (ExprCode.lambda {function} {rest} {is} on_make) =
          as_value (fold_expr-Lambda (meanings {H = H}) function)
          (node_serves is rest _ (makes_serve.serves on_make))
      expr_serves (ExprCode.attribute {of} {name} {index} {rest} {is} there on_of) =
          as_value (fold_expr-Attr (meanings {H = H}) of name)
          (node_serves is rest _ (attribute_serves index name is rest _ (name_here index name there)
          (expr_serves on_of)))
      expr_serves (ExprCode.index {of} {at} {rest} {mid} {is} on_at on_of) =
          as_value (fold_expr-Index (meanings {H = H}) of at)
          (node_serves is rest _ (index_serves is mid rest _ _ (expr_serves on_at)
          (expr_serves on_of)))
      expr_serves (ExprCode.slice {of} {begin} {end} {step} {rest} {third} {second} {first} {is} on_step
          on_end on_begin on_of) =
          as_value (fold_expr-Slice (meanings {H = H}) of begin end step)
          (node_serves is rest _ (slice_serves first second third is rest _ _ _ _ (bound_serves on_step)
          (bound_serves on_end) (bound_serves on_begin) (expr_serves on_of)))
      expr_serves (ExprCode.call {function} {args} {rest} {mid} {is} plainly on_args on_function) =
          as_value (fold_expr-Call (meanings {H = H}) function args)
          (node_serves is rest _ (subst (λ ways. ExprServes is rest
          ((meaning function).value s >>= (λ f. each (map (λ arg. arg.value s)
          (map (fold_arg (meanings {H = H})) args)) >>= (λ values.
          lift (args_in ways values) >>= (λ given. call f given))))) (sym (ways_are on_args))
          (call_serves (length args) (map way_of args) is mid rest _ _ plainly
          (length-map args way_of) (args_serve on_args) (expr_serves on_function))))
      expr_serves (ExprCode.gathered_call {function} {args} {shape} {rest} {mid} {is} there on_args
          on_function) =
          as_value (fold_expr-Call (meanings {H = H}) function args)
          (node_serves is rest _ (subst (λ ways. ExprServes is rest
          ((meaning function).value s >>= (λ f. each (map (λ arg. arg.value s)
          (map (fold_arg (meanings {H = H})) args)) >>= (λ values.
          lift (args_in ways values) >>= (λ given. call f given))))) (sym (ways_are on_args))
          (gathered_serves shape (map way_of args) (length args) is mid rest _ _
          (shape_here shape (map way_of args) there) (length-map args way_of)
          (args_serve on_args) (expr_serves on_function))))

      -- what fills a comprehension's container, inside its clauses
      filled_serves : {fill : Filling} {rest is : List Instr}
          → FillCode t fill rest is
          → KeepsServes is rest (filled fill)
      filled_serves (FillCode.fill_item {of} {rest} {is} on_of) =
          item_serves is rest _ (expr_serves on_of)
      filled_serves (FillCode.fill_entry {key} {value} {rest} {mid} {is} on_value on_key) =
          entry_serves is mid rest _ _ (expr_serves on_value) (expr_serves on_key)

      clauses_serve : {fill : Filling} {clauses : List Clause} {rest is : List Instr}
          → ClausesCode t fill clauses rest is
          → KeepsServes is rest
          (λ list. nested s (map (fold_clause (meanings {H = H})) clauses) (filled fill list))
      clauses_serve (ClausesCode.inmost {fill} {rest} {is} on_fill) = filled_serves on_fill
      clauses_serve (ClausesCode.each {fill} {to} {over} {clauses} {block} {code} {mid} {rest} {is} there
          on_clauses on_to on_over) =
          subst (λ c. KeepsServes is rest (λ list. nested s
          (c ∷ map (fold_clause (meanings {H = H})) clauses) (filled fill list)))
          (sym (fold_clause-For (meanings {H = H}) to over))
          (each_serves block code mid is rest ((meaning over).value s) (target_meaning to s)
          (λ list. nested s (map (fold_clause (meanings {H = H})) clauses) (filled fill list))
          (block_here block code there) (clauses_serve on_clauses) (target_serves on_to)
          (expr_serves on_over))
      clauses_serve (ClausesCode.where_true {fill} {test} {clauses} {chosen} {other} {code} {rest} {is}
          there on_clauses none on_test) =
          subst (λ c. KeepsServes is rest (λ list. nested s
          (c ∷ map (fold_clause (meanings {H = H})) clauses) (filled fill list)))
          (sym (fold_clause-If (meanings {H = H}) test))
          (where_serves chosen other code is rest ((meaning test).value s)
          (λ list. nested s (map (fold_clause (meanings {H = H})) clauses) (filled fill list))
          (block_here chosen code there) (block_here other [] none) (clauses_serve on_clauses)
          (expr_serves on_test))

      comprehension_serves : {fill : Filling} {clauses : List Clause} {rest is : List Instr}
          → ComprehensionCode t fill clauses rest is
          → KeepsServes is rest
          (λ list. comprehension s (map (fold_clause (meanings {H = H})) clauses) (filled fill list))
      comprehension_serves (ComprehensionCode.no_clause {fill} {rest}) =
          refused_serves rest _ (λ list. refl)
      comprehension_serves (ComprehensionCode.no_loop {fill} {rest} test clauses) =
          refused_serves rest _ (λ list. ap (λ c. comprehension s
          (c ∷ map (fold_clause (meanings {H = H})) clauses) (filled fill list))
          (fold_clause-If (meanings {H = H}) test))
      comprehension_serves (ComprehensionCode.each_within {fill} {to} {over} {clauses} {inside} {block}
          {code} {mid} {rest} {is} within there on_clauses on_to on_over) =
          subst (λ c. KeepsServes is rest (λ list. comprehension s
          (c ∷ map (fold_clause (meanings {H = H})) clauses) (filled fill list)))
          (sym (fold_clause-For (meanings {H = H}) to over))
          (within_serves inside block code mid is rest ((meaning over).value s) (target_meaning to s)
          (λ list. nested s (map (fold_clause (meanings {H = H})) clauses) (filled fill list))
          (block_here inside (instr.For block ∷ []) within) (block_here block code there)
          (clauses_serve on_clauses) (target_serves on_to) (expr_serves on_over))

      pub target_serves : {to : Target} {rest is : List Instr}
          → TargetCode t to rest is
          → TargetServes is rest (target_meaning to s)
      target_serves (TargetCode.to_name {var} {rest}) =
          subst (λ m. TargetServes (instr.Set var.scope var.slot ∷ rest) rest (m s))
          (sym (fold_target-Name (meanings {H = H}) var)) (name_target var.scope var.slot rest)
      target_serves (TargetCode.to_index {of} {at} {rest} {mid} {is} on_at on_of) =
          subst (λ m. TargetServes is rest (m s)) (sym (fold_target-Index (meanings {H = H}) of at))
          (index_target is mid rest _ _ (expr_serves on_at) (expr_serves on_of))
      target_serves (TargetCode.to_many {targets} {rest} {is} on_targets) =
          subst (λ m. TargetServes (instr.Unpack (length targets) ∷ is) rest (m s))
          (sym (fold_target-Many (meanings {H = H}) targets))
          (subst (λ n. TargetServes (instr.Unpack (length targets) ∷ is) rest
          (λ value. lift (unpacked value n) >>= (λ values. assign_each
          (map (λ target. target s) (map target_meaning targets)) values)))
          (sym (length-map targets target_meaning))
          (many_target is rest (length targets) _ (targets_serve on_targets)))

      targets_serve : {targets : List Target} {rest is : List Instr}
          → TargetsCode t targets rest is
          → TargetsServe is rest (length targets)
          (map (λ target. target s) (map target_meaning targets))
      targets_serve (TargetsCode.no_target {rest}) = no_targets rest
      targets_serve (TargetsCode.one_target {first} {more} {rest} {mid} {is} on_more on_first) =
          more_targets is mid rest (length more) (target_meaning first s)
          (map (λ target. target s) (map target_meaning more)) (targets_serve on_more)
          (target_serves on_first)

      pub exprs_serve : {es : List Expr} {rest is : List Instr}
          → ExprsCode t es rest is
          → ExprsServes is rest (length es) (each (map (λ item. item.value s) (map meaning es)))
      exprs_serve (ExprsCode.none {rest}) = none_serve rest
      exprs_serve (ExprsCode.some {first} {more} {rest} {mid} {is} on_more on_first) =
          some_serve is mid rest (length more) ((meaning first).value s)
          (map (λ item. item.value s) (map meaning more)) (exprs_serve on_more) (expr_serves on_first)

      pub bound_serves : {o : Option Expr} {rest is : List Instr}
          → BoundCode t o rest is
          → ExprServes is rest (bound_meaning (option_map meaning o) s)
      bound_serves (BoundCode.absent {rest}) = absent_serves rest
      bound_serves (BoundCode.there {bound} {rest} {is} on_bound) = expr_serves on_bound

      pairs_serve : {pairs : List ExprPair} {rest is : List Instr}
          → PairsCode t pairs rest is
          → KeepsServes is rest
          (put_each (map (λ pair. pair s) (map (fold_pair (meanings {H = H})) pairs)))
      pairs_serve (PairsCode.no_pairs {rest}) = no_pairs_serve rest
      pairs_serve (PairsCode.pair {key} {value} {more} {rest} {after} {mid} {is} on_more on_value
          on_key) =
          subst (λ p. KeepsServes is rest (put_each (p s ∷ map (λ pair. pair s)
          (map (fold_pair (meanings {H = H})) more))))
          (sym (fold_pair-roll (meanings {H = H}) key value))
          (more_pairs_serve is mid after rest ((meaning key).value s) ((meaning value).value s)
          (map (λ pair. pair s) (map (fold_pair (meanings {H = H})) more)) (pairs_serve on_more)
          (expr_serves on_value) (expr_serves on_key))

      arg_serves : {a : Arg} {rest is : List Instr}
          → ArgCode t a rest is
          → ExprServes is rest ((fold_arg (meanings {H = H}) a).value s)
      arg_serves (ArgCode.positional {value} {rest} {is} on_value) =
          subst (λ m. ExprServes is rest (m.value s))
          (sym (fold_arg-Positional (meanings {H = H}) value)) (expr_serves on_value)
      arg_serves (ArgCode.named {name} {value} {rest} {is} on_value) =
          subst (λ m. ExprServes is rest (m.value s))
          (sym (fold_arg-Named (meanings {H = H}) name value)) (expr_serves on_value)
      arg_serves (ArgCode.star {value} {rest} {is} on_value) =
          subst (λ m. ExprServes is rest (m.value s))
          (sym (fold_arg-Star (meanings {H = H}) value))
          (items_serve is rest _ (expr_serves on_value))
      arg_serves (ArgCode.double_star {value} {rest} {is} on_value) =
          subst (λ m. ExprServes is rest (m.value s))
          (sym (fold_arg-DoubleStar (meanings {H = H}) value))
          (keywords_serve is rest _ (expr_serves on_value))

      args_serve : {args : List Arg} {rest is : List Instr}
          → ArgsCode t args rest is
          → ExprsServes is rest (length args)
          (each (map (λ arg. arg.value s) (map (fold_arg (meanings {H = H})) args)))
      args_serve (ArgsCode.all_args {rest}) = none_serve rest
      args_serve (ArgsCode.one_arg {first} {more} {rest} {mid} {is} on_more on_first) =
          some_serve is mid rest (length more) ((fold_arg (meanings {H = H}) first).value s)
          (map (λ arg. arg.value s) (map (fold_arg (meanings {H = H})) more)) (args_serve on_more)
          (arg_serves on_first)
