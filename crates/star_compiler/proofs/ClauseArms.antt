-- The arms of the pass that writes comprehensions, calls and what makes functions.
use Rattle.std.proofs.Common.{◌≡◌, ◌∙◌, ap, refl, subst, sym, arith, ℕ, suc, ◌-◌, ◌<◌, ◌≤◌, true}
use Rattle.std.proofs.Common.{false, nat_lt, List, [], ◌∷◌, length, drop, drop-cons, get_or, map}
use Rattle.std.proofs.Common.{slice_get, Some, None}
use Rattle.std.proofs.Math.Seq.{drop-length}
use Rattle.star_code.specs.Codes.{ClausesCode, ComprehensionCode, ExprCode, FillCode, Filling}
use Rattle.star_code.specs.Codes.{MakeCode, Tables, TargetCode}
use Rattle.star_code.specs.declared.code.Instr.{Instr}
use Rattle.star_code.specs.declared.code.Instr.TheVariants as instr
use Rattle.star_compiler.proofs.ExprArms.{plain}
use Rattle.star_compiler.proofs.Growing.{grows_both, grows_same, later_tables}
use Rattle.star_compiler.specs.Emitted.{BlockPut, CallIs, CallPut, ClauseEmitted, ClauseTurn}
use Rattle.star_compiler.specs.Emitted.{EmitsComprehension, EmitsExpr, EmitsTarget, Extends}
use Rattle.star_compiler.specs.Emitted.{FirstClause, Grows, ItemFill, Makes, ShapePut, tables_in}
use Rattle.star_compiler.specs.declared.emitter.Emitter.{Emitter}
use Rattle.star_meaning.specs.Arguments.{all_plain, way_of, way_values}
use Rattle.star_meaning.specs.declared.arguments.Way.{Way}
use Rattle.star_meaning.specs.declared.arguments.Way.TheVariants as way
use Rattle.star_trees.proofs.Folds.{fold_arg-DoubleStar, fold_arg-Named, fold_arg-Positional}
use Rattle.star_trees.proofs.Folds.{fold_arg-Star}
use Rattle.star_trees.specs.declared.trees.Arg as arg
use Rattle.star_trees.specs.declared.trees.Arg.{Arg}
use Rattle.star_trees.specs.declared.trees.Clause as clause
use Rattle.star_trees.specs.declared.trees.Clause.{Clause}
use Rattle.star_trees.specs.declared.trees.Expr.{Expr}
use Rattle.star_trees.specs.declared.trees.Target.{Target}

one_less : (left : ℕ) → 0 < left → left ≡ suc (left - 1)
one_less left some = omega arith

pub item_fill : (item : Expr) (a b : Emitter) (begin first fill : List Instr)
    → begin ≡ []
    → first ≡ instr.Collect ∷ begin
    → EmitsExpr item a b first fill
    → ItemFill item a b fill
item_fill item a b begin first fill empty put emitted =
    record {
      grows = emitted.grows;
      coded = λ t holds. FillCode.fill_item
          (subst (λ o. ExprCode t item o fill) (put ∙ ap (λ o. instr.Collect ∷ o) empty)
          (emitted.coded t holds));
    }

-- all clauses behind the first `left` are written
pub record Written (clauses : List Clause) (left : ℕ) (fill code : List Instr) (old new : Emitter)
    : Type 0 where
  pub grows : Grows old new
  pub coded : (t : Tables)
      → Extends (tables_in new) t
      → (of : Filling)
      → FillCode t of [] fill
      → ClausesCode t of (drop left clauses) [] code

pub none_written : (clauses : List Clause) (fill : List Instr) (emitter : Emitter)
    → Written clauses (length clauses) fill fill emitter emitter
none_written clauses fill emitter =
    record {
      grows = grows_same emitter;
      coded = λ t holds of filled. rw (drop-length clauses) (ClausesCode.inmost filled);
    }

pub one_written : (clauses : List Clause) (left : ℕ) (of : Clause) (a b c : Emitter)
    (fill code out : List Instr)
    → 0 < left
    → left - 1 < length clauses
    → of ≡ get_or clauses (left - 1) of
    → Written clauses left fill code a b
    → ClauseEmitted of code b c out
    → Written clauses (left - 1) fill out a c
one_written clauses left of a b c fill code out some within at more one =
    record {
      grows = grows_both more.grows one.grows;
      coded = λ t holds filling filled.
          rw (drop-cons clauses (left - 1) of within)
          (subst (λ x. ClausesCode t filling (x ∷ drop (suc (left - 1)) clauses) [] out) at
          (one.coded t holds filling (drop (suc (left - 1)) clauses)
          (subst (λ k. ClausesCode t filling (drop k clauses) [] code) (one_less left some)
          (more.coded t (later_tables t one.grows holds) filling filled))));
    }

pub clause_turn : (to : Target) (a b c : Emitter) (begin inner code : List Instr) (block : ℕ)
    → begin ≡ inner
    → EmitsTarget to a b begin code
    → BlockPut code block b c
    → ClauseTurn to inner block a c
clause_turn to a b c begin inner code block same emitted put =
    record {
      grows = grows_both emitted.grows put.grows;
      code = code;
      there = put.there;
      coded = λ t holds. subst (λ o. TargetCode t to o code) same
          (emitted.coded t (later_tables t put.grows holds));
    }

pub each_clause : (of : Clause) (to : Target) (over : Expr) (a b c : Emitter)
    (code begin first out : List Instr) (block : ℕ)
    → of ≡ clause.For to over
    → ClauseTurn to code block a b
    → begin ≡ []
    → first ≡ instr.For block ∷ begin
    → EmitsExpr over b c first out
    → ClauseEmitted of code a c out
each_clause of to over a b c code begin first out block is turn empty put emitted =
    record {
      grows = grows_both turn.grows emitted.grows;
      coded = λ t holds filling clauses coded.
          let at_turn = later_tables t emitted.grows holds in
          rw is (ClausesCode.each (at_turn.blocks block turn.code turn.there) coded
          (turn.coded t at_turn)
          (subst (λ o. ExprCode t over o out) (put ∙ ap (λ o. instr.For block ∷ o) empty)
          (emitted.coded t holds)));
    }

pub where_clause : (of : Clause) (test : Expr) (a b c d : Emitter)
    (code nothing begin first out : List Instr) (chosen other : ℕ)
    → of ≡ clause.If test
    → BlockPut code chosen a b
    → nothing ≡ []
    → BlockPut nothing other b c
    → begin ≡ []
    → first ≡ instr.If chosen other ∷ begin
    → EmitsExpr test c d first out
    → ClauseEmitted of code a d out
where_clause of test a b c d code nothing begin first out chosen other is kept none beside empty put
    emitted =
    record {
      grows = grows_both kept.grows (grows_both beside.grows emitted.grows);
      coded = λ t holds filling clauses coded.
          let at_other = later_tables t emitted.grows holds in
          let at_chosen = later_tables t beside.grows at_other in
          rw is (ClausesCode.where_true (at_chosen.blocks chosen code kept.there) coded
          (at_other.blocks other [] (beside.there ∙ ap Some none))
          (subst (λ o. ExprCode t test o out) (put ∙ ap (λ o. instr.If chosen other ∷ o) empty)
          (emitted.coded t holds)));
    }

pub first_each : (of : Clause) (to : Target) (over : Expr) (a b c d : Emitter)
    (code rest first is : List Instr) (block inside : ℕ)
    → of ≡ clause.For to over
    → ClauseTurn to code block a b
    → BlockPut (instr.For block ∷ []) inside b c
    → first ≡ instr.Within inside ∷ rest
    → EmitsExpr over c d first is
    → FirstClause of code a d rest is
first_each of to over a b c d code rest first is block inside same turn kept put emitted =
    record {
      grows = grows_both turn.grows (grows_both kept.grows emitted.grows);
      coded = λ t holds filling clauses coded.
          let at_inside = later_tables t emitted.grows holds in
          let at_turn = later_tables t kept.grows at_inside in
          rw same (ComprehensionCode.each_within
          (at_inside.blocks inside (instr.For block ∷ []) kept.there)
          (at_turn.blocks block turn.code turn.there) coded (turn.coded t at_turn)
          (subst (λ o. ExprCode t over o is) put (emitted.coded t holds)));
    }

pub first_where : (of : Clause) (test : Expr) (emitter : Emitter) (code rest is : List Instr)
    → of ≡ clause.If test
    → is ≡ instr.NotAssignable ∷ rest
    → FirstClause of code emitter emitter rest is
first_where of test emitter code rest is same last =
    record {
      grows = grows_same emitter;
      coded = λ t holds filling clauses coded. rw (same, last) (ComprehensionCode.no_loop test clauses);
    }

pub comprehension_none : (clauses : List Clause) (a b : Emitter)
    (fill code rest is : List Instr) (left : ℕ)
    → clauses ≡ []
    → Written clauses left fill code a b
    → is ≡ instr.NotAssignable ∷ rest
    → EmitsComprehension clauses fill a b rest is
comprehension_none clauses a b fill code rest is left none written last =
    record {
      grows = written.grows;
      coded = λ t holds filling filled. rw (none, last) ComprehensionCode.no_clause;
    }

-- the clauses behind the first one
abbrev behind : List Clause → List Clause
behind [] = []
behind (first ∷ more) = more

pub no_first : (clauses : List Clause) → slice_get clauses 0 ≡ None → clauses ≡ []
no_first [] none = refl
no_first (first ∷ more) none = absurd (cc none)

pub first_there : (clauses : List Clause) (first : Clause)
    → slice_get clauses 0 ≡ Some first
    → clauses ≡ first ∷ behind clauses
first_there [] first there = absurd (cc there)
first_there (other ∷ more) first there =
    let same : other ≡ first = cc there in
    ap (λ x. x ∷ more) same

pub comprehension_some : (clauses : List Clause) (first : Clause) (more : List Clause)
    (a b c : Emitter) (fill code rest is : List Instr) (left : ℕ)
    → clauses ≡ first ∷ more
    → left ≤ length clauses
    → (1 < left → ⊥)
    → (0 < length clauses → 0 < left)
    → Written clauses left fill code a b
    → FirstClause first code b c rest is
    → EmitsComprehension clauses fill a c rest is
comprehension_some clauses first more a b c fill code rest is left are within last some written begun =
    let one : left ≡ 1 = omega (arith, last, some (rw are (omega arith))) in
    record {
      grows = grows_both written.grows begun.grows;
      coded = λ t holds filling filled.
          rw are (begun.coded t holds filling more
          (subst (λ rest. ClausesCode t filling rest [] code)
          (ap (λ k. drop k clauses) one ∙ ap (drop 1) are)
          (written.coded t (later_tables t begun.grows holds) filling filled)));
    }

pub made : (emitter : Emitter) (function : ℕ) (rest first is : List Instr)
    → nat_lt function emitter.least ≡ false
    → first ≡ instr.Def function ∷ rest
    → is ≡ instr.Defaults function ∷ first
    → Makes emitter function rest is
made emitter function rest first is may put last =
    record {
      grows = grows_same emitter;
      coded = λ t holds. rw (last, put) (MakeCode.may
          (subst (λ least. nat_lt function least ≡ false) (sym holds.least) may));
    }

pub not_made : (emitter : Emitter) (function : ℕ) (rest is : List Instr)
    → nat_lt function emitter.least ≡ true
    → is ≡ instr.NotAssignable ∷ rest
    → Makes emitter function rest is
not_made emitter function rest is may_not last =
    record {
      grows = grows_same emitter;
      coded = λ t holds. rw last (MakeCode.may_not
          (subst (λ least. nat_lt function least ≡ true) (sym holds.least) may_not));
    }

pub plain_call : (args : List Arg) (ways : List Way) (count : ℕ) (emitter : Emitter)
    (rest is : List Instr)
    → ways ≡ map way_of args
    → all_plain ways ≡ true
    → count ≡ length args
    → is ≡ instr.Call count ∷ rest
    → CallPut args emitter emitter rest is
plain_call args ways count emitter rest is are plainly long last =
    plain emitter rest is (λ t. rw (last, long) (CallIs.plainly
    (subst (λ w. all_plain w ≡ true) are plainly)))

pub shaped_call : (args : List Arg) (ways : List Way) (shape : ℕ) (a b : Emitter)
    (rest first is : List Instr)
    → ways ≡ map way_of args
    → ShapePut ways shape a b
    → first ≡ instr.CallGathered ∷ rest
    → is ≡ instr.Gather shape ∷ first
    → CallPut args a b rest is
shaped_call args ways shape a b rest first is are put called last =
    record {
      grows = put.grows;
      coded = λ t holds. rw (last, called) (CallIs.shaped
          (holds.shapes shape ways put.there ∙ ap Some are));
    }

module _ (x : Arg) where
  pub positional_way : (value : Expr) → x ≡ arg.Positional value → way.Positional ≡ way_of x
  positional_way value is = rw is (sym (fold_arg-Positional way_values value))

  pub named_way : (name copy : List ℕ) (value : Expr)
      → x ≡ arg.Named name value
      → copy ≡ name
      → way.Named copy ≡ way_of x
  named_way name copy value is same =
      rw (is, same) (sym (fold_arg-Named way_values name value))

  pub star_way : (value : Expr) → x ≡ arg.Star value → way.Star ≡ way_of x
  star_way value is = rw is (sym (fold_arg-Star way_values value))

  pub double_star_way : (value : Expr) → x ≡ arg.DoubleStar value → way.DoubleStar ≡ way_of x
  double_star_way value is = rw is (sym (fold_arg-DoubleStar way_values value))
