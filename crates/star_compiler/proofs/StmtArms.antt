-- The arms of the pass that writes the code of targets and statements.
use Rattle.std.proofs.Common.{◌≡◌, subst, arith, ℕ, suc, ◌-◌, ◌<◌, List}
use Rattle.std.proofs.Common.{[], ◌∷◌, length, drop, drop-cons, get_or, Option}
use Rattle.std.proofs.Math.Seq.{drop-length}
use Rattle.star_compiler.proofs.ExprArms.{plain}
use Rattle.star_compiler.proofs.Growing.{grows_both, later_tables}
use Rattle.star_code.specs.Codes.{AugmentCode, BoundCode, ExprCode, KindCode, MakeCode, StmtCode}
use Rattle.star_code.specs.Codes.{StmtsCode, TargetCode, TargetsCode}
use Rattle.star_code.specs.declared.code.Instr.{Instr}
use Rattle.star_code.specs.declared.code.Instr.TheVariants as instr
use Rattle.star_compiler.specs.Emitted.{BlockPut, Emits, EmitsBound, EmitsExpr, EmitsKind}
use Rattle.star_compiler.specs.Emitted.{EmitsStmt, EmitsStmts, EmitsTarget, EmitsTargets}
use Rattle.star_compiler.specs.Emitted.{Makes, StmtsBlock, TurnBlock}
use Rattle.star_compiler.specs.declared.emitter.Emitter.{Emitter}
use Rattle.star_trees.specs.declared.trees.BinOp.{BinOp}
use Rattle.star_trees.specs.declared.trees.Expr as e
use Rattle.star_trees.specs.declared.trees.Expr.{Expr}
use Rattle.star_trees.specs.declared.trees.Stmt.{Stmt}
use Rattle.star_trees.specs.declared.trees.StmtKind as st
use Rattle.star_trees.specs.declared.trees.StmtKind.{StmtKind}
use Rattle.star_trees.specs.declared.trees.Target as target
use Rattle.star_trees.specs.declared.trees.Target.{Target}
use Rattle.star_trees.specs.declared.trees.Var.{Var}

one_less : (left : ℕ) → 0 < left → left ≡ suc (left - 1)
one_less left some = omega arith

pub no_targets : (targets : List Target) (emitter : Emitter) (rest : List Instr)
    → EmitsTargets (drop (length targets) targets) emitter emitter rest rest
no_targets targets emitter rest =
    plain emitter rest rest (λ t. rw (drop-length targets) TargetsCode.no_target)

pub more_targets : (targets : List Target) (left : ℕ) (item : Target) (a b c : Emitter)
    (rest mid is : List Instr)
    → 0 < left
    → left - 1 < length targets
    → item ≡ get_or targets (left - 1) item
    → EmitsTargets (drop left targets) a b rest mid
    → EmitsTarget item b c mid is
    → EmitsTargets (drop (left - 1) targets) a c rest is
more_targets targets left item a b c rest mid is some within at more first =
    record {
      grows = grows_both more.grows first.grows;
      coded = λ t holds.
          rw (drop-cons targets (left - 1) item within)
          (TargetsCode.one_target
          (subst (λ k. TargetsCode t (drop k targets) rest mid) (one_less left some)
          (more.coded t (later_tables t first.grows holds)))
          (subst (λ x. TargetCode t x mid is) at (first.coded t holds)));
    }

pub no_stmts : (stmts : List Stmt) (emitter : Emitter) (rest : List Instr)
    → EmitsStmts (drop (length stmts) stmts) emitter emitter rest rest
no_stmts stmts emitter rest =
    plain emitter rest rest (λ t. rw (drop-length stmts) StmtsCode.none)

pub more_stmts : (stmts : List Stmt) (left : ℕ) (item : Stmt) (a b c : Emitter)
    (rest mid is : List Instr)
    → 0 < left
    → left - 1 < length stmts
    → item ≡ get_or stmts (left - 1) item
    → EmitsStmts (drop left stmts) a b rest mid
    → EmitsStmt item b c mid is
    → EmitsStmts (drop (left - 1) stmts) a c rest is
more_stmts stmts left item a b c rest mid is some within at more first =
    record {
      grows = grows_both more.grows first.grows;
      coded = λ t holds.
          rw (drop-cons stmts (left - 1) item within)
          (StmtsCode.some
          (subst (λ k. StmtsCode t (drop k stmts) rest mid) (one_less left some)
          (more.coded t (later_tables t first.grows holds)))
          (subst (λ x. StmtCode t x mid is) at (first.coded t holds)));
    }

pub stmt_whole : (stmt : Stmt) (a b : Emitter) (rest mid is : List Instr)
    → EmitsKind stmt.kind a b rest mid
    → is ≡ instr.Begin stmt.line ∷ mid
    → EmitsStmt stmt a b rest is
stmt_whole stmt a b rest mid is emitted last =
    record {
      grows = emitted.grows;
      coded = λ t holds. rw last (StmtCode.begin (emitted.coded t holds));
    }

-- statements' block, and that of a loop's turn
pub stmts_block : (stmts : List Stmt) (a b c : Emitter) (begin code : List Instr) (block : ℕ)
    → begin ≡ []
    → EmitsStmts stmts a b begin code
    → BlockPut code block b c
    → StmtsBlock stmts block a c
stmts_block stmts a b c begin code block empty emitted put =
    record {
      grows = grows_both emitted.grows put.grows;
      code = code;
      there = put.there;
      coded = λ t holds.
          subst (λ o. StmtsCode t stmts o code) empty
          (emitted.coded t (later_tables t put.grows holds));
    }

pub turn_block : (to : Target) (stmts : List Stmt) (a b c d : Emitter)
    (begin mid code : List Instr) (block : ℕ)
    → begin ≡ []
    → EmitsStmts stmts a b begin mid
    → EmitsTarget to b c mid code
    → BlockPut code block c d
    → TurnBlock to stmts block a d
turn_block to stmts a b c d begin mid code block empty on_stmts on_target put =
    record {
      grows = grows_both on_stmts.grows (grows_both on_target.grows put.grows);
      mid = mid;
      code = code;
      there = put.there;
      coded = λ t holds.
          let at_target = later_tables t put.grows holds in (
            subst (λ o. StmtsCode t stmts o mid) empty
                (on_stmts.coded t (later_tables t on_target.grows at_target)),
            on_target.coded t at_target,
          );
    }

module _ (x : Target) where
  pub name_target : (var : Var) (emitter : Emitter) (rest is : List Instr)
      → x ≡ target.Name var
      → is ≡ instr.Set var.scope var.slot ∷ rest
      → EmitsTarget x emitter emitter rest is
  name_target var emitter rest is same last =
      plain emitter rest is (λ t. rw (same, last) TargetCode.to_name)

  pub index_target : (of at : Expr) (a b c : Emitter) (rest first mid is : List Instr)
      → x ≡ target.Index of at
      → first ≡ instr.SetIndex ∷ rest
      → EmitsExpr at a b first mid
      → EmitsExpr of b c mid is
      → EmitsTarget x a c rest is
  index_target of at a b c rest first mid is same put on_at on_of =
      record {
        grows = grows_both on_at.grows on_of.grows;
        coded = λ t holds.
            rw same (TargetCode.to_index
            (subst (λ o. ExprCode t at o mid) put
            (on_at.coded t (later_tables t on_of.grows holds)))
            (on_of.coded t holds));
      }

  pub many_targets : (targets : List Target) (count : ℕ) (a b : Emitter) (rest mid is : List Instr)
      → x ≡ target.Many targets
      → EmitsTargets targets a b rest mid
      → count ≡ length targets
      → is ≡ instr.Unpack count ∷ mid
      → EmitsTarget x a b rest is
  many_targets targets count a b rest mid is same emitted long last =
      record {
        grows = emitted.grows;
        coded = λ t holds. rw (same, last, long) (TargetCode.to_many (emitted.coded t holds));
      }

module _ (x : StmtKind) where
  pub define_arm : (function : ℕ) (to : Var) (emitter : Emitter) (rest first is : List Instr)
      → x ≡ st.Def function to
      → first ≡ instr.Set to.scope to.slot ∷ rest
      → Makes emitter function first is
      → EmitsKind x emitter emitter rest is
  define_arm function to emitter rest first is same put made =
      record {
        grows = made.grows;
        coded = λ t holds. rw same (KindCode.define
            (subst (λ o. MakeCode t function o is) put (made.coded t holds)));
      }

  pub branch_arm : (test : Expr) (chosen other : List Stmt) (chosen_at other_at : ℕ)
      (a b c d : Emitter) (rest first is : List Instr)
      → x ≡ st.If test chosen other
      → StmtsBlock chosen chosen_at a b
      → StmtsBlock other other_at b c
      → first ≡ instr.If chosen_at other_at ∷ rest
      → EmitsExpr test c d first is
      → EmitsKind x a d rest is
  branch_arm test chosen other chosen_at other_at a b c d rest first is same on_chosen on_other put
      on_test =
      record {
        grows = grows_both on_chosen.grows (grows_both on_other.grows on_test.grows);
        coded = λ t holds.
            let at_test = later_tables t on_test.grows holds in
            let at_other = later_tables t on_other.grows at_test in
            rw same (KindCode.branch
            (at_other.blocks chosen_at on_chosen.code on_chosen.there)
            (on_chosen.coded t at_other)
            (at_test.blocks other_at on_other.code on_other.there)
            (on_other.coded t at_test)
            (subst (λ o. ExprCode t test o is) put (on_test.coded t holds)));
      }

  pub loop_arm : (to : Target) (over : Expr) (body : List Stmt) (block : ℕ) (a b c : Emitter)
      (rest first is : List Instr)
      → x ≡ st.For to over body
      → TurnBlock to body block a b
      → first ≡ instr.For block ∷ rest
      → EmitsExpr over b c first is
      → EmitsKind x a c rest is
  loop_arm to over body block a b c rest first is same on_turn put on_over =
      record {
        grows = grows_both on_turn.grows on_over.grows;
        coded = λ t holds.
            let at_over = later_tables t on_over.grows holds in
            rw same (KindCode.loop
            (at_over.blocks block on_turn.code on_turn.there)
            (on_turn.coded t at_over).0
            (on_turn.coded t at_over).1
            (subst (λ o. ExprCode t over o is) put (on_over.coded t holds)));
      }

  pub give_arm : (value : Option Expr) (a b : Emitter) (rest first is : List Instr)
      → x ≡ st.Return value
      → first ≡ instr.Return ∷ rest
      → EmitsBound value a b first is
      → EmitsKind x a b rest is
  give_arm value a b rest first is same put emitted =
      record {
        grows = emitted.grows;
        coded = λ t holds.
            rw same (KindCode.give (subst (λ o. BoundCode t value o is) put
            (emitted.coded t holds)));
      }

  pub break_arm : (emitter : Emitter) (rest is : List Instr)
      → x ≡ st.Break
      → is ≡ instr.Break ∷ rest
      → EmitsKind x emitter emitter rest is
  break_arm emitter rest is same last =
      plain emitter rest is (λ t. rw (same, last) KindCode.break)

  pub continue_arm : (emitter : Emitter) (rest is : List Instr)
      → x ≡ st.Continue
      → is ≡ instr.Continue ∷ rest
      → EmitsKind x emitter emitter rest is
  continue_arm emitter rest is same last =
      plain emitter rest is (λ t. rw (same, last) KindCode.continue)

  pub pass_arm : (emitter : Emitter) (rest : List Instr)
      → x ≡ st.Pass
      → EmitsKind x emitter emitter rest rest
  pass_arm emitter rest same = plain emitter rest rest (λ t. rw same KindCode.pass)

  pub load_arm : (index : ℕ) (emitter : Emitter) (rest : List Instr)
      → x ≡ st.Load index
      → EmitsKind x emitter emitter rest rest
  load_arm index emitter rest same = plain emitter rest rest (λ t. rw same (KindCode.load index))

  pub assign_arm : (to : Target) (value : Expr) (a b c : Emitter) (rest mid is : List Instr)
      → x ≡ st.Assign to value
      → EmitsTarget to a b rest mid
      → EmitsExpr value b c mid is
      → EmitsKind x a c rest is
  assign_arm to value a b c rest mid is same on_target on_value =
      record {
        grows = grows_both on_target.grows on_value.grows;
        coded = λ t holds.
            rw same (KindCode.assign
            (on_target.coded t (later_tables t on_value.grows holds))
            (on_value.coded t holds));
      }

  pub augment_arm : (to : Expr) (op : BinOp) (value : Expr) (a b : Emitter) (rest is : List Instr)
      → x ≡ st.Augment to op value
      → Emits (λ t. AugmentCode t op value to) a b rest is
      → EmitsKind x a b rest is
  augment_arm to op value a b rest is same emitted =
      record {
        grows = emitted.grows;
        coded = λ t holds. rw same (KindCode.augment (emitted.coded t holds));
      }

  pub value_arm : (of : Expr) (a b : Emitter) (rest first is : List Instr)
      → x ≡ st.Value of
      → first ≡ instr.Forget ∷ rest
      → EmitsExpr of a b first is
      → EmitsKind x a b rest is
  value_arm of a b rest first is same put emitted =
      record {
        grows = emitted.grows;
        coded = λ t holds.
            rw same (KindCode.value (subst (λ o. ExprCode t of o is) put
            (emitted.coded t holds)));
      }

module _ (op : BinOp) (value to : Expr) where
  pub augment_name : (var : Var) (a b : Emitter) (rest first mid is : List Instr)
      → to ≡ e.Name var
      → first ≡ instr.AugmentName op var.scope var.slot ∷ rest
      → EmitsExpr value a b first mid
      → is ≡ instr.Name var.scope var.slot ∷ mid
      → Emits (λ t. AugmentCode t op value to) a b rest is
  augment_name var a b rest first mid is same put emitted last =
      record {
        grows = emitted.grows;
        coded = λ t holds.
            rw (same, last) (AugmentCode.name (subst (λ o. ExprCode t value o mid) put
            (emitted.coded t holds)));
      }

  pub augment_index : (of at : Expr) (a b c d : Emitter)
      (rest first third fetch mid second is : List Instr)
      → to ≡ e.Index of at
      → first ≡ instr.AugmentIndex op ∷ rest
      → EmitsExpr value a b first third
      → fetch ≡ instr.Fetch ∷ third
      → EmitsExpr at b c fetch mid
      → EmitsExpr of c d mid second
      → is ≡ instr.Tick ∷ second
      → Emits (λ t. AugmentCode t op value to) a d rest is
  augment_index of at a b c d rest first third fetch mid second is same put on_value fetched on_at
      on_of last =
      record {
        grows = grows_both on_value.grows (grows_both on_at.grows on_of.grows);
        coded = λ t holds.
            let at_at = later_tables t on_of.grows holds in
            let at_value = later_tables t on_at.grows at_at in
            rw (same, last) (AugmentCode.index
            (subst (λ o. ExprCode t value o third) put (on_value.coded t at_value))
            (subst (λ o. ExprCode t at o mid) fetched (on_at.coded t at_at))
            (on_of.coded t holds));
      }

pub as_stmts_block : {a b : Emitter} {block : ℕ} {p q : List Stmt}
    → p ≡ q
    → StmtsBlock p block a b
    → StmtsBlock q block a b
as_stmts_block {a} {b} {block} same emitted = subst (λ x. StmtsBlock x block a b) same emitted

pub as_turn_block : {a b : Emitter} {block : ℕ} {to : Target} {p q : List Stmt}
    → p ≡ q
    → TurnBlock to p block a b
    → TurnBlock to q block a b
as_turn_block {a} {b} {block} {to} same emitted =
    subst (λ x. TurnBlock to x block a b) same emitted

pub as_targets : {a b : Emitter} {rest is : List Instr} {p q : List Target}
    → p ≡ q
    → EmitsTargets p a b rest is
    → EmitsTargets q a b rest is
as_targets {a} {b} {rest} {is} same emitted = subst (λ x. EmitsTargets x a b rest is) same emitted
