use Rattle.std.proofs.Common.{arith}
use Rattle.star_compiler.proofs.Growing.{if_ok, on_ok}
use Rattle.star_compiler.proofs.StmtArms.{as_stmts_block, as_turn_block, assign_arm, augment_arm}
use Rattle.star_compiler.proofs.StmtArms.{branch_arm, break_arm, continue_arm, define_arm, give_arm}
use Rattle.star_compiler.proofs.StmtArms.{load_arm, loop_arm, more_stmts, no_stmts, pass_arm}
use Rattle.star_compiler.proofs.StmtArms.{stmt_whole, stmts_block, turn_block, value_arm}
use Rattle.star_compiler.proofs.emitter.Emitter.+statement.Goals as goal

pub block-returns : goal.block-returns
block-returns t c =
    if_ok _ _ _ (λ block put.
    stmts_block _ _ _ _ _ _ _ c.new-out.ensures c.in_ok-stmts.ensures put) c.keep_block.ensures

pub turn_block-returns : goal.turn_block-returns
turn_block-returns t c =
    if_ok _ _ _ (λ block put.
    turn_block _ _ _ _ _ _ _ _ _ _ c.new-out.ensures c.in_ok-stmts.ensures
    c.in_ok-target.ensures put) c.keep_block.ensures

pub kind-returns-in_ok-put-in-Def : goal.kind-returns-in_ok-put-in-Def
kind-returns-in_ok-put-in-Def t c =
    on_ok _ _ _ (λ last. define_arm _ _ _ _ _ _ _ c.in-Def.is c.in_ok-put-in-Def.ensures last)
    c.make.ensures

pub kind-returns-in_ok-put-in-If : goal.kind-returns-in_ok-put-in-If
kind-returns-in_ok-put-in-If t c =
    on_ok _ _ _ (λ last. branch_arm _ _ _ _ _ _ _ _ _ _ _ _ _ c.in-If.is
    (as_stmts_block c.as_slice.ensures c.in_ok-chosen-in-If.ensures)
    (as_stmts_block c.as_slice-in-If.ensures c.in_ok-other-in-If.ensures)
    c.in_ok-put-in-If.ensures last) c.expr.ensures

pub kind-returns-in_ok-put-in-For : goal.kind-returns-in_ok-put-in-For
kind-returns-in_ok-put-in-For t c =
    on_ok _ _ _ (λ last. loop_arm _ _ _ _ _ _ _ _ _ _ _ c.in-For.is
    (as_turn_block c.as_slice-in-For.ensures c.in_ok-block-in-For.ensures)
    c.in_ok-put-in-For.ensures last) c.expr-in-For.ensures

pub kind-returns-in_ok-put-in-Return : goal.kind-returns-in_ok-put-in-Return
kind-returns-in_ok-put-in-Return t c =
    on_ok _ _ _ (λ last. give_arm _ _ _ _ _ _ _ c.in-Return.is c.in_ok-put-in-Return.ensures last)
    c.returned.ensures

pub kind-returns-in-Break : goal.kind-returns-in-Break
kind-returns-in-Break t c =
    on_ok _ _ _ (λ last. break_arm _ _ _ _ c.in-Break.is last) c.put-in-Break.ensures

pub kind-returns-in-Continue : goal.kind-returns-in-Continue
kind-returns-in-Continue t c =
    on_ok _ _ _ (λ last. continue_arm _ _ _ _ c.in-Continue.is last) c.put-in-Continue.ensures

pub kind-returns-in-Pass : goal.kind-returns-in-Pass
kind-returns-in-Pass t c = pass_arm _ _ _ c.in-Pass.is

pub kind-returns-in-Load : goal.kind-returns-in-Load
kind-returns-in-Load t c = load_arm _ _ _ _ c.in-Load.is

pub kind-returns-in_ok-target-in-Assign : goal.kind-returns-in_ok-target-in-Assign
kind-returns-in_ok-target-in-Assign t c =
    on_ok _ _ _ (λ last. assign_arm _ _ _ _ _ _ _ _ _ c.in-Assign.is
    c.in_ok-target-in-Assign.ensures last) c.expr-in-Assign.ensures

pub kind-returns-in-Augment : goal.kind-returns-in-Augment
kind-returns-in-Augment t c =
    on_ok _ _ _ (λ last. augment_arm _ _ _ _ _ _ _ _ c.in-Augment.is last) c.augment.ensures

pub kind-returns-in_ok-put-in-Value : goal.kind-returns-in_ok-put-in-Value
kind-returns-in_ok-put-in-Value t c =
    on_ok _ _ _ (λ last. value_arm _ _ _ _ _ _ _ c.in-Value.is c.in_ok-put-in-Value.ensures last)
    c.expr-in-Value.ensures

pub stmt-returns : goal.stmt-returns
stmt-returns t c =
    on_ok _ _ _ (λ last. stmt_whole _ _ _ _ _ _ c.in_ok-kind.ensures last) c.put.ensures

pub stmts-stmts-init : goal.stmts-stmts-init
stmts-stmts-init t c = (omega arith, no_stmts c.args.stmts.now _ _)

pub stmts-stmts-preserved : goal.stmts-stmts-preserved
stmts-stmts-preserved t c = (
  omega arith,
  more_stmts c.args.stmts.now c.stmts.left _ _ _ _ _ _ _ (omega arith)
      (omega arith) c.index-stmts-left.is c.stmts.invariant.1 c.in_ok-stmt.ensures,
)
