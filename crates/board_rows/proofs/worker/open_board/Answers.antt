use Rattle.std.proofs.Common.{refl, subst}
use Rattle.board_laws.specs.Results.{AllOwn}
use Rattle.board_pair.specs.Pairs.{pair_meaning}
use Rattle.board_slots.specs.Views.{bare_rules}
use Rattle.board_rows.proofs.worker.open_board.Goals as goal

pub begin-requires-clause-own : goal.begin-requires-clause-own
begin-requires-clause-own g c κs within =
    subst (AllOwn (bare_rules (pair_meaning g.N.BoardOf.work.lower))) c.requires.goals
    (AllOwn.cons refl (AllOwn.cons refl AllOwn.nil))
