use Rattle.board_laws.proofs.Turning.{cycle_texts-turned}
use Rattle.board_laws.proofs.laws.a_cycle_has_one_text.Goals as goal

pub returns : goal.returns
returns c = cycle_texts-turned
