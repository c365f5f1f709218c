use Rattle.selection.proofs.SelectionLaws.{selected-least}
use Rattle.selection.proofs.laws.selected_is_least.Goals as goal

pub returns : goal.returns
returns c = selected-least
