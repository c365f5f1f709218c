use Rattle.star_text_laws.proofs.Wholes.{joined_lines}
use Rattle.star_text_laws.proofs.laws.lines_joined_are_the_text.Goals as goal

pub returns : goal.returns
returns c = joined_lines
