use Rattle.star_compiler.proofs.ClauseArms.{double_star_way, named_way, positional_way, star_way}
use Rattle.star_compiler.proofs.expressions.way.Goals as goal

pub returns-in-Positional : goal.returns-in-Positional
returns-in-Positional c = positional_way _ _ c.in-Positional.is

pub returns-in_ok-copy-in-Named : goal.returns-in_ok-copy-in-Named
returns-in_ok-copy-in-Named c = named_way _ _ _ _ c.in-Named.is c.in_ok-copy-in-Named.ensures

pub returns-in-Star : goal.returns-in-Star
returns-in-Star c = star_way _ _ c.in-Star.is

pub returns-in-DoubleStar : goal.returns-in-DoubleStar
returns-in-DoubleStar c = double_star_way _ _ c.in-DoubleStar.is
