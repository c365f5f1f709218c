use Rattle.std.proofs.Common.{rules, arith}
use Rattle.std.proofs.lemmas.Grind.{common_steps}
use Rattle.star_grammar.specs.StatementReading.{loop}
use Rattle.star_statements.proofs.suites.Suites.looped.Goals as goal

pub returns-in_err-target_list : goal.returns-in_err-target_list
unfolding loop
returns-in_err-target_list g c = first_of (search rules, grind (arith, common_steps))

pub returns-in_err-expect : goal.returns-in_err-expect
unfolding loop
returns-in_err-expect g c = first_of (search rules, grind (arith, common_steps))

pub returns : goal.returns
unfolding loop
returns g c = first_of (search rules, grind (arith, common_steps))
