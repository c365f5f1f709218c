use Rattle.board_laws.proofs.Outcomes.{recursive_has}
use Rattle.board_work.specs.Turns.{rules_of}
use Rattle.board_work.proofs.laws.each_job_has_a_result.Goals as goal

pub returns : goal.returns
returns g c =
    λ work file path job p. recursive_has (rules_of (g.W.Work.meaning work) file)
    ((g.met.W.Work g.world.𝓛 g.world.𝓜 g.world.𝓡 ((λ s x. x), (λ x. x), (λ x. x), λ x. x)).lawful
    work file) ((g.met.W.Work g.world.𝓛 g.world.𝓜 g.world.𝓡 ((λ s x. x), (λ x. x), (λ x. x), λ x. x)).bounded work file) p
