use Rattle.board_laws.proofs.Outcomes.{one_result}
use Rattle.board_work.specs.Turns.{rules_of}
use Rattle.board_work.proofs.laws.one_result_a_job.Goals as goal

pub returns : goal.returns
returns g c =
    λ work file path job result p. one_result (rules_of (g.W.Work.meaning work) file)
    ((g.met.W.Work g.world.𝓛 g.world.𝓜 g.world.𝓡 ((λ s x. x), (λ x. x), (λ x. x), λ x. x)).lawful
    work file) ((g.met.W.Work g.world.𝓛 g.world.𝓜 g.world.𝓡 ((λ s x. x), (λ x. x), (λ x. x), λ x. x)).bounded work file) path job result p
