use Rattle.board_machine.proofs.Whole.{every_result}
use Rattle.board_work.specs.Turns.{rules_of}
use Rattle.board_work.proofs.laws.done_jobs_have_their_results.Goals as goal

pub returns : goal.returns
returns g c =
    λ work file goals events after place slot result owned run h e. every_result
    (rules_of (g.W.Work.meaning work) file)
    ((g.met.W.Work g.world.𝓛 g.world.𝓜 g.world.𝓡 ((λ s x. x), (λ x. x), (λ x. x), λ x. x)).lawful
    work file) ((g.met.W.Work g.world.𝓛 g.world.𝓜 g.world.𝓡 ((λ s x. x), (λ x. x), (λ x. x), λ x. x)).bounded work file) goals owned run place slot h result e
