use Rattle.star_machine.specs.Configs.{config_of}
use Rattle.star_turn.proofs.Following.{more_answers}
use Rattle.star_eval.proofs.laws.more_answers_change_nothing.Goals as goal

pub returns : goal.returns
returns g c =
    λ meaning answers less more evaluation host stands some others answered.
    more_answers g.H.Host.meaning g.L.Library.rows evaluation.files.codes g.met.H.Host.lawful less
    more others (config_of evaluation.files.codes evaluation.machine) host (meaning less)
    (meaning more) answered (stands.comes less some)
    (stands.comes more (record {
      kept = λ question answer is. others.kept question answer (some.kept question answer is);
    }))
