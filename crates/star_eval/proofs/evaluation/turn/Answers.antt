use Rattle.std.proofs.Common.{refl}
use Rattle.star_eval.proofs.Turned.{parks_at, tells_at}
use Rattle.star_eval.proofs.evaluation.turn.Goals as goal

pub returns-clause-tells : goal.returns-clause-tells
returns-clause-tells g c =
    λ meaning stands.
    tells_at g.H.Host.meaning g.L.Library.rows c.args.answers.now c.args.evaluation.now
    (record { files = c.args.evaluation.now.files; machine = c.turn-came.new.machine })
    c.args.host.now c.turn-came.new.host c.codes.result.now c.names.result.now meaning
    c.turn-came.result c.end.result c.codes.ensures c.names.ensures stands
    c.turn-came.ensures.tells c.end.ensures

pub returns-clause-parks : goal.returns-clause-parks
returns-clause-parks g c =
    λ meaning stands.
    parks_at g.H.Host.meaning g.L.Library.rows c.args.answers.now c.args.evaluation.now
    (record { files = c.args.evaluation.now.files; machine = c.turn-came.new.machine })
    c.args.host.now c.turn-came.new.host c.codes.result.now c.names.result.now meaning
    c.turn-came.result c.end.result c.codes.ensures c.names.ensures refl stands
    c.turn-came.ensures.parks c.end.ensures
