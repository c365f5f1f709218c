use Rattle.std.proofs.Common.{subst}
use Rattle.star_machine.specs.Configs.{config_of}
use Rattle.star_turn.proofs.Running.{asked_so, unasked_so}
use Rattle.star_turn.specs.Asking.{wanted_by}
use Rattle.star_turn.specs.Calls.{Found, moved}
use Rattle.star_turn.proofs.turns.run.Goals as goal

pub returns-in-Some : goal.returns-in-Some
returns-in-Some g c =
    asked_so g.H.Host.meaning g.L.Library.rows c.args.codes.now c.args.answers.now c.args.instr
    c.how_asked.result (config_of c.args.codes.now c.args.machine.now)
    (config_of c.args.codes.now (moved c.args.next c.args.machine.now)).doing
    c.how_asked.ensures c.in-Some.call c.ask.result
    (config_of c.args.codes.now c.args.machine.now)
    (config_of c.args.codes.now c.ask.new.machine)
    c.args.host.now c.ask.new.host
    (subst (λ call. Found call (wanted_by c.args.codes.now c.how_asked.result
    (config_of c.args.codes.now c.args.machine.now)) c.args.machine.now.task.stack)
    c.in-Some.is c.in_ok-call.ensures) c.ask.ensures

pub returns-in-None : goal.returns-in-None
returns-in-None g c =
    rw (c.as_came.ensures)
    (unasked_so g.H.Host.meaning g.L.Library.rows c.args.codes.now c.args.answers.now c.args.instr
    c.how_asked.result (config_of c.args.codes.now c.args.machine.now)
    (config_of c.args.codes.now (moved c.args.next c.args.machine.now)).doing
    c.how_asked.ensures c.perform.result
    (config_of c.args.codes.now c.args.machine.now)
    (config_of c.args.codes.now c.perform.new.self)
    c.args.host.now
    (subst (λ call. Found call (wanted_by c.args.codes.now c.how_asked.result
    (config_of c.args.codes.now c.args.machine.now)) c.args.machine.now.task.stack)
    c.in-None.is c.in_ok-call.ensures) c.perform.ensures)
