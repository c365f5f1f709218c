use Rattle.std.proofs.Common.{sym, ◌∙◌}
use Rattle.star_machine.specs.Configs.{config_of}
use Rattle.star_turn.proofs.Wanting.{gathered_found, no_gathered, no_gathered_top}
use Rattle.star_turn.proofs.calls.gathered_call.Goals as goal

pub returns-in_default : goal.returns-in_default
returns-in_default c =
    no_gathered_top c.args.machine.now.gathered c.args.machine.now.task.stack
    (config_of c.args.codes.now c.args.machine.now)
    (sym c.value_below.ensures ∙ c.in_default.is)

pub returns-in_default-called_object : goal.returns-in_default-called_object
returns-in_default-called_object c =
    no_gathered c.args.machine.now.gathered c.args.machine.now.task.stack
    (config_of c.args.codes.now c.args.machine.now) c.in-Some.f
    (sym c.value_below.ensures ∙ c.in-Some.is)
    (sym c.called_object.ensures ∙ c.in_default-called_object.is)

pub returns : goal.returns
returns c =
    rw (c.in_ok-of.ensures, c.line_of.ensures, c.in_ok-copy_args.ensures, c.called_method.ensures)
    (gathered_found c.args.machine.now.gathered c.args.machine.now.task.stack
    (config_of c.args.codes.now c.args.machine.now) c.in-Some.f c.in-Some-called_object.object
    (sym c.value_below.ensures ∙ c.in-Some.is)
    (sym c.called_object.ensures ∙ c.in-Some-called_object.is))
