use Rattle.std.proofs.Common.{ap, sym, ◌∙◌}
use Rattle.std.specs.Option.{option_copied}
use Rattle.star_machine.specs.Configs.{config_of}
use Rattle.star_turn.proofs.Wanting.{field_found, no_object}
use Rattle.star_turn.proofs.calls.field_call.Goals as goal

pub returns-in_default-object : goal.returns-in_default-object
returns-in_default-object c =
    no_object _ c.in-Some.name.now (config_of c.args.codes.now c.args.machine.now) _
    (sym c.name_of.ensures ∙ ap option_copied c.in-Some.is)
    (sym c.value_below.ensures ∙ c.in-Some-value_below.is)
    (sym c.object.ensures ∙ c.in_default-object.is)

pub returns : goal.returns
returns c =
    rw (c.in_ok-copy.ensures, c.line_of.ensures)
    (field_found _ c.in-Some.name.now (config_of c.args.codes.now c.args.machine.now) _ _
    (sym c.name_of.ensures ∙ ap option_copied c.in-Some.is)
    (sym c.value_below.ensures ∙ c.in-Some-value_below.is)
    (sym c.object.ensures ∙ c.in-Some-object.is))
