use Rattle.std.proofs.Common.{◌≡◌, sym, subst, ◌∙◌, List, [], MatchOption, None, Some}
use Rattle.star_core.specs.Stacks.{taken}
use Rattle.star_core.specs.declared.values.Val.{Val}
use Rattle.star_machine.specs.Configs.{config_of}
use Rattle.star_turn.proofs.Wanting.{method_found, no_call, no_method}
use Rattle.star_turn.proofs.calls.method_call.Goals as goal

pub returns-in_default : goal.returns-in_default
returns-in_default c =
    no_call c.args.machine.now.task.stack c.args.count
    (config_of c.args.codes.now c.args.machine.now)
    (sym c.value_below.ensures ∙ c.in_default.is)

pub returns-in_default-called_object : goal.returns-in_default-called_object
returns-in_default-called_object c =
    no_method c.args.machine.now.task.stack c.args.count
    (config_of c.args.codes.now c.args.machine.now) c.in-Some.f
    (sym c.value_below.ensures ∙ c.in-Some.is)
    (sym c.called_object.ensures ∙ c.in_default-called_object.is)

pub returns : goal.returns
returns c =
    let copied = subst (λ answer. MatchOption answer
    (taken c.args.count [] c.args.machine.now.task.stack ≡ None)
    (λ top. (below : List Val)
    × (taken c.args.count [] c.args.machine.now.task.stack ≡ Some (top.items, below))))
    c.in-Some-2.is c.in_ok-values.ensures in
    rw (
      c.in_ok-of.ensures,
      c.line_of.ensures,
      c.of_vec.ensures,
      c.new.ensures,
      c.called_method.ensures,
    )
    (method_found c.args.machine.now.task.stack c.args.count
    (config_of c.args.codes.now c.args.machine.now) c.in-Some.f c.in-Some-called_object.object
    c.in-Some-2.values.items copied.0
    (sym c.value_below.ensures ∙ c.in-Some.is)
    (sym c.called_object.ensures ∙ c.in-Some-called_object.is) copied.1)
