use Rattle.std.proofs.Common.{◌≡◌, ◌∷◌, List, ℕ, Some, ap, sym, ◌∙◌}
use Rattle.star_grammar.specs.declared.bare_expressions.BareParam.{BareParam, out-BareParam}
use Rattle.star_trees.specs.Lists.{all_different, with_name}
use Rattle.star_grammar.specs.Orders.{param_name, param_names}
use Rattle.std.specs.Option.{option_copied}
use Rattle.star_expressions.proofs.NameLists.{Held-added, Held-known}
use Rattle.star_expressions.proofs.arg_orders.params_differ.Goals as goal

pub turns-preserved : goal.turns-preserved
turns-preserved c =
    let next : param_names c.turns.rest.now
    ≡ with_name (param_name (out-BareParam c.in-Some.param.now))
    (param_names c.in-Some.more.now) = ap param_names c.in-Some.ensures.cases.0 in
    let named : param_names c.turns.rest.now
    ≡ with_name (option_copied c.param_name.result) (param_names c.in-Some.more.now) = next
    ∙ ap (λ name. with_name name (param_names c.in-Some.more.now)) (sym c.param_name.ensures) in
    Held-added (option_copied c.param_name.result) c.turns.names c.add_any.new.names
    c.in_ok-add_any.field-0 (all_different (param_names c.args.params.now))
    (param_names c.turns.rest.now)
    (param_names c.in-Some.more.now) c.in_ok-add_any.ensures c.if-not-branch.false named
    c.turns.invariant
