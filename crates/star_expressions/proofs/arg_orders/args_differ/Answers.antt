use Rattle.std.proofs.Common.{◌≡◌, ◌∷◌, List, ℕ, Some, ap, sym, ◌∙◌}
use Rattle.star_grammar.specs.declared.bare_expressions.BareArg.{BareArg, out-BareArg}
use Rattle.star_trees.specs.Lists.{all_different, with_name}
use Rattle.star_grammar.specs.Orders.{arg_name, arg_names}
use Rattle.std.specs.Option.{option_copied}
use Rattle.star_expressions.proofs.NameLists.{Held-added, Held-known}
use Rattle.star_expressions.proofs.arg_orders.args_differ.Goals as goal

pub turns-preserved : goal.turns-preserved
turns-preserved c =
    let next : arg_names c.turns.rest.now
    ≡ with_name (arg_name (out-BareArg c.in-Some.arg.now))
    (arg_names c.in-Some.more.now) = ap arg_names c.in-Some.ensures.cases.0 in
    let named : arg_names c.turns.rest.now
    ≡ with_name (option_copied c.arg_name.result) (arg_names c.in-Some.more.now) = next
    ∙ ap (λ name. with_name name (arg_names c.in-Some.more.now)) (sym c.arg_name.ensures) in
    Held-added (option_copied c.arg_name.result) c.turns.names c.add_any.new.names
    c.in_ok-add_any.field-0 (all_different (arg_names c.args.args.now))
    (arg_names c.turns.rest.now)
    (arg_names c.in-Some.more.now) c.in_ok-add_any.ensures c.if-not-branch.false named
    c.turns.invariant
