use Rattle.std.proofs.Common.{◌<◌, Ok, length, ap, arith, sym, ◌∙◌}
use Rattle.std.proofs.lemmas.Bool.{eqb-false}
use Rattle.selection.proofs.SelectionWalks.{selected_of_nodes-walked}
use Rattle.selection.proofs.selection.select_nodes.Goals as goal

pub returns : goal.returns
returns c =
    let some : 0 < length c.args.nodes.now = omega (
      arith,
      eqb-false (length c.args.nodes.now) 0
          (sym c.is_empty.ensures ∙ c.if-is_empty.false),
    ) in
    selected_of_nodes-walked c.args.nodes.now c.in_ok-indexes.indexes.keys some
    c.in_ok-indexes.ensures
    ∙ ap (λ modules. Ok (record { modules = modules }))
    (sym (c.of_vec.ensures ∙ c.in_ok-modules.ensures))
