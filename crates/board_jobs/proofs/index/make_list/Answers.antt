use Rattle.std.proofs.Common.{◌≡◌, ◌++◌, ◌∷◌, [], length, arith, ap, ◌∙◌, length-append, rules}
use Rattle.board_jobs.proofs.IndexLists.{more_has}
use Rattle.board_jobs.proofs.index.make_list.Goals as goal

pub lists-preserved : goal.lists-preserved
lists-preserved c =
    more_has c.args.lists.now.items c.lists.lists.items c.push.new.self.items c.lists.invariant
    (c.in_ok-push.ensures.items ∙ ap (λ l. c.lists.lists.items ++ l ∷ []) c.new.ensures)

pub lists-smaller : goal.lists-smaller
lists-smaller c =
    let more = ap length c.in_ok-push.ensures.items ∙ length-append c.lists.lists.items (c.new.result ∷ []) in
    let less = c.lists-test.true in
    let len : c.len.result ≡ length c.lists.lists.items = search rules in
    omega (arith, more, less, len)
