use Rattle.std.proofs.Common.{◌≡◌, ◌∷◌, ◌++◌, [], ap, sym, subst, refl, length, rules, slice_get, slice_set, Some}
use Rattle.std.proofs.lemmas.Option.{slice_get_read}
use Rattle.board_jobs.specs.Indexes.{Has, HasAll, list_at}
use Rattle.board_jobs.proofs.IndexLists.{pushed_has, pushed_there}
use Rattle.board_jobs.proofs.index.push_at.Goals as goal

pub returns-in-Ok-clause-kept : goal.returns-in-Ok-clause-kept
returns-in-Ok-clause-kept c =
    let lists = c.args.lists.now.items in
    let here = c.index_mut-list.result.now in
    let stood : slice_get lists c.args.at ≡ Some here =
    slice_get_read lists (length lists) c.args.at here refl (search rules)
    c.index_mut-list.ensures.value in
    subst (λ list. HasAll lists (slice_set lists c.args.at list)) (sym c.in-Ok.ensures.ok)
    (pushed_has lists c.args.at c.args.place here stood)

pub returns-in-Ok-clause-there : goal.returns-in-Ok-clause-there
returns-in-Ok-clause-there c =
    let lists = c.args.lists.now.items in
    let here = c.index_mut-list.result.now in
    let stood : slice_get lists c.args.at ≡ Some here =
    slice_get_read lists (length lists) c.args.at here refl (search rules)
    c.index_mut-list.ensures.value in
    subst (λ list. Has c.args.place (list_at (slice_set lists c.args.at list) c.args.at))
    (sym c.in-Ok.ensures.ok) (pushed_there lists c.args.at c.args.place here stood)
