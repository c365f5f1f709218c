use Rattle.std.proofs.Common.{◌≡◌, ◌+◌, [], ◌∷◌, Err, None, Ok, Some, drop, refl, ap, sym, ◌∙◌}
use Rattle.std.proofs.Common.{subst, arith}
use Rattle.bz_text.proofs.ListWalks.{drop-next}
use Rattle.bz_tree.proofs.Readings.{IfSome-told, run_of}
use Rattle.std.proofs.lemmas.Grind.{common_steps}
use Rattle.bz_tree.specs.declared.failures.Failure.TheVariants.{Refused}
use Rattle.registry_index.specs.AskedFiles.{AsksOver, Leaves, after_steps, followed, settled}
use Rattle.registry_index.specs.Finding.{file_in, first_file, first_of, no_module_refusal}
use Rattle.registry_index.proofs.Readings.{AsksOver-failed, AsksOver-given, AsksOver-onward}
use Rattle.registry_index.proofs.Readings.{AsksOver-refused, AsksOver-then, Leaves-behind}
use Rattle.registry_index.proofs.finding.first_file.Goals as goal

pub returns-in-Ok-Some : goal.returns-in-Ok-Some
returns-in-Ok-Some g c =
    let files = g.T.Tree.files c.args.tree.now in
    let kept = g.T.Tree.files c.asking.tree in
    let files_now = g.T.Tree.files c.file_in.new.tree in
    let before = g.T.Tree.faults c.args.tree.now in
    let middle = g.T.Tree.faults c.asking.tree in
    let now = g.T.Tree.faults c.file_in.new.tree in
    let failed = g.T.Tree.failed c.file_in.new.tree in
    let left = c.file_in.new.asked in
    let key = c.args.key.now in
    let next = drop-next c.args.registries.now c.asking.registry-index c.registry-item.result
    c.asking-test.true c.registry-item.is in
    let part = subst (λ text. AsksOver (λ look. file_in look text key)
    (run_of kept files_now middle now failed) c.asking.asked left (Ok (Some c.in-Ok-Some.file)))
    c.as_str.ensures
    (subst (λ option. AsksOver (λ look. file_in look c.as_str.result.now key)
    (run_of kept files_now middle now failed) c.asking.asked left (Ok option))
    c.in-Ok-Some.field-0-is c.in-Ok-Some.ensures) in
    AsksOver-onward (λ look. first_file look key (drop c.asking.registry-index
    c.args.registries.now)) (λ look. first_file look key c.args.registries.now) files kept files_now
    before middle now failed c.args.asked.now c.asking.asked left (Ok c.in-Ok-Some.file)
    c.asking.invariant.1 c.asking.invariant.2 c.asking.invariant.0
    (subst (λ list. AsksOver (λ look. first_file look key list)
    (run_of kept files_now middle now failed) c.asking.asked left (Ok c.in-Ok-Some.file)) (sym next)
    (AsksOver-then (λ look. file_in look c.registry-item.result key)
    (λ look. first_of (first_file look key (drop (c.asking.registry-index + 1)
    c.args.registries.now))) kept files_now files_now middle now now failed failed c.asking.asked
    left left (Some c.in-Ok-Some.file) (Ok c.in-Ok-Some.file) part
    (AsksOver-given (Ok c.in-Ok-Some.file) files_now now failed left c.in-Ok-Some.file refl)))

pub returns-in-Err : goal.returns-in-Err
returns-in-Err g c =
    let files = g.T.Tree.files c.args.tree.now in
    let kept = g.T.Tree.files c.asking.tree in
    let files_now = g.T.Tree.files c.file_in.new.tree in
    let before = g.T.Tree.faults c.args.tree.now in
    let middle = g.T.Tree.faults c.asking.tree in
    let now = g.T.Tree.faults c.file_in.new.tree in
    let failed = g.T.Tree.failed c.file_in.new.tree in
    let left = c.file_in.new.asked in
    let key = c.args.key.now in
    let next = drop-next c.args.registries.now c.asking.registry-index c.registry-item.result
    c.asking-test.true c.registry-item.is in
    let part = subst (λ text. AsksOver (λ look. file_in look text key)
    (run_of kept files_now middle now failed) c.asking.asked left (Err c.in-Err.failure))
    c.as_str.ensures c.in-Err.ensures in
    AsksOver-onward (λ look. first_file look key (drop c.asking.registry-index
    c.args.registries.now)) (λ look. first_file look key c.args.registries.now) files kept files_now
    before middle now failed c.args.asked.now c.asking.asked left (Err c.in-Err.failure)
    c.asking.invariant.1 c.asking.invariant.2 c.asking.invariant.0
    (subst (λ list. AsksOver (λ look. first_file look key list)
    (run_of kept files_now middle now failed) c.asking.asked left (Err c.in-Err.failure)) (sym next)
    (AsksOver-failed (λ look. file_in look c.registry-item.result key)
    (λ look. first_of (first_file look key (drop (c.asking.registry-index + 1)
    c.args.registries.now))) kept files_now middle now failed c.asking.asked left c.in-Err.failure
    part))

pub asking-preserved : goal.asking-preserved
asking-preserved g c =
    let kept = g.T.Tree.files c.asking.tree in
    let files_now = g.T.Tree.files c.file_in.new.tree in
    let middle = g.T.Tree.faults c.asking.tree in
    let now = g.T.Tree.faults c.file_in.new.tree in
    let failed = g.T.Tree.failed c.file_in.new.tree in
    let between = c.asking.asked in
    let left = c.file_in.new.asked in
    let key = c.args.key.now in
    let registry = c.registry-item.result in
    let rest = drop (c.asking.registry-index + 1) c.args.registries.now in
    let next = drop-next c.args.registries.now c.asking.registry-index registry c.asking-test.true
    c.registry-item.is in
    let part = subst (λ text. AsksOver (λ look. file_in look text key)
    (run_of kept files_now middle now failed) between left (Ok None)) c.as_str.ensures
    (subst (λ option. AsksOver (λ look. file_in look c.as_str.result.now key)
    (run_of kept files_now middle now failed) between left (Ok option)) c.in-Ok-None.field-0-is
    c.in-Ok-None.ensures) in (
      (λ look e.
          let there = IfSome-told kept (λ l. (file_in l registry key).answer ≡ Ok None) part.0.0
          look (c.asking.invariant.1 ∙ e) in
          let began = IfSome-told kept
          (λ l. left ≡ after_steps l (file_in l registry key).steps between) part.1 look
          (c.asking.invariant.1 ∙ e) in
          let whole = ap (first_file look key) next
          ∙ ap (λ answer. followed (file_in look registry key).steps answer
          (first_of (first_file look key rest))) there in (
            sym (ap (λ reading. reading.answer) whole) ∙ (c.asking.invariant.0 look e).0,
            λ end last further. (c.asking.invariant.0 look e).1 end last
                (subst (λ steps. Leaves look steps between last end)
                (sym (ap (λ reading. reading.steps) whole))
                (Leaves-behind look (file_in look registry key).steps
                (first_file look key rest).steps
                between last end
                (subst (λ state. Leaves look (first_file look key rest).steps state last end) began
                further))),
          )),
      part.0.1 ∙ c.asking.invariant.1,
      omega (arith, part.0.2, c.asking.invariant.2),
    )

pub returns : goal.returns
returns g c =
    let files = g.T.Tree.files c.args.tree.now in
    let kept = g.T.Tree.files c.asking.tree in
    let before = g.T.Tree.faults c.args.tree.now in
    let middle = g.T.Tree.faults c.asking.tree in
    let failed = g.T.Tree.failed c.asking.tree in
    let key = c.args.key.now in
    let none : drop c.asking.registry-index c.args.registries.now ≡ [] =
    grind (arith, common_steps) in
    AsksOver-onward (λ look. first_file look key (drop c.asking.registry-index
    c.args.registries.now)) (λ look. first_file look key c.args.registries.now) files kept kept
    before middle middle failed c.args.asked.now c.asking.asked c.asking.asked
    (Err (Refused c.in_ok-no_module.field-0))
    c.asking.invariant.1 c.asking.invariant.2 c.asking.invariant.0
    (subst (λ list. AsksOver (λ look. first_file look key list)
    (run_of kept kept middle middle failed) c.asking.asked c.asking.asked
    (Err (Refused c.in_ok-no_module.field-0))) (sym none)
    (AsksOver-refused (Err (no_module_refusal key)) kept middle failed c.asking.asked
    c.in_ok-no_module.field-0 (ap Err (sym c.in_ok-no_module.ensures))))
