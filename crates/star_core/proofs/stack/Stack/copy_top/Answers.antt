use Rattle.std.proofs.Common.{ℕ, List, length, ◌-◌, ◌≡◌, ap, ◌∙◌, drop, take, refl, arith}
use Rattle.std.proofs.lemmas.List.{length-drop, length-reverse, take_all}
use Rattle.star_core.proofs.Tops.{taken_none, taken_split}
use Rattle.star_core.proofs.stack.Stack.copy_top.Goals as goal

drop_whole : {A : Type 0} (kept : ℕ) (items others : List A)
    → items ≡ others
    → take (length items - kept) (drop kept items) ≡ drop kept others
drop_whole kept items others same =
    take_all (length items - kept) (drop kept items) (rw length-drop (omega arith))
    ∙ ap (drop kept) same

pub returns-then-len-count : goal.returns-then-len-count
returns-then-len-count g c =
    taken_none _ _ _ (rw (← c.self.view_is) (rw length-reverse (omega arith)))

pub returns : goal.returns
returns g c =
    let copied = c.in_ok-from_slice.ensures.items in
    let kept = length c.as_slice-items.result.now - c.args.count in
    let items = c.self.inside.items.items in (
      _,
      taken_split c.args.count kept items _ (take kept items) _ (omega arith)
          (copied ∙ drop_whole kept c.as_slice-items.result.now items
          c.as_slice-items.ensures.value)
          refl c.self.view_is,
    )
