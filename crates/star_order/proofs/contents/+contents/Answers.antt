use Rattle.std.proofs.Common.{◌≡◌, ◌∙◌, ◌+◌, ◌-◌, ◌++◌, Ok, ap, arith, codes, drop, get_or, refl}
use Rattle.std.proofs.Common.{string_bytes, subst, sym}
use Rattle.star_core.specs.Contents.{Content, behind, content_within, each_content}
use Rattle.star_core.specs.declared.values.Val.{Val}
use Rattle.star_core.specs.declared.values.Val.TheVariants as val
use Rattle.star_order.specs.Keys.{Written, items_content}
use Rattle.star_order.proofs.ContentLayers.{behind_assoc, bracketed_between}
use Rattle.star_order.proofs.ContentLayers.{content_within_layer, each_next, items_content_none}
use Rattle.star_order.proofs.ContentLayers.{items_content_some, written_missed, written_on}
use Rattle.star_order.proofs.contents.+contents.Goals as goal

pub content_within-returns : goal.content_within-returns
content_within-returns t c =
    subst (λ one. Written (behind (Ok (string_bytes c.args.out.now)) one) c.value_content.result
    (string_bytes c.value_content.new.out))
    (sym (content_within_layer c.args.depth c.args.heap.now c.args.value.now))
    c.value_content.ensures

pub tuple_content-returns-then-depth-eq0 : goal.tuple_content-returns-then-depth-eq0
tuple_content-returns-then-depth-eq0 t c =
    rw (c.if-depth-eq0.true, items_content_none) refl

pub tuple_content-returns : goal.tuple_content-returns
tuple_content-returns t c =
    let each : Content = each_content (content_within (c.args.depth - 1) c.args.heap.now)
    c.args.items.now in
    let opened : Content = Ok (string_bytes c.args.out.now ++ codes "(") in
    let closed : Content = behind each (Ok (codes ")")) in
    let same : behind (Ok (string_bytes c.push.new.out)) closed
    ≡ behind (Ok (string_bytes c.args.out.now))
    (items_content c.args.depth c.args.heap.now c.args.items.now) =
    sym (ap (λ one. behind one closed) c.in_ok-push.ensures)
    ∙ behind_assoc (Ok (string_bytes c.args.out.now)) (Ok (codes "(")) closed
    ∙ ap (behind (Ok (string_bytes c.args.out.now))) (sym (bracketed_between each))
    ∙ ap (behind (Ok (string_bytes c.args.out.now)))
    (sym (items_content_some c.args.depth c.args.heap.now c.args.items.now (omega arith))) in
    subst (λ one. Written one c.closed_content.result (string_bytes c.closed_content.new.out)) same
    c.closed_content.ensures

pub closed_content-returns : goal.closed_content-returns
closed_content-returns t c =
    let each : Content = each_content (content_within c.args.depth c.args.heap.now)
    c.args.items.now in
    let same : behind (Ok (string_bytes c.args.out.now)) (behind each (Ok (codes ")")))
    ≡ Ok (string_bytes c.each_content.new.out ++ codes ")") =
    sym (behind_assoc (Ok (string_bytes c.args.out.now)) each (Ok (codes ")")))
    ∙ ap (λ one. behind one (Ok (codes ")"))) c.in_default.ensures in
    subst (λ one. Written one c.push.result (string_bytes c.push.new.out)) (sym same)
    c.push.ensures

pub each_content-writing-preserved : goal.each_content-writing-preserved
each_content-writing-preserved t c =
    let content : Val → Content = content_within c.args.depth c.args.heap.now in
    let front : Content = Ok (string_bytes c.writing.out) in
    written_on (string_bytes c.writing.out)
    (content (get_or c.args.items.now c.writing.item-index val.None))
    (each_content content (drop (c.writing.item-index + 1) c.args.items.now))
    (behind (Ok (string_bytes c.args.out.now)) (each_content content c.args.items.now))
    (string_bytes c.content_within.new.out) c.in_default.ensures
    (ap (behind front)
    (sym (each_next content c.args.items.now c.writing.item-index c.writing-test.true))
    ∙ c.writing.invariant)

pub each_content-returns-in-Err : goal.each_content-returns-in-Err
each_content-returns-in-Err t c =
    let content : Val → Content = content_within c.args.depth c.args.heap.now in
    let front : Content = Ok (string_bytes c.writing.out) in
    written_missed (string_bytes c.writing.out)
    (content (get_or c.args.items.now c.writing.item-index val.None))
    (each_content content (drop (c.writing.item-index + 1) c.args.items.now))
    (behind (Ok (string_bytes c.args.out.now)) (each_content content c.args.items.now))
    c.in-Err.miss (string_bytes c.content_within.new.out) c.in-Err.ensures
    (ap (behind front)
    (sym (each_next content c.args.items.now c.writing.item-index c.writing-test.true))
    ∙ c.writing.invariant)
