use Rattle.std.proofs.Common.{rules, arith, ◌≡◌, ◌-◌, length, Some, subst, sym, ℕ, ◌+◌, ◌++◌, List}
use Rattle.std.proofs.lemmas.List.{length-drop}
use Rattle.star_lex.specs.Strings.{Contents, item, bytes_of}
use Rattle.star_lex.proofs.StringItems.{item-within}
use Rattle.star_lex.proofs.StringContents.{Continues, Continues-step, Continues-ended}
use Rattle.star_lex.proofs.strings.contents.Goals as goal

pub items-smaller : goal.items-smaller
items-smaller c =
    let first : item c.args.style c.items.rest.now
    ≡ Some (c.in-Some.meaning, c.in-Some.size) = search rules in
    let inside = item-within c.args.style c.items.rest.now c.in-Some.meaning c.in-Some.size first in
    let shorter = length-drop c.in-Some.size c.items.rest.now in
    rw c.behind-rest.ensures (omega arith)

pub items-preserved : goal.items-preserved
items-preserved c =
    let first : item c.args.style c.items.rest.now
    ≡ Some (c.in-Some.meaning, c.in-Some.size) = search rules in
    let next = Continues-step c.args.style c.args.text.now c.items.value.items c.items.rest.now
    c.in-Some.meaning c.in-Some.size c.items.invariant (search rules) first in
    let pushed : c.push_meaning.new.value.items ≡ c.items.value.items
    ++ bytes_of c.in-Some.meaning = c.in_ok-push_meaning-in-Some.ensures in
    subst (λ (v : List ℕ). Continues c.args.style c.args.text.now v c.behind-rest.result.now)
    (sym pushed)
    (subst (λ (r : List ℕ). Continues c.args.style c.args.text.now (c.items.value.items ++ bytes_of
    c.in-Some.meaning) r) (sym c.behind-rest.ensures) next)

pub returns : goal.returns
returns c =
    let ended = Continues-ended c.args.style c.args.text.now c.items.value.items c.items.rest.now
    c.items.invariant (search rules) in
    subst (λ (k : ℕ). Contents c.args.style c.args.text.now c.items.value.items (length
    c.args.text.now - length c.items.rest.now + k)) (sym c.quotes.ensures.exact) ended
