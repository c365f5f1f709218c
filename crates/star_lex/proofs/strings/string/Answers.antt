use Rattle.std.proofs.Common.{◌≡◌, ◌≤◌, ◌<◌, List, ℕ, length, drop, arith, ap, sym, subst, rules}
use Rattle.std.proofs.lemmas.List.{length-drop}
use Rattle.star_lex.specs.declared.strings.Style.{Style}
use Rattle.star_lex.specs.Strings.{Contents, opening, style_of}
use Rattle.star_lex.proofs.StringContents.{style_of-quote, Contents-within}
use Rattle.star_lex.proofs.TextLexemes.{behind-opening}
use Rattle.star_lex.proofs.strings.string.Goals as goal

pub contents-requires : goal.contents-requires
contents-requires c =
    let some : 0 < (style_of c.args.text.now).quote = rw
    (style_of-quote c.args.text.now) c.requires.some in
    subst (λ (style : Style). 0 < style.quote) (sym c.style_of.ensures) some

pub overflow_add-result : goal.overflow_add-result
overflow_add-result c =
    let some : 0 < (style_of c.args.text.now).quote = rw
    (style_of-quote c.args.text.now) c.requires.some in
    let quoted : 0 < c.style_of.result.quote = subst (λ (style : Style). 0 < style.quote)
    (sym c.style_of.ensures) some in
    let inside : c.in-Ok.size ≤ length c.behind.result.now = Contents-within c.style_of.result
    c.behind.result.now c.in-Ok.bytes.items c.in-Ok.size quoted c.in-Ok.ensures in
    let behind : length c.behind.result.now
    ≡ length (drop c.opening-before.result c.args.text.now) = ap length c.behind.ensures in
    let shorter = length-drop c.opening-before.result c.args.text.now in
    omega arith

pub text_of-requires : goal.text_of-requires
text_of-requires c =
    let styled : Contents
    (style_of c.args.text.now) c.behind.result.now c.in-Ok.bytes.items c.in-Ok.size = subst
    (λ (style : Style). Contents style c.behind.result.now c.in-Ok.bytes.items c.in-Ok.size)
    c.style_of.ensures c.in-Ok.ensures in
    let behind : c.behind.result.now
    ≡ drop (opening c.args.text.now) c.args.text.now = search rules in
    let contents = subst
    (λ (rest : List ℕ). Contents
    (style_of c.args.text.now) rest c.in-Ok.bytes.items c.in-Ok.size) behind styled in
    (behind-opening c.args.text.now c.in-Ok.bytes.items c.in-Ok.size c.requires.some
    c.requires.ascii c.requires.utf8 contents).0
