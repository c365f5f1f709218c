use Rattle.std.proofs.Common.{List, ℕ, subst, sym, arith, IsUtf8}
use Rattle.std.proofs.lemmas.List.{length-drop}
use Rattle.star_lex.specs.declared.layout.Layout.{Layout}
use Rattle.star_lex.specs.declared.token.Token.{Token}
use Rattle.star_lex.specs.Layouts.{start}
use Rattle.star_lex.specs.Tokens.{Lexes}
use Rattle.star_lex.proofs.ScanLaws.{Scans, Scans-start, Scans-step, Scans-ended, Scans-stuck}
use Rattle.star_lex.proofs.ScanLaws.{IsStep-within}
use Rattle.star_lex.proofs.SliceLaws.{Lexes-slices}
use Rattle.star_lex.proofs.scan.tokens.Goals as goal

pub lexemes-init : goal.lexemes-init
lexemes-init c =
    let utf8 : IsUtf8 c.args.text.now = subst
    (λ (bytes : List ℕ). IsUtf8 bytes) c.as_bytes-rest.ensures.value
    c.as_bytes-rest.ensures.utf8 in
    subst (λ (s : Layout). Scans c.args.text.now s c.as_bytes-rest.result.now)
    (sym c.new-layout.ensures)
    (subst (λ (rest : List ℕ). Scans c.args.text.now start rest) (sym c.as_bytes-rest.ensures.value)
    (Scans-start c.args.text.now utf8))

pub lexemes-smaller : goal.lexemes-smaller
lexemes-smaller c =
    let inside = IsStep-within c.lexemes.layout c.lexemes.rest.now c.advance.new.layout c.in-Ok.size
    c.in-Ok.ensures in
    let shorter = length-drop c.in-Ok.size c.lexemes.rest.now in
    rw c.behind-rest.ensures (omega arith)

pub lexemes-preserved : goal.lexemes-preserved
lexemes-preserved c =
    let next = Scans-step c.args.text.now c.lexemes.layout c.lexemes.rest.now c.advance.new.layout
    c.in-Ok.size c.lexemes.invariant c.in-Ok.ensures in
    subst (λ (rest : List ℕ). Scans c.args.text.now c.advance.new.layout rest)
    (sym c.behind-rest.ensures) next

pub returns-in-Err-Because : goal.returns-in-Err-Because
returns-in-Err-Because c = record {
  exact = Scans-stuck c.args.text.now c.lexemes.layout c.lexemes.rest.now c.lexemes.invariant
      (omega arith) (rw c.in-Err-Because.field-0-is at c.in-Err-Because.ensures);
  placed = tt;
}

pub returns-in-Ok-end : goal.returns-in-Ok-end
returns-in-Ok-end c =
    let lexes = Scans-ended c.args.text.now c.lexemes.layout c.lexemes.rest.now c.lexemes.invariant
    (omega arith) in
    let exact : Lexes c.args.text.now c.in-Ok-end.tokens = subst
    (λ (tokens : List Token). Lexes c.args.text.now tokens) (sym c.in-Ok-end.ensures) lexes in
    record { exact = exact; placed = Lexes-slices c.args.text.now c.in-Ok-end.tokens exact }
