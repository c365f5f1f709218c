use Rattle.std.proofs.Common.{◌≡◌, List, ℕ, None, subst, take}
use Rattle.star_lex.specs.Layouts.{layout_after}
use Rattle.star_lex.proofs.LexemeLaws.{IsLexeme-within}
use Rattle.star_lex.proofs.ScanLaws.{IsStep-unlaid}
use Rattle.star_lex.proofs.scan.advance.Goals as goal

pub split_at-requires : goal.split_at-requires
split_at-requires c =
    (IsLexeme-within c.args.rest.now c.in-Ok.lexeme c.in-Ok.size c.in-Ok.ensures).1

pub returns-in-Err-Because-lay : goal.returns-in-Err-Because-lay
returns-in-Err-Because-lay c =
    let unlaid : layout_after c.in-Ok.lexeme c.split_at.result.0.now c.args.layout.now
    ≡ None = rw c.in-Err-Because-lay.field-0-is at c.in-Err-Because-lay.ensures in
    let front : c.split_at.result.0.now
    ≡ take c.in-Ok.size c.args.rest.now = c.split_at.ensures.front in
    IsStep-unlaid c.args.layout.now c.args.rest.now c.in-Ok.lexeme c.in-Ok.size c.in-Ok.ensures
    (subst (λ (bytes : List ℕ). layout_after c.in-Ok.lexeme bytes c.args.layout.now ≡ None)
    front unlaid)
