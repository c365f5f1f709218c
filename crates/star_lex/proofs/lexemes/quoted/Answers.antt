use Rattle.star_lex.proofs.LexemeLaws.{IsQuoted-absent}
use Rattle.star_lex.proofs.lexemes.quoted.Goals as goal

pub returns-in-Err-Because : goal.returns-in-Err-Because
returns-in-Err-Because c = IsQuoted-absent c.args.text.now
    (rw c.in-Err-Because.field-0-is at c.in-Err-Because.ensures)
