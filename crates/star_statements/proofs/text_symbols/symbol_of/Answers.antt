use Rattle.std.proofs.Common.{◌≡◌, List, ℕ, IsUtf8, sym, subst}
use Rattle.star_lex.proofs.NameSlices.{slice-utf8}
use Rattle.star_statements.proofs.text_symbols.symbol_of.Goals as goal

pub kind_over-requires : goal.kind_over-requires
kind_over-requires c = λ is. subst (λ (slice : List ℕ). IsUtf8 slice) (sym c.slice_of.ensures)
    (slice-utf8 c.args.text.now c.args.token.now c.requires.slice is)
