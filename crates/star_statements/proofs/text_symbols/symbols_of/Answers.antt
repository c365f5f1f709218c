use Rattle.std.proofs.Common.{◌≡◌, ◌++◌, ◌∷◌, [], List, sym, subst, ap}
use Rattle.star_grammar.specs.declared.symbols.Symbol.{Symbol}
use Rattle.star_grammar.specs.Symbols.{symbol_of}
use Rattle.star_statements.proofs.SliceTexts.{Taken, Taken-start, Taken-placed, Taken-next}
use Rattle.star_statements.proofs.text_symbols.symbols_of.Goals as goal

pub symbol_of-requires : goal.symbol_of-requires
symbol_of-requires c = Taken-placed c.args.text.now c.args.tokens.now c.turns.symbols.items
    c.turns.rest.now c.in-Some.token.now c.in-Some.more.now c.in-Some.ensures.cases.0
    c.turns.invariant
