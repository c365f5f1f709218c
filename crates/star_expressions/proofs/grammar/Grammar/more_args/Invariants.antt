use Rattle.std.proofs.Common.{◌≡◌, ◌-◌, [], ◌∷◌, Some, None}
use Rattle.star_grammar.specs.ExpressionReading.{reads, arg, more_args}
use Rattle.star_grammar.specs.Readers.{◌>>◌, skip, adds, goes_on, one, rounds}
use Rattle.star_grammar.specs.declared.bare_expressions.Level.TheVariants as level
use Rattle.star_grammar.specs.declared.symbols.Sign.TheVariants as s
use Rattle.star_expressions.proofs.grammar.Grammar.more_args.Given as goal

abbrev pub invariant-turns : goal.invariant-turns
invariant-turns g l =
    more_args (reads l.self.nesting level.Test) (one l.fn.first) l.fn.symbols.rest.now
    ≡ rounds (goes_on s.Comma (Some s.RightRound))
    (λ items. skip >> adds (arg (reads l.self.nesting level.Test)) items) (l.turn-end - l.turn)
    (l.args, l.depth) l.symbols.rest.now
