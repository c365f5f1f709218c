use Rattle.std.proofs.Common.{◌≡◌, map, take}
use Rattle.star_grammar.specs.declared.bare_statements.BareLoadName.{BareLoadName}
use Rattle.star_scopes.proofs.statement_making.load_of.Given as goal

abbrev pub invariant-names : goal.invariant-names
invariant-names l = l.made.items
    ≡ map (λ (loaded : BareLoadName). loaded.name) (take l.name-index l.names)
