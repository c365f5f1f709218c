use Rattle.std.proofs.Common.{◌≡◌, drop}
use Rattle.star_dicts.specs.Sources.{is_named}
use Rattle.star_dicts.proofs.sources.is_named.Given as goal

abbrev pub invariant-looking : goal.invariant-looking
invariant-looking l = is_named l.name (drop l.one-index l.named) ≡ is_named l.name l.named
