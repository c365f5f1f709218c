use Rattle.std.proofs.Common.{◌≡◌, ◌≤◌, ◌==◌, take, count_by}
use Rattle.star_lex.proofs.layout.line_feeds.Given as goal

abbrev pub invariant-bytes : goal.invariant-bytes
invariant-bytes l = (l.count ≡ count_by (λ b. b == 10) (take l.byte-index l.front))
    × (l.count ≤ l.byte-index)
