-- The keys of requests as pairs of texts, by which a set finds them.
use Rattle.std.specs.Prelude.{ℕ, List, String, map, string_bytes}
use Rattle.std.specs.declared.alloc.Global.{Global}
use Rattle.discovery.specs.declared.requests.Request.{Request}

abbrev pub pair_of_request : Request → List ℕ × List ℕ
pair_of_request request = (request.key.name, request.key.version)

-- the pairs that are kept under owned texts
abbrev pub pairs_of : List (String Global × String Global) → List (List ℕ × List ℕ)
pairs_of keys = map (λ key. (string_bytes key.0, string_bytes key.1)) keys
