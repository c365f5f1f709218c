-- A set of keys beside the list of their requests.
use Rattle.std.proofs.Common.{◌≡◌, ℕ, Ok, if◌then◌else◌, Bool, true, false, not, ◌&&◌, ◌||◌, List}
use Rattle.std.proofs.Common.{[], ◌∷◌, map, String, string_bytes, refl, ap, sym, ◌∙◌}
use Rattle.std.specs.List.{list_any}
use Rattle.std.specs.Str.{bytes_eq}
use Rattle.std.specs.String.{string_eq}
use Rattle.std.specs.declared.alloc.Global.{Global}
use Rattle.discovery.specs.KeySets.{pair_of_request, pairs_of}
use Rattle.discovery.specs.Discovery.{limit_of, discovery_rules}
use Rattle.bz_base.specs.Keys.{same_key}
use Rattle.bz_walks.specs.Walks.{within_limit, with_request}
use Rattle.discovery.specs.declared.requests.Request.{Request}

is_pair : List ℕ → List ℕ → List ℕ × List ℕ → Bool
is_pair name version pair = bytes_eq name pair.0 && bytes_eq version pair.1

any-keys : (name version : String Global) (keys : List (String Global × String Global))
    → list_any (λ key. string_eq name key.0 && string_eq version key.1) keys
    ≡ list_any (is_pair (string_bytes name) (string_bytes version)) (pairs_of keys)
unfolding is_pair
any-keys name version [] = refl
any-keys name version (key ∷ keys) = ap
    (λ further. string_eq name key.0 && string_eq version key.1 || further)
    (any-keys name version keys)

any-requests : (request : Request) (requests : List Request)
    → list_any (is_pair request.key.name request.key.version) (map pair_of_request requests)
    ≡ list_any (λ other. same_key request.key other.key) requests
unfolding is_pair
any-requests request [] = refl
any-requests request (other ∷ requests) = ap (λ further. same_key request.key other.key || further)
    (any-requests request requests)

-- the set finds a key exactly where the list has a request for it
pub set_finds : (name version : String Global) (request : Request)
    (keys : List (String Global × String Global)) (requests : List Request)
    → string_bytes name ≡ request.key.name
    → string_bytes version ≡ request.key.version
    → pairs_of keys ≡ map pair_of_request requests
    → list_any (λ key. string_eq name key.0 && string_eq version key.1) keys
    ≡ list_any (λ other. same_key request.key other.key) requests
set_finds name version request keys requests names versions together =
    any-keys name version keys ∙ (λ i. list_any (is_pair (names i) (versions i)) (together i))
    ∙ any-requests request requests

pub with_request_known : (request : Request) (known : List Request)
    → list_any (λ other. same_key request.key other.key) known ≡ true
    → with_request discovery_rules known request ≡ Ok known
with_request_known request known e = ap
    (λ there. if there then Ok known else within_limit known request (limit_of known request)) e

pub with_request_new : (request : Request) (known : List Request)
    → list_any (λ other. same_key request.key other.key) known ≡ false
    → with_request discovery_rules known request
    ≡ within_limit known request (limit_of known request)
with_request_new request known e = ap
    (λ there. if there then Ok known else within_limit known request (limit_of known request)) e

pub absent_if_added : (added there : Bool) → added ≡ not there → added ≡ true → there ≡ false
absent_if_added added true e t = absurd (cc (sym t ∙ e))
absent_if_added added false e t = refl

pub present_unless_added : (added there : Bool) → added ≡ not there → added ≡ false → there ≡ true
present_unless_added added true e t = refl
present_unless_added added false e t = absurd (cc (sym t ∙ e))
