-- The walk of discovery, node by node.
use Rattle.std.proofs.Common.{◌≡◌, ℕ, suc, ◌+◌, ◌-◌, ◌≤◌, ◌<◌, nat_le, List, [], ◌∷◌, ◌++◌, length}
use Rattle.std.proofs.Common.{drop, slice_get, get_or, ◌⊎◌, inl, inr, None, Some, Result, Ok, Err}
use Rattle.std.proofs.Common.{IfOk, Bool, true, false, if◌then◌else◌, refl, ap, sym, ◌∙◌, subst}
use Rattle.std.proofs.Common.{arith}
use Rattle.std.proofs.Math.ListN.{drop_of_length-le}
use Rattle.std.proofs.lemmas.Bool.{leb-false}
use Rattle.std.proofs.lemmas.List.{drop_more, length-append, length_push}
use Rattle.std.proofs.lemmas.Option.{get_or_from_slice_get, slice_get_cases, slice_get_within}
use Rattle.std.specs.List.{list_any}
use Rattle.bz_text.specs.Answers.{Gives}
use Rattle.bz_text.specs.declared.memory.Miss.{Miss}
use Rattle.bz_base.specs.declared.module_graph.GraphNode.{GraphNode}
use Rattle.bz_base.specs.declared.module_key.Key.{Key}
use Rattle.bz_base.specs.declared.refusals.Refusal.{Refusal}
use Rattle.discovery.specs.Discovery.{requests_of, discovery, discovery_rules, found_for}
use Rattle.discovery.specs.Discovery.{graph_walked}
use Rattle.discovery.specs.Discovery.{most_keys, node_of, too_many_refusal}
use Rattle.bz_base.specs.Keys.{same_key}
use Rattle.bz_tree.specs.Places.{Files}
use Rattle.bz_walks.specs.Walks.{Walked, levels, within_limit, walked_with, with_request}
use Rattle.bz_walks.specs.Walks.{with_requests}
use Rattle.bz_walks.specs.Walks.{with_node}
use Rattle.bz_walks.proofs.WalkSteps.{Grows, levels-refused, levels-walk_on, walk_on, walk_on-ended}
use Rattle.bz_walks.proofs.WalkSteps.{walk_on-refused, walk_on-step, with_requests-grows}
use Rattle.discovery.specs.declared.requests.Request.{Request}

abbrev pub HasRoom : List Request → Type 0
HasRoom known = length known ≤ most_keys

with_request-room : (known more : List Request) (request : Request)
    → HasRoom known
    → with_request discovery_rules known request ≡ Ok more
    → HasRoom more
with_request-room known more request room = by
    (list_any (λ other. same_key request.key other.key) known)
    (nat_le most_keys (length known)) refl
  where
    by : (there full : Bool)
        → nat_le most_keys (length known) ≡ full
        → (if there then Ok known
        else within_limit known request (if full then Some too_many_refusal else None)) ≡ Ok more
        → HasRoom more
    by true full test e = let same : known ≡ more = cc e in subst HasRoom same room
    by false true test e = absurd (cc e)
    by false false test e = let same : known ++ request ∷ []
        ≡ more = cc e in subst HasRoom same
        (omega (arith, leb-false most_keys (length known) test, length_push known request))

pub with_requests-room : (requests known more : List Request)
    → HasRoom known
    → with_requests discovery_rules (Ok known) requests ≡ Ok more
    → HasRoom more
with_requests-room [] known more room e = let same : known ≡ more = cc e in subst HasRoom same room
with_requests-room (request ∷ requests) known more room e = by
    (with_request discovery_rules known request)
    (λ middle. with_request-room known middle request room)
    (λ middle now. with_requests-room requests middle more now) e
  where
    by : (r : Result (List Request) Refusal)
        → ((middle : List Request) → r ≡ Ok middle → HasRoom middle)
        → ((middle : List Request)
        → HasRoom middle
        → with_requests discovery_rules (Ok middle) requests ≡ Ok more
        → HasRoom more)
        → with_requests discovery_rules r requests ≡ Ok more
        → HasRoom more
    by (Ok middle) first further e = further middle (first middle refl) e
    by (Err refusal) first further e = absurd (cc e)

abbrev pub walked_as : List Request → List GraphNode → Walked Request GraphNode
walked_as known nodes = record { known = known; nodes = nodes }

pub levels-nodes : (look : Files) (root : Key) (known : List Request) (nodes : List GraphNode)
    → HasRoom known
    → length nodes ≤ length known
    → walk_on (discovery look root) (most_keys - length nodes) (Ok (walked_as known nodes))
    ≡ levels (discovery look root) most_keys (Ok (walked_as known nodes))
levels-nodes look root known nodes room within =
    sym (levels-walk_on (discovery look root) HasRoom most_keys (λ l now. now)
    (λ l more request node now read e. with_requests-room (requests_of root node) l more now e)
    (walked_as known nodes) room within most_keys (most_keys - length nodes) (omega arith)
    (omega arith))

-- the request behind the last node is the first that is left
next_request : (known : List Request) (n : ℕ) (request : Request)
    → slice_get known n ≡ Some request
    → drop n known ≡ request ∷ drop (n + 1) known
next_request known n request e =
    let within : n < length known = slice_get_within known n request e in
    drop_more known n request within
    ∙ ap (λ first. first ∷ drop (n + 1) known) (get_or_from_slice_get known n request request e)

-- one turn of the walk
turn : (look : Files) (root : Key) (known : List Request) (nodes : List GraphNode)
    (request : Request)
    → HasRoom known
    → slice_get known (length nodes) ≡ Some request
    → walk_on (discovery look root) (most_keys - length nodes) (Ok (walked_as known nodes))
    ≡ walk_on (discovery look root) (most_keys - (length nodes + 1))
    (with_node (discovery look root) (walked_as known nodes)
    (node_of root request (found_for look request.key)))
turn look root known nodes request room e =
    let within : length nodes < length known = slice_get_within known (length nodes) request e in
    let one_less : most_keys - length nodes
    ≡ suc (most_keys - (length nodes + 1)) = omega (arith, within, room) in
    ap (λ n. walk_on (discovery look root) n (Ok (walked_as known nodes))) one_less
    ∙ walk_on-step (discovery look root) (most_keys - (length nodes + 1))
    (walked_as known nodes) request (drop (length nodes + 1) known)
    (next_request known (length nodes) request e)

pub turn_read : (look : Files) (root : Key) (known more : List Request) (nodes : List GraphNode)
    (request : Request) (node : GraphNode)
    → HasRoom known
    → slice_get known (length nodes) ≡ Some request
    → node_of root request (found_for look request.key) ≡ Ok node
    → with_requests discovery_rules (Ok known) (requests_of root node) ≡ Ok more
    → walk_on (discovery look root) (most_keys - length nodes) (Ok (walked_as known nodes))
    ≡ walk_on (discovery look root) (most_keys - length (nodes ++ node ∷ []))
    (Ok (walked_as more (nodes ++ node ∷ [])))
turn_read look root known more nodes request node room e read added =
    turn look root known nodes request room e
    ∙ ap (λ r. walk_on (discovery look root) (most_keys - (length nodes + 1)) (with_node (discovery
    look root) (walked_as known nodes) r)) read
    ∙ ap (λ r. walk_on (discovery look root) (most_keys - (length nodes + 1)) (walked_with nodes
    node r)) added
    ∙ ap (λ n. walk_on (discovery look root) (most_keys - n) (Ok (walked_as more (nodes ++ node ∷
    [])))) (sym (length_push nodes node))

pub turn_unread : (look : Files) (root : Key) (known : List Request) (nodes : List GraphNode)
    (request : Request) (refusal : Refusal)
    → HasRoom known
    → slice_get known (length nodes) ≡ Some request
    → node_of root request (found_for look request.key) ≡ Err refusal
    → walk_on (discovery look root) (most_keys - length nodes) (Ok (walked_as known nodes))
    ≡ Err refusal
turn_unread look root known nodes request refusal room e read =
    turn look root known nodes request room e
    ∙ ap (λ r. walk_on (discovery look root) (most_keys - (length nodes + 1)) (with_node (discovery
    look root) (walked_as known nodes) r)) read
    ∙ walk_on-refused (discovery look root) (most_keys - (length nodes + 1)) refusal

pub turn_over_limit : (look : Files) (root : Key) (known : List Request) (nodes : List GraphNode)
    (request : Request) (node : GraphNode) (refusal : Refusal)
    → HasRoom known
    → slice_get known (length nodes) ≡ Some request
    → node_of root request (found_for look request.key) ≡ Ok node
    → with_requests discovery_rules (Ok known) (requests_of root node) ≡ Err refusal
    → walk_on (discovery look root) (most_keys - length nodes) (Ok (walked_as known nodes))
    ≡ Err refusal
turn_over_limit look root known nodes request node refusal room e read over_limit =
    turn look root known nodes request room e
    ∙ ap (λ r. walk_on (discovery look root) (most_keys - (length nodes + 1)) (with_node (discovery
    look root) (walked_as known nodes) r)) read
    ∙ ap (λ r. walk_on (discovery look root) (most_keys - (length nodes + 1)) (walked_with nodes
    node r)) over_limit
    ∙ walk_on-refused (discovery look root) (most_keys - (length nodes + 1)) refusal

beyond : (known : List Request) (n : ℕ) → slice_get known n ≡ None → length known ≤ n
beyond known n e = by (slice_get_cases known n).1
  where
    by : ((x : Request) × (n < length known) × (slice_get known n ≡ Some x) × (get_or known n x ≡
        x))
        ⊎ ((length known ≤ n) × (slice_get known n ≡ None)) → length known ≤ n
    by (inl (x, inside, found, value)) = absurd (cc (sym e ∙ found))
    by (inr past) = past.0

pub all_read : (look : Files) (root : Key) (known : List Request) (nodes : List GraphNode) (n : ℕ)
    → slice_get known (length nodes) ≡ None
    → walk_on (discovery look root) n (Ok (walked_as known nodes)) ≡ Ok (walked_as known nodes)
all_read look root known nodes n e = walk_on-ended (discovery look root) n (walked_as known nodes)
    (drop_of_length-le known (beyond known (length nodes) e))

pub with_requests-longer : (requests known more : List Request)
    → with_requests discovery_rules (Ok known) requests ≡ Ok more
    → length known ≤ length more
with_requests-longer requests known more e =
    let grown : Grows known more = with_requests-grows discovery_rules requests known more e in
    omega (arith, ap length grown.behind ∙ length-append known grown.extra)

pub request_within : (known : List Request) (n : ℕ) (request : Request)
    → slice_get known n ≡ Some request
    → n < length known
request_within known n request e = slice_get_within known n request e

-- one request and what is asked for besides
pub Gives-room : (known requests : List Request) (result : Result (List Request) (Miss Refusal))
    → length known ≡ 1
    → Gives (with_requests discovery_rules (Ok known) requests) result
    → IfOk result (λ more. length more ≤ most_keys)
Gives-room known requests (Ok more) one given = with_requests-room requests known more
    (omega (arith, one)) given
Gives-room known requests (Err missed) one given = tt

pub Gives-first : (known requests : List Request) (result : Result (List Request) (Miss Refusal))
    → length known ≡ 1
    → Gives (with_requests discovery_rules (Ok known) requests) result
    → IfOk result (λ more. 1 ≤ length more)
Gives-first known requests (Ok more) one given = omega
    (arith, one, with_requests-longer requests known more given)
Gives-first known requests (Err missed) one given = tt

pub walked_with-limited : (look : Files) (root : Key) (node : GraphNode)
    (r : Result (List Request) Refusal) (refusal : Refusal)
    → r ≡ Err refusal
    → graph_walked (levels (discovery look root) most_keys (walked_with [] node r)) ≡ Err refusal
walked_with-limited look root node r refusal e =
    ap (λ requests. graph_walked
    (levels (discovery look root) most_keys (walked_with [] node requests))) e
    ∙ ap graph_walked (levels-refused (discovery look root) most_keys refusal)
