-- Discovery gives a whole graph of what the root and the registry declare, and no more than is
-- needed.
use Rattle.std.proofs.Common.{◌≡◌, ◌≢◌, ℕ, ◌-◌, ◌≤◌, List, [], ◌∷◌, length, map, Result, Ok, Err}
use Rattle.std.proofs.Common.{Bool, true, false, ◌&&◌, ◌||◌, refl, ap, sym, ◌∙◌, subst, arith}
use Rattle.std.proofs.lemmas.Bool.{and_parts}
use Rattle.std.proofs.lemmas.Cmp.{nat_list_eq_equiv}
use Rattle.std.proofs.lemmas.List.{length-map}
use Rattle.std.proofs.lemmas.List.Elements.{All-from_recursion, recursion_from_All}
use Rattle.std.proofs.lemmas.List.Folds.{Any-from_list_any}
use Rattle.std.proofs.lemmas.List.Kept.{AllPairs-cons}
use Rattle.std.proofs.lemmas.Slice.Eq.{bytes_eq-Decides}
use Rattle.std.specs.Cmp.{IsEquivalence}
use Rattle.std.specs.List.{All, AllByRecursion, AllPairs, AllZip, Any, IsDistinct, list_any}
use Rattle.std.specs.Str.{bytes_eq}
use Rattle.bz_base.specs.Graphs.{HasEachNeed, HasItsNeeds}
use Rattle.bz_base.specs.declared.declarations.Dep.{Dep}
use Rattle.bz_base.specs.declared.declarations.ModuleDecl.{ModuleDecl}
use Rattle.bz_base.specs.declared.module_graph.Graph.{Graph}
use Rattle.bz_base.specs.declared.module_graph.GraphNode.{GraphNode}
use Rattle.bz_base.specs.declared.module_key.Key.{Key}
use Rattle.bz_base.specs.declared.refusals.Refusal.{Refusal}
use Rattle.bz_tree.specs.declared.tree.Found.{Found}
use Rattle.bz_tree.specs.declared.tree.Found.TheVariants.{Bytes, Large, Listing, Absent}
use Rattle.discovery.proofs.Discoveries.{HasRoom, levels-nodes, walked_as, walked_with-limited}
use Rattle.discovery.proofs.Discoveries.{with_requests-longer, with_requests-room}
use Rattle.bz_walks.proofs.EachItem.{AllByRecursion-both, AllByRecursion-right}
use Rattle.bz_walks.proofs.EachItem.{AllByRecursion-weaker, AllZip-beside, AllZip-weaker}
use Rattle.bz_walks.proofs.WalkLaws.{AllPassing, IsEnded, IsReadBy, IsWalked-first, IsWhole}
use Rattle.bz_walks.proofs.WalkLaws.{PassesOn, Stands, walk_on-ends}
use Rattle.discovery.specs.Discovery.{request_of, requests_of, declared_as, discovered, discovery}
use Rattle.discovery.specs.Discovery.{discovery_rules, effective, file_text, found_for}
use Rattle.discovery.specs.Discovery.{graph_walked, most_keys, node_of, registry_node, root_request}
use Rattle.discovery.specs.Discovery.{root_key, root_node}
use Rattle.discovery.specs.DiscoveryLaws.{HoldsOnNeeds, IsDiscovery, IsFromRegistry}
use Rattle.bz_base.specs.Keys.{same_key}
use Rattle.module_file.specs.ModuleFiles.{declared_in}
use Rattle.bz_tree.specs.Places.{Files}
use Rattle.bz_walks.specs.Walks.{Walked, levels, walked_with, with_requests}
use Rattle.discovery.specs.declared.requests.Request.{Request}

same_key-congr : (one other third : Key)
    → same_key one other ≡ true
    → same_key one third ≡ same_key other third
same_key-congr one other third h =
    let parts : (bytes_eq one.name other.name ≡ true)
    × (bytes_eq one.version other.version ≡ true) = and_parts (bytes_eq one.name other.name)
    (bytes_eq one.version other.version) h in
    λ i. nat_list_eq_equiv.congr one.name other.name third.name parts.0 i
    && nat_list_eq_equiv.congr one.version other.version third.version parts.1 i

same_key-itself : (key : Key) → same_key key key ≡ true
same_key-itself key = λ i. nat_list_eq_equiv.refl key.name i && nat_list_eq_equiv.refl key.version i

same_key-same : (one other : Key) → same_key one other ≡ true → one ≡ other
same_key-same one other h =
    let parts : (bytes_eq one.name other.name ≡ true)
    × (bytes_eq one.version other.version ≡ true) = and_parts (bytes_eq one.name other.name)
    (bytes_eq one.version other.version) h in
    let names : one.name ≡ other.name = (bytes_eq-Decides one.name other.name).0 parts.0 in
    let versions : one.version
    ≡ other.version = (bytes_eq-Decides one.version other.version).0 parts.1 in
    λ i. record { name = names i; version = versions i }

requests_alike : IsEquivalence discovery_rules.same
requests_alike = record {
  refl = λ request. same_key-itself request.key;
  symm = λ one other. λ i. nat_list_eq_equiv.symm one.key.name other.key.name i
      && nat_list_eq_equiv.symm one.key.version other.key.version i;
  congr = λ one other third. same_key-congr one.key other.key third.key;
}

-- what stands where a request leads
record IsReadFor (look : Files) (root : Key) (request : Request) (node : GraphNode) : Type 0 where
  pub key_is : node.key ≡ request.key
  pub from : IsFromRegistry look root node

node_of-read : (look : Files) (root : Key) (request : Request) (node : GraphNode)
    → node_of root request (found_for look request.key) ≡ Ok node
    → IsReadFor look root request node
node_of-read look root request node = by (found_for look request.key) refl
  where
    declared_by : (bytes : List ℕ)
        → found_for look request.key ≡ Bytes bytes
        → (r : Result ModuleDecl Refusal)
        → declared_as request.key (declared_in bytes) ≡ r
        → registry_node root request r ≡ Ok node
        → IsReadFor look root request node
    declared_by bytes found (Err refusal) declared e = absurd (cc e)
    declared_by bytes found (Ok declaration) declared e =
        subst (IsReadFor look root request) (cc e)
        (record {
          key_is = refl;
          from = record {
            bytes = bytes;
            declaration = declaration;
            found
                = found;
            declared = declared;
            made = refl;
          };
        })

    by : (found : Found)
        → found_for look request.key ≡ found
        → node_of root request found ≡ Ok node
        → IsReadFor look root request node
    by (Bytes bytes) found e = declared_by bytes found
        (declared_as request.key (declared_in bytes)) refl e
    by Large found e = absurd (cc e)
    by (Listing names) found e = absurd (cc e)
    by Absent found e = absurd (cc e)

abbrev KeyIs : Request → GraphNode → Type 0
KeyIs request node = node.key ≡ request.key

-- its needs are the keys that its dependencies mean
abbrev HasMeantNeeds : Key → GraphNode → Type 0
HasMeantNeeds root node = node.needs ≡ map (effective root) node.decl.deps

HasMeantNeeds-read : (look : Files) (root : Key) (node : GraphNode)
    → IsFromRegistry look root node
    → HasMeantNeeds root node
HasMeantNeeds-read look root node from = subst (HasMeantNeeds root) (sym from.made) refl

HasEachNeed-meant : (root : Key) (node : GraphNode) → HasMeantNeeds root node → HasEachNeed node
HasEachNeed-meant root node meant = ap length meant ∙ length-map node.decl.deps (effective root)

-- different requests lead to different keys
differ_from : (request : Request) (node : GraphNode)
    → KeyIs request node
    → (requests : List Request) (nodes : List GraphNode)
    → AllZip KeyIs requests nodes
    → AllByRecursion (λ other. same_key request.key other.key ≡ false) requests
    → AllByRecursion (λ other. node.key ≢ other.key) nodes
differ_from request node key [] [] keys apart = tt
differ_from request node key [] (other ∷ nodes) keys apart = absurd keys
differ_from request node key (other ∷ requests) [] keys apart = absurd keys
differ_from request node key (other ∷ requests) (further ∷ nodes) keys apart = (
  λ e. absurd (cc (sym (same_key-itself request.key) ∙ ap (same_key request.key) (sym key ∙ e ∙
      keys.0) ∙
      apart.0)),
  differ_from request node key requests nodes keys.1 apart.1,
)

keys_differ : (requests : List Request) (nodes : List GraphNode)
    → AllZip KeyIs requests nodes
    → IsDistinct discovery_rules.same requests
    → AllPairs (λ one other. one.key ≢ other.key) nodes
unfolding IsDistinct
keys_differ [] [] keys distinct = λ i j d before within. absurd (omega (arith, within))
keys_differ [] (node ∷ nodes) keys distinct = absurd keys
keys_differ (request ∷ requests) [] keys distinct = absurd keys
keys_differ (request ∷ requests) (node ∷ nodes) keys distinct =
    AllPairs-cons (λ one other. one.key ≢ other.key) node nodes
    (All-from_recursion (λ other. node.key ≢ other.key) nodes
    (differ_from request node keys.0 requests nodes keys.1 distinct.0))
    (keys_differ requests nodes keys.1 distinct.1)

-- a key for which a request stands is that of a node
keys_found : (key : Key) (requests : List Request) (nodes : List GraphNode)
    → AllZip KeyIs requests nodes
    → list_any (λ other. same_key key other.key) requests
    ≡ list_any (λ node. same_key key node.key) nodes
keys_found key [] [] keys = refl
keys_found key [] (node ∷ nodes) keys = absurd keys
keys_found key (request ∷ requests) [] keys = absurd keys
keys_found key (request ∷ requests) (node ∷ nodes) keys = λ i. same_key key (sym keys.0 i)
    || keys_found key requests nodes keys.1 i

needed_there : (key : Key) (requests : List Request) (nodes : List GraphNode)
    → AllZip KeyIs requests nodes
    → list_any (λ other. same_key key other.key) requests ≡ true
    → Any (λ node. node.key ≡ key) nodes
needed_there key requests nodes keys stands =
    let found : Any (λ node. same_key key node.key ≡ true) nodes = Any-from_list_any
    (λ node. same_key key node.key) nodes (sym (keys_found key requests nodes keys) ∙ stands) in
    (found.0, found.1, found.2, found.3, sym (same_key-same key found.1.key found.4))

module _ (root : Key) (requests : List Request) (nodes : List GraphNode)
    (keys : AllZip KeyIs requests nodes) where
  deps_there : (file : List ℕ) (deps : List Dep)
      → AllByRecursion (Stands discovery_rules requests) (map (request_of root file) deps)
      → AllByRecursion (λ need. Any (λ node. node.key ≡ need) nodes) (map (effective root) deps)
  deps_there file [] stand = tt
  deps_there file (dep ∷ deps) stand =
      (needed_there (effective root dep) requests nodes keys stand.0, deps_there file deps stand.1)

  needs_there : (node : GraphNode)
      → AllByRecursion (Stands discovery_rules requests) (requests_of root node)
      → HasMeantNeeds root node
      → HasItsNeeds nodes node
  needs_there node stand meant =
      All-from_recursion (λ need. Any (λ needed. needed.key ≡ need) nodes) node.needs
      (subst (AllByRecursion (λ need. Any (λ needed. needed.key ≡ need) nodes)) (sym meant)
      (deps_there (file_text node) node.decl.deps stand))

-- a test of keys as one of requests
abbrev of_key : (Key → Bool) → Request → Bool
of_key holds request = holds request.key

deps_pass : (holds : Key → Bool) (root : Key) (file : List ℕ) (deps : List Dep)
    → AllByRecursion (λ need. holds need ≡ true) (map (effective root) deps)
    → AllPassing (of_key holds) (map (request_of root file) deps)
deps_pass holds root file [] all = tt
deps_pass holds root file (dep ∷ deps) all = (all.0, deps_pass holds root file deps all.1)

-- what is closed on needs passes from requests to requests
abbrev IsClosedAt : (Key → Bool) → GraphNode → Type 0
IsClosedAt holds node = holds node.key ≡ true → All (λ need. holds need ≡ true) node.needs

PassesOn-closed : (look : Files) (root : Key) (holds : Key → Bool) (request : Request)
    (node : GraphNode)
    → KeyIs request node
    → HasMeantNeeds root node × IsClosedAt holds node
    → PassesOn (discovery look root) (of_key holds) request node
PassesOn-closed look root holds request node key closed holding =
    deps_pass holds root (file_text node) node.decl.deps
    (subst (AllByRecursion (λ need. holds need ≡ true)) closed.0
    (recursion_from_All (λ need. holds need ≡ true) node.needs
    (closed.1 (ap holds key ∙ holding))))

module _ (look : Files) (decl : ModuleDecl) (front : List Request) (further : List GraphNode)
    (whole : IsWhole (discovery look (root_key decl)) HasRoom (root_request (root_key decl))
    (root_node decl) front further) where
  abbrev root : Key
  root = root_key decl

  abbrev requests : List Request
  requests = root_request root ∷ front

  abbrev nodes : List GraphNode
  nodes = root_node decl ∷ further

  reads : AllZip (IsReadFor look root) front further
  reads = AllZip-weaker (IsReadBy (discovery look root)) (IsReadFor look root)
      (node_of-read look root) front further whole.read

  keys : AllZip KeyIs requests nodes
  keys = (
    refl,
    AllZip-weaker (IsReadFor look root) KeyIs (λ request node read. read.key_is) front
        further reads,
  )

  from : AllByRecursion (IsFromRegistry look root) further
  from = AllByRecursion-right (IsReadFor look root) (IsFromRegistry look root)
      (λ request node read. read.from) front further reads

  meant : AllByRecursion (HasMeantNeeds root) nodes
  meant = (
    refl,
    AllByRecursion-weaker (IsFromRegistry look root) (HasMeantNeeds root)
        (HasMeantNeeds-read look root) further from,
  )

  least : (holds : Key → Bool)
      → holds root ≡ true
      → HoldsOnNeeds holds nodes
      → All (λ node. holds node.key ≡ true) nodes
  least holds begins closed =
      let closed_each : AllByRecursion (IsClosedAt holds) nodes = recursion_from_All
      (IsClosedAt holds) nodes closed in
      let passes : AllZip (PassesOn (discovery look root) (of_key holds)) requests nodes =
      AllZip-beside
      KeyIs (λ node. HasMeantNeeds root node × IsClosedAt holds node)
      (PassesOn (discovery look root) (of_key holds))
      (PassesOn-closed look root holds) requests nodes keys
      (AllByRecursion-both (HasMeantNeeds root) (IsClosedAt holds)
      (λ node. HasMeantNeeds root node × IsClosedAt holds node)
      (λ node m c. (m, c)) nodes meant closed_each) in
      All-from_recursion (λ node. holds node.key ≡ true) nodes
      (held requests nodes keys (whole.least (of_key holds) begins passes))
    where
      held : (some : List Request) (those : List GraphNode)
          → AllZip KeyIs some those
          → AllPassing (of_key holds) some
          → AllByRecursion (λ node. holds node.key ≡ true) those
      held [] [] same all = tt
      held [] (node ∷ those) same all = absurd same
      held (request ∷ some) [] same all = absurd same
      held (request ∷ some) (node ∷ those) same all =
          (ap holds same.0 ∙ all.0, held some those same.1 all.1)

  whole-discovery : IsDiscovery look decl (record { nodes = nodes })
  whole-discovery = record {
    graph_is = record {
      root_first = (
        refl,
        All-from_recursion (λ other. other.root ≡ false) further
            (AllByRecursion-weaker (IsFromRegistry look root) (λ other. other.root ≡ false)
            (λ node read. ap (λ other. other.root) read.made) further from),
      );
      keys_differ = keys_differ requests nodes keys whole.distinct;
      each_need = All-from_recursion HasEachNeed nodes
          (AllByRecursion-weaker (HasMeantNeeds root) HasEachNeed
          (HasEachNeed-meant root) nodes meant);
      needs_there = All-from_recursion (HasItsNeeds nodes) nodes
          (AllByRecursion-both
          (λ node. AllByRecursion (Stands discovery_rules requests) (requests_of root node))
          (HasMeantNeeds root) (HasItsNeeds nodes)
          (needs_there root requests nodes keys) nodes whole.stand meant);
    };
    declared = (refl, All-from_recursion (IsFromRegistry look root) further from);
    least = least;
  }

ended-discovery : (look : Files) (decl : ModuleDecl) (final : Walked Request GraphNode)
    → IsEnded (discovery look (root_key decl)) HasRoom (root_request (root_key decl))
    (root_node decl) final
    → IsDiscovery look decl (record { nodes = final.nodes })
ended-discovery look decl final ended =
    subst (λ nodes. IsDiscovery look decl (record { nodes = nodes })) (sym ended.nodes_are)
    (whole-discovery look decl ended.front ended.further ended.whole)

pub discovered-least : (look : Files) (decl : ModuleDecl) (graph : Graph)
    → discovered look decl ≡ Ok graph
    → IsDiscovery look decl graph
unfolding discovered
discovered-least look decl graph e =
    by (with_requests discovery_rules (Ok (root_request root ∷ []))
    (requests_of root (root_node decl))) refl e
  where
    root : Key
    root = root_key decl

    ended : (known : List Request)
        → with_requests discovery_rules (Ok (root_request root ∷ []))
        (requests_of root (root_node decl))
        ≡ Ok known
        → (r : Result (Walked Request GraphNode) Refusal)
        → levels (discovery look root) most_keys (Ok (walked_as known (root_node decl ∷ []))) ≡ r
        → graph_walked r ≡ Ok graph
        → IsDiscovery look decl graph
    ended known asked (Err refusal) reached e = absurd (cc e)
    ended known asked (Ok final) reached e =
        let room : HasRoom known = with_requests-room (requests_of root (root_node decl))
        (root_request root ∷ []) known (omega arith) asked in
        let some : 1 ≤ length known = with_requests-longer (requests_of root (root_node decl))
        (root_request root ∷ []) known asked in
        let first : IsEnded (discovery look root) HasRoom (root_request root)
        (root_node decl) final =
        walk_on-ends (discovery look root) requests_alike HasRoom most_keys (λ l now. now)
        (λ l more request node now read added. with_requests-room
        (requests_of root node) l more now added)
        (root_request root) (root_node decl) final
        (most_keys - 1) known [] (omega arith) room
        (IsWalked-first (discovery look root) requests_alike (root_request root)
        (root_node decl) known asked)
        (levels-nodes look root known (root_node decl ∷ []) room some ∙ reached) in
        subst (IsDiscovery look decl) (cc e) (ended-discovery look decl final first)

    by : (r : Result (List Request) Refusal)
        → with_requests discovery_rules (Ok (root_request root ∷ []))
        (requests_of root (root_node decl)) ≡ r
        → graph_walked (levels (discovery look root) most_keys (walked_with [] (root_node decl) r))
        ≡ Ok graph
        → IsDiscovery look decl graph
    by (Err refusal) asked e = absurd
        (cc (sym (walked_with-limited look root (root_node decl) (Err refusal) refusal refl) ∙ e))
    by (Ok known) asked e = ended known asked
        (levels (discovery look root) most_keys (Ok (walked_as known (root_node decl ∷ [])))) refl e
