-- The tables of nodes by key and of highest versions by name and level, as the list of nodes grows.
use Rattle.std.proofs.Common.{◌≡◌, ℕ, ◌+◌, Bool, true, false, ◌&&◌, not, List, [], ◌∷◌, ◌++◌, length}
use Rattle.std.proofs.Common.{None, Some, Option, String, string_bytes, if◌then◌else◌, refl, ap, sym}
use Rattle.std.proofs.Common.{◌∙◌, arith}
use Rattle.std.specs.Prelude.{nat_eq}
use Rattle.std.proofs.lemmas.Bool.{and_parts, eqb-true}
use Rattle.std.proofs.lemmas.Slice.Eq.{bytes_eq-Decides}
use Rattle.std.specs.Cmp.{nat_eq_equiv}
use Rattle.std.specs.List.{position_from}
use Rattle.std.specs.Map.{lookup}
use Rattle.std.specs.Option.{is_some, option_or}
use Rattle.std.specs.Str.{bytes_eq}
use Rattle.std.specs.String.{string_eq}
use Rattle.std.specs.declared.alloc.Global.{Global}
use Rattle.indexmap.specs.IndexMap.{insert_entry}
use Rattle.bz_base.specs.declared.module_graph.GraphNode.{GraphNode}
use Rattle.bz_base.specs.declared.module_key.Key.{Key}
use Rattle.selection.proofs.ChoiceTables.{versions_have_heights}
use Rattle.selection.proofs.Choices.{index-grown, next_index}
use Rattle.selection.proofs.FirstIndexes.{position_from-front, position_from-last}
use Rattle.selection.specs.Selection.{is_superior}
use Rattle.version_selection.specs.Choices.{has_key, highest, is_fellow}
use Rattle.version_selection.specs.Tables.{HasHighest, HasKeys, index_of_group, index_of_key, stays}

-- what stands beside a key after one more entry
pub lookup-insert_entry : {K : Type 0} (same : K → K → Bool) (test : K → Bool) (k : K) (index : ℕ)
    → ((e : K) → same k e ≡ true → test k ≡ test e)
    → ((e : K) → test k ≡ true → test e ≡ true → same k e ≡ true)
    → (entries : List (K × ℕ))
    → lookup test (insert_entry same entries k index)
    ≡ (if test k then Some index else lookup test entries)
lookup-insert_entry same test k index alike apart [] = refl
lookup-insert_entry {K} same test k index alike apart (e ∷ es) = by (same k e.0) refl
    (lookup-insert_entry same test k index alike apart es)
  where
    twice : (b : Bool)
        → (if b then Some index else lookup test es)
        ≡ (if b then Some index else if b then Some e.1 else lookup test es)
    twice true = refl
    twice false = refl

    other : same k e.0 ≡ false
        → (b : Bool)
        → test e.0 ≡ b
        → (d : Bool)
        → test k ≡ d
        → lookup test (insert_entry same es k index)
        ≡ (if d then Some index else lookup test es)
        → (if b then Some e.1 else lookup test (insert_entry same es k index))
        ≡ (if d then Some index else if b then Some e.1 else lookup test es)
    other h true b true d further = absurd (cc (sym h ∙ apart e.0 d b))
    other h true b false d further = refl
    other h false b true d further = further
    other h false b false d further = further

    by : (t : Bool) → same k e.0 ≡ t
        → lookup test (insert_entry same es k index)
        ≡ (if test k then Some index else lookup test es)
        → lookup test (if t then (e.0, index) ∷ es else e ∷ insert_entry same es k index)
        ≡ (if test k then Some index else lookup test (e ∷ es))
    by true t further = twice (test e.0)
        ∙ ap (λ b. if b then Some index else lookup test (e ∷ es)) (sym (alike e.0 t))
    by false t further = other t (test e.0) refl (test k) refl further

-- the first index with one more item
pub position_from-grown : {X : Type 0} (test : X → Bool) (xs : List X) (last : X)
    → position_from test 0 (xs ++ last ∷ [])
    ≡ option_or (position_from test 0 xs) (if test last then Some (length xs) else None)
position_from-grown test xs last = by (position_from test 0 xs) refl
  where
    long : 0 + length xs ≡ length xs
    long = omega arith

    by : (found : Option ℕ)
        → position_from test 0 xs ≡ found
        → position_from test 0 (xs ++ last ∷ [])
        ≡ option_or found (if test last then Some (length xs) else None)
    by None e = position_from-last test 0 xs last e
        ∙ ap (λ n. if test last then Some n else None) long
    by (Some i) e = position_from-front test 0 xs (last ∷ []) i e

-- ---- keys

abbrev same_pair : String Global × String Global → String Global × String Global → Bool
same_pair one other = string_eq one.0 other.0 && string_eq one.1 other.1

abbrev is_pair : Key → String Global × String Global → Bool
is_pair key one =
    bytes_eq key.name (string_bytes one.0) && bytes_eq key.version (string_bytes one.1)

both : (a b : Bool) → a ≡ true → b ≡ true → (a && b) ≡ true
both a b e f = λ i. e i && f i

pair_alike : (key : Key) (k e : String Global × String Global)
    → same_pair k e ≡ true
    → is_pair key k ≡ is_pair key e
pair_alike key k e h =
    let parts : (string_eq k.0 e.0 ≡ true) × (string_eq k.1 e.1 ≡ true) = and_parts
    (string_eq k.0 e.0) (string_eq k.1 e.1) h in
    let one : string_bytes k.0 ≡ string_bytes e.0 = (bytes_eq-Decides (string_bytes k.0)
    (string_bytes e.0)).0 parts.0 in
    let two : string_bytes k.1 ≡ string_bytes e.1 = (bytes_eq-Decides (string_bytes k.1)
    (string_bytes e.1)).0 parts.1 in
    λ i. bytes_eq key.name (one i) && bytes_eq key.version (two i)

pair_apart : (key : Key) (k e : String Global × String Global)
    → is_pair key k ≡ true
    → is_pair key e ≡ true
    → same_pair k e ≡ true
pair_apart key k e h g =
    let first = and_parts (bytes_eq key.name (string_bytes k.0))
    (bytes_eq key.version (string_bytes k.1)) h in
    let second = and_parts (bytes_eq key.name (string_bytes e.0))
    (bytes_eq key.version (string_bytes e.1)) g in
    both (string_eq k.0 e.0) (string_eq k.1 e.1)
    ((bytes_eq-Decides (string_bytes k.0) (string_bytes e.0)).1
    (sym ((bytes_eq-Decides key.name (string_bytes k.0)).0 first.0)
    ∙ (bytes_eq-Decides key.name (string_bytes e.0)).0 second.0))
    ((bytes_eq-Decides (string_bytes k.1) (string_bytes e.1)).1
    (sym ((bytes_eq-Decides key.version (string_bytes k.1)).0 first.1)
    ∙ (bytes_eq-Decides key.version (string_bytes e.1)).0 second.1))

-- nodes of one key are found at one index
one_place : (key : Key) (node : GraphNode) (nodes : List GraphNode)
    → has_key key node ≡ true
    → position_from (has_key key) 0 nodes ≡ position_from (has_key node.key) 0 nodes
one_place key node nodes h =
    let parts : (bytes_eq key.name node.key.name ≡ true)
    × (bytes_eq key.version node.key.version ≡ true) = and_parts (bytes_eq key.name node.key.name)
    (bytes_eq key.version node.key.version) h in
    let name : key.name ≡ node.key.name = (bytes_eq-Decides key.name node.key.name).0 parts.0 in
    let version : key.version ≡ node.key.version = (bytes_eq-Decides key.version
    node.key.version).0 parts.1 in
    λ i. position_from (has_key (record { name = name i; version = version i })) 0 nodes

or_none : (found : Option ℕ) → option_or found None ≡ found
or_none None = refl
or_none (Some i) = refl

-- a node whose key is there already
pub HasKeys-kept : (nodes : List GraphNode) (node : GraphNode)
    (entries : List ((String Global × String Global) × ℕ))
    → HasKeys nodes entries
    → is_some (index_of_key entries node.key) ≡ true
    → HasKeys (nodes ++ node ∷ []) entries
HasKeys-kept nodes node entries has there key =
    has key ∙ by (has_key key node) refl ∙ sym (position_from-grown (has_key key) nodes node)
  where
    stays_first : (found : Option ℕ) (more : Option ℕ)
        → is_some found ≡ true
        → found ≡ option_or found more
    stays_first None more h = absurd (cc)
    stays_first (Some i) more h = refl

    by : (b : Bool)
        → has_key key node ≡ b
        → position_from (has_key key) 0 nodes
        ≡ option_or (position_from (has_key key) 0 nodes)
        (if b then Some (length nodes) else None)
    by true b = stays_first (position_from (has_key key) 0 nodes) (Some (length nodes))
        (ap is_some (one_place key node nodes b ∙ sym (has node.key)) ∙ there)
    by false b = sym (or_none (position_from (has_key key) 0 nodes))

-- a node of a new key
pub HasKeys-put : (nodes : List GraphNode) (node : GraphNode)
    (entries : List ((String Global × String Global) × ℕ)) (k : String Global × String Global)
    → HasKeys nodes entries
    → is_some (index_of_key entries node.key) ≡ false
    → string_bytes k.0 ≡ node.key.name
    → string_bytes k.1 ≡ node.key.version
    → HasKeys (nodes ++ node ∷ []) (insert_entry same_pair entries k (length nodes))
HasKeys-put nodes node entries k has new name version key =
    lookup-insert_entry same_pair (is_pair key) k (length nodes) (pair_alike key k)
    (pair_apart key k) entries
    ∙ (λ i. if bytes_eq key.name (name i) && bytes_eq key.version (version i)
    then Some (length nodes) else has key i)
    ∙ by (has_key key node) refl
    ∙ sym (position_from-grown (has_key key) nodes node)
  where
    absent : (found : Option ℕ)
        → is_some found ≡ false
        → Some (length nodes) ≡ option_or found (Some (length nodes))
    absent None h = refl
    absent (Some i) h = absurd (cc)

    by : (b : Bool)
        → has_key key node ≡ b
        → (if b then Some (length nodes) else position_from (has_key key) 0 nodes)
        ≡ option_or (position_from (has_key key) 0 nodes)
        (if b then Some (length nodes) else None)
    by true b = absent (position_from (has_key key) 0 nodes)
        (ap is_some (one_place key node nodes b ∙ sym (has node.key)) ∙ new)
    by false b = sym (or_none (position_from (has_key key) 0 nodes))

-- ---- names and levels

abbrev same_group : String Global × ℕ → String Global × ℕ → Bool
same_group one other = string_eq one.0 other.0 && nat_eq one.1 other.1

abbrev is_group : List ℕ → ℕ → String Global × ℕ → Bool
is_group name level one = bytes_eq name (string_bytes one.0) && nat_eq level one.1

group_alike : (name : List ℕ) (level : ℕ) (k e : String Global × ℕ)
    → same_group k e ≡ true
    → is_group name level k ≡ is_group name level e
group_alike name level k e h =
    let parts : (string_eq k.0 e.0 ≡ true) × (nat_eq k.1 e.1 ≡ true) = and_parts
    (string_eq k.0 e.0) (nat_eq k.1 e.1) h in
    let one : string_bytes k.0 ≡ string_bytes e.0 = (bytes_eq-Decides (string_bytes k.0)
    (string_bytes e.0)).0 parts.0 in
    let two : k.1 ≡ e.1 = eqb-true k.1 e.1 parts.1 in
    λ i. bytes_eq name (one i) && nat_eq level (two i)

group_apart : (name : List ℕ) (level : ℕ) (k e : String Global × ℕ)
    → is_group name level k ≡ true
    → is_group name level e ≡ true
    → same_group k e ≡ true
group_apart name level k e h g =
    let first = and_parts (bytes_eq name (string_bytes k.0)) (nat_eq level k.1) h in
    let second = and_parts (bytes_eq name (string_bytes e.0)) (nat_eq level e.1) g in
    let levels : k.1 ≡ e.1 = sym (eqb-true level k.1 first.1) ∙ eqb-true level e.1 second.1 in
    both (string_eq k.0 e.0) (nat_eq k.1 e.1)
    ((bytes_eq-Decides (string_bytes k.0) (string_bytes e.0)).1
    (sym ((bytes_eq-Decides name (string_bytes k.0)).0 first.0)
    ∙ (bytes_eq-Decides name (string_bytes e.0)).0 second.0))
    (ap (nat_eq k.1) (sym levels) ∙ nat_eq_equiv.refl k.1)

grown : (name : List ℕ) (level : ℕ) (nodes : List GraphNode) (node : GraphNode)
    → highest name level (nodes ++ node ∷ [])
    ≡ next_index (is_fellow name level) is_superior nodes node (highest name level nodes)
grown name level nodes node =
    index-grown (is_fellow name level) is_superior versions_have_heights nodes node

-- the root is in no group
pub HasHighest-root : (nodes : List GraphNode) (node : GraphNode)
    (entries : List ((String Global × ℕ) × ℕ))
    → HasHighest nodes entries
    → node.root ≡ true
    → HasHighest (nodes ++ node ∷ []) entries
HasHighest-root nodes node entries has root name level =
    has name level
    ∙ sym (grown name level nodes node
    ∙ (λ i. if (not (root i) && (bytes_eq name node.key.name && nat_eq level node.decl.level))
    && not (stays is_superior nodes node (highest name level nodes)) then Some (length nodes)
    else highest name level nodes))

-- what a fellow of a name and level has
named : (name : List ℕ) (level : ℕ) (node : GraphNode)
    → is_fellow name level node ≡ true
    → (name ≡ node.key.name) × (level ≡ node.decl.level)
named name level node h =
    let within = and_parts (not node.root)
    (bytes_eq name node.key.name && nat_eq level node.decl.level) h in
    let parts = and_parts (bytes_eq name node.key.name) (nat_eq level node.decl.level) within.1 in
    ((bytes_eq-Decides name node.key.name).0 parts.0, eqb-true level node.decl.level parts.1)

-- whether what stands beside the node's own name and level stays
same_stay : (nodes : List GraphNode) (node : GraphNode) (entries : List ((String Global × ℕ) × ℕ))
    → HasHighest nodes entries
    → (name : List ℕ) (level : ℕ)
    → is_fellow name level node ≡ true
    → stays is_superior nodes node (highest name level nodes)
    ≡ stays is_superior nodes node (index_of_group entries node.key.name node.decl.level)
same_stay nodes node entries has name level h =
    let is : (name ≡ node.key.name) × (level ≡ node.decl.level) = named name level node h in
    (λ i. stays is_superior nodes node (highest (is.0 i) (is.1 i) nodes))
    ∙ ap (stays is_superior nodes node) (sym (has node.key.name node.decl.level))

-- a node that leaves the highest of its group
pub HasHighest-kept : (nodes : List GraphNode) (node : GraphNode)
    (entries : List ((String Global × ℕ) × ℕ))
    → HasHighest nodes entries
    → stays is_superior nodes node (index_of_group entries node.key.name node.decl.level) ≡ true
    → HasHighest (nodes ++ node ∷ []) entries
HasHighest-kept nodes node entries has kept name level =
    has name level ∙ sym (grown name level nodes node ∙ by (is_fellow name level node) refl)
  where
    by : (m : Bool)
        → is_fellow name level node ≡ m
        → (if m && not (stays is_superior nodes node (highest name level nodes))
        then Some (length nodes) else highest name level nodes) ≡ highest name level nodes
    by false m = refl
    by true m = ap (λ s. if not s then Some (length nodes) else highest name level nodes)
        (same_stay nodes node entries has name level m ∙ kept)

-- a node that becomes the highest of its group
pub HasHighest-put : (nodes : List GraphNode) (node : GraphNode)
    (entries : List ((String Global × ℕ) × ℕ)) (k : String Global × ℕ)
    → HasHighest nodes entries
    → node.root ≡ false
    → stays is_superior nodes node (index_of_group entries node.key.name node.decl.level) ≡ false
    → string_bytes k.0 ≡ node.key.name
    → k.1 ≡ node.decl.level
    → HasHighest (nodes ++ node ∷ []) (insert_entry same_group entries k (length nodes))
HasHighest-put nodes node entries k has root left own own_level name level =
    lookup-insert_entry same_group (is_group name level) k (length nodes) (group_alike name level k)
    (group_apart name level k) entries
    ∙ (λ i. if bytes_eq name (own i) && nat_eq level (own_level i) then Some (length nodes)
    else has name level i)
    ∙ (λ i. if not (sym root i) && (bytes_eq name node.key.name && nat_eq level node.decl.level)
    then Some (length nodes) else highest name level nodes)
    ∙ sym (grown name level nodes node ∙ by (is_fellow name level node) refl)
  where
    by : (m : Bool)
        → is_fellow name level node ≡ m
        → (if m && not (stays is_superior nodes node (highest name level nodes))
        then Some (length nodes) else highest name level nodes)
        ≡ (if m then Some (length nodes) else highest name level nodes)
    by false m = refl
    by true m = ap (λ s. if not s then Some (length nodes) else highest name level nodes)
        (same_stay nodes node entries has name level m ∙ left)
