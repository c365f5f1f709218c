-- The table of the first nodes by name, as the walk goes on.
use Rattle.std.proofs.Common.{◌≡◌, ℕ, zero, suc, ◌+◌, drop, arith, Bool, true, false, List, [], ◌∷◌, ◌++◌, None, Some, Option}
use Rattle.std.proofs.Common.{String, string_bytes, if◌then◌else◌, refl, ap, sym, ◌∙◌}
use Rattle.std.proofs.lemmas.List.Folds.{find-append}
use Rattle.std.proofs.lemmas.Slice.Eq.{bytes_eq-Decides}
use Rattle.std.specs.List.{cons_option, find, slice_get}
use Rattle.std.specs.Map.{lookup}
use Rattle.std.specs.Option.{is_some, option_and_then, option_map, option_map_or, option_or}
use Rattle.std.specs.Str.{bytes_eq}
use Rattle.std.specs.String.{string_eq}
use Rattle.std.specs.declared.alloc.Global.{Global}
use Rattle.indexmap.specs.IndexMap.{insert_entry}
use Rattle.bz_base.specs.declared.module_graph.Graph.{Graph}
use Rattle.bz_base.specs.declared.module_graph.GraphNode.{GraphNode}
use Rattle.bz_base.specs.declared.refusals.Refusal.{Refusal}
use Rattle.index_walks.specs.Reaching.{reached}
use Rattle.overrides.specs.Overrides.{RootOverrides, names_of}
use Rattle.version_selection.proofs.KeyTables.{lookup-insert_entry}
use Rattle.version_selection.specs.Choices.{links, listed_for}
use Rattle.version_selection.specs.Refusals.{first_absent, first_of, first_refusal, is_named}
use Rattle.version_selection.specs.Refusals.{missing_of, refusal_beside}
use Rattle.version_selection.specs.Selection.{selected_among, selected_of, unless}
use Rattle.version_selection.specs.Tables.{HasFirsts, IsNoted, node_of_name}

abbrev pub at_name : List ℕ → List (String Global × ℕ) → Option ℕ
at_name name entries = lookup (λ key. bytes_eq name (string_bytes key)) entries

or_none : (found : Option ℕ) → found ≡ option_or found None
or_none None = refl
or_none (Some i) = refl

-- a name that is there keeps its index
pub IsNoted-kept : (entries : List (String Global × ℕ)) (name : List ℕ) (index : ℕ)
    → is_some (at_name name entries) ≡ true
    → IsNoted entries entries name index
IsNoted-kept entries name index there other = by (bytes_eq other name) refl
  where
    stays_first : (found more : Option ℕ) → is_some found ≡ true → found ≡ option_or found more
    stays_first None more h = absurd (cc)
    stays_first (Some i) more h = refl

    by : (b : Bool)
        → bytes_eq other name ≡ b
        → at_name other entries
        ≡ option_or (at_name other entries) (if b then Some index else None)
    by true b = stays_first (at_name other entries) (Some index)
        (ap (λ one. is_some (at_name one entries)) ((bytes_eq-Decides other name).0 b) ∙ there)
    by false b = or_none (at_name other entries)

-- a new name
pub IsNoted-put : (entries : List (String Global × ℕ)) (k : String Global) (name : List ℕ)
    (index : ℕ)
    → is_some (at_name name entries) ≡ false
    → string_bytes k ≡ name
    → IsNoted entries (insert_entry string_eq entries k index) name index
IsNoted-put entries k name index new own other =
    lookup-insert_entry string_eq (λ key. bytes_eq other (string_bytes key)) k index
    (λ e h. ap (bytes_eq other) ((bytes_eq-Decides (string_bytes k) (string_bytes e)).0 h))
    (λ e h g. (bytes_eq-Decides (string_bytes k) (string_bytes e)).1
    (sym ((bytes_eq-Decides other (string_bytes k)).0 h)
    ∙ (bytes_eq-Decides other (string_bytes e)).0 g)) entries
    ∙ ap (λ one. if bytes_eq other one then Some index else at_name other entries) own
    ∙ by (bytes_eq other name) refl
  where
    absent : (found : Option ℕ) → is_some found ≡ false → Some index ≡ option_or found (Some index)
    absent None h = refl
    absent (Some i) h = absurd (cc)

    by : (b : Bool)
        → bytes_eq other name ≡ b
        → (if b then Some index else at_name other entries)
        ≡ option_or (at_name other entries) (if b then Some index else None)
    by true b = absent (at_name other entries)
        (ap (λ one. is_some (at_name one entries)) ((bytes_eq-Decides other name).0 b) ∙ new)
    by false b = or_none (at_name other entries)

-- with one more node the first of each name is noted
pub HasFirsts-noted : (nodes earlier : List GraphNode) (entries more : List (String Global × ℕ))
    (node : GraphNode) (index : ℕ)
    → slice_get nodes index ≡ Some node
    → IsNoted entries more node.key.name index
    → HasFirsts nodes earlier entries
    → HasFirsts nodes (earlier ++ node ∷ []) more
HasFirsts-noted nodes earlier entries more node index there noted has name =
    ap (option_map (slice_get nodes)) (noted name)
    ∙ by (at_name name entries) (find (is_named name) earlier) (has name)
    (bytes_eq name node.key.name)
    ∙ ap (option_map Some) (sym (find-append (is_named name) earlier (node ∷ [])))
  where
    by : (found : Option ℕ) (first : Option GraphNode)
        → option_map (slice_get nodes) found ≡ option_map Some first
        → (b : Bool)
        → option_map (slice_get nodes) (option_or found (if b then Some index else None))
        ≡ option_map Some (option_or first (if b then Some node else None))
    by None None e true = ap Some there
    by None None e false = refl
    by None (Some one) e b = absurd (cc e)
    by (Some i) None e b = absurd (cc e)
    by (Some i) (Some one) e b = e

-- what the table finds is the first
pub found-first : (nodes earlier : List GraphNode) (entries : List (String Global × ℕ))
    → HasFirsts nodes earlier entries
    → (name : List ℕ)
    → node_of_name nodes entries name ≡ find (is_named name) earlier
found-first nodes earlier entries has name = by (at_name name entries)
    (find (is_named name) earlier) (has name)
  where
    by : (found : Option ℕ) (first : Option GraphNode)
        → option_map (slice_get nodes) found ≡ option_map Some first
        → option_and_then (slice_get nodes) found ≡ first
    by None None e = refl
    by None (Some one) e = absurd (cc e)
    by (Some i) None e = absurd (cc e)
    by (Some i) (Some one) e = cc e

abbrev pub at_index : RootOverrides
    → List GraphNode
    → List (String Global × ℕ)
    → ℕ
    → Option Refusal
at_index overrides nodes entries index = option_map_or
    (λ node. refusal_beside overrides (node_of_name nodes entries node.key.name) node)
    (slice_get nodes index) None

-- the table tells what is refused next
pub refused-next : (overrides : RootOverrides) (nodes earlier : List GraphNode)
    (entries : List (String Global × ℕ)) (index : ℕ) (indexes : List ℕ)
    → HasFirsts nodes earlier entries
    → first_refusal overrides nodes earlier (index ∷ indexes)
    ≡ first_of (at_index overrides nodes entries index)
    (first_refusal overrides nodes (earlier ++ cons_option (slice_get nodes index) []) indexes)
refused-next overrides nodes earlier entries index indexes has =
    ap (λ first. first_of first (first_refusal overrides nodes
    (earlier ++ cons_option (slice_get nodes index) []) indexes)) (by (slice_get nodes index))
  where
    by : (found : Option GraphNode)
        → option_map_or
        (λ node. refusal_beside overrides (find (is_named node.key.name) earlier) node) found None
        ≡ option_map_or
        (λ node. refusal_beside overrides (node_of_name nodes entries node.key.name) node) found
        None
    by None = refl
    by (Some node) = ap (λ first. refusal_beside overrides first node)
        (sym (found-first nodes earlier entries has node.key.name))

-- the refusals from an index on: that of the node there, and then the others
pub refused-from : (overrides : RootOverrides) (nodes earlier : List GraphNode)
    (entries : List (String Global × ℕ)) (indexes : List ℕ) (i index : ℕ)
    → HasFirsts nodes earlier entries
    → drop i indexes ≡ index ∷ drop (i + 1) indexes
    → first_refusal overrides nodes earlier (drop i indexes)
    ≡ first_of (at_index overrides nodes entries index)
    (first_refusal overrides nodes (earlier ++ cons_option (slice_get nodes index) [])
    (drop (i + 1) indexes))
refused-from overrides nodes earlier entries indexes i index has next =
    ap (first_refusal overrides nodes earlier) next
    ∙ refused-next overrides nodes earlier entries index (drop (i + 1) indexes) has

abbrev pub missing_at : RootOverrides → List GraphNode → Option (List ℕ) → Option Refusal
missing_at overrides nodes found = option_map_or
    (λ name. missing_of nodes name (listed_for overrides name)) found None

absent-suc : (overrides : RootOverrides) (nodes : List GraphNode) (names : List (List ℕ)) (i : ℕ)
    → first_absent overrides nodes (drop i names)
    ≡ first_of (missing_at overrides nodes (slice_get names i))
    (first_absent overrides nodes (drop (suc i) names))
absent-suc overrides nodes [] zero = refl
absent-suc overrides nodes [] (suc i) = refl
absent-suc overrides nodes (name ∷ names) zero = refl
absent-suc overrides nodes (name ∷ names) (suc i) = absent-suc overrides nodes names i

-- the absent versions from a module on: those of the module there, and then the others
pub absent-from : (overrides : RootOverrides) (nodes : List GraphNode) (names : List (List ℕ))
    (i : ℕ)
    → first_absent overrides nodes (drop i names)
    ≡ first_of (missing_at overrides nodes (slice_get names i))
    (first_absent overrides nodes (drop (i + 1) names))
absent-from overrides nodes names i =
    let same : suc i ≡ i + 1 = omega arith in
    absent-suc overrides nodes names i
    ∙ ap (λ n. first_of (missing_at overrides nodes (slice_get names i))
    (first_absent overrides nodes (drop n names))) same

pub first-some : (found : Option Refusal) (refusal : Refusal) (later : Option Refusal)
    → found ≡ Some refusal
    → first_of found later ≡ Some refusal
first-some found refusal later e = ap (λ one. first_of one later) e

pub first-none : (found later : Option Refusal) → found ≡ None → first_of found later ≡ later
first-none found later e = ap (λ one. first_of one later) e

-- what the parts come to is what is selected
pub selected-by : (overrides : RootOverrides) (graph : Graph) (nodes : List GraphNode)
    (some : List (List ℕ)) (keys : List ℕ)
    → nodes ≡ graph.nodes
    → first_absent overrides nodes (names_of overrides) ≡ None
    → some ≡ links overrides nodes
    → reached some ≡ keys
    → selected_among overrides nodes some keys ≡ selected_of graph overrides
selected-by overrides graph nodes some keys same none all walked =
    (λ i. selected_among overrides nodes (all i) ((sym walked ∙ ap reached all) i))
    ∙ ap (λ found. unless found (selected_among overrides nodes (links overrides nodes)
    (reached (links overrides nodes)))) (sym none)
    ∙ ap (λ all_nodes. unless (first_absent overrides all_nodes (names_of overrides))
    (selected_among overrides all_nodes (links overrides all_nodes)
    (reached (links overrides all_nodes)))) same
