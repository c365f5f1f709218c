-- Of a graph the choices of all needs from the root on are selected, and no more than those.
use Rattle.std.proofs.Common.{◌≡◌, ◌≢◌, ℕ, suc, ◌+◌, ◌≤◌, ◌<◌, List, [], ◌∷◌, length, map, get_or}
use Rattle.std.proofs.Common.{◌⊎◌, inl, inr, Option, None, Some, Ok, Bool, true, false, ◌||◌}
use Rattle.std.proofs.Common.{if◌then◌else◌, refl, ap, sym, ◌∙◌, subst, arith}
use Rattle.std.specs.Prelude.{nat_eq, filter_map, IsSomeAnd}
use Rattle.std.proofs.lemmas.Bool.{eqb-true}
use Rattle.std.proofs.lemmas.List.Elements.{All-contains_itself, All-from_recursion, All-map}
use Rattle.std.proofs.lemmas.List.Elements.{All-weaker, recursion_from_All, same_from_all_zip}
use Rattle.std.proofs.lemmas.List.Kept.{AllPairs-cons}
use Rattle.std.proofs.lemmas.Map.Views.{list_any-from_Contains}
use Rattle.std.proofs.lemmas.Option.{slice_get-map, slice_get_cases, slice_get_within}
use Rattle.std.proofs.lemmas.Slice.Zip.{AllZip-long}
use Rattle.std.specs.Cmp.{nat_eq_equiv}
use Rattle.std.specs.List.{All, AllByRecursion, AllPairs, AllZip, Any, Contains, IsDistinct}
use Rattle.std.specs.List.{cons_option, list_any, position_from, slice_get}
use Rattle.std.specs.Option.{option_map, option_map_or}
use Rattle.bz_base.specs.Graphs.{HasItsNeeds, IsChosenOf, IsGraph}
use Rattle.bz_base.specs.declared.module_graph.Chosen.{Chosen}
use Rattle.bz_base.specs.declared.module_graph.Graph.{Graph}
use Rattle.bz_base.specs.declared.module_graph.GraphNode.{GraphNode}
use Rattle.bz_base.specs.declared.module_graph.Selected.{Selected}
use Rattle.bz_base.specs.declared.module_key.Key.{Key}
use Rattle.selection.proofs.ChoiceLaws.{choice-none}
use Rattle.bz_walks.proofs.EachItem.{AllByRecursion-both, AllByRecursion-left}
use Rattle.bz_walks.proofs.EachItem.{AllByRecursion-weaker}
use Rattle.selection.proofs.FirstIndexes.{FoundAt, position_from-item}
use Rattle.selection.proofs.SelectionWalks.{AreIndexes, AreIndexes-first, AreIndexes-length}
use Rattle.selection.proofs.SelectionWalks.{selected_of_nodes-walked, selection-kept}
use Rattle.bz_walks.proofs.WalkLaws.{IsEnded, IsOpen, IsReadBy, IsWalked-first, IsWhole, PassesOn}
use Rattle.bz_walks.proofs.WalkLaws.{Stands, walk_on-ends, walk_on-open, walked_to}
use Rattle.bz_walks.proofs.WalkLaws.{with_requests-open}
use Rattle.bz_walks.proofs.WalkSteps.{Grows, levels-walk_on, walk_on, with_requests-grows}
use Rattle.selection.specs.SelectionLaws.{HasChosenDeps, HasNone, HoldsOnChoices, IsSelection}
use Rattle.selection.specs.SelectionLaws.{NamesChoice}
use Rattle.selection.specs.Selection.{choice, chosen_at, chosen_needs, chosen_of, indexes_in}
use Rattle.selection.specs.Selection.{indexes_walked, selected_of, selected_of_nodes, selection}
use Rattle.selection.specs.Selection.{selection_rules}
use Rattle.bz_walks.specs.Walks.{Walked, levels, walked_with, with_requests}

-- a need that is the key of a node has a choice
need_chosen : (nodes : List GraphNode) (need : Key)
    → Any (λ needed. needed.key ≡ need) nodes
    → choice need.name nodes ≢ None
need_chosen nodes need found none =
    let absent : HasNone need.name nodes = choice-none need.name nodes none in
    absent found.0 found.1 found.2
    (ap (λ node. node.key.name) found.3 ∙ ap (λ key. key.name) found.4)

-- what stands in a list has an index there
placed : (index i : ℕ) (indexes : List ℕ)
    → list_any (nat_eq index) indexes ≡ true
    → (at : ℕ) × (position_from (nat_eq index) i indexes ≡ Some at)
placed index i [] stands = absurd (cc stands)
placed index i (other ∷ indexes) stands = by (nat_eq index other)
    (placed index (i + 1) indexes) stands
  where
    by : (b : Bool)
        → (list_any (nat_eq index) indexes ≡ true
        → (at : ℕ) × (position_from (nat_eq index) (i + 1) indexes ≡ Some at))
        → (b || list_any (nat_eq index) indexes) ≡ true
        → (at : ℕ) × ((if b then Some i else position_from (nat_eq index) (i + 1) indexes) ≡ Some
        at)
    by true further h = (i, refl)
    by false further h = further h

module _ (nodes : List GraphNode) (indexes : List ℕ) where
  abbrev modules : List Chosen
  modules = map (chosen_of nodes indexes) indexes

  abbrev choices : List Key → List ℕ
  choices needs = filter_map (λ need. choice need.name nodes) needs

  -- at the index of an index stands its module
  module_named : (need : Key) (index at : ℕ)
      → choice need.name nodes ≡ Some index
      → position_from (nat_eq index) 0 indexes ≡ Some at
      → NamesChoice nodes modules at need
  module_named need index at chosen there =
      let found : FoundAt (nat_eq index) 0 indexes at = position_from-item
      (nat_eq index) 0 indexes at there in
      let same : index ≡ found.item = eqb-true index found.item found.passes in
      let behind : at ≡ found.offset = omega (arith, found.at) in
      let stands : slice_get modules at
      ≡ Some (chosen_of nodes indexes found.item) = slice_get-map
      (chosen_of nodes indexes) indexes at
      ∙ ap (option_map (chosen_of nodes indexes)) (ap (slice_get indexes) behind ∙ found.there) in
      subst (λ module_there. IsSomeAnd module_there (λ needed. choice need.name nodes ≡ Some
      needed.node)) (sym stands) (chosen ∙ ap Some same)

  deps_named : (needs : List Key)
      → AllByRecursion (λ need. Any (λ needed. needed.key ≡ need) nodes) needs
      → AllByRecursion (Stands selection_rules indexes) (choices needs)
      → AllZip (NamesChoice nodes modules) (indexes_in indexes (choices needs)) needs
  deps_named [] found stand = tt
  deps_named (need ∷ needs) found stand = by (choice need.name nodes) refl stand
      (deps_named needs found.1)
    where
      beside : (index : ℕ)
          → choice need.name nodes ≡ Some index
          → (position : Option ℕ)
          → position_from (nat_eq index) 0 indexes ≡ position
          → (at : ℕ) × (position ≡ Some at)
          → AllZip (NamesChoice nodes modules) (indexes_in indexes (choices needs)) needs
          → AllZip (NamesChoice nodes modules)
          (cons_option position (indexes_in indexes (choices needs))) (need ∷ needs)
      beside index chosen None there stands others = absurd (cc stands.1)
      beside index chosen (Some at) there stands others =
          (module_named need index at chosen there, others)

      by : (chosen : Option ℕ)
          → choice need.name nodes ≡ chosen
          → AllByRecursion (Stands selection_rules indexes) (cons_option chosen (choices needs))
          → (AllByRecursion (Stands selection_rules indexes) (choices needs)
          → AllZip (NamesChoice nodes modules) (indexes_in indexes (choices needs)) needs)
          → AllZip (NamesChoice nodes modules)
          (indexes_in indexes (cons_option chosen (choices needs))) (need ∷ needs)
      by None none stand further = absurd (need_chosen nodes need found.0 none)
      by (Some index) chosen stand further = beside index chosen
          (position_from (nat_eq index) 0 indexes) refl (placed index 0 indexes stand.0)
          (further stand.1)

  module_chosen : All (HasItsNeeds nodes) nodes
      → (index : ℕ)
      → index < length nodes
      → AllByRecursion (Stands selection_rules indexes) (chosen_at nodes index)
      → HasChosenDeps nodes modules (chosen_of nodes indexes index)
  module_chosen needs_there index within stand = by (slice_get_cases nodes index).1
    where
      at : (node : GraphNode)
          → slice_get nodes index ≡ Some node
          → get_or nodes index node ≡ node
          → HasChosenDeps nodes modules (chosen_of nodes indexes index)
      at node there value =
          let chosen : chosen_at nodes index
          ≡ chosen_needs nodes node = ap
          (λ found. option_map_or (chosen_needs nodes) found []) there in
          let needs : HasItsNeeds nodes node = subst (HasItsNeeds nodes) value
          (needs_there index node within) in
          record {
            node = node;
            there = there;
            named = subst (λ wanted. AllZip (NamesChoice nodes modules) (indexes_in indexes wanted)
                node.needs) (sym chosen)
                (deps_named node.needs
                (recursion_from_All (λ need. Any (λ needed. needed.key ≡ need) nodes) node.needs
                needs) (subst (AllByRecursion (Stands selection_rules indexes)) chosen stand));
          }

      by : ((x : GraphNode) × (index < length nodes) × (slice_get nodes index ≡ Some x) × (get_or
          nodes index x ≡ x)) ⊎ ((length nodes ≤ index) × (slice_get nodes index ≡ None))
          → HasChosenDeps nodes modules (chosen_of nodes indexes index)
      by (inl (x, inside, found, value)) = at x found value
      by (inr past) = absurd (omega (arith, past.0, within))

  nodes_differ : (some : List ℕ)
      → IsDistinct nat_eq some
      → AllPairs (λ one other. one.node ≢ other.node) (map (chosen_of nodes indexes) some)
  unfolding IsDistinct
  nodes_differ [] distinct = λ i j d before within. absurd (omega (arith, within))
  nodes_differ (index ∷ some) distinct =
      AllPairs-cons (λ one other. one.node ≢ other.node) (chosen_of nodes indexes index)
      (map (chosen_of nodes indexes) some)
      (All-map (λ other. index ≢ other.node) (chosen_of nodes indexes) some
      (All-from_recursion (λ other. index ≢ other) some
      (AllByRecursion-weaker (λ other. nat_eq index other ≡ false) (λ other. index ≢ other)
      (λ other apart e. absurd
      (cc (sym (nat_eq_equiv.refl index) ∙ ap (nat_eq index) e ∙ apart))) some distinct.0)))
      (nodes_differ some distinct.1)

-- each dependency that is named is there
names_within : (nodes : List GraphNode) (modules : List Chosen) (index : ℕ) (need : Key)
    → NamesChoice nodes modules index need
    → index < length modules
names_within nodes modules index need = by (slice_get modules index) refl
  where
    by : (found : Option Chosen)
        → slice_get modules index ≡ found
        → IsSomeAnd found (λ needed. choice need.name nodes ≡ Some needed.node)
        → index < length modules
    by None found named = absurd named
    by (Some needed) found named = slice_get_within modules index needed found

chosen_of_node : (nodes : List GraphNode) (modules : List Chosen) (chosen : Chosen)
    → HasChosenDeps nodes modules chosen
    → IsChosenOf nodes chosen
chosen_of_node nodes modules chosen has =
    subst (λ found. IsSomeAnd found (λ node. length chosen.deps ≡ length node.needs))
    (sym has.there) (sym (AllZip-long (NamesChoice nodes modules) chosen.deps has.node.needs
    has.named))

deps_within : (nodes : List GraphNode) (modules : List Chosen) (chosen : Chosen)
    → HasChosenDeps nodes modules chosen
    → All (λ index. index < length modules) chosen.deps
deps_within nodes modules chosen has =
    All-from_recursion (λ index. index < length modules) chosen.deps
    (AllByRecursion-left (NamesChoice nodes modules) (λ index. index < length modules)
    (names_within nodes modules) chosen.deps has.node.needs has.named)

-- a test that holds on choices passes from index to index
abbrev HoldsOn : (ℕ → Bool) → List GraphNode → Chosen → Type 0
HoldsOn holds nodes chosen = holds chosen.node ≡ true
    → All (λ index. holds index ≡ true) (chosen_at nodes chosen.node)

passes_each : (holds : ℕ → Bool) (nodes : List GraphNode) (indexes some : List ℕ)
    → AllByRecursion (HoldsOn holds nodes) (map (chosen_of nodes indexes) some)
    → AllZip (PassesOn (selection nodes) holds) some some
passes_each holds nodes indexes [] closed = tt
passes_each holds nodes indexes (index ∷ some) closed = (
  λ h. recursion_from_All (λ other. holds other ≡ true) (chosen_at nodes index)
      (closed.0 h),
  passes_each holds nodes indexes some closed.1,
)

module _ (nodes : List GraphNode) (graph_is : IsGraph (record { nodes = nodes })) (front : List ℕ)
    (whole : IsWhole (selection nodes) (AreIndexes (length nodes)) 0 0 front front) where
  abbrev all_indexes : List ℕ
  all_indexes = 0 ∷ front

  within : All (λ index. index < length nodes) all_indexes
  within = All-weaker (Contains all_indexes) (λ index. index < length nodes)
      (λ index there. whole.bounded.below index
      (list_any-from_Contains nat_eq_equiv index all_indexes there)) all_indexes
      (All-contains_itself all_indexes)

  chosen_each : All (HasChosenDeps nodes (modules nodes all_indexes)) (modules nodes all_indexes)
  chosen_each = All-map (HasChosenDeps nodes (modules nodes all_indexes))
      (chosen_of nodes all_indexes) all_indexes
      (All-from_recursion (λ index. HasChosenDeps nodes (modules nodes all_indexes) (chosen_of nodes
      all_indexes index)) all_indexes
      (AllByRecursion-both (λ index. index < length nodes)
      (λ index. AllByRecursion (Stands selection_rules all_indexes) (chosen_at nodes index))
      (λ index. HasChosenDeps nodes (modules nodes all_indexes)
      (chosen_of nodes all_indexes index))
      (module_chosen nodes all_indexes graph_is.needs_there) all_indexes
      (recursion_from_All (λ index. index < length nodes) all_indexes within) whole.stand))

  least : (holds : ℕ → Bool)
      → holds 0 ≡ true
      → HoldsOnChoices holds nodes (modules nodes all_indexes)
      → All (λ chosen. holds chosen.node ≡ true) (modules nodes all_indexes)
  least holds begins closed =
      All-map (λ chosen. holds chosen.node ≡ true) (chosen_of nodes all_indexes) all_indexes
      (All-from_recursion (λ index. holds index ≡ true) all_indexes
      (whole.least holds begins
      (passes_each holds nodes all_indexes all_indexes
      (recursion_from_All (HoldsOn holds nodes) (modules nodes all_indexes) closed))))

  whole-selection : IsSelection (record { nodes = nodes })
      (record { modules = modules nodes all_indexes })
  whole-selection = record {
    selected_is = record {
      root_first = refl;
      nodes_differ = nodes_differ nodes all_indexes all_indexes whole.distinct;
      nodes_there = All-weaker (HasChosenDeps nodes (modules nodes all_indexes)) (IsChosenOf nodes)
          (chosen_of_node nodes (modules nodes all_indexes))
          (modules nodes all_indexes) chosen_each;
      deps_there = All-weaker (HasChosenDeps nodes (modules nodes all_indexes))
          (λ chosen. All (λ index. index < length (modules nodes all_indexes)) chosen.deps)
          (deps_within nodes (modules nodes all_indexes)) (modules nodes all_indexes) chosen_each;
    };
    chosen = chosen_each;
    least = least;
  }

selection-open : (nodes : List GraphNode) → IsOpen (selection nodes)
selection-open nodes = record { reads = λ index. (index, refl); within = λ known index. refl }

-- the walk over the indexes ends
record AreIndexesWalk (nodes : List GraphNode) : Type 0 where
  pub final : Walked ℕ ℕ
  pub answer : indexes_walked nodes ≡ Ok final
  pub ended : IsEnded (selection nodes) (AreIndexes (length nodes)) 0 0 final

indexes_walked-ends : (nodes : List GraphNode) → 0 < length nodes → AreIndexesWalk nodes
unfolding indexes_walked
indexes_walked-ends nodes some =
    let first : (known : List ℕ)
    × (with_requests selection_rules (Ok (0 ∷ [])) (chosen_at nodes 0)
    ≡ Ok known) = with_requests-open
    (selection nodes) (selection-open nodes) (chosen_at nodes 0) (0 ∷ []) in
    let holds : AreIndexes (length nodes) first.0 = selection-kept nodes (0 ∷ []) first.0 0 0
    (AreIndexes-first (length nodes) some) refl first.1 in
    let grown : Grows (0 ∷ []) first.0 = with_requests-grows selection_rules (chosen_at nodes 0)
    (0 ∷ []) first.0 first.1 in
    let long : length first.0 ≡ suc (length grown.extra) = ap length grown.behind in
    let further : (final : Walked ℕ ℕ)
    × (walk_on (selection nodes) (length nodes) (Ok (walked_to 0 first.0 []))
    ≡ Ok final) = walk_on-open (selection nodes) (selection-open nodes) (length nodes)
    (walked_to 0 first.0 []) in
    record {
      final = further.0;
      answer =
          ap (λ r. levels (selection nodes) (length nodes) (walked_with [] 0 r)) first.1
          ∙ levels-walk_on (selection nodes) (AreIndexes (length nodes)) (length nodes)
          (AreIndexes-length (length nodes)) (selection-kept nodes) (walked_to 0 first.0 []) holds
          (omega (arith, long)) (length nodes) (length nodes) (omega arith) (omega arith)
          ∙ further.1;
      ended = walk_on-ends (selection nodes) nat_eq_equiv (AreIndexes (length nodes)) (length nodes)
          (AreIndexes-length (length nodes)) (selection-kept nodes) 0 0 further.0
          (length nodes) first.0 [] (omega arith) holds
          (IsWalked-first (selection nodes) nat_eq_equiv 0 0 first.0 first.1) further.1;
    }

of_nodes : (nodes : List GraphNode)
    → 0 < length nodes
    → IsGraph (record { nodes = nodes })
    → (selected : Selected) × (selected_of_nodes nodes ≡ Ok selected)
    × IsSelection (record { nodes = nodes }) selected
of_nodes nodes some graph_is =
    let walk : AreIndexesWalk nodes = indexes_walked-ends nodes some in
    let front : List ℕ = walk.ended.front in
    let same : walk.ended.further
    ≡ front = same_from_all_zip
    (IsReadBy (selection nodes)) front walk.ended.further walk.ended.whole.read
    (λ request node read. cc read) in
    let whole : IsWhole (selection nodes) (AreIndexes (length nodes)) 0 0 front front = subst
    (IsWhole (selection nodes) (AreIndexes (length nodes)) 0 0 front) same walk.ended.whole in
    let nodes_are : walk.final.nodes ≡ 0 ∷ front = walk.ended.nodes_are ∙ ap (λ l. 0 ∷ l) same in
    let final : walk.final
    ≡ record { known = 0 ∷ front; nodes = 0 ∷ front } = λ i. record
    { known = walk.ended.known_are i; nodes = nodes_are i } in (
      record { modules = modules nodes (0 ∷ front) },
      selected_of_nodes-walked nodes (0 ∷ front) some
          (walk.answer ∙ ap Ok final),
      whole-selection nodes graph_is front whole,
    )

pub selected-least : (graph : Graph)
    → IsGraph graph
    → (selected : Selected) × (selected_of graph ≡ Ok selected) × IsSelection graph selected
selected-least graph graph_is = by graph.nodes graph_is
  where
    by : (nodes : List GraphNode)
        → IsGraph (record { nodes = nodes })
        → (selected : Selected) × (selected_of_nodes nodes ≡ Ok selected)
        × IsSelection (record { nodes = nodes }) selected
    by [] graph_is = absurd graph_is.root_first
    by (node ∷ nodes) graph_is = of_nodes (node ∷ nodes) (omega arith) graph_is
