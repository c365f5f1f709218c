-- The walk over selected modules: its indexes differ and are indexes of nodes, so that it ends.
use Rattle.std.proofs.Common.{◌≡◌, ℕ, zero, suc, ◌+◌, ◌-◌, ◌<◌, ◌≤◌, Bool, true, false, ◌||◌, List}
use Rattle.std.proofs.Common.{[], ◌∷◌, ◌++◌, length, map, take, drop, get_or, None, Some, Option}
use Rattle.std.proofs.Common.{Ok, Result, if◌then◌else◌, refl, ap, sym, ◌∙◌, subst, arith}
use Rattle.std.specs.Prelude.{nat_eq, filter_map}
use Rattle.std.proofs.Math.ListN.{drop_of_length-le}
use Rattle.std.proofs.Math.Seq.{drop-cons}
use Rattle.std.proofs.lemmas.Bool.{eqb-true}
use Rattle.std.proofs.lemmas.List.{length-take-le, take-append-le, take_all, take_more}
use Rattle.std.proofs.lemmas.List.Folds.{list_any-append}
use Rattle.std.proofs.lemmas.Map.Keys.{IsDistinct-push}
use Rattle.std.proofs.lemmas.Map.Steps.{length-le_from_distinct_below}
use Rattle.std.proofs.lemmas.Option.{get_or_from_slice_get, slice_get_within}
use Rattle.std.specs.Cmp.{nat_eq_equiv}
use Rattle.std.specs.List.{AllByRecursion, IsDistinct, cons_option, list_any, slice_get}
use Rattle.std.specs.Option.{option_map_or}
use Rattle.indexmap.specs.IndexSet.{insert_all, insert_key}
use Rattle.bz_base.specs.declared.module_graph.GraphNode.{GraphNode}
use Rattle.bz_base.specs.declared.module_key.Key.{Key}
use Rattle.bz_base.specs.declared.refusals.Refusal.{Refusal}
use Rattle.selection.proofs.FirstIndexes.{position_from-below}
use Rattle.bz_walks.proofs.WalkSteps.{Grows, Keeps, levels-walk_on, walk_on, walk_on-ended}
use Rattle.bz_walks.proofs.WalkSteps.{walk_on-step, with_requests-grows}
use Rattle.selection.specs.Selection.{choice, chosen_at, chosen_needs, chosen_of, first_alone}
use Rattle.selection.specs.Selection.{is_choice, indexes_walked, selected_of_nodes, selected_walked}
use Rattle.selection.specs.Selection.{selection, selection_rules}
use Rattle.bz_walks.specs.Walks.{Walked, levels, within_limit, walked_with, with_request}
use Rattle.bz_walks.specs.Walks.{with_requests}
use Rattle.bz_walks.specs.Walks.{with_node}

-- different indexes below a number
pub record AreIndexes (most : ℕ) (known : List ℕ) : Type 0 where
  pub distinct : IsDistinct nat_eq known
  pub below : (q : ℕ) → list_any (nat_eq q) known ≡ true → q < most

pub AreIndexes-length : (most : ℕ) (known : List ℕ) → AreIndexes most known → length known ≤ most
AreIndexes-length most known indexes = length-le_from_distinct_below known most indexes.distinct
    indexes.below

AreIndexes-put : (most : ℕ) (known : List ℕ) (request : ℕ)
    → AreIndexes most known
    → request < most
    → AreIndexes most (insert_key nat_eq known request)
AreIndexes-put most known request indexes within = by (list_any (nat_eq request) known) refl
  where
    below : (q : ℕ) (b : Bool)
        → nat_eq q request ≡ b
        → (a : Bool)
        → list_any (nat_eq q) known ≡ a
        → (a || (b || false)) ≡ true
        → q < most
    below q true b a is_a h = let same : q ≡ request = eqb-true q request b in omega arith
    below q false b true is_a h = indexes.below q is_a
    below q false b false is_a h = absurd (cc)

    by : (there : Bool)
        → list_any (nat_eq request) known ≡ there
        → AreIndexes most (if there then known else known ++ request ∷ [])
    by true e = indexes
    by false e = record {
      distinct = IsDistinct-push nat_eq_equiv known request indexes.distinct e;
      below = λ q h. below q (nat_eq q request) refl (list_any (nat_eq q) known) refl
          (sym (list_any-append (nat_eq q) known (request ∷ [])) ∙ h);
    }

AreIndexes-put_all : (most : ℕ) (requests known : List ℕ)
    → AllByRecursion (λ request. request < most) requests
    → AreIndexes most known
    → AreIndexes most (insert_all nat_eq known requests)
AreIndexes-put_all most [] known within indexes = indexes
AreIndexes-put_all most (request ∷ requests) known within indexes =
    AreIndexes-put_all most requests (insert_key nat_eq known request) within.1
    (AreIndexes-put most known request indexes within.0)

-- choices are indexes of nodes
chosen_needs-below : (nodes : List GraphNode) (needs : List Key)
    → AllByRecursion (λ index. index < length nodes)
    (filter_map (λ need. choice need.name nodes) needs)
chosen_needs-below nodes [] = tt
chosen_needs-below nodes (need ∷ needs) = by (choice need.name nodes) refl
    (chosen_needs-below nodes needs)
  where
    by : (chosen : Option ℕ)
        → choice need.name nodes ≡ chosen
        → AllByRecursion (λ index. index < length nodes)
        (filter_map (λ need. choice need.name nodes) needs)
        → AllByRecursion (λ index. index < length nodes)
        (cons_option chosen (filter_map (λ need. choice need.name nodes) needs))
    by None e rest = rest
    by (Some index) e rest =
        let below : index < 0 + length nodes = position_from-below
        (is_choice need.name nodes) 0 nodes index e in
        (omega arith, rest)

chosen_at-below : (nodes : List GraphNode) (index : ℕ)
    → AllByRecursion (λ index. index < length nodes) (chosen_at nodes index)
chosen_at-below nodes index = by (slice_get nodes index)
  where
    by : (found : Option GraphNode)
        → AllByRecursion (λ index. index < length nodes)
        (option_map_or (chosen_needs nodes) found [])
    by None = tt
    by (Some node) = chosen_needs-below nodes node.needs

-- a request is put as into a set
with_request-put : (known : List ℕ) (request : ℕ)
    → with_request selection_rules known request ≡ Ok (insert_key nat_eq known request)
with_request-put known request = by (list_any (nat_eq request) known)
  where
    by : (there : Bool)
        → (if there then Ok known else within_limit {E = Refusal} known request None)
        ≡ Ok (if there then known else known ++ request ∷ [])
    by true = refl
    by false = refl

with_requests-put : (known requests : List ℕ)
    → with_requests selection_rules (Ok known) requests ≡ Ok (insert_all nat_eq known requests)
with_requests-put known [] = refl
with_requests-put known (request ∷ requests) =
    ap (λ r. with_requests selection_rules r requests) (with_request-put known request)
    ∙ with_requests-put (insert_key nat_eq known request) requests

pub selection-kept : (nodes : List GraphNode) → Keeps (selection nodes) (AreIndexes (length nodes))
selection-kept nodes known more request node indexes read asked =
    let same : insert_all nat_eq known (chosen_at nodes node)
    ≡ more = cc (with_requests-put known (chosen_at nodes node)) in
    subst (AreIndexes (length nodes)) same
    (AreIndexes-put_all (length nodes) (chosen_at nodes node) known
    (chosen_at-below nodes node) indexes)

-- the next node of the walk
with_node-put : (nodes : List GraphNode) (known walked : List ℕ) (index : ℕ)
    → with_node (selection nodes) (record { known = known; nodes = walked }) (Ok index)
    ≡ Ok (record {
      known = insert_all nat_eq known (chosen_at nodes index);
      nodes = walked ++
          index ∷ [];
    })
with_node-put nodes known walked index = ap (walked_with walked index)
    (with_requests-put known (chosen_at nodes index))

pub AreIndexes-next : (nodes : List GraphNode) (known : List ℕ) (index : ℕ)
    → AreIndexes (length nodes) known
    → AreIndexes (length nodes) (insert_all nat_eq known (chosen_at nodes index))
AreIndexes-next nodes known index indexes = AreIndexes-put_all (length nodes)
    (chosen_at nodes index) known (chosen_at-below nodes index) indexes

pub AreIndexes-within : (most : ℕ) (known : List ℕ) (next index : ℕ)
    → AreIndexes most known
    → slice_get known next ≡ Some index
    → next < most
AreIndexes-within most known next index indexes there = omega
    (arith, slice_get_within known next index there, AreIndexes-length most known indexes)

past : (known : List ℕ) (next : ℕ) → slice_get known next ≡ None → length known ≤ next
past [] next none = omega arith
past (index ∷ known) zero none = absurd (cc)
past (index ∷ known) (suc next) none = omega (arith, past known next none)

-- where the walk ends, from the indexes that are known and the first of them, which are read
abbrev pub reached : List GraphNode → List ℕ → ℕ → Result (Walked ℕ ℕ) Refusal
reached nodes known next = walk_on (selection nodes) (length nodes - next)
    (Ok (record { known = known; nodes = take next known }))

pub AreIndexes-first : (most : ℕ) → 0 < most → AreIndexes most (0 ∷ [])
unfolding IsDistinct
AreIndexes-first most some = record { distinct = (tt, tt); below = below }
  where
    below : (q : ℕ) → (nat_eq q 0 || false) ≡ true → q < most
    below q h = by (nat_eq q 0) refl h
      where
        by : (b : Bool) → nat_eq q 0 ≡ b → (b || false) ≡ true → q < most
        by true e h = let same : q ≡ 0 = eqb-true q 0 e in omega arith
        by false e h = absurd (cc)

pub reached-first : (nodes : List GraphNode)
    → 0 < length nodes
    → reached nodes (0 ∷ []) 0 ≡ indexes_walked nodes
unfolding indexes_walked
reached-first nodes some =
    let known : List ℕ = insert_all nat_eq (0 ∷ []) (chosen_at nodes 0) in
    let after : Walked ℕ ℕ = record { known = known; nodes = 0 ∷ [] } in
    let indexes : AreIndexes (length nodes) known = AreIndexes-put_all (length nodes)
    (chosen_at nodes 0)
    (0 ∷ []) (chosen_at-below nodes 0) (AreIndexes-first (length nodes) some) in
    let grown : Grows (0 ∷ []) known = with_requests-grows selection_rules (chosen_at nodes 0)
    (0 ∷ []) known (with_requests-put (0 ∷ []) (chosen_at nodes 0)) in
    let long : length known ≡ suc (length grown.extra) = ap length grown.behind in
    let first : with_node (selection nodes) first_alone (Ok 0)
    ≡ Ok after = with_node-put nodes (0 ∷ []) [] 0 in
    let turns : length nodes - 0 ≡ suc (length nodes - 1) = omega arith in
    ap (λ n. walk_on (selection nodes) n (Ok first_alone)) turns
    ∙ walk_on-step (selection nodes) (length nodes - 1) first_alone 0 [] refl
    ∙ ap (walk_on (selection nodes) (length nodes - 1)) first
    ∙ sym (ap (levels (selection nodes) (length nodes)) first
    ∙ levels-walk_on (selection nodes) (AreIndexes (length nodes)) (length nodes)
    (AreIndexes-length (length nodes)) (selection-kept nodes) after indexes (omega arith)
    (length nodes) (length nodes - 1) (omega arith) (omega arith))

pub reached-next : (nodes : List GraphNode) (known : List ℕ) (next index : ℕ)
    → slice_get known next ≡ Some index
    → next < length nodes
    → reached nodes known next
    ≡ reached nodes (insert_all nat_eq known (chosen_at nodes index)) (next + 1)
reached-next nodes known next index there within =
    let more : List ℕ = insert_all nat_eq known (chosen_at nodes index) in
    let among : next < length known = slice_get_within known next index there in
    let at : get_or known next index ≡ index = get_or_from_slice_get known next index index there in
    let read : length (take next known) ≡ next = length-take-le next known (omega arith) in
    let left : drop (length (take next known)) known
    ≡ index ∷ drop (suc next) known = ap (λ n. drop n known) read
    ∙ drop-cons known next index among ∙ ap (λ p. p ∷ drop (suc next) known) at in
    let grown : Grows known more = with_requests-grows selection_rules
    (chosen_at nodes index) known more (with_requests-put known (chosen_at nodes index)) in
    let walked : take next known ++ index ∷ []
    ≡ take (next + 1) more = ap (λ p. take next known ++ p ∷ []) (sym at)
    ∙ sym (take_more known next index among)
    ∙ sym (ap (take (next + 1)) grown.behind ∙ take-append-le (next + 1) known grown.extra
    (omega arith)) in
    let turns : length nodes - next ≡ suc (length nodes - (next + 1)) = omega arith in
    ap (λ n. walk_on (selection nodes) n
    (Ok (record { known = known; nodes = take next known }))) turns
    ∙ walk_on-step (selection nodes) (length nodes - (next + 1))
    (record { known = known; nodes = take next known }) index (drop (suc next) known) left
    ∙ ap (walk_on (selection nodes) (length nodes - (next + 1)))
    (with_node-put nodes known (take next known) index
    ∙ ap (λ read. Ok (record { known = more; nodes = read })) walked)

pub reached-end : (nodes : List GraphNode) (known : List ℕ) (next : ℕ)
    → slice_get known next ≡ None
    → reached nodes known next ≡ Ok (record { known = known; nodes = known })
reached-end nodes known next none =
    let ended : length known ≤ next = past known next none in
    ap (λ read. walk_on (selection nodes) (length nodes - next)
    (Ok (record { known = known; nodes = read }))) (take_all next known ended)
    ∙ walk_on-ended (selection nodes) (length nodes - next)
    (record { known = known; nodes = known }) (drop_of_length-le known (omega arith))

-- what is selected of the indexes that the walk reaches
pub selected_of_nodes-walked : (nodes : List GraphNode) (indexes : List ℕ)
    → 0 < length nodes
    → indexes_walked nodes ≡ Ok (record { known = indexes; nodes = indexes })
    → selected_of_nodes nodes ≡ Ok (record { modules = map (chosen_of nodes indexes) indexes })
selected_of_nodes-walked [] indexes some walked = absurd (omega arith)
selected_of_nodes-walked (node ∷ nodes) indexes some walked = ap
    (selected_walked (node ∷ nodes)) walked
