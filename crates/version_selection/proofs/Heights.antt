-- The least of the nodes that fit, as the list of nodes grows.
use Rattle.std.proofs.Common.{◌≡◌, ℕ, Bool, true, false, ◌&&◌, not, List, [], ◌∷◌, ◌++◌, length, Some}
use Rattle.std.proofs.Common.{if◌then◌else◌, refl, ap, sym, ◌∙◌, ◌+◌, ◌<◌, Option, get_or, take}
use Rattle.std.proofs.lemmas.List.{take_more}
use Rattle.bz_base.specs.declared.module_graph.GraphNode.{GraphNode}
use Rattle.selection.proofs.ChoiceTables.{versions_have_heights}
use Rattle.selection.proofs.Choices.{Heights, index-grown}
use Rattle.selection.specs.Selection.{is_superior}
use Rattle.version_selection.specs.Choices.{is_fit, is_inferior, target}
use Rattle.version_selection.specs.Tables.{stays}

lowered : (x y z : GraphNode)
    → is_inferior y x ≡ false
    → is_inferior z x ≡ true
    → is_inferior z y ≡ true
lowered x y z low high = by (is_superior y z) refl
  where
    by : (b : Bool) → is_superior y z ≡ b → is_superior y z ≡ true
    by true b = b
    by false b = absurd
        (cc (sym low ∙ versions_have_heights.lifted z y x b high))

pub versions_have_depths : Heights GraphNode is_inferior
versions_have_depths = record {
  irreflexive = λ x. versions_have_heights.irreflexive x;
  asymmetric = λ x y h. versions_have_heights.asymmetric y x h;
  lifted = lowered;
}

pub target-grown : (versions : List (List ℕ)) (node : GraphNode) (nodes : List GraphNode)
    (last : GraphNode)
    → target versions node (nodes ++ last ∷ [])
    ≡ (if is_fit versions node last && not (stays is_inferior nodes last (target versions node
    nodes)) then Some (length nodes) else target versions node nodes)
target-grown versions node nodes last =
    index-grown (is_fit versions node) is_inferior versions_have_depths nodes last

-- the least with the next node
pub target-next : (versions : List (List ℕ)) (node : GraphNode) (nodes : List GraphNode) (i : ℕ)
    (other : GraphNode) (least : Option ℕ)
    → i < length nodes
    → other ≡ get_or nodes i other
    → least ≡ target versions node (take i nodes)
    → (if is_fit versions node other && not (stays is_inferior (take i nodes) other least)
    then Some (length (take i nodes)) else least) ≡ target versions node (take (i + 1) nodes)
target-next versions node nodes i other least within is so_far =
    ap (λ before. if is_fit versions node other && not (stays is_inferior (take i nodes) other
    before) then Some (length (take i nodes)) else before) so_far
    ∙ sym (target-grown versions node (take i nodes) other)
    ∙ ap (λ last. target versions node (take i nodes ++ last ∷ [])) is
    ∙ ap (target versions node) (sym (take_more nodes i other within))
