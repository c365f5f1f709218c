-- The choice of a group is its highest member, and only a group of none has no choice.
use Rattle.std.proofs.Common.{◌≡◌, ◌≢◌, ℕ, true, ◌&&◌, not, List, [], None, Some, refl, ap, sym}
use Rattle.std.proofs.Common.{◌∙◌, arith}
use Rattle.std.proofs.lemmas.Bool.{and_parts}
use Rattle.std.proofs.lemmas.List.Elements.{All-weaker}
use Rattle.std.proofs.lemmas.List.Sums.{AllPass-from_list_all}
use Rattle.std.proofs.lemmas.Slice.Eq.{bytes_eq-Decides}
use Rattle.std.specs.List.{slice_get}
use Rattle.std.specs.declared.cmp.Ordering.TheVariants.{Greater}
use Rattle.bz_base.specs.declared.module_graph.GraphNode.{GraphNode}
use Rattle.bz_version.specs.Precedence.{precedence}
use Rattle.selection.proofs.ChoiceTables.{versions_have_heights}
use Rattle.selection.proofs.Choices.{HasChoice-more}
use Rattle.selection.proofs.FirstIndexes.{FoundAt, position_from-item}
use Rattle.selection.specs.SelectionLaws.{HasNone, IsHighest}
use Rattle.selection.specs.Selection.{choice, is_choice, is_greater, is_member, is_superior}
use Rattle.selection.specs.Selection.{is_unsurpassed}

pub is_member-named : (name : List ℕ) (node : GraphNode)
    → name ≡ node.key.name
    → is_member name node ≡ true
is_member-named name node e = (bytes_eq-Decides name node.key.name).1 e

not_above : (name : List ℕ) (node other : GraphNode)
    → not (is_member name other && is_superior other node) ≡ true
    → other.key.name ≡ name
    → precedence other.key.version node.key.version ≢ Greater
not_above name node other h named above = absurd
    (cc (sym h ∙ (λ i. not (is_member-named name other (sym named) i && is_greater (above i)))))

pub choice-highest : (name : List ℕ) (nodes : List GraphNode) (index : ℕ)
    → choice name nodes ≡ Some index
    → IsHighest name nodes index
choice-highest name nodes index e =
    let found : FoundAt (is_choice name nodes) 0 nodes index = position_from-item
    (is_choice name nodes) 0 nodes index e in
    let same : index ≡ found.offset = omega (arith, found.at) in
    let parts : (is_member name found.item ≡ true)
    × (is_unsurpassed name nodes found.item ≡ true) = and_parts (is_member name found.item)
    (is_unsurpassed name nodes found.item) found.passes in
    record {
      node = found.item;
      there = ap (slice_get nodes) same ∙ found.there;
      named = sym ((bytes_eq-Decides name found.item.key.name).0 parts.0);
      highest = All-weaker _ _ (not_above name found.item) nodes
          (AllPass-from_list_all _ nodes parts.1);
    }

not_named : (name : List ℕ) (node : GraphNode)
    → not (is_member name node) ≡ true
    → node.key.name ≢ name
not_named name node h e = absurd (cc (sym h ∙ ap not (is_member-named name node (sym e))))

pub choice-none : (name : List ℕ) (nodes : List GraphNode)
    → choice name nodes ≡ None
    → HasNone name nodes
choice-none name nodes e =
    All-weaker _ _ (not_named name) nodes
    (AllPass-from_list_all _ nodes
    (HasChoice-more (is_member name) is_superior versions_have_heights [] nodes
    (λ none. refl) e))
