-- What is reached is the first index and all links of what is reached, and no more than those.
use Rattle.std.proofs.Common.{◌≡◌, ℕ, suc, ◌<◌, List, [], ◌∷◌, length, Ok, true, refl, ap, sym}
use Rattle.std.proofs.Common.{◌∙◌, subst, arith, Bool}
use Rattle.std.specs.Prelude.{nat_eq}
use Rattle.std.proofs.lemmas.List.Elements.{All-contains_itself, All-from_recursion, All-weaker}
use Rattle.std.proofs.lemmas.List.Elements.{recursion_from_All, same_from_all_zip}
use Rattle.std.proofs.lemmas.Map.Views.{list_any-from_Contains}
use Rattle.std.specs.Cmp.{nat_eq_equiv}
use Rattle.std.specs.List.{All, AllByRecursion, AllZip, Contains, list_any}
use Rattle.bz_walks.proofs.EachItem.{AllByRecursion-weaker}
use Rattle.bz_walks.proofs.WalkLaws.{IsEnded, IsOpen, IsReadBy, IsWalked-first, IsWhole, PassesOn}
use Rattle.bz_walks.proofs.WalkLaws.{Stands, walk_on-ends, walk_on-open, walked_to}
use Rattle.bz_walks.proofs.WalkLaws.{with_requests-open}
use Rattle.bz_walks.proofs.WalkSteps.{Grows, levels-walk_on, walk_on, with_requests-grows}
use Rattle.bz_walks.specs.Walks.{Walked, levels, walked_with, with_requests}
use Rattle.index_walks.proofs.Reachings.{AreIndexes, AreIndexes-first, AreIndexes-length}
use Rattle.index_walks.proofs.Reachings.{over_links-kept, reached-walked}
use Rattle.index_walks.specs.Reaching.{index_rules, indexes_walked, links_at, over_links, reached}
use Rattle.index_walks.specs.ReachingLaws.{IsReached}

over_links-open : (links : List (List ℕ)) → IsOpen (over_links links)
over_links-open links = record { reads = λ index. (index, refl); within = λ known index. refl }

-- the walk over the links ends
record AreIndexesWalk (links : List (List ℕ)) : Type 0 where
  pub final : Walked ℕ ℕ
  pub answer : indexes_walked links ≡ Ok final
  pub ended : IsEnded (over_links links) (AreIndexes (length links)) 0 0 final

indexes_walked-ends : (links : List (List ℕ)) → 0 < length links → AreIndexesWalk links
unfolding indexes_walked
indexes_walked-ends links some =
    let first : (known : List ℕ)
    × (with_requests index_rules (Ok (0 ∷ [])) (links_at links 0)
    ≡ Ok known) = with_requests-open
    (over_links links) (over_links-open links) (links_at links 0) (0 ∷ []) in
    let holds : AreIndexes (length links) first.0 = over_links-kept links (0 ∷ []) first.0 0 0
    (AreIndexes-first (length links) some) refl first.1 in
    let grown : Grows (0 ∷ []) first.0 = with_requests-grows index_rules (links_at links 0)
    (0 ∷ []) first.0 first.1 in
    let long : length first.0 ≡ suc (length grown.extra) = ap length grown.behind in
    let further : (final : Walked ℕ ℕ)
    × (walk_on (over_links links) (length links) (Ok (walked_to 0 first.0 []))
    ≡ Ok final) = walk_on-open (over_links links) (over_links-open links) (length links)
    (walked_to 0 first.0 []) in
    record {
      final = further.0;
      answer =
          ap (λ r. levels (over_links links) (length links) (walked_with [] 0 r)) first.1
          ∙ levels-walk_on (over_links links) (AreIndexes (length links)) (length links)
          (AreIndexes-length (length links)) (over_links-kept links) (walked_to 0 first.0 []) holds
          (omega (arith, long)) (length links) (length links) (omega arith) (omega arith)
          ∙ further.1;
      ended = walk_on-ends (over_links links) nat_eq_equiv (AreIndexes (length links))
          (length links) (AreIndexes-length (length links)) (over_links-kept links) 0 0 further.0
          (length links) first.0 [] (omega arith) holds
          (IsWalked-first (over_links links) nat_eq_equiv 0 0 first.0 first.1) further.1;
    }

-- a test that holds on links passes from index to index
passes_each : (holds : ℕ → Bool) (links : List (List ℕ)) (some : List ℕ)
    → AllByRecursion
    (λ index. holds index ≡ true → All (λ link. holds link ≡ true) (links_at links index)) some
    → AllZip (PassesOn (over_links links) holds) some some
passes_each holds links [] closed = tt
passes_each holds links (index ∷ some) closed = (
  λ h. recursion_from_All (λ other. holds other ≡ true) (links_at links index) (closed.0 h),
  passes_each holds links some closed.1,
)

of_whole : (links : List (List ℕ)) (front : List ℕ)
    → IsWhole (over_links links) (AreIndexes (length links)) 0 0 front front
    → IsReached links (0 ∷ front)
of_whole links front whole =
    record {
      behind = front;
      first = refl;
      differ = whole.distinct;
      there = All-weaker (Contains (0 ∷ front)) (λ index. index < length links)
          (λ index there. whole.bounded.below index
          (list_any-from_Contains nat_eq_equiv index (0 ∷ front) there)) (0 ∷ front)
          (All-contains_itself (0 ∷ front));
      closed = All-from_recursion
          (λ index. All (λ link. list_any (nat_eq link) (0 ∷ front) ≡ true) (links_at links index))
          (0 ∷ front)
          (AllByRecursion-weaker
          (λ index. AllByRecursion (Stands index_rules (0 ∷ front)) (links_at links index))
          (λ index. All (λ link. list_any (nat_eq link) (0 ∷ front) ≡ true) (links_at links index))
          (λ index all. All-from_recursion (λ link. list_any (nat_eq link) (0 ∷ front) ≡ true)
          (links_at links index) all) (0 ∷ front) whole.stand);
      least = λ holds begins closed. All-from_recursion (λ index. holds index ≡ true) (0 ∷ front)
          (whole.least holds begins
          (passes_each holds links (0 ∷ front)
          (recursion_from_All
          (λ index. holds index ≡ true → All (λ link. holds link ≡ true) (links_at links index))
          (0 ∷ front) closed)));
    }

pub reached-least : (links : List (List ℕ)) → 0 < length links → IsReached links (reached links)
reached-least links some =
    let walk : AreIndexesWalk links = indexes_walked-ends links some in
    let front : List ℕ = walk.ended.front in
    let same : walk.ended.further
    ≡ front = same_from_all_zip
    (IsReadBy (over_links links)) front walk.ended.further walk.ended.whole.read
    (λ request node read. cc read) in
    let whole : IsWhole (over_links links) (AreIndexes (length links)) 0 0 front front = subst
    (IsWhole (over_links links) (AreIndexes (length links)) 0 0 front) same walk.ended.whole in
    let nodes_are : walk.final.nodes ≡ 0 ∷ front = walk.ended.nodes_are ∙ ap (λ l. 0 ∷ l) same in
    let final : walk.final
    ≡ record { known = 0 ∷ front; nodes = 0 ∷ front } = λ i. record
    { known = walk.ended.known_are i; nodes = nodes_are i } in
    subst (IsReached links) (sym (reached-walked links (0 ∷ front) some (walk.answer ∙ ap Ok final)))
    (of_whole links front whole)
