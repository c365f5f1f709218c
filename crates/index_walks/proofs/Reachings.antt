-- The walk over links: its indexes differ and are below the number of links, so that it ends.
use Rattle.std.proofs.Common.{◌≡◌, ℕ, zero, suc, ◌+◌, ◌-◌, ◌<◌, ◌≤◌, Bool, true, false, ◌||◌, List}
use Rattle.std.proofs.Common.{[], ◌∷◌, ◌++◌, length, take, drop, get_or, None, Some}
use Rattle.std.proofs.Common.{Ok, Result, if◌then◌else◌, refl, ap, sym, ◌∙◌, subst, arith}
use Rattle.std.specs.Prelude.{nat_eq, nat_lt, filter, cond}
use Rattle.std.proofs.Math.ListN.{drop_of_length-le}
use Rattle.std.proofs.Math.Seq.{drop-cons}
use Rattle.std.proofs.lemmas.Bool.{eqb-true, ltb-true}
use Rattle.std.proofs.lemmas.List.{length-take-le, take-append-le, take_all, take_more}
use Rattle.std.proofs.lemmas.List.Folds.{list_any-append}
use Rattle.std.proofs.lemmas.Map.Keys.{IsDistinct-push}
use Rattle.std.proofs.lemmas.Map.Steps.{length-le_from_distinct_below}
use Rattle.std.proofs.lemmas.Option.{get_or_from_slice_get, slice_get_within}
use Rattle.std.specs.Cmp.{nat_eq_equiv}
use Rattle.std.specs.List.{AllByRecursion, IsDistinct, list_any, slice_get}
use Rattle.indexmap.specs.IndexSet.{insert_all, insert_key}
use Rattle.index_walks.specs.Reaching.{first_alone, index_rules, indexes_walked, links_at, over_links}
use Rattle.index_walks.specs.Reaching.{reached, walked_indexes}
use Rattle.bz_walks.proofs.WalkSteps.{Grows, Keeps, levels-walk_on, walk_on, walk_on-ended}
use Rattle.bz_walks.proofs.WalkSteps.{walk_on-step, with_requests-grows}
use Rattle.bz_walks.specs.Walks.{Walked, levels, within_limit, walked_with, with_request}
use Rattle.bz_walks.specs.Walks.{with_requests}
use Rattle.bz_walks.specs.Walks.{with_node}

-- different indexes below a number
pub record AreIndexes (most : ℕ) (known : List ℕ) : Type 0 where
  pub distinct : IsDistinct nat_eq known
  pub below : (q : ℕ) → list_any (nat_eq q) known ≡ true → q < most

pub AreIndexes-length : (most : ℕ) (known : List ℕ) → AreIndexes most known → length known ≤ most
AreIndexes-length most known indexes = length-le_from_distinct_below known most indexes.distinct
    indexes.below

AreIndexes-put : (most : ℕ) (known : List ℕ) (request : ℕ)
    → AreIndexes most known
    → request < most
    → AreIndexes most (insert_key nat_eq known request)
AreIndexes-put most known request indexes within = by (list_any (nat_eq request) known) refl
  where
    below : (q : ℕ) (b : Bool)
        → nat_eq q request ≡ b
        → (a : Bool)
        → list_any (nat_eq q) known ≡ a
        → (a || (b || false)) ≡ true
        → q < most
    below q true b a is_a h = let same : q ≡ request = eqb-true q request b in omega arith
    below q false b true is_a h = indexes.below q is_a
    below q false b false is_a h = absurd (cc)

    by : (there : Bool)
        → list_any (nat_eq request) known ≡ there
        → AreIndexes most (if there then known else known ++ request ∷ [])
    by true e = indexes
    by false e = record {
      distinct = IsDistinct-push nat_eq_equiv known request indexes.distinct e;
      below = λ q h. below q (nat_eq q request) refl (list_any (nat_eq q) known) refl
          (sym (list_any-append (nat_eq q) known (request ∷ [])) ∙ h);
    }

AreIndexes-put_all : (most : ℕ) (requests known : List ℕ)
    → AllByRecursion (λ request. request < most) requests
    → AreIndexes most known
    → AreIndexes most (insert_all nat_eq known requests)
AreIndexes-put_all most [] known within indexes = indexes
AreIndexes-put_all most (request ∷ requests) known within indexes =
    AreIndexes-put_all most requests (insert_key nat_eq known request) within.1
    (AreIndexes-put most known request indexes within.0)

-- links that are kept are below the number of indexes
links_at-below : (most : ℕ) (some : List ℕ)
    → AllByRecursion (λ index. index < most) (filter (λ other. nat_lt other most) some)
links_at-below most [] = tt
links_at-below most (index ∷ some) = by (nat_lt index most) refl (links_at-below most some)
  where
    by : (b : Bool)
        → nat_lt index most ≡ b
        → AllByRecursion (λ other. other < most) (filter (λ other. nat_lt other most) some)
        → AllByRecursion (λ other. other < most)
        (cond b (index ∷ filter (λ other. nat_lt other most) some)
        (filter (λ other. nat_lt other most) some))
    by true e rest = (ltb-true index most e, rest)
    by false e rest = rest

-- one index more, where it is below the count
pub add-next : (count index : ℕ) (known more : List ℕ)
    → insert_all nat_eq (if nat_lt index count then insert_key nat_eq known index else known)
    (filter (λ other. nat_lt other count) more)
    ≡ insert_all nat_eq known (filter (λ other. nat_lt other count) (index ∷ more))
add-next count index known more = by (nat_lt index count)
  where
    by : (b : Bool)
        → insert_all nat_eq (if b then insert_key nat_eq known index else known)
        (filter (λ other. nat_lt other count) more)
        ≡ insert_all nat_eq known (cond b (index ∷ filter (λ other. nat_lt other count) more)
        (filter (λ other. nat_lt other count) more))
    by true = refl
    by false = refl

-- a request is put as into a set
with_request-put : (known : List ℕ) (request : ℕ)
    → with_request index_rules known request ≡ Ok (insert_key nat_eq known request)
with_request-put known request = by (list_any (nat_eq request) known)
  where
    by : (there : Bool)
        → (if there then Ok known else within_limit {E = ⊥} known request None)
        ≡ Ok (if there then known else known ++ request ∷ [])
    by true = refl
    by false = refl

with_requests-put : (known requests : List ℕ)
    → with_requests index_rules (Ok known) requests ≡ Ok (insert_all nat_eq known requests)
with_requests-put known [] = refl
with_requests-put known (request ∷ requests) =
    ap (λ r. with_requests index_rules r requests) (with_request-put known request)
    ∙ with_requests-put (insert_key nat_eq known request) requests

pub over_links-kept : (links : List (List ℕ)) → Keeps (over_links links) (AreIndexes (length links))
over_links-kept links known more request node indexes read asked =
    let same : insert_all nat_eq known (links_at links node)
    ≡ more = cc (with_requests-put known (links_at links node)) in
    subst (AreIndexes (length links)) same
    (AreIndexes-put_all (length links) (links_at links node) known
    (links_at-below (length links) _) indexes)

-- the next node of the walk
with_node-put : (links : List (List ℕ)) (known walked : List ℕ) (index : ℕ)
    → with_node (over_links links) (record { known = known; nodes = walked }) (Ok index)
    ≡ Ok (record {
      known = insert_all nat_eq known (links_at links index);
      nodes = walked ++
          index ∷ [];
    })
with_node-put links known walked index = ap (walked_with walked index)
    (with_requests-put known (links_at links index))

pub AreIndexes-next : (links : List (List ℕ)) (known : List ℕ) (index : ℕ)
    → AreIndexes (length links) known
    → AreIndexes (length links) (insert_all nat_eq known (links_at links index))
AreIndexes-next links known index indexes = AreIndexes-put_all (length links)
    (links_at links index) known (links_at-below (length links) _) indexes

pub AreIndexes-within : (most : ℕ) (known : List ℕ) (next index : ℕ)
    → AreIndexes most known
    → slice_get known next ≡ Some index
    → next < most
AreIndexes-within most known next index indexes there = omega
    (arith, slice_get_within known next index there, AreIndexes-length most known indexes)

past : (known : List ℕ) (next : ℕ) → slice_get known next ≡ None → length known ≤ next
past [] next none = omega arith
past (index ∷ known) zero none = absurd (cc)
past (index ∷ known) (suc next) none = omega (arith, past known next none)

-- where the walk ends, from the indexes that are known and the first of them, which are read
abbrev pub followed : List (List ℕ) → List ℕ → ℕ → Result (Walked ℕ ℕ) ⊥
followed links known next = walk_on (over_links links) (length links - next)
    (Ok (record { known = known; nodes = take next known }))

pub AreIndexes-first : (most : ℕ) → 0 < most → AreIndexes most (0 ∷ [])
unfolding IsDistinct
AreIndexes-first most some = record { distinct = (tt, tt); below = below }
  where
    below : (q : ℕ) → (nat_eq q 0 || false) ≡ true → q < most
    below q h = by (nat_eq q 0) refl h
      where
        by : (b : Bool) → nat_eq q 0 ≡ b → (b || false) ≡ true → q < most
        by true e h = let same : q ≡ 0 = eqb-true q 0 e in omega arith
        by false e h = absurd (cc)

pub followed-first : (links : List (List ℕ))
    → 0 < length links
    → followed links (0 ∷ []) 0 ≡ indexes_walked links
unfolding indexes_walked
followed-first links some =
    let known : List ℕ = insert_all nat_eq (0 ∷ []) (links_at links 0) in
    let after : Walked ℕ ℕ = record { known = known; nodes = 0 ∷ [] } in
    let indexes : AreIndexes (length links) known = AreIndexes-put_all (length links)
    (links_at links 0)
    (0 ∷ []) (links_at-below (length links) _) (AreIndexes-first (length links) some) in
    let grown : Grows (0 ∷ []) known = with_requests-grows index_rules (links_at links 0)
    (0 ∷ []) known (with_requests-put (0 ∷ []) (links_at links 0)) in
    let long : length known ≡ suc (length grown.extra) = ap length grown.behind in
    let first : with_node (over_links links) first_alone (Ok 0)
    ≡ Ok after = with_node-put links (0 ∷ []) [] 0 in
    let turns : length links - 0 ≡ suc (length links - 1) = omega arith in
    ap (λ n. walk_on (over_links links) n (Ok first_alone)) turns
    ∙ walk_on-step (over_links links) (length links - 1) first_alone 0 [] refl
    ∙ ap (walk_on (over_links links) (length links - 1)) first
    ∙ sym (ap (levels (over_links links) (length links)) first
    ∙ levels-walk_on (over_links links) (AreIndexes (length links)) (length links)
    (AreIndexes-length (length links)) (over_links-kept links) after indexes (omega arith)
    (length links) (length links - 1) (omega arith) (omega arith))

pub followed-next : (links : List (List ℕ)) (known : List ℕ) (next index : ℕ)
    → slice_get known next ≡ Some index
    → next < length links
    → followed links known next
    ≡ followed links (insert_all nat_eq known (links_at links index)) (next + 1)
followed-next links known next index there within =
    let more : List ℕ = insert_all nat_eq known (links_at links index) in
    let among : next < length known = slice_get_within known next index there in
    let at : get_or known next index ≡ index = get_or_from_slice_get known next index index there in
    let read : length (take next known) ≡ next = length-take-le next known (omega arith) in
    let left : drop (length (take next known)) known
    ≡ index ∷ drop (suc next) known = ap (λ n. drop n known) read
    ∙ drop-cons known next index among ∙ ap (λ p. p ∷ drop (suc next) known) at in
    let grown : Grows known more = with_requests-grows index_rules
    (links_at links index) known more (with_requests-put known (links_at links index)) in
    let walked : take next known ++ index ∷ []
    ≡ take (next + 1) more = ap (λ p. take next known ++ p ∷ []) (sym at)
    ∙ sym (take_more known next index among)
    ∙ sym (ap (take (next + 1)) grown.behind ∙ take-append-le (next + 1) known grown.extra
    (omega arith)) in
    let turns : length links - next ≡ suc (length links - (next + 1)) = omega arith in
    ap (λ n. walk_on (over_links links) n
    (Ok (record { known = known; nodes = take next known }))) turns
    ∙ walk_on-step (over_links links) (length links - (next + 1))
    (record { known = known; nodes = take next known }) index (drop (suc next) known) left
    ∙ ap (walk_on (over_links links) (length links - (next + 1)))
    (with_node-put links known (take next known) index
    ∙ ap (λ read. Ok (record { known = more; nodes = read })) walked)

pub followed-end : (links : List (List ℕ)) (known : List ℕ) (next : ℕ)
    → slice_get known next ≡ None
    → followed links known next ≡ Ok (record { known = known; nodes = known })
followed-end links known next none =
    let ended : length known ≤ next = past known next none in
    ap (λ read. walk_on (over_links links) (length links - next)
    (Ok (record { known = known; nodes = read }))) (take_all next known ended)
    ∙ walk_on-ended (over_links links) (length links - next)
    (record { known = known; nodes = known }) (drop_of_length-le known (omega arith))

-- what is reached where the walk ends
pub reached-walked : (links : List (List ℕ)) (indexes : List ℕ)
    → 0 < length links
    → indexes_walked links ≡ Ok (record { known = indexes; nodes = indexes })
    → reached links ≡ indexes
reached-walked [] indexes some walked = absurd (omega arith)
reached-walked (link ∷ links) indexes some walked = ap walked_indexes walked
