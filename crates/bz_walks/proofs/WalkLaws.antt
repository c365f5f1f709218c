-- What a walk comes to that is read to its end: each node is read from its request, no two requests
-- are
-- one, each request of a node is known, and nothing else is.
use Rattle.std.proofs.Common.{◌≡◌, ℕ, zero, suc, ◌+◌, ◌≤◌, List, [], ◌∷◌, ◌++◌, length, drop}
use Rattle.std.proofs.Common.{Option, None, Some, Result, Ok, Err, Bool, true, false, ◌||◌}
use Rattle.std.proofs.Common.{if◌then◌else◌, refl, ap, sym, ◌∙◌, subst, arith, append_assoc}
use Rattle.std.proofs.Math.ListN.{drop_of_length-le}
use Rattle.std.proofs.Math.Seq.{drop-append_seam}
use Rattle.std.proofs.lemmas.List.{append-nil, length_push}
use Rattle.std.proofs.lemmas.List.Folds.{list_any-append}
use Rattle.std.proofs.lemmas.Map.Keys.{IsDistinct-push}
use Rattle.std.proofs.lemmas.Slice.Zip.{AllZip-long}
use Rattle.std.specs.Cmp.{IsEquivalence}
use Rattle.std.specs.List.{AllByRecursion, AllZip, IsDistinct, list_any}
use Rattle.bz_text.proofs.ListWalks.{AllByRecursion-append}
use Rattle.bz_walks.proofs.EachItem.{AllByRecursion-between, AllByRecursion-weaker, AllZip-apart}
use Rattle.bz_walks.proofs.EachItem.{AllZip-pushed}
use Rattle.bz_walks.proofs.WalkSteps.{Grows, Grows-on, Grows-same, Keeps, walk_on, walk_on-ended}
use Rattle.bz_walks.proofs.WalkSteps.{walk_on-refused, walk_on-step}
use Rattle.bz_walks.specs.Walks.{Rules, Walk, Walked, next_level, within_limit, walked_with}
use Rattle.bz_walks.specs.Walks.{with_request, with_requests, with_node}

-- a request that is one with a known request
abbrev pub Stands : {A E : Type 0} → Rules A E → List A → A → Type 0
Stands rules known request = list_any (rules.same request) known ≡ true

abbrev pub AllPassing : {A : Type 0} → (A → Bool) → List A → Type 0
AllPassing holds requests = AllByRecursion (λ request. holds request ≡ true) requests

Stands-grown : {A E : Type 0} (rules : Rules A E) (known more : List A)
    → Grows known more
    → (request : A)
    → Stands rules known request
    → Stands rules more request
Stands-grown rules known more grown request there =
    ap (list_any (rules.same request)) grown.behind
    ∙ list_any-append (rules.same request) known grown.extra
    ∙ ap (λ b. b || list_any (rules.same request) grown.extra) there

-- what is known with some more requests
pub record Added {A E : Type 0} (rules : Rules A E) (known requests more : List A) : Type 0 where
  pub grown : Grows known more
  pub distinct : IsDistinct rules.same known → IsDistinct rules.same more
  pub stand : AllByRecursion (Stands rules more) requests
  pub passing : (holds : A → Bool)
      → AllPassing holds known
      → AllPassing holds requests
      → AllPassing holds more

with_request-added : {A E : Type 0} (rules : Rules A E)
    → IsEquivalence rules.same
    → (known : List A) (request : A) (more : List A)
    → with_request rules known request ≡ Ok more
    → Added rules known (request ∷ []) more
with_request-added {A} {E} rules alike known request more = by
    (list_any (rules.same request) known) refl
    (rules.limit known request)
  where
    last : list_any (rules.same request) known ≡ false
        → Stands rules (known ++ request ∷ []) request
    last new = list_any-append (rules.same request) known (request ∷ [])
        ∙ (λ i. new i || (alike.refl request i || false))

    by : (there : Bool)
        → list_any (rules.same request) known ≡ there
        → (limit : Option E)
        → (if there then Ok known else within_limit known request limit) ≡ Ok more
        → Added rules known (request ∷ []) more
    by true there limit e =
        let same : known ≡ more = cc e in
        subst (Added rules known (request ∷ [])) same
        (record {
          grown = Grows-same known known refl;
          distinct = λ d. d;
          stand =
              (there, tt);
          passing = λ holds all requests. all;
        })
    by false new None e =
        let same : known ++ request ∷ [] ≡ more = cc e in
        subst (Added rules known (request ∷ [])) same (record {
          grown = record { extra = request ∷ []; behind = refl };
          distinct = λ d. IsDistinct-push alike known request d new;
          stand = (last new, tt);
          passing = λ holds all requests. AllByRecursion-append (λ one. holds one ≡ true) known
              (request ∷ []) all requests;
        })
    by false new (Some refusal) e = absurd (cc e)

Added-on : {A E : Type 0} (rules : Rules A E) (known : List A) (request : A)
    (requests middle more : List A)
    → Added rules known (request ∷ []) middle
    → Added rules middle requests more
    → Added rules known (request ∷ requests) more
Added-on rules known request requests middle more first after =
    record {
      grown = Grows-on first.grown after.grown;
      distinct = λ d. after.distinct (first.distinct d);
      stand = (Stands-grown rules middle more after.grown request first.stand.0, after.stand);
      passing = λ holds all passing. after.passing holds
          (first.passing holds all (passing.0, tt)) passing.1;
    }

pub with_requests-added : {A E : Type 0} (rules : Rules A E)
    → IsEquivalence rules.same
    → (requests known more : List A)
    → with_requests rules (Ok known) requests ≡ Ok more
    → Added rules known requests more
with_requests-added rules alike [] known more e =
    let same : known ≡ more = cc e in
    subst (Added rules known []) same
    (record {
      grown = Grows-same known known refl;
      distinct = λ d. d;
      stand = tt;
      passing = λ
          holds all requests. all;
    })
with_requests-added {A} {E} rules alike (request ∷ requests) known more e =
    by (with_request rules known request)
    (λ middle. with_request-added rules alike known request middle)
    (λ middle. with_requests-added rules alike requests middle more) e
  where
    by : (r : Result (List A) E)
        → ((middle : List A) → r ≡ Ok middle → Added rules known (request ∷ []) middle)
        → ((middle : List A)
        → with_requests rules (Ok middle) requests ≡ Ok more
        → Added rules middle requests more)
        → with_requests rules r requests ≡ Ok more
        → Added rules known (request ∷ requests) more
    by (Ok middle) first further e = Added-on rules known request requests middle more
        (first middle refl)
        (further middle e)
    by (Err refusal) first further e = absurd (cc e)

abbrev pub IsReadBy : {A N E : Type 0} → Walk A N E → A → N → Type 0
IsReadBy walk request node = walk.read request ≡ Ok node

-- with a request each request of the node to which it leads
abbrev pub PassesOn : {A N E : Type 0} → Walk A N E → (A → Bool) → A → N → Type 0
PassesOn walk holds request node = holds request ≡ true → AllPassing holds (walk.requests node)

-- a walk that began with one request and one node, and what is left of it
pub record IsWalked {A N E : Type 0} (walk : Walk A N E) (start : A) (first : N) (known : List A)
    (further : List N) : Type 0 where
  pub front : List A
  pub left : List A
  pub known_is : known ≡ start ∷ (front ++ left)
  pub read : AllZip (IsReadBy walk) front further
  pub distinct : IsDistinct walk.rules.same known
  pub stand : AllByRecursion (λ node. AllByRecursion (Stands walk.rules known) (walk.requests node))
      (first ∷ further)
  pub least : (holds : A → Bool)
      → holds start ≡ true
      → AllZip (PassesOn walk holds) (start ∷ front) (first ∷ further)
      → AllPassing holds known

abbrev pub walked_to : {A N : Type 0} → N → List A → List N → Walked A N
walked_to first known further = record { known = known; nodes = first ∷ further }

left_is : {A N E : Type 0} (walk : Walk A N E) (start : A) (first : N) (known : List A)
    (further : List N) (walked : IsWalked walk start first known further)
    → next_level (walked_to first known further) ≡ walked.left
left_is walk start first known further walked =
    ap (drop (suc (length further))) walked.known_is
    ∙ ap (λ n. drop n (walked.front ++ walked.left))
    (AllZip-long (IsReadBy walk) walked.front further walked.read)
    ∙ drop-append_seam walked.front walked.left

IsWalked-next : {A N E : Type 0} (walk : Walk A N E)
    → IsEquivalence walk.rules.same
    → (start : A) (first : N) (known : List A) (further : List N)
    → IsWalked walk start first known further
    → (request : A) (rest : List A) (node : N) (more : List A)
    → next_level (walked_to first known further) ≡ request ∷ rest
    → walk.read request ≡ Ok node
    → with_requests walk.rules (Ok known) (walk.requests node) ≡ Ok more
    → IsWalked walk start first more (further ++ node ∷ [])
IsWalked-next {A} {N} walk alike start first known further walked request rest node more next read
    asked
    =
    record {
      front = walked.front ++ request ∷ [];
      left = rest ++ added.grown.extra;
      known_is = added.grown.behind ∙ ap (λ l. l ++ added.grown.extra) split
          ∙ ap (λ l. start ∷ l)
          (append_assoc walked.front (request ∷ rest) added.grown.extra
          ∙ sym (append_assoc walked.front (request ∷ []) (rest ++ added.grown.extra)));
      read = AllZip-pushed (IsReadBy walk) walked.front further request node walked.read read;
      distinct = added.distinct walked.distinct;
      stand = AllByRecursion-append
          (λ other. AllByRecursion (Stands walk.rules more) (walk.requests other)) (first ∷ further)
          (node ∷ []) (AllByRecursion-weaker _ _ (λ other. AllByRecursion-weaker _ _ (Stands-grown
          walk.rules known more added.grown) (walk.requests other)) (first ∷ further) walked.stand)
          (added.stand, tt);
      least = least;
    }
  where
    added : Added walk.rules known (walk.requests node) more
    added = with_requests-added walk.rules alike (walk.requests node) known more asked

    split : known ≡ start ∷ (walked.front ++ request ∷ rest)
    split = walked.known_is
        ∙ ap (λ l. start ∷ (walked.front ++ l))
        (sym (left_is walk start first known further walked) ∙ next)

    least : (holds : A → Bool)
        → holds start ≡ true
        → AllZip (PassesOn walk holds) (start ∷ (walked.front ++ request ∷ []))
        (first ∷ (further ++ node ∷ []))
        → AllPassing holds more
    least holds begins passes =
        let parts : AllZip (PassesOn walk holds) walked.front further
        × PassesOn walk holds request node = AllZip-apart (IsReadBy walk)
        (PassesOn walk holds) walked.front further request node walked.read passes.1 in
        let before : AllPassing holds known = walked.least holds begins (passes.0, parts.0) in
        let at : holds request ≡ true = AllByRecursion-between (λ one. holds one ≡ true) (start ∷
        walked.front) request rest (subst (AllPassing holds) split before) in
        added.passing holds before (parts.1 at)

-- a walk with nothing left
pub record IsWhole {A N E : Type 0} (walk : Walk A N E) (P : List A → Type 0) (start : A)
    (first : N) (front : List A) (further : List N) : Type 0 where
  pub bounded : P (start ∷ front)
  pub read : AllZip (IsReadBy walk) front further
  pub distinct : IsDistinct walk.rules.same (start ∷ front)
  pub stand : AllByRecursion
      (λ node. AllByRecursion (Stands walk.rules (start ∷ front)) (walk.requests node))
      (first ∷ further)
  pub least : (holds : A → Bool)
      → holds start ≡ true
      → AllZip (PassesOn walk holds) (start ∷ front) (first ∷ further)
      → AllPassing holds (start ∷ front)

pub record IsEnded {A N E : Type 0} (walk : Walk A N E) (P : List A → Type 0) (start : A)
    (first : N) (final : Walked A N) : Type 0 where
  pub front : List A
  pub further : List N
  pub known_are : final.known ≡ start ∷ front
  pub nodes_are : final.nodes ≡ first ∷ further
  pub whole : IsWhole walk P start first front further

IsEnded-here : {A N E : Type 0} (walk : Walk A N E) (P : List A → Type 0) (start : A) (first : N)
    (known : List A) (further : List N)
    → P known
    → IsWalked walk start first known further
    → next_level (walked_to first known further) ≡ []
    → IsEnded walk P start first (walked_to first known further)
IsEnded-here walk P start first known further holds walked ended =
    record {
      front = walked.front;
      further = further;
      known_are = all;
      nodes_are = refl;
      whole = record {
        bounded = subst P all holds;
        read = walked.read;
        distinct = subst (IsDistinct walk.rules.same) all walked.distinct;
        stand = subst (λ requests. AllByRecursion (λ node. AllByRecursion (Stands walk.rules
            requests)
            (walk.requests node)) (first ∷ further)) all walked.stand;
        least = λ passing begins passes. subst (AllPassing passing) all
            (walked.least passing begins passes);
      };
    }
  where
    all : known ≡ start ∷ walked.front
    all = walked.known_is
        ∙ ap (λ l. start ∷ (walked.front ++ l))
        (sym (left_is walk start first known further walked) ∙ ended)
        ∙ ap (λ l. start ∷ l) (append-nil walked.front)

pub walk_on-ends : {A N E : Type 0} (walk : Walk A N E)
    → IsEquivalence walk.rules.same
    → (P : List A → Type 0) (most : ℕ)
    → ((known : List A) → P known → length known ≤ most)
    → Keeps walk P
    → (start : A) (first : N) (final : Walked A N)
    → (n : ℕ) (known : List A) (further : List N)
    → most ≤ n + suc (length further)
    → P known
    → IsWalked walk start first known further
    → walk_on walk n (Ok (walked_to first known further)) ≡ Ok final
    → IsEnded walk P start first final
walk_on-ends walk alike P most bounded kept start first final zero known further turns holds walked
    e =
    let short : length known ≤ suc (length further) = omega (arith, bounded known holds, turns) in
    let ended : next_level (walked_to first known further) ≡ [] = drop_of_length-le known short in
    let same : walked_to first known further
    ≡ final = cc (sym (walk_on-ended walk 0 (walked_to first known further) ended) ∙ e) in
    subst (IsEnded walk P start first) same
    (IsEnded-here walk P start first known further holds walked ended)
walk_on-ends {A} {N} {E} walk alike P most bounded kept start first final
    (suc n) known further turns holds walked e =
    by (next_level (walked_to first known further)) refl
    (λ more node. walk_on-ends walk alike P most bounded kept start first final n more
    (further ++ node ∷ []) (omega (arith, turns, length_push further node)))
  where
    Further : Type 0
    Further = (more : List A) (node : N)
        → P more
        → IsWalked walk start first more (further ++ node ∷ [])
        → walk_on walk n (Ok (walked_to first more (further ++ node ∷ []))) ≡ Ok final
        → IsEnded walk P start first final

    added : (request : A) (rest : List A)
        → next_level (walked_to first known further) ≡ request ∷ rest
        → (node : N)
        → walk.read request ≡ Ok node
        → Further
        → (r : Result (List A) E)
        → with_requests walk.rules (Ok known) (walk.requests node) ≡ r
        → walk_on walk n (walked_with (first ∷ further) node r) ≡ Ok final
        → IsEnded walk P start first final
    added request rest next node read on (Err refusal) asked e = absurd
        (cc (sym (walk_on-refused walk n refusal) ∙ e))
    added request rest next node read on (Ok more) asked e =
        on more node (kept known more request node holds read asked)
        (IsWalked-next walk alike start first known further walked request rest node more next read
        asked) e

    read_from : (request : A) (rest : List A)
        → next_level (walked_to first known further) ≡ request ∷ rest
        → Further
        → (r : Result N E)
        → walk.read request ≡ r
        → walk_on walk n (with_node walk (walked_to first known further) r) ≡ Ok final
        → IsEnded walk P start first final
    read_from request rest next on (Err refusal) read e = absurd
        (cc (sym (walk_on-refused walk n refusal) ∙ e))
    read_from request rest next on (Ok node) read e = added request rest next node read on
        (with_requests walk.rules (Ok known) (walk.requests node)) refl e

    by : (level : List A)
        → next_level (walked_to first known further) ≡ level
        → Further
        → IsEnded walk P start first final
    by [] next on =
        let same : walked_to first known further
        ≡ final = cc (sym (walk_on-ended walk (suc n) (walked_to first known further) next) ∙
        e) in
        subst (IsEnded walk P start first) same
        (IsEnded-here walk P start first known further holds walked next)
    by (request ∷ rest) next on =
        read_from request rest next on (walk.read request) refl
        (sym (walk_on-step walk n (walked_to first known further) request rest next) ∙ e)

-- a walk of which the first node alone is read
pub IsWalked-first : {A N E : Type 0} (walk : Walk A N E)
    → IsEquivalence walk.rules.same
    → (start : A) (first : N) (known : List A)
    → with_requests walk.rules (Ok (start ∷ [])) (walk.requests first) ≡ Ok known
    → IsWalked walk start first known []
unfolding IsDistinct
IsWalked-first walk alike start first known asked =
    let added : Added walk.rules (start ∷ [])
    (walk.requests first) known = with_requests-added walk.rules alike (walk.requests first)
    (start ∷ []) known asked in
    record {
      front = [];
      left = added.grown.extra;
      known_is = added.grown.behind;
      read = tt;
      distinct = added.distinct (tt, tt);
      stand = (added.stand, tt);
      least = λ holds begins passes. added.passing holds (begins, tt) (passes.0 begins);
    }

-- a walk that never refuses
pub record IsOpen {A N E : Type 0} (walk : Walk A N E) : Type 0 where
  pub reads : (request : A) → (node : N) × (walk.read request ≡ Ok node)
  pub within : (known : List A) (request : A) → walk.rules.limit known request ≡ None

with_request-open : {A N E : Type 0} (walk : Walk A N E)
    → IsOpen walk
    → (known : List A) (request : A)
    → (more : List A) × (with_request walk.rules known request ≡ Ok more)
with_request-open {A} {N} {E} walk open_to known request = by
    (list_any (walk.rules.same request) known)
    (walk.rules.limit known request) (open_to.within known request)
  where
    by : (there : Bool) (limit : Option E)
        → limit ≡ None
        → (more : List A) × ((if there then Ok known else within_limit known request limit) ≡ Ok
        more)
    by true limit none = (known, refl)
    by false None none = (known ++ request ∷ [], refl)
    by false (Some refusal) none = absurd (cc none)

pub with_requests-open : {A N E : Type 0} (walk : Walk A N E)
    → IsOpen walk
    → (requests known : List A)
    → (more : List A) × (with_requests walk.rules (Ok known) requests ≡ Ok more)
with_requests-open walk open_to [] known = (known, refl)
with_requests-open {A} walk open_to (request ∷ requests) known =
    let first : (middle : List A)
    × (with_request walk.rules known request
    ≡ Ok middle) = with_request-open walk open_to known request in
    let rest : (more : List A)
    × (with_requests walk.rules (Ok first.0) requests
    ≡ Ok more) = with_requests-open walk open_to requests first.0 in
    (rest.0, ap (λ r. with_requests walk.rules r requests) first.1 ∙ rest.1)

pub walk_on-open : {A N E : Type 0} (walk : Walk A N E)
    → IsOpen walk
    → (n : ℕ) (walked : Walked A N)
    → (final : Walked A N) × (walk_on walk n (Ok walked) ≡ Ok final)
unfolding walk_on
walk_on-open walk open_to zero walked = (walked, refl)
walk_on-open {A} {N} {E} walk open_to (suc n) walked = by (next_level walked) refl
    (λ after. walk_on-open walk open_to n after)
  where
    by : (level : List A)
        → next_level walked ≡ level
        → ((after : Walked A N) → (final : Walked A N) × (walk_on walk n (Ok after) ≡ Ok final))
        → (final : Walked A N) × (walk_on walk (suc n) (Ok walked) ≡ Ok final)
    by [] next further = (walked, walk_on-ended walk (suc n) walked next)
    by (request ∷ rest) next further =
        let read : (node : N) × (walk.read request ≡ Ok node) = open_to.reads request in
        let asked : (more : List A)
        × (with_requests walk.rules (Ok walked.known) (walk.requests read.0)
        ≡ Ok more) = with_requests-open walk open_to (walk.requests read.0) walked.known in
        let after : (final : Walked A N)
        × (walk_on walk n (Ok (record { known = asked.0; nodes = walked.nodes ++ read.0 ∷ [] }))
        ≡ Ok final) = further
        (record { known = asked.0; nodes = walked.nodes ++ read.0 ∷ [] }) in (
          after.0,
          walk_on-step walk n walked request rest next
              ∙ ap (λ r. walk_on walk n (with_node walk walked r)) read.1
              ∙ ap (λ r. walk_on walk n (walked_with walked.nodes read.0 r)) asked.1 ∙ after.1,
        )
