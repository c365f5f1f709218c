-- The levels of a walk in order, and its first refusal.
use Rattle.std.proofs.Common.{◌≡◌, ℕ, zero, suc, ◌+◌, ◌-◌, ◌≤◌, List, [], ◌∷◌, ◌++◌, length, drop}
use Rattle.std.proofs.Common.{flat_map, Option, None, Some, Result, Ok, Err, Bool, true, false}
use Rattle.std.proofs.Common.{if◌then◌else◌, refl, ap, sym, ◌∙◌, subst, arith, append_assoc, ◌⊎◌}
use Rattle.std.proofs.Common.{inl, inr}
use Rattle.std.proofs.Math.Seq.{drop-append_seam}
use Rattle.std.proofs.lemmas.Bool.{cond-false, cond-true}
use Rattle.std.proofs.lemmas.Slice.Zip.{AllZip-long}
use Rattle.bz_walks.proofs.WalkSteps.{levels-refused}
use Rattle.std.proofs.lemmas.List.{append-nil, length-append, length-drop, take-append-drop}
use Rattle.std.specs.List.{AllZip, list_any}
use Rattle.bz_walks.specs.WalkOrders.{AreRead, FollowLevels, IsFirstOverLimit, IsFirstRefusal}
use Rattle.bz_walks.specs.WalkOrders.{IsLevelByLevel, IsRefusedAt, end, here, later, level}
use Rattle.bz_walks.specs.WalkOrders.{new_requests, next_of}
use Rattle.bz_walks.specs.Walks.{Rules, Walk, Walked, levels, next_level, within_limit}
use Rattle.bz_walks.specs.Walks.{walked_with, with_request, with_requests, with_level, with_node}

-- ---- requests

-- what is added is new
added-new : {A E : Type 0} (rules : Rules A E) (requests known more : List A)
    → with_requests rules (Ok known) requests ≡ Ok more
    → more ≡ known ++ new_requests rules.same known requests
added-new rules [] known more e = let same : known ≡ more = cc in sym same ∙ sym (append-nil known)
added-new {A} {E} rules (request ∷ requests) known more e =
    by (list_any (rules.same request) known) (rules.limit known request)
    (added-new rules requests known more)
    (added-new rules requests (known ++ request ∷ []) more) e
  where
    by : (there : Bool) (limit : Option E)
        → (with_requests rules (Ok known) requests ≡ Ok more
        → more ≡ known ++ new_requests rules.same known requests)
        → (with_requests rules (Ok (known ++ request ∷ [])) requests ≡ Ok more
        → more ≡ (known ++ request ∷ [])
        ++ new_requests rules.same (known ++ request ∷ []) requests)
        → with_requests rules
        (if there then Ok known else within_limit known request limit) requests ≡ Ok more
        → more ≡ known ++ (if there then new_requests rules.same known requests else request ∷
        new_requests
        rules.same (known ++ request ∷ []) requests)
    by true limit stays adds e = stays e
    by false None stays adds e = adds e
        ∙ append_assoc known (request ∷ [])
        (new_requests rules.same (known ++ request ∷ []) requests)
    by false (Some refusal) stays adds e = absurd (cc)

new-append : {A : Type 0} (same : A → A → Bool) (xs ys known : List A)
    → new_requests same known (xs ++ ys) ≡ new_requests same known xs
    ++ new_requests same (known ++ new_requests same known xs) ys
new-append same [] ys known = ap (λ all. new_requests same all ys) (sym (append-nil known))
new-append {A} same (x ∷ xs) ys known = by (list_any (same x) known) (new-append same xs ys known)
    (new-append same xs ys (known ++ x ∷ []))
  where
    by : (there : Bool)
        → new_requests same known (xs ++ ys) ≡ new_requests same known xs
        ++ new_requests same (known ++ new_requests same known xs) ys
        → new_requests same (known ++ x ∷ []) (xs ++ ys) ≡ new_requests same (known ++ x ∷ []) xs
        ++ new_requests same ((known ++ x ∷ []) ++ new_requests same (known ++ x ∷ []) xs) ys
        → (if there then new_requests same known (xs ++ ys)
        else x ∷ new_requests same (known ++ x ∷ []) (xs ++ ys))
        ≡ (if there then new_requests same known xs else x ∷ new_requests same (known ++ x ∷ []) xs)
        ++ new_requests same
        (known ++ (if there then new_requests same known xs else x ∷ new_requests same (known
        ++ x ∷ []) xs)) ys
    by true stays adds = stays
    by false stays adds =
        ap (λ rest. x ∷ rest) adds
        ∙ ap (λ all. x ∷ (new_requests same (known ++ x ∷ []) xs ++ new_requests same all ys))
        (append_assoc known (x ∷ []) (new_requests same (known ++ x ∷ []) xs))

-- ---- one level

-- what a level leaves: the nodes of its requests, and what they ask for
record LevelRead {A N E : Type 0} (walk : Walk A N E) (walked : Walked A N) (requests : List A)
    (after : Walked A N) : Type 0 where
  nodes : List N
  read : AreRead walk requests nodes
  nodes_are : after.nodes ≡ walked.nodes ++ nodes
  known_are : after.known ≡ walked.known ++ next_of walk walked.known nodes

level-refused : {A N E : Type 0} (walk : Walk A N E) (refusal : E) (requests : List A)
    → with_level walk (Err refusal) requests ≡ Err refusal
level-refused walk refusal [] = refl
level-refused walk refusal (request ∷ requests) = refl

level-read : {A N E : Type 0} (walk : Walk A N E) (requests : List A) (walked after : Walked A N)
    → with_level walk (Ok walked) requests ≡ Ok after
    → LevelRead walk walked requests after
level-read walk [] walked after e =
    let same : walked ≡ after = cc in
    record {
      nodes = [];
      read = tt;
      nodes_are = sym (ap (λ (w : Walked _ _). w.nodes) same) ∙ sym (append-nil walked.nodes);
      known_are = sym (ap (λ (w : Walked _ _). w.known) same) ∙ sym (append-nil walked.known);
    }
level-read {A} {N} {E} walk (request ∷ requests) walked after e = reading (walk.read request) refl
    (λ middle. level-read walk requests middle after) e
  where
    Further : Type 0
    Further = (middle : Walked A N)
        → with_level walk (Ok middle) requests ≡ Ok after
        → LevelRead walk middle requests after

    adding : (node : N)
        → walk.read request ≡ Ok node
        → (r : Result (List A) E)
        → with_requests walk.rules (Ok walked.known) (walk.requests node) ≡ r
        → Further
        → with_level walk (walked_with walked.nodes node r) requests ≡ Ok after
        → LevelRead walk walked (request ∷ requests) after
    adding node read (Err refusal) added further e = absurd
        (cc (sym (level-refused walk refusal requests) ∙ e))
    adding node read (Ok known) added further e =
        let rest = further (record { known = known; nodes = walked.nodes ++ node ∷ [] }) e in
        let first : known ≡ walked.known
        ++ new_requests walk.rules.same walked.known (walk.requests node) = added-new walk.rules
        (walk.requests node) walked.known known added in
        record {
          nodes = node ∷ rest.nodes;
          read = (read, rest.read);
          nodes_are = rest.nodes_are ∙ append_assoc walked.nodes (node ∷ []) rest.nodes;
          known_are =
              rest.known_are
              ∙ ap (λ all. all ++ new_requests walk.rules.same all (flat_map walk.requests
              rest.nodes))
              first
              ∙ append_assoc walked.known
              (new_requests walk.rules.same walked.known (walk.requests node)) _
              ∙ ap (λ new. walked.known ++ new)
              (sym (new-append walk.rules.same (walk.requests node) (flat_map walk.requests
              rest.nodes)
              walked.known));
        }

    reading : (r : Result N E)
        → walk.read request ≡ r
        → Further
        → with_level walk (with_node walk walked r) requests ≡ Ok after
        → LevelRead walk walked (request ∷ requests) after
    reading (Err refusal) read further e = absurd
        (cc (sym (level-refused walk refusal requests) ∙ e))
    reading (Ok node) read further e = adding node read
        (with_requests walk.rules (Ok walked.known) (walk.requests node)) refl further e

-- ---- all levels

-- what is left behind a level is what its nodes ask for
left-behind : {A N E : Type 0} (walk : Walk A N E) (walked after : Walked A N)
    → length walked.nodes ≤ length walked.known
    → (read : LevelRead walk walked (next_level walked) after)
    → next_level after ≡ next_of walk walked.known read.nodes
left-behind walk walked after within read =
    let long : length read.nodes
    ≡ length (next_level walked) = AllZip-long (λ request node. walk.read request ≡ Ok node)
    (next_level walked) read.nodes read.read in
    let left : length (next_level walked)
    ≡ length walked.known - length walked.nodes = length-drop
    (length walked.nodes) walked.known in
    let all : length after.nodes
    ≡ length walked.known = omega (
      arith,
      ap length read.nodes_are
          ∙ length-append walked.nodes read.nodes,
      long,
      left,
      within,
    ) in
    (λ i. drop (all i) (read.known_are i))
    ∙ drop-append_seam walked.known (next_of walk walked.known read.nodes)

within-after : {A N E : Type 0} (walk : Walk A N E) (walked after : Walked A N)
    → length walked.nodes ≤ length walked.known
    → LevelRead walk walked (next_level walked) after
    → length after.nodes ≤ length after.known
within-after walk walked after within read =
    let long : length read.nodes
    ≡ length (next_level walked) = AllZip-long (λ request node. walk.read request ≡ Ok node)
    (next_level walked) read.nodes read.read in
    let left : length (next_level walked)
    ≡ length walked.known - length walked.nodes = length-drop
    (length walked.nodes) walked.known in
    omega (
      arith,
      ap length read.nodes_are ∙ length-append walked.nodes read.nodes,
      ap length
          read.known_are ∙ length-append walked.known (next_of walk walked.known read.nodes),
      long,
      left,
      within,
    )

pub levels-ordered : {A N E : Type 0} (walk : Walk A N E) (n : ℕ) (walked final : Walked A N)
    → length walked.nodes ≤ length walked.known
    → levels walk n (Ok walked) ≡ Ok final
    → next_level final ≡ []
    → (behind : List A) × (further : List N)
    × FollowLevels walk walked.known (next_level walked) behind further
    × (final.known ≡ walked.known ++ behind) × (final.nodes ≡ walked.nodes ++ further)
unfolding levels
levels-ordered walk zero walked final within e ended =
    let same : walked ≡ final = cc in
    let none : next_level walked ≡ [] = ap (λ (w : Walked _ _). next_level w) same ∙ ended in (
      [],
      [],
      subst (λ left. FollowLevels walk walked.known left [] []) (sym none)
          (end walked.known),
      sym (ap (λ (w : Walked _ _). w.known) same)
          ∙ sym (append-nil walked.known),
      sym (ap (λ (w : Walked _ _). w.nodes) same)
          ∙ sym (append-nil walked.nodes),
    )
levels-ordered {A} {N} {E} walk (suc n) walked final within e ended =
    by (with_level walk (Ok walked) (next_level walked))
    (λ after. level-read walk (next_level walked) walked after)
    (λ after now now_e. levels-ordered walk n after final now now_e ended) e
  where
    Behind : Walked A N → Type 0
    Behind after = (behind : List A) × (further : List N)
        × FollowLevels walk after.known (next_level after) behind further
        × (final.known ≡ after.known ++ behind) × (final.nodes ≡ after.nodes ++ further)

    by : (r : Result (Walked A N) E)
        → ((after : Walked A N) → r ≡ Ok after → LevelRead walk walked (next_level walked) after)
        → ((after : Walked A N)
        → length after.nodes ≤ length after.known
        → levels walk n (Ok after) ≡ Ok final
        → Behind after)
        → levels walk n r ≡ Ok final → Behind walked
    by (Err refusal) reads further e = absurd (cc (sym (levels-refused walk n refusal) ∙ e))
    by (Ok after) reads further e =
        let read = reads after refl in
        let next = next_of walk walked.known read.nodes in
        let rest = further after (within-after walk walked after within read) e in
        let left : next_level after ≡ next = left-behind walk walked after within read in
        let follow : FollowLevels walk (walked.known ++ next) next rest.0 rest.1 =
        subst (λ known. FollowLevels walk known next rest.0 rest.1) read.known_are
        (subst (λ l. FollowLevels walk after.known l rest.0 rest.1) left rest.2) in (
          next ++ rest.0,
          read.nodes ++ rest.1,
          level walked.known (next_level walked) read.nodes rest.0 rest.1 read.read follow,
          rest.3 ∙ ap (λ known. known ++ rest.0) read.known_are
              ∙ append_assoc walked.known next rest.0,
          rest.4 ∙ ap (λ nodes. nodes ++ rest.1) read.nodes_are
              ∙ append_assoc walked.nodes read.nodes rest.1,
        )

-- ---- refusals

with_requests-append : {A E : Type 0} (rules : Rules A E) (r : Result (List A) E) (xs ys : List A)
    → with_requests rules r (xs ++ ys) ≡ with_requests rules (with_requests rules r xs) ys
with_requests-append rules (Err refusal) xs [] = refl
with_requests-append rules (Err refusal) xs (y ∷ ys) = refl
with_requests-append rules (Ok known) [] ys = refl
with_requests-append rules (Ok known) (x ∷ xs) ys = with_requests-append rules
    (with_request rules known x) xs ys

limited-first : {A E : Type 0} (rules : Rules A E) (requests known : List A) (refusal : E)
    → with_requests rules (Ok known) requests ≡ Err refusal
    → IsFirstOverLimit rules known requests refusal
limited-first rules [] known refusal e = absurd (cc)
limited-first {A} {E} rules (request ∷ requests) known refusal e =
    by (list_any (rules.same request) known) refl (rules.limit known request) refl
    (limited-first rules requests known refusal)
    (limited-first rules requests (known ++ request ∷ []) refusal) e
  where
    stands : list_any (rules.same request) known ≡ true
        → IsFirstOverLimit rules known requests refusal
        → IsFirstOverLimit rules known (request ∷ requests) refusal
    stands there rest =
        let same : new_requests rules.same known (request ∷ rest.before)
        ≡ new_requests rules.same known rest.before = cond-true _ _ _ there in
        record {
          before = request ∷ rest.before;
          request = rest.request;
          behind = rest.behind;
          are = ap (λ l. request ∷ l) rest.are;
          added = ap (λ r. with_requests rules r rest.before) (cond-true _ _ _ there) ∙ rest.added
              ∙ ap (λ new. Ok (known ++ new)) (sym same);
          new = ap (λ new. list_any (rules.same rest.request) (known ++ new)) same ∙ rest.new;
          over_limit = ap (λ new. rules.limit (known ++ new) rest.request) same ∙ rest.over_limit;
        }

    adds : list_any (rules.same request) known ≡ false
        → rules.limit known request ≡ None
        → IsFirstOverLimit rules (known ++ request ∷ []) requests refusal
        → IsFirstOverLimit rules known (request ∷ requests) refusal
    adds new none rest =
        let here_new = new_requests rules.same (known ++ request ∷ []) rest.before in
        let more : known ++ new_requests rules.same known (request ∷ rest.before)
        ≡ (known ++ request ∷ [])
        ++ here_new = ap (λ l. known ++ l) (cond-false _ _ _ new)
        ∙ sym (append_assoc known (request ∷ []) here_new) in
        record {
          before = request ∷ rest.before;
          request = rest.request;
          behind = rest.behind;
          are = ap (λ l. request ∷ l) rest.are;
          added = ap (λ r. with_requests rules r rest.before)
              (cond-false _ _ _ new ∙ ap (within_limit known request) none) ∙ rest.added
              ∙ ap Ok (sym more);
          new = ap (list_any (rules.same rest.request)) more ∙ rest.new;
          over_limit = ap (λ all. rules.limit all rest.request) more ∙ rest.over_limit;
        }

    first : (refused : E)
        → list_any (rules.same request) known ≡ false
        → rules.limit known request ≡ Some refused
        → refused ≡ refusal
        → IsFirstOverLimit rules known (request ∷ requests) refusal
    first refused new limit is = record {
      before = [];
      request = request;
      behind = requests;
      are = refl;
      added = ap Ok (sym (append-nil known));
      new = ap (list_any (rules.same request)) (append-nil known) ∙ new;
      over_limit = ap (λ all. rules.limit all request) (append-nil known) ∙ limit ∙ ap Some is;
    }

    by : (there : Bool)
        → list_any (rules.same request) known ≡ there
        → (limit : Option E)
        → rules.limit known request ≡ limit
        → (with_requests rules (Ok known) requests ≡ Err refusal
        → IsFirstOverLimit rules known requests refusal)
        → (with_requests rules (Ok (known ++ request ∷ [])) requests ≡ Err refusal
        → IsFirstOverLimit rules (known ++ request ∷ []) requests refusal)
        → with_requests rules
        (if there then Ok known else within_limit known request limit) requests ≡ Err refusal
        → IsFirstOverLimit rules known (request ∷ requests) refusal
    by true there limit is stay add e = stands there (stay e)
    by false there None is stay add e = adds there is (add e)
    by false there (Some refused) is stay add e = first refused there is
        (refused-is requests refused e)
      where
        refused-is : (l : List A) (one : E)
            → with_requests rules (Err one) l ≡ Err refusal
            → one ≡ refusal
        refused-is [] one e = cc
        refused-is (x ∷ l) one e = cc

-- the first request of a level at which the walk is refused
record LevelRefused {A N E : Type 0} (walk : Walk A N E) (known requests : List A)
    (refusal : E) : Type 0 where
  front : List A
  request : A
  rest : List A
  nodes : List N
  are : requests ≡ front ++ request ∷ rest
  read : AreRead walk front nodes
  added : with_requests walk.rules (Ok known) (flat_map walk.requests nodes)
      ≡ Ok (known ++ next_of walk known nodes)
  refused : IsRefusedAt walk (known ++ next_of walk known nodes) request refusal

level-first : {A N E : Type 0} (walk : Walk A N E) (requests : List A) (walked : Walked A N)
    (refusal : E)
    → with_level walk (Ok walked) requests ≡ Err refusal
    → LevelRefused walk walked.known requests refusal
level-first walk [] walked refusal e = absurd (cc)
level-first {A} {N} {E} walk (request ∷ requests) walked refusal e = reading
    (walk.read request) refl
    (λ middle. level-first walk requests middle refusal) e
  where
    at_once : IsRefusedAt walk walked.known request refusal
        → LevelRefused walk walked.known (request ∷ requests) refusal
    at_once refused = record {
      front = [];
      request = request;
      rest = requests;
      nodes = [];
      are = refl;
      read = tt;
      added = ap Ok (sym (append-nil walked.known));
      refused = subst (λ known. IsRefusedAt walk known request refusal)
          (sym (append-nil walked.known)) refused;
    }

    Further : Type 0
    Further = (middle : Walked A N)
        → with_level walk (Ok middle) requests ≡ Err refusal
        → LevelRefused walk middle.known requests refusal

    behind : (node : N)
        → walk.read request ≡ Ok node
        → (known : List A)
        → with_requests walk.rules (Ok walked.known) (walk.requests node) ≡ Ok known
        → LevelRefused walk known requests refusal
        → LevelRefused walk walked.known (request ∷ requests) refusal
    behind node read known added rest =
        let first : known ≡ walked.known
        ++ new_requests walk.rules.same walked.known (walk.requests node) = added-new walk.rules
        (walk.requests node) walked.known known added in
        let new = new_requests walk.rules.same walked.known (walk.requests node) in
        let all : known ++ next_of walk known rest.nodes ≡ walked.known
        ++ next_of walk walked.known (node ∷ rest.nodes) =
        ap (λ k. k ++ new_requests walk.rules.same k (flat_map walk.requests rest.nodes)) first
        ∙ append_assoc walked.known new _
        ∙ ap (λ l. walked.known ++ l)
        (sym (new-append walk.rules.same (walk.requests node) (flat_map walk.requests rest.nodes)
        walked.known)) in
        record {
          front = request ∷ rest.front;
          request = rest.request;
          rest = rest.rest;
          nodes = node ∷ rest.nodes;
          are = ap (λ l. request ∷ l) rest.are;
          read = (read, rest.read);
          added =
              with_requests-append walk.rules (Ok walked.known) (walk.requests node)
              (flat_map walk.requests rest.nodes)
              ∙ ap (λ r. with_requests walk.rules r (flat_map walk.requests rest.nodes)) added
              ∙ rest.added
              ∙ ap Ok all;
          refused = subst (λ k. IsRefusedAt walk k rest.request refusal) all rest.refused;
        }

    adding : (node : N)
        → walk.read request ≡ Ok node
        → (r : Result (List A) E)
        → with_requests walk.rules (Ok walked.known) (walk.requests node) ≡ r
        → Further
        → with_level walk (walked_with walked.nodes node r) requests ≡ Err refusal
        → LevelRefused walk walked.known (request ∷ requests) refusal
    adding node read (Err other) added further e =
        let is : other ≡ refusal = cc (sym (level-refused walk other requests) ∙ e) in
        at_once (inr (
          node,
          read,
          limited-first walk.rules (walk.requests node) walked.known refusal
              (added ∙ ap Err is),
        ))
    adding node read (Ok known) added further e = behind node read known added
        (further (record { known = known; nodes = walked.nodes ++ node ∷ [] }) e)

    reading : (r : Result N E)
        → walk.read request ≡ r
        → Further
        → with_level walk (with_node walk walked r) requests ≡ Err refusal
        → LevelRefused walk walked.known (request ∷ requests) refusal
    reading (Err other) read further e =
        let is : other ≡ refusal = cc (sym (level-refused walk other requests) ∙ e) in
        at_once (inl (read ∙ ap Err is))
    reading (Ok node) read further e = adding node read
        (with_requests walk.rules (Ok walked.known) (walk.requests node)) refl further e

pub levels-first_refusal : {A N E : Type 0} (walk : Walk A N E) (n : ℕ) (walked : Walked A N)
    (refusal : E)
    → length walked.nodes ≤ length walked.known
    → levels walk n (Ok walked) ≡ Err refusal
    → IsFirstRefusal walk walked.known (next_level walked) refusal
unfolding levels
levels-first_refusal walk zero walked refusal within e = absurd (cc)
levels-first_refusal {A} {N} {E} walk (suc n) walked refusal within e =
    by (with_level walk (Ok walked) (next_level walked)) refl
    (λ after now now_e. levels-first_refusal walk n after refusal now now_e) e
  where
    at_level : LevelRefused walk walked.known (next_level walked) refusal
        → IsFirstRefusal walk walked.known (next_level walked) refusal
    at_level first = subst (λ l. IsFirstRefusal walk walked.known l refusal) (sym first.are)
        (here walked.known first.front first.request first.rest first.nodes refusal first.read
        first.added first.refused)

    by : (r : Result (Walked A N) E) → with_level walk (Ok walked) (next_level walked) ≡ r
        → ((after : Walked A N)
        → length after.nodes ≤ length after.known
        → levels walk n (Ok after) ≡ Err refusal
        → IsFirstRefusal walk after.known (next_level after) refusal)
        → levels walk n r ≡ Err refusal
        → IsFirstRefusal walk walked.known (next_level walked) refusal
    by (Err other) is further e =
        let same : other ≡ refusal = cc (sym (levels-refused walk n other) ∙ e) in
        at_level (level-first walk (next_level walked) walked refusal (is ∙ ap Err same))
    by (Ok after) is further e =
        let read = level-read walk (next_level walked) walked after is in
        let rest = further after (within-after walk walked after within read) e in
        let next = next_of walk walked.known read.nodes in
        later walked.known (next_level walked) read.nodes refusal read.read
        (subst (λ known. IsFirstRefusal walk known next refusal) read.known_are
        (subst (λ l. IsFirstRefusal walk after.known l refusal)
        (left-behind walk walked after within read) rest))

pub levels-by_level : {A N E : Type 0} (walk : Walk A N E) (n : ℕ) (walked final : Walked A N)
    → length walked.nodes ≤ length walked.known
    → levels walk n (Ok walked) ≡ Ok final
    → next_level final ≡ []
    → IsLevelByLevel walk walked final
levels-by_level walk n walked final within e ended =
    let all = levels-ordered walk n walked final within e ended in
    record { behind = all.0; further = all.1; follow = all.2; known_are = all.3; nodes_are = all.4 }
