-- A walk node by node, which is what the walk by levels comes to.
use Rattle.std.proofs.Common.{◌≡◌, ℕ, zero, suc, ◌+◌, ◌-◌, ◌≤◌, List, [], ◌∷◌, ◌++◌, length, drop}
use Rattle.std.proofs.Common.{Option, None, Some, Result, Ok, Err, Bool, true, false, if◌then◌else◌}
use Rattle.std.proofs.Common.{refl, ap, sym, ◌∙◌, subst, arith, append_assoc}
use Rattle.std.proofs.Math.ListN.{drop_of_length-le}
use Rattle.std.proofs.lemmas.List.{append-nil, length-append, drop-drop, drop-append-le}
use Rattle.std.proofs.lemmas.List.{length_push, length-drop}
use Rattle.std.specs.List.{list_any}
use Rattle.bz_walks.specs.Walks.{Rules, Walk, Walked, levels, next_level, within_limit}
use Rattle.bz_walks.specs.Walks.{walked_with, with_request, with_requests, with_level, with_node}

-- the node of the first request that is left, and then on
abbrev pub walk_next : {A N E : Type 0}
    → (Result (Walked A N) E → Result (Walked A N) E)
    → Walk A N E
    → Walked A N
    → List A
    → Result (Walked A N) E
walk_next on walk walked [] = Ok walked
walk_next on walk walked (request ∷ rest) = on (with_node walk walked (walk.read request))

-- from the walk on, the node of the first request that is not read yet, so many times at most
unfoldable pub walk_on : {A N E : Type 0}
    → Walk A N E
    → ℕ
    → Result (Walked A N) E
    → Result (Walked A N) E
walk_on walk n (Err refusal) = Err refusal
walk_on walk zero (Ok walked) = Ok walked
walk_on walk (suc n) (Ok walked) = walk_next (walk_on walk n) walk walked (next_level walked)

-- what is known is a front of what is known later
pub record Grows {A : Type 0} (known more : List A) : Type 0 where
  pub extra : List A
  pub behind : more ≡ known ++ extra

pub Grows-same : {A : Type 0} (known more : List A) → known ≡ more → Grows known more
Grows-same known more e = record { extra = []; behind = sym e ∙ sym (append-nil known) }

pub Grows-on : {A : Type 0} {known middle more : List A}
    → Grows known middle
    → Grows middle more
    → Grows known more
Grows-on {A} {known} {middle} {more} first second =
    record {
      extra = first.extra ++ second.extra;
      behind = second.behind
          ∙ ap (λ front. front ++ second.extra) first.behind
          ∙ append_assoc known first.extra second.extra;
    }

pub with_request-grows : {A E : Type 0} (rules : Rules A E) (known : List A) (request : A)
    (more : List A)
    → with_request rules known request ≡ Ok more
    → Grows known more
with_request-grows {A} {E} rules known request more = by (list_any (rules.same request) known)
    (rules.limit known request)
  where
    by : (there : Bool) (limit : Option E)
        → (if there then Ok known else within_limit known request limit) ≡ Ok more
        → Grows known more
    by true limit e = Grows-same known more (cc e)
    by false None e = record { extra = request ∷ []; behind = cc e }
    by false (Some refusal) e = absurd (cc e)

pub with_requests-grows : {A E : Type 0} (rules : Rules A E) (requests known more : List A)
    → with_requests rules (Ok known) requests ≡ Ok more
    → Grows known more
with_requests-grows rules [] known more e = Grows-same known more (cc e)
with_requests-grows {A} {E} rules (request ∷ requests) known more e = by
    (with_request rules known request)
    (λ middle. with_requests-grows rules requests middle more)
    (λ middle. with_request-grows rules known request middle) e
  where
    by : (r : Result (List A) E)
        → ((middle : List A)
        → with_requests rules (Ok middle) requests ≡ Ok more
        → Grows middle more)
        → ((middle : List A) → r ≡ Ok middle → Grows known middle)
        → with_requests rules r requests ≡ Ok more
        → Grows known more
    by (Ok middle) further first e = Grows-on (first middle refl) (further middle e)
    by (Err refusal) further first e = absurd (cc e)

-- what is left behind the first of it
drop-behind : {A : Type 0} (n : ℕ) (known extra : List A) (request : A) (rest : List A)
    → drop n known ≡ request ∷ rest
    → drop (n + 1) (known ++ extra) ≡ rest ++ extra
drop-behind {A} n known extra request rest e =
    let long : length (drop n known) ≡ suc (length rest) = ap length e in
    let within : n + 1 ≤ length known = omega (arith, length-drop n known, long) in
    drop-append-le (n + 1) known extra within
    ∙ ap (λ l. l ++ extra) (sym (drop-drop 1 n known) ∙ ap (drop 1) e)

with_level-refused : {A N E : Type 0} (walk : Walk A N E) (refusal : E) (level : List A)
    → with_level walk (Err refusal) level ≡ Err refusal
with_level-refused walk refusal [] = refl
with_level-refused walk refusal (request ∷ level) = refl

pub walk_on-refused : {A N E : Type 0} (walk : Walk A N E) (n : ℕ) (refusal : E)
    → walk_on walk n (Err refusal) ≡ Err refusal
unfolding walk_on
walk_on-refused walk zero refusal = refl
walk_on-refused walk (suc n) refusal = refl

pub walk_on-ended : {A N E : Type 0} (walk : Walk A N E) (n : ℕ) (walked : Walked A N)
    → next_level walked ≡ []
    → walk_on walk n (Ok walked) ≡ Ok walked
unfolding walk_on
walk_on-ended walk zero walked e = refl
walk_on-ended walk (suc n) walked e = ap (walk_next (walk_on walk n) walk walked) e

pub walk_on-step : {A N E : Type 0} (walk : Walk A N E) (n : ℕ) (walked : Walked A N) (request : A)
    (rest : List A)
    → next_level walked ≡ request ∷ rest
    → walk_on walk (suc n) (Ok walked) ≡ walk_on walk n (with_node walk walked (walk.read request))
unfolding walk_on
walk_on-step walk n walked request rest e = ap (walk_next (walk_on walk n) walk walked) e

-- a level is so many nodes
walk_on-level : {A N E : Type 0} (walk : Walk A N E) (level rest : List A) (walked : Walked A N)
    → next_level walked ≡ level ++ rest
    → (n m : ℕ)
    → n ≡ length level + m
    → walk_on walk n (Ok walked) ≡ walk_on walk m (with_level walk (Ok walked) level)
walk_on-level walk [] rest walked e n m sum =
    let same : n ≡ m = omega (arith, sum) in
    ap (λ k. walk_on walk k (Ok walked)) same
walk_on-level walk (request ∷ level) rest walked e zero m sum = absurd (omega (arith, sum))
walk_on-level {A} {N} {E} walk (request ∷ level) rest walked e (suc n) m sum =
    walk_on-step walk n walked request (level ++ rest) e
    ∙ by (walk.read request)
    (λ after more left. walk_on-level walk level more after left n m (omega (arith, sum)))
  where
    refused : (refusal : E)
        → walk_on walk n (Err refusal) ≡ walk_on walk m (with_level walk (Err refusal) level)
    refused refusal = walk_on-refused walk n refusal ∙ sym (walk_on-refused walk m refusal)
        ∙ ap (walk_on walk m) (sym (with_level-refused walk refusal level))

    added : (node : N) (r : Result (List A) E)
        → ((known : List A) → r ≡ Ok known → Grows walked.known known)
        → ((after : Walked A N) (more : List A)
        → next_level after ≡ level ++ more
        → walk_on walk n (Ok after) ≡ walk_on walk m (with_level walk (Ok after) level))
        → walk_on walk n (walked_with walked.nodes node r)
        ≡ walk_on walk m (with_level walk (walked_with walked.nodes node r) level)
    added node (Err refusal) grows further = refused refusal
    added node (Ok known) grows further =
        let grown : Grows walked.known known = grows known refl in
        further (record { known = known; nodes = walked.nodes ++ node ∷ [] }) (rest ++ grown.extra)
        (ap (λ k. drop k known) (length_push walked.nodes node)
        ∙ ap (drop (length walked.nodes + 1)) grown.behind
        ∙ drop-behind (length walked.nodes) walked.known grown.extra request (level ++ rest) e
        ∙ append_assoc level rest grown.extra)

    by : (read : Result N E)
        → ((after : Walked A N) (more : List A)
        → next_level after ≡ level ++ more
        → walk_on walk n (Ok after) ≡ walk_on walk m (with_level walk (Ok after) level))
        → walk_on walk n (with_node walk walked read)
        ≡ walk_on walk m (with_level walk (with_node walk walked read) level)
    by (Err refusal) further = refused refusal
    by (Ok node) further = added node
        (with_requests walk.rules (Ok walked.known) (walk.requests node))
        (with_requests-grows walk.rules (walk.requests node) walked.known) further

-- what a level leaves: one node a request, and of the requests all that were known
pub record AfterLevel {A N : Type 0} (P : List A → Type 0) (walked : Walked A N) (level : List A)
    (after : Walked A N) : Type 0 where
  pub holds : P after.known
  pub count : length after.nodes ≡ length walked.nodes + length level
  pub grows : length walked.known ≤ length after.known

-- the property of what is known is kept by each node that is read
abbrev pub Keeps : {A N E : Type 0} → Walk A N E → (List A → Type 0) → Type 0
Keeps {A} {N} walk P = (known more : List A) (request : A) (node : N)
    → P known
    → walk.read request ≡ Ok node
    → with_requests walk.rules (Ok known) (walk.requests node) ≡ Ok more
    → P more

with_level-after : {A N E : Type 0} (walk : Walk A N E) (P : List A → Type 0)
    → Keeps walk P
    → (level : List A) (walked after : Walked A N)
    → P walked.known
    → with_level walk (Ok walked) level ≡ Ok after
    → AfterLevel P walked level after
with_level-after walk P kept [] walked after holds e =
    let same : walked ≡ after = cc e in
    subst (AfterLevel P walked []) same
    (record { holds = holds; count = omega arith; grows = omega arith })
with_level-after {A} {N} {E} walk P kept (request ∷ level) walked after holds e =
    by (walk.read request) (λ node more. kept walked.known more request node holds)
    (λ middle. with_level-after walk P kept level middle after) e
  where
    added : (node : N) (r : Result (List A) E)
        → ((known : List A) → r ≡ Ok known → P known)
        → ((known : List A) → r ≡ Ok known → Grows walked.known known)
        → ((middle : Walked A N)
        → P middle.known
        → with_level walk (Ok middle) level ≡ Ok after
        → AfterLevel P middle level after)
        → with_level walk (walked_with walked.nodes node r) level ≡ Ok after
        → AfterLevel P walked (request ∷ level) after
    added node (Err refusal) holding grows further e = absurd
        (cc (sym (with_level-refused walk refusal level) ∙ e))
    added node (Ok known) holding grows further e =
        let grown : Grows walked.known known = grows known refl in
        let rest : AfterLevel P
        (record { known = known; nodes = walked.nodes ++ node ∷ [] }) level after = further
        (record { known = known; nodes = walked.nodes ++ node ∷ [] }) (holding known refl) e in
        record {
          holds = rest.holds;
          count = omega (arith, rest.count, length_push walked.nodes node);
          grows = omega (
            arith,
            rest.grows,
            ap length grown.behind ∙ length-append walked.known
                grown.extra,
          );
        }

    by : (read : Result N E)
        → ((node : N) (more : List A)
        → read ≡ Ok node
        → with_requests walk.rules (Ok walked.known) (walk.requests node) ≡ Ok more
        → P more)
        → ((middle : Walked A N)
        → P middle.known
        → with_level walk (Ok middle) level ≡ Ok after
        → AfterLevel P middle level after)
        → with_level walk (with_node walk walked read) level ≡ Ok after
        → AfterLevel P walked (request ∷ level) after
    by (Err refusal) keeping further e = absurd
        (cc (sym (with_level-refused walk refusal level) ∙ e))
    by (Ok node) keeping further e = added node
        (with_requests walk.rules (Ok walked.known) (walk.requests node))
        (λ known. keeping node known refl)
        (with_requests-grows walk.rules (walk.requests node) walked.known) further e

pub levels-refused : {A N E : Type 0} (walk : Walk A N E) (n : ℕ) (refusal : E)
    → levels walk n (Err refusal) ≡ Err refusal
unfolding levels
levels-refused walk zero refusal = refl
levels-refused walk (suc n) refusal = refl

levels-ended : {A N E : Type 0} (walk : Walk A N E) (n : ℕ) (walked : Walked A N)
    → next_level walked ≡ []
    → levels walk n (Ok walked) ≡ Ok walked
unfolding levels
levels-ended walk zero walked e = refl
levels-ended walk (suc n) walked e = ap
    (λ level. levels walk n (with_level walk (Ok walked) level)) e ∙ levels-ended walk n walked e

levels-step : {A N E : Type 0} (walk : Walk A N E) (n : ℕ) (walked : Walked A N)
    → levels walk (suc n) (Ok walked)
    ≡ levels walk n (with_level walk (Ok walked) (next_level walked))
unfolding levels
levels-step walk n walked = refl

-- so many levels come to the same as so many nodes, where both are enough
abbrev pub Agrees : {A N E : Type 0} → Walk A N E → (List A → Type 0) → ℕ → ℕ → Type 0
Agrees {A} {N} walk P most n = (walked : Walked A N) (m : ℕ)
    → P walked.known
    → length walked.nodes ≤ length walked.known
    → most ≤ n + length walked.nodes
    → most ≤ m + length walked.nodes
    → levels walk n (Ok walked) ≡ walk_on walk m (Ok walked)

-- level by level comes to the same as node by node, where no more is known than the turns allow
pub levels-walk_on : {A N E : Type 0} (walk : Walk A N E) (P : List A → Type 0) (most : ℕ)
    → ((known : List A) → P known → length known ≤ most)
    → Keeps walk P
    → (walked : Walked A N)
    → P walked.known
    → length walked.nodes ≤ length walked.known
    → (n m : ℕ)
    → most ≤ n + length walked.nodes
    → most ≤ m + length walked.nodes
    → levels walk n (Ok walked) ≡ walk_on walk m (Ok walked)
levels-walk_on walk P most bounded kept walked holds within zero m turns others =
    let ended : next_level walked
    ≡ [] = drop_of_length-le walked.known (omega (arith, bounded walked.known holds, turns)) in
    levels-ended walk 0 walked ended ∙ sym (walk_on-ended walk m walked ended)
levels-walk_on {A} {N} {E} walk P most bounded kept walked holds within (suc n) m turns others =
    levels-step walk n walked
    ∙ by (next_level walked) refl
    (λ after k now long. levels-walk_on walk P most bounded kept after now long n k)
  where
    left : length (next_level walked) + length walked.nodes ≡ length walked.known
    left = omega (arith, length-drop (length walked.nodes) walked.known, within)

    behind : (request : A) (level : List A)
        → length (request ∷ level) + length walked.nodes ≡ length walked.known
        → (k : ℕ)
        → m ≡ length (request ∷ level) + k
        → Agrees walk P most n
        → (r : Result (Walked A N) E)
        → ((after : Walked A N) → r ≡ Ok after → AfterLevel P walked (request ∷ level) after)
        → levels walk n r ≡ walk_on walk k r
    behind request level count k sum further (Err refusal) leaves = levels-refused walk n refusal
        ∙ sym (walk_on-refused walk k refusal)
    behind request level count k sum further (Ok after) leaves =
        let left_by : AfterLevel P walked (request ∷ level) after = leaves after refl in
        further after k left_by.holds (omega (arith, left_by.count, left_by.grows, count))
        (omega (arith, left_by.count, turns)) (omega (arith, left_by.count, others, sum))

    by : (level : List A)
        → next_level walked ≡ level
        → Agrees walk P most n
        → levels walk n (with_level walk (Ok walked) (next_level walked))
        ≡ walk_on walk m (Ok walked)
    by [] e further = ap (λ l. levels walk n (with_level walk (Ok walked) l)) e
        ∙ levels-ended walk n walked e ∙ sym (walk_on-ended walk m walked e)
    by (request ∷ level) e further =
        let count : length (request ∷ level) + length walked.nodes
        ≡ length walked.known = ap (λ l. length l + length walked.nodes) (sym e) ∙ left in
        let sum : m ≡ length (request ∷ level) + (m - length (request ∷ level)) = omega (
          arith,
          count,
          bounded walked.known holds,
          others,
        ) in
        ap (λ l. levels walk n (with_level walk (Ok walked) l)) e
        ∙ behind request level count (m - length (request ∷ level)) sum further
        (with_level walk (Ok walked) (request ∷ level))
        (λ after. with_level-after walk P kept (request ∷ level) walked after holds)
        ∙ sym (walk_on-level walk (request ∷ level) [] walked (e ∙ sym (append-nil (request ∷
        level))) m (m
        - length (request ∷ level)) sum)
