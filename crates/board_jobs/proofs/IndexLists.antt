-- Lists of numbers that grow.
use Rattle.std.proofs.Common.{◌≡◌, ◌≢◌, ℕ, zero, suc, ◌+◌, ◌<◌, ◌≤◌, ◌==◌, Bool, true, false, List, []}
use Rattle.std.proofs.Common.{◌∷◌, ◌++◌, length, refl, ap, sym, ◌∙◌, subst, arith, cond, nat_lt}
use Rattle.std.proofs.Common.{Option, Some, None, slice_get, slice_set, get_or}
use Rattle.std.proofs.lemmas.Bool.Decides.{nat_tests}
use Rattle.std.specs.List.{All}
use Rattle.std.specs.Ordering.{nat_cmp, is_gt, match_ordering}
use Rattle.std.specs.declared.cmp.Ordering.{Ordering}
use Rattle.std.specs.declared.cmp.Ordering.TheVariants.{Less, Equal, Greater}
use Rattle.std.specs.BTreeMap.Range.{IsLeBy}
use Rattle.std.specs.BTreeSet.{insert_key}
use Rattle.board_jobs.specs.Indexes.{Has, HasAll, Index, IsWider, here, further, list_at, some_list}

pub has-front : {n : ℕ} {ns : List ℕ} (more : List ℕ) → Has n ns → Has n (ns ++ more)
has-front more (here e) = here e
has-front more (further h) = further (has-front more h)

pub has-last : (n : ℕ) (ns : List ℕ) → Has n (ns ++ n ∷ [])
has-last n [] = here refl
has-last n (m ∷ ns) = further (has-last n ns)

equal-is : (n m : ℕ) → nat_cmp n m ≡ Equal → n ≡ m
equal-is n m e = go (nat_lt n m) (n == m) refl refl
  where
    go : (b c : Bool) → nat_lt n m ≡ b → (n == m) ≡ c → n ≡ m
    go true c eb ec = let less : nat_cmp n m ≡ Less = rw eb refl in absurd (cc)
    go false true eb ec = grind (arith, nat_tests)
    go false false eb ec = let more : nat_cmp n m ≡ Greater = rw (eb, ec) refl in absurd (cc)

pub has-inserted : (n : ℕ) (ns : List ℕ) → Has n (insert_key nat_cmp ns n)
has-inserted n [] = here refl
has-inserted n (m ∷ ns) = go (nat_cmp n m) refl (has-inserted n ns)
  where
    go : (o : Ordering) → nat_cmp n m ≡ o → Has n (insert_key nat_cmp ns n)
        → Has n (match_ordering o (n ∷ m ∷ ns) (m ∷ ns) (m ∷ insert_key nat_cmp ns n))
    go Less e h = here refl
    go Equal e h = here (sym (equal-is n m e))
    go Greater e h = further h

pub has-kept : (n k : ℕ) (ns : List ℕ) → Has k ns → Has k (insert_key nat_cmp ns n)
has-kept n k [] h = further h
has-kept n k (m ∷ ns) h = go (nat_cmp n m) h (λ has. has-kept n k ns has)
  where
    go : (o : Ordering) → Has k (m ∷ ns) → (Has k ns → Has k (insert_key nat_cmp ns n))
        → Has k (match_ordering o (n ∷ m ∷ ns) (m ∷ ns) (m ∷ insert_key nat_cmp ns n))
    go Less h on = further h
    go Equal h on = h
    go Greater (here e) on = here e
    go Greater (further h) on = further (on h)

pub least-all : (n : ℕ) (ns : List ℕ) → All (IsLeBy nat_cmp n) ns → (k : ℕ) → Has k ns → n ≤ k
least-all n [] all k h = elim h [ ]
least-all n (m ∷ ns) all k (here e) =
    let first : is_gt (nat_cmp n m) ≡ false = all 0 0 (omega arith) in
    go (nat_lt n m) (n == m) refl refl first
  where
    go : (b c : Bool) → nat_lt n m ≡ b → (n == m) ≡ c → is_gt (nat_cmp n m) ≡ false → n ≤ k
    go true c eb ec f = grind (arith, nat_tests)
    go false true eb ec f = grind (arith, nat_tests)
    go false false eb ec f =
        let more : is_gt (nat_cmp n m) ≡ true = rw (eb, ec) refl in absurd (cc)
least-all n (m ∷ ns) all k (further h) =
    least-all n ns (λ at d less. all (suc at) d (omega (arith, less))) k h

-- one empty list more
pub list_at-more : (lists : List (List ℕ)) (at : ℕ) → list_at (lists ++ [] ∷ []) at ≡ list_at lists at
list_at-more [] zero = refl
list_at-more [] (suc at) = refl
list_at-more (ns ∷ lists) zero = refl
list_at-more (ns ∷ lists) (suc at) = list_at-more lists at

pub more_has : (old now new : List (List ℕ)) → HasAll old now → new ≡ now ++ [] ∷ []
    → HasAll old new
more_has old now new all is place at h =
    subst (λ lists. Has at (list_at lists place)) (sym is)
    (subst (λ ns. Has at ns) (sym (list_at-more now place)) (all place at h))

-- one number more in the list at a place
pub pushed_has : (lists : List (List ℕ)) (at n : ℕ) (list : List ℕ) → slice_get lists at ≡ Some list
    → HasAll lists (slice_set lists at (list ++ n ∷ []))
pushed_has [] at n list is place k h = absurd (cc)
pushed_has (ns ∷ lists) zero n list is zero k h =
    let same : ns ≡ list = cc in has-front (n ∷ []) (subst (λ all. Has k all) same h)
pushed_has (ns ∷ lists) zero n list is (suc place) k h = h
pushed_has (ns ∷ lists) (suc at) n list is zero k h = h
pushed_has (ns ∷ lists) (suc at) n list is (suc place) k h =
    pushed_has lists at n list is place k h

pub pushed_there : (lists : List (List ℕ)) (at n : ℕ) (list : List ℕ)
    → slice_get lists at ≡ Some list
    → Has n (list_at (slice_set lists at (list ++ n ∷ [])) at)
pushed_there [] at n list is = absurd (cc)
pushed_there (ns ∷ lists) zero n list is = has-last n list
pushed_there (ns ∷ lists) (suc at) n list is = pushed_there lists at n list is

-- a longer queue
pub wider_queue : (queue more : List ℕ) (waiting reading : List (List ℕ)) (valued : ℕ)
    → ((at : ℕ) → Has at queue → Has at more)
    → IsWider (record { queue = queue; waiting = waiting; reading = reading; valued = valued })
    (record { queue = more; waiting = waiting; reading = reading; valued = valued })
wider_queue queue more waiting reading valued all =
    record {
      queue = all;
      waiting = λ place at has. has;
      reading = λ place at has. has;
      valued = omega arith;
    }
