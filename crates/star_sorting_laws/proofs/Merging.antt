-- Merging keeps lists in order and keeps what a test can't tell apart in its place, for any test
-- that is one.
use Rattle.std.proofs.Common.{◌≡◌, ◌∙◌, ℕ, zero, suc, ◌+◌, ◌/◌, ◌^◌, ◌≤◌, ap, arith}
use Rattle.std.proofs.Common.{All, Bool, true, false, cond, filter, nat_lt, if◌then◌else◌, refl}
use Rattle.std.proofs.Common.{List, [], ◌∷◌, ◌++◌, append-nil, append_assoc, length, length-drop}
use Rattle.std.proofs.Common.{length-take, drop, take, slice_index_or, subst, sym}
use Rattle.std.proofs.Common.{IfOk, IsPermutation, Result, Ok, Err}
use Rattle.std.proofs.Math.Nat.{pow-suc}
use Rattle.std.proofs.lemmas.Bool.Decides.{nat_tests}
use Rattle.std.proofs.lemmas.List.{take-append-drop}
use Rattle.std.proofs.lemmas.List.Elements.{All-append, All-cons, All-drop, All-head, All-nil}
use Rattle.std.proofs.lemmas.List.Elements.{All-tail, All-take, filter-append}
use Rattle.std.proofs.lemmas.List.Sorted.{All-permutation}
use Rattle.star_calls.specs.Values.{result_then}
use Rattle.star_core.specs.declared.dict.Pair.{Pair}
use Rattle.star_core.specs.declared.faults.Fault.{Fault}
use Rattle.star_sorting.specs.Sorting.{Test, count_before, counted, halves_sorted, in_front, merged}
use Rattle.star_sorting.specs.Sorting.{sorted_within}
use Rattle.star_sorting_laws.proofs.Permutations.{Permutes, merged_permutes}

-- what has to come before another is an order of the pairs that it answers for
pub record IsOrdering (before : Test) : Type 0 where
  pub asymmetric : (one other : Pair) → before one other ≡ Ok true → before other one ≡ Ok false
  pub goes_on : (one middle other : Pair)
      → before middle one ≡ Ok false
      → before other middle ≡ Ok false
      → before other one ≡ Ok false
  pub precedes : (one middle other : Pair)
      → before one middle ≡ Ok true
      → before other middle ≡ Ok false
      → before one other ≡ Ok true

-- pairs that a test passes, of which none has to come before another
abbrev pub IsAlike : Test → (Pair → Bool) → Type 0
IsAlike before same = (one other : Pair)
    → same one ≡ true
    → same other ≡ true
    → before one other ≡ Ok false

module _ (before : Test) where
  -- no pair of a list has to come before this one
  abbrev pub Above : Pair → List Pair → Type 0
  Above one others = All (λ other. before other one ≡ Ok false) others

  abbrev pub InOrder : List Pair → Type 0
  InOrder [] = Unit {0}
  InOrder (one ∷ more) = Above one more × InOrder more

  -- each pair of a list is followed by those of another
  abbrev pub Under : List Pair → List Pair → Type 0
  Under [] others = Unit {0}
  Under (one ∷ more) others = Above one others × Under more others

  -- each pair of a list has to come before this one
  abbrev pub AllBefore : List Pair → Pair → Type 0
  AllBefore [] one = Unit {0}
  AllBefore (other ∷ others) one = (before other one ≡ Ok true) × AllBefore others one

  joined_in_order : (fronts others : List Pair)
      → InOrder fronts
      → InOrder others
      → Under fronts others
      → InOrder (fronts ++ others)
  joined_in_order [] others first second under = second
  joined_in_order (one ∷ more) others first second under = (
    All-append (λ other. before other one ≡ Ok false) more others first.0 under.0,
    joined_in_order more others first.1 second under.1,
  )

  taken_in_order : (count : ℕ) (pairs : List Pair) → InOrder pairs → InOrder (take count pairs)
  taken_in_order zero pairs is = tt
  taken_in_order (suc count) [] is = tt
  taken_in_order (suc count) (one ∷ more) is = (
    All-take (λ other. before other one ≡ Ok false) count more is.0,
    taken_in_order count more is.1,
  )

  dropped_in_order : (count : ℕ) (pairs : List Pair) → InOrder pairs → InOrder (drop count pairs)
  dropped_in_order zero pairs is = is
  dropped_in_order (suc count) [] is = tt
  dropped_in_order (suc count) (one ∷ more) is = dropped_in_order count more is.1

  -- what is taken is followed by what is left
  taken_under : (count : ℕ) (pairs : List Pair)
      → InOrder pairs
      → Under (take count pairs) (drop count pairs)
  taken_under zero pairs is = tt
  taken_under (suc count) [] is = tt
  taken_under (suc count) (one ∷ more) is = (
    All-drop (λ other. before other one ≡ Ok false) count more is.0,
    taken_under count more is.1,
  )

  -- one more list that is followed
  under_pushed : (fronts : List Pair) (one : Pair) (others : List Pair)
      → Under fronts others
      → Above one others
      → Under (fronts ++ one ∷ []) others
  under_pushed [] one others under above = (above, tt)
  under_pushed (front ∷ fronts) one others under above =
      (under.0, under_pushed fronts one others under.1 above)

  -- followed by two lists is followed by any list of the same pairs
  under_merged : (fronts more others : List Pair) (all : List Pair)
      → Under fronts more
      → Under fronts others
      → IsPermutation (more ++ others) all
      → Under fronts all
  under_merged [] more others all first second is = tt
  under_merged (one ∷ fronts) more others all first second is = (
    All-permutation (λ other. before other one ≡ Ok false) (more ++ others) all is
        (All-append (λ other. before other one ≡ Ok false) more others first.0 second.0),
    under_merged fronts more others all first.1 second.1 is,
  )

module _ (before : Test) (is : IsOrdering before) where
  -- what follows one follows what that one follows
  above_on : (one next : Pair) (others : List Pair)
      → before next one ≡ Ok false
      → Above before next others
      → Above before one others
  above_on one next others first all =
      λ k d within. is.goes_on one next (slice_index_or others k d) first (all k d within)

  -- what has to come before one is followed by what that is followed by
  under_on : (fronts : List Pair) (one : Pair) (more : List Pair)
      → AllBefore before fronts one
      → Above before one more
      → Under before fronts more
  under_on [] one more all above = tt
  under_on (other ∷ others) one more all above = (
    above_on other one more (is.asymmetric other one all.0) above,
    under_on others one more all.1 above,
  )

  under_one : (fronts : List Pair) (one : Pair)
      → AllBefore before fronts one
      → Under before fronts (one ∷ [])
  under_one [] one all = tt
  under_one (other ∷ others) one all = (
    All-cons (λ later. before later other ≡ Ok false) one []
        (is.asymmetric other one all.0) (All-nil (λ later. before later other ≡ Ok false)),
    under_one others one all.1,
  )

  -- a count says which pairs have to come before one, and that no other has to
  abbrev pub Counts : Pair → List Pair → ℕ → Type 0
  Counts one others count =
      AllBefore before (take count others) one × Above before one (drop count others)

  counted_on : (one other : Pair) (others : List Pair) (test : Result Bool Fault)
      (rest : Result ℕ Fault)
      → before other one ≡ test
      → InOrder before (other ∷ others)
      → IfOk rest (λ count. Counts one others count)
      → IfOk (counted test rest) (λ count. Counts one (other ∷ others) count)
  counted_on one other others (Err reason) rest test_is ordered rest_is = tt
  counted_on one other others (Ok false) rest test_is ordered rest_is = (
    tt,
    All-cons (λ later. before later one ≡ Ok false) other others test_is
        (above_on one other others test_is ordered.0),
  )
  counted_on one other others (Ok true) (Err reason) test_is ordered rest_is = tt
  counted_on one other others (Ok true) (Ok count) test_is ordered rest_is =
      ((test_is, rest_is.0), rest_is.1)

  counts : (one : Pair) (others : List Pair)
      → InOrder before others
      → IfOk (count_before before one others) (λ count. Counts one others count)
  counts one [] ordered = (tt, All-nil (λ later. before later one ≡ Ok false))
  counts one (other ∷ others) ordered =
      counted_on one other others (before other one) (count_before before one others) refl ordered
      (counts one others ordered.1)

  -- what is merged behind one is in order where the rest is
  placed : (one : Pair) (more front back : List Pair) (rest : Result (List Pair) Fault)
      → InOrder before (one ∷ more)
      → InOrder before front
      → Under before front back
      → AllBefore before front one
      → Above before one back
      → Permutes (more ++ back) rest
      → IfOk rest (InOrder before)
      → IfOk (in_front (front ++ one ∷ []) rest) (InOrder before)
  placed one more front back (Err reason) first ordered under all above same rest_is = tt
  placed one more front back (Ok rest) first ordered under all above same rest_is =
      joined_in_order before (front ++ one ∷ []) rest
      (joined_in_order before front (one ∷ []) ordered
      (All-nil (λ later. before later one ≡ Ok false), tt) (under_one front one all))
      rest_is
      (under_merged before (front ++ one ∷ []) more back rest
      (under_pushed before front one more (under_on front one more all first.0) first.0)
      (under_pushed before front one back under above) same)

  merged_by : (one : Pair) (more others : List Pair) (count : Result ℕ Fault)
      → InOrder before (one ∷ more)
      → InOrder before others
      → IfOk count (λ n. Counts one others n)
      → ((n : ℕ) → IfOk (merged before more (drop n others)) (InOrder before))
      → IfOk (result_then count (λ n. in_front (take n others ++ one ∷ [])
      (merged before more (drop n others)))) (InOrder before)
  merged_by one more others (Err reason) first second counted rest = tt
  merged_by one more others (Ok n) first second counted rest =
      placed one more (take n others) (drop n others) (merged before more (drop n others)) first
      (taken_in_order before n others second) (taken_under before n others second) counted.0
      counted.1 (merged_permutes before more (drop n others)) (rest n)

  pub merged_in_order : (fronts others : List Pair)
      → InOrder before fronts
      → InOrder before others
      → IfOk (merged before fronts others) (InOrder before)
  merged_in_order [] others first second = second
  merged_in_order (one ∷ more) others first second =
      merged_by one more others (count_before before one others) first second
      (counts one others second)
      (λ n. merged_in_order more (drop n others) first.1 (dropped_in_order before n others second))

-- four lists, of which the first changes its place with the next two
regrouped : (front one more back : List Pair)
    → front ++ (one ++ more) ≡ (one ++ more) ++ front
    → (front ++ one) ++ (more ++ back) ≡ (one ++ more) ++ (front ++ back)
regrouped front one more back is =
    append_assoc front one (more ++ back)
    ∙ ap (λ rest. front ++ rest) (sym (append_assoc one more back))
    ∙ sym (append_assoc front (one ++ more) back)
    ∙ ap (λ all. all ++ back) is
    ∙ append_assoc (one ++ more) front back

module _ (before : Test) (is : IsOrdering before) (same : Pair → Bool)
    (alike : IsAlike before same) where
  -- no pair of a list passes the test
  abbrev pub NoneSame : List Pair → Type 0
  NoneSame [] = Unit {0}
  NoneSame (one ∷ more) = (same one ≡ false) × NoneSame more

  none_filtered : (pairs : List Pair) → NoneSame pairs → filter same pairs ≡ []
  none_filtered [] none = refl
  none_filtered (one ∷ more) none = rw none.0 (none_filtered more none.1)

  apart : (one other : Pair) (test : Bool)
      → same one ≡ true
      → before one other ≡ Ok true
      → same other ≡ test
      → test ≡ false
  apart one other false passes comes test_is = refl
  apart one other true passes comes test_is =
      let not : Ok true ≡ Ok false = sym comes ∙ alike one other passes test_is in absurd (cc)

  none_behind : (first one : Pair) (more : List Pair)
      → same first ≡ true
      → before first one ≡ Ok true
      → Above before one more
      → NoneSame more
  none_behind first one [] passes comes above = tt
  none_behind first one (other ∷ more) passes comes above = (
    apart first other (same other) passes
        (is.precedes first one other comes
        (All-head (λ later. before later one ≡ Ok false) other more above)) refl,
    none_behind first one more passes comes
        (All-tail (λ later. before later one ≡ Ok false) other more above),
  )

  commuted_on : (first one : Pair) (more fronts : List Pair) (test : Bool)
      → same first ≡ test
      → before first one ≡ Ok true
      → Above before one more
      → filter same fronts ++ filter same (one ∷ more)
      ≡ filter same (one ∷ more) ++ filter same fronts
      → cond test (first ∷ filter same fronts) (filter same fronts) ++ filter same (one ∷ more)
      ≡ filter same (one ∷ more) ++ cond test (first ∷ filter same fronts) (filter same fronts)
  commuted_on first one more fronts false test_is comes above rest = rest
  commuted_on first one more fronts true test_is comes above rest =
      let none : filter same (one ∷ more) ≡ [] =
      none_filtered (one ∷ more) (
        apart first one (same one) test_is comes refl,
        none_behind first one more test_is comes above,
      ) in
      ap (λ others. (first ∷ filter same fronts) ++ others) none
      ∙ append-nil (first ∷ filter same fronts)
      ∙ ap (λ others. others ++ (first ∷ filter same fronts)) (sym none)

  -- those that have to come before one and what passes the test behind it
  commuted : (one : Pair) (more fronts : List Pair)
      → AllBefore before fronts one
      → Above before one more
      → filter same fronts ++ filter same (one ∷ more)
      ≡ filter same (one ∷ more) ++ filter same fronts
  commuted one more [] all above = sym (append-nil (filter same (one ∷ more)))
  commuted one more (first ∷ fronts) all above =
      commuted_on first one more fronts (same first) refl all.0 above
      (commuted one more fronts all.1 above)

  placed_stably : (one : Pair) (more front back : List Pair) (rest : Result (List Pair) Fault)
      → AllBefore before front one
      → Above before one more
      → IfOk rest (λ all. filter same all ≡ filter same more ++ filter same back)
      → IfOk (in_front (front ++ one ∷ []) rest)
      (λ all. filter same all ≡ filter same (one ∷ more) ++ filter same (front ++ back))
  placed_stably one more front back (Err reason) all above rest_is = tt
  placed_stably one more front back (Ok rest) all above rest_is =
      let whole : filter same (one ∷ more) ≡ filter same (one ∷ []) ++ filter same more =
      filter-append same (one ∷ []) more in
      filter-append same (front ++ one ∷ []) rest
      ∙ ap (λ left. left ++ filter same rest) (filter-append same front (one ∷ []))
      ∙ ap (λ right. (filter same front ++ filter same (one ∷ [])) ++ right) rest_is
      ∙ regrouped (filter same front) (filter same (one ∷ [])) (filter same more) (filter same back)
      (ap (λ right. filter same front ++ right) (sym whole)
      ∙ commuted one more front all above
      ∙ ap (λ left. left ++ filter same front) whole)
      ∙ ap (λ left. left ++ (filter same front ++ filter same back)) (sym whole)
      ∙ ap (λ right. filter same (one ∷ more) ++ right) (sym (filter-append same front back))

  merged_stably_by : (one : Pair) (more others : List Pair) (count : Result ℕ Fault)
      → InOrder before (one ∷ more)
      → IfOk count (λ n. Counts before is one others n)
      → ((n : ℕ) → IfOk (merged before more (drop n others))
      (λ all. filter same all ≡ filter same more ++ filter same (drop n others)))
      → IfOk (result_then count (λ n. in_front (take n others ++ one ∷ [])
      (merged before more (drop n others))))
      (λ all. filter same all ≡ filter same (one ∷ more) ++ filter same others)
  merged_stably_by one more others (Err reason) first counted rest = tt
  merged_stably_by one more others (Ok n) first counted rest =
      subst (λ whole. IfOk (in_front (take n others ++ one ∷ [])
      (merged before more (drop n others)))
      (λ all. filter same all ≡ filter same (one ∷ more) ++ filter same whole))
      (take-append-drop n others)
      (placed_stably one more (take n others) (drop n others) (merged before more (drop n others))
      counted.0 first.0 (rest n))

  pub merged_stably : (fronts others : List Pair)
      → InOrder before fronts
      → InOrder before others
      → IfOk (merged before fronts others)
      (λ all. filter same all ≡ filter same fronts ++ filter same others)
  merged_stably [] others first second = refl
  merged_stably (one ∷ more) others first second =
      merged_stably_by one more others (count_before before one others) first
      (counts before is one others second)
      (λ n. merged_stably more (drop n others) first.1 (dropped_in_order before n others second))

  -- a result that is these pairs in order, of which those that pass the test keep theirs
  abbrev pub Sorts : List Pair → Result (List Pair) Fault → Type 0
  Sorts pairs result =
      IfOk result (λ all. InOrder before all × (filter same all ≡ filter same pairs))

  both_parts : (pairs : List Pair) (result : Result (List Pair) Fault)
      → IfOk result (InOrder before)
      → IfOk result (λ all. filter same all ≡ filter same pairs)
      → Sorts pairs result
  both_parts pairs (Ok all) ordered stably = (ordered, stably)
  both_parts pairs (Err reason) ordered stably = tt

  both_halves : (front back : List Pair) (fronts backs : Result (List Pair) Fault)
      → Sorts front fronts
      → Sorts back backs
      → Sorts (front ++ back)
      (result_then fronts (λ one. result_then backs (λ other. merged before one other)))
  both_halves front back (Err reason) backs first second = tt
  both_halves front back (Ok one) (Err reason) first second = tt
  both_halves front back (Ok one) (Ok other) first second =
      both_parts (front ++ back) (merged before one other)
      (merged_in_order before is one other first.0 second.0)
      (subst (λ whole. IfOk (merged before one other) (λ all. filter same all ≡ whole))
      (ap (λ left. left ++ filter same other) first.1
      ∙ ap (λ right. filter same front ++ right) second.1
      ∙ sym (filter-append same front back))
      (merged_stably one other first.0 second.0))

  short_in_order : (pairs : List Pair) → length pairs ≤ 1 → InOrder before pairs
  short_in_order [] short = tt
  short_in_order (one ∷ []) short = (All-nil (λ later. before later one ≡ Ok false), tt)
  short_in_order (one ∷ other ∷ more) short = absurd (omega arith)

  layer : (sorted : List Pair → Result (List Pair) Fault) (pairs : List Pair) (short : Bool)
      → nat_lt (length pairs) 2 ≡ short
      → Sorts (take (length pairs / 2) pairs) (sorted (take (length pairs / 2) pairs))
      → Sorts (drop (length pairs / 2) pairs) (sorted (drop (length pairs / 2) pairs))
      → Sorts pairs (if short then Ok pairs else halves_sorted sorted before pairs)
  layer sorted pairs true short_is first second =
      (short_in_order pairs (grind (arith, nat_tests)), refl)
  layer sorted pairs false short_is first second =
      subst (λ whole. Sorts whole (halves_sorted sorted before pairs))
      (take-append-drop (length pairs / 2) pairs)
      (both_halves (take (length pairs / 2) pairs) (drop (length pairs / 2) pairs)
      (sorted (take (length pairs / 2) pairs)) (sorted (drop (length pairs / 2) pairs))
      first second)

  pub within_sorts : (depth : ℕ) (pairs : List Pair)
      → length pairs ≤ 2 ^ depth
      → Sorts pairs (sorted_within depth before pairs)
  unfolding sorted_within
  within_sorts zero pairs fits = (short_in_order pairs fits, refl)
  within_sorts (suc depth) pairs fits =
      let doubled : 2 ^ suc depth ≡ 2 ^ depth + 2 ^ depth = grind (arith, pow-suc) in
      let front : length (take (length pairs / 2) pairs) ≤ 2 ^ depth =
      simp length-take (omega (arith, doubled, fits)) in
      let back : length (drop (length pairs / 2) pairs) ≤ 2 ^ depth =
      simp length-drop (omega (arith, doubled, fits)) in
      layer (sorted_within depth before) pairs (nat_lt (length pairs) 2) refl
      (within_sorts depth (take (length pairs / 2) pairs) front)
      (within_sorts depth (drop (length pairs / 2) pairs) back)
