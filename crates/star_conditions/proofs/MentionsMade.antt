-- What is made, beside the functions of which it speaks: each of those that are added is mentioned
-- once, by the value or by the code of another.
use Rattle.std.proofs.Common.{◌≡◌, ℕ, zero, suc, ◌+◌, ◌<◌, ◌≢◌, Bool, true, false, true≢false, eqb}
use Rattle.std.proofs.Common.{cond, List, [], ◌∷◌, ◌++◌, length, map, get_or, set, All, arith}
use Rattle.std.proofs.Common.{append-nil, append_assoc, ap, refl, sym, subst, ◌∙◌, length-append}
use Rattle.std.proofs.Math.Seq.{get_or-append_seam}
use Rattle.std.proofs.lemmas.Bool.{eqb-true, eqb-false}
use Rattle.std.proofs.lemmas.List.Elements.{All-append, All-cons, All-nil, All-same, All-weaker}
use Rattle.star_conditions.proofs.Made.{set-behind}
use Rattle.star_conditions.proofs.Trees.{Lists}
use Rattle.star_scopes.specs.Making.{Making, ◌>>=◌, ◌>>◌, pure, each, begin, finish, load}
use Rattle.star_trees.specs.Functions.{unfinished_code}
use Rattle.star_trees.specs.Mentions.{Fits, Mention, all_mentions, is_code_of, mention_count}
use Rattle.star_trees.specs.Mentions.{mentions_of_code}
use Rattle.star_trees.specs.declared.files.FnCode.{FnCode}
use Rattle.star_trees.specs.declared.loads.Load.{Load}

-- ---- how often an index is mentioned

pub count-append : (i : ℕ) (xs ys : List Mention)
    → mention_count i (xs ++ ys) ≡ mention_count i xs + mention_count i ys
count-append i [] ys = omega arith
count-append i (x ∷ xs) ys = let more = count-append i xs ys in omega (arith, more)

-- the functions of which some codes speak
abbrev pub of_codes : List FnCode → List Mention
of_codes codes = all_mentions (map mentions_of_code codes)

all_mentions-append : (xs ys : List FnCode)
    → of_codes (xs ++ ys) ≡ of_codes xs ++
    of_codes ys
all_mentions-append [] ys = refl
all_mentions-append (x ∷ xs) ys =
    ap (λ more. mentions_of_code x ++ more) (all_mentions-append xs ys)
    ∙ sym (append_assoc (mentions_of_code x) (of_codes xs) (of_codes ys))

-- 1 for an index below a number, and else 0
pub below : ℕ → ℕ → ℕ
below zero i = 0
below (suc n) zero = 1
below (suc n) (suc i) = below n i

pub below-in : (n i : ℕ) → i < n → below n i ≡ 1
unfolding below
below-in zero i less = absurd (omega (arith, less))
below-in (suc n) zero less = refl
below-in (suc n) (suc i) less = below-in n i (omega (arith, less))

pub below-none : (i : ℕ) → below 0 i ≡ 0
unfolding below
below-none i = refl

below-same : (n : ℕ) → below n n ≡ 0
unfolding below
below-same zero = refl
below-same (suc n) = below-same n

below-next : (n i : ℕ) → n ≢ i → below (suc n) i ≡ below n i
unfolding below
below-next zero zero apart = absurd (apart refl)
below-next zero (suc i) apart = refl
below-next (suc n) zero apart = refl
below-next (suc n) (suc i) apart = below-next n i (λ same. apart (ap suc same))

one-more : (n i : ℕ) → cond (eqb n i) 1 0 + below n i ≡ below (suc n) i
one-more n i = by (eqb n i) refl
  where
    by : (t : Bool) → eqb n i ≡ t → cond t 1 0 + below n i ≡ below (suc n) i
    by true is =
        let same = eqb-true n i is in
        let none = subst (λ k. below n k ≡ 0) same (below-same n) in
        let one = below-in (suc n) i (omega (arith, same)) in
        omega (arith, none, one)
    by false is = let next = below-next n i (eqb-false n i is) in omega (arith, next)

-- ---- codes that are what is said of them

nothing-unfinished : (defines : Bool) → is_code_of defines unfinished_code ≡ true → ⊥
nothing-unfinished true so = true≢false (sym so)
nothing-unfinished false so = true≢false (sym so)

-- further codes leave those before as they are
code-behind : (defines : Bool) (xs more : List FnCode) (i : ℕ)
    → is_code_of defines (get_or xs i unfinished_code) ≡ true
    → is_code_of defines (get_or (xs ++ more) i unfinished_code) ≡ true
code-behind defines [] more i so = absurd (nothing-unfinished defines so)
code-behind defines (x ∷ xs) more zero so = so
code-behind defines (x ∷ xs) more (suc i) so = code-behind defines xs more i so

-- and so does a code that is put at an index that was taken
code-put : (defines : Bool) (xs more : List FnCode) (code : FnCode) (i : ℕ)
    → is_code_of defines (get_or ((xs ++ unfinished_code ∷ []) ++ more) i unfinished_code) ≡ true
    → is_code_of defines (get_or (xs ++ code ∷ more) i unfinished_code) ≡ true
code-put defines [] more code zero so = absurd (nothing-unfinished defines so)
code-put defines [] more code (suc i) so = so
code-put defines (x ∷ xs) more code zero so = so
code-put defines (x ∷ xs) more code (suc i) so = code-put defines xs more code i so

all-behind : (before after more : List FnCode)
    → after ≡ before ++ more
    → (mentions : List Mention)
    → All (Fits before) mentions
    → All (Fits after) mentions
all-behind before after more is mentions all =
    All-weaker (Fits before) (Fits after) (λ mention so.
    subst (λ functions. Fits functions mention) (sym is)
    (code-behind mention.defines before more mention.index so)) mentions all

-- ---- makings

-- what holds after a value is made that is to speak of functions that are known and of those that
-- are added
pub record Told {A : Type 0} (mentions : A → List Mention) (known : List Mention)
    (before : Lists) (made : A × Lists) : Type 0 where
  pub more : List FnCode
  pub is : made.1.functions ≡ before.functions ++ more
  pub counted : (i : ℕ)
      → mention_count i (mentions made.0) + mention_count i
      (of_codes more) + below (length before.functions) i ≡
      mention_count i known + below (length before.functions + length more) i
  pub value_fits : All (Fits before.functions) known → All (Fits made.1.functions) (mentions made.0)
  pub codes_fit : All (Fits before.functions) known
      → All (Fits made.1.functions) (of_codes more)

-- a making whose value speaks of what is known and of what it adds
abbrev pub Tells : {A : Type 0} → (A → List Mention) → List Mention → Making A → Type 0
Tells mentions known making = (lists : Lists) → Told mentions known lists (making lists)

pub done : {A : Type 0} {mentions : A → List Mention} {known : List Mention} (a : A)
    → mentions a ≡ known
    → Tells mentions known (pure a)
done {mentions} {known} a is lists = record {
  more = [];
  is = sym (append-nil lists.functions);
  counted = λ i.
      let same = ap (mention_count i) is in
      let none_length : length lists.functions ≡ length lists.functions + 0 = omega arith in
      let none = ap (λ n. below n i) none_length in
      omega (arith, same, none);
  value_fits = λ all. All-same (Fits lists.functions) (mentions a) known is all;
  codes_fit = λ all. All-nil (Fits lists.functions);
}

-- a making, and what comes behind it
pub then :
    {A B : Type 0} {f : A → List Mention} {g : B → List Mention} {known : List Mention}
    {making : Making A} {next : A → Making B}
    → Tells f [] making
    → ((a : A) → Tells g (known ++ f a) (next a)) → Tells g known (making >>= next)
then {f} {g} {known} {making} {next} tells goes lists =
    let before = lists.functions in
    let first = tells lists in
    let a = (making lists).0 in
    let between = (making lists).1.functions in
    let second = goes a (making lists).1 in
    let after = (next a (making lists).1).1.functions in
    let both : All (Fits before) known → All (Fits between) (known ++ f a) = λ all.
    All-append (Fits between) known (f a)
    (all-behind before between first.more first.is known all)
    (first.value_fits (All-nil (Fits before))) in
    record {
      more = first.more ++ second.more;
      is =
          second.is ∙ ap (λ functions. functions ++ second.more) first.is
          ∙ append_assoc before first.more second.more;
      counted = λ i.
          let long = ap length first.is ∙ length-append before first.more in
          let one = first.counted i in
          let two = second.counted i in
          let split = count-append i known (f a) in
          let codes =
          ap (mention_count i) (all_mentions-append first.more second.more)
          ∙ count-append i (of_codes first.more) (of_codes second.more) in
          let here = ap (λ n. below n i) long in
          let end_length :
          length between + length second.more ≡ length before + length (first.more ++ second.more)
          = omega (arith, long, length-append first.more second.more) in
          let end = ap (λ n. below n i) end_length in
          omega (arith, one, two, split, codes, here, end);
      value_fits = λ all. second.value_fits (both all);
      codes_fit = λ all.
          All-same (Fits after) _ _ (all_mentions-append first.more second.more)
          (All-append (Fits after) (of_codes first.more) (of_codes second.more)
          (all-behind between after second.more second.is (of_codes first.more)
          (first.codes_fit (All-nil (Fits before))))
          (second.codes_fit (both all)));
    }

pub each-tells :
    {A B C : Type 0} {P : C → Type 0} (f : A → List Mention) (make : B → Making A) (means : C → B)
    → ((c : C) → P c → Tells f [] (make (means c)))
    → (items : List ((c : C) × P c))
    → Tells (λ made. all_mentions (map f made)) []
    (each (map make (map means (map (λ item. item.0) items))))
each-tells f make means tells [] = done [] refl
each-tells f make means tells (item ∷ more) =
    then {f = f} (tells item.0 item.1) (λ a.
    then {f = λ made. all_mentions (map f made)} (each-tells f make means tells more) (λ others.
    done (a ∷ others) refl))

pub each-surely : {A B C : Type 0} (f : A → List Mention) (make : B → Making A) (means : C → B)
    → ((c : C) → Tells f [] (make (means c)))
    → (items : List C)
    → Tells (λ made. all_mentions (map f made)) [] (each (map make (map means items)))
each-surely f make means tells [] = done [] refl
each-surely f make means tells (item ∷ more) =
    then {f = f} (tells item) (λ a.
    then {f = λ made. all_mentions (map f made)} (each-surely f make means tells more) (λ others.
    done (a ∷ others) refl))

-- a function whose parts are made before its code is put at the index that it took
pub function-tells :
    {A B : Type 0} {f : A → List Mention} {mentions : B → List Mention} (defines : Bool)
    (inner : Making A) (code : A → FnCode) (result : ℕ → B)
    → Tells f [] inner
    → ((a : A) → mentions_of_code (code a) ≡ f a)
    → ((a : A) → is_code_of defines (code a) ≡ true)
    → ((index : ℕ)
    → mentions (result index) ≡ record { defines = defines; index = index } ∷ [])
    → Tells mentions []
    (begin >>= (λ index. inner >>= (λ a. finish index (code a) >> pure (result index))))
function-tells {f} {mentions} defines inner code result tells codes right results lists =
    let functions = lists.functions in
    let n = length functions in
    let begins = (begin lists).1 in
    let parts = tells begins in
    let a = (inner begins).0 in
    let put = code a in
    let rest = of_codes parts.more in
    let is : set (inner begins).1.functions n put ≡ functions ++ put ∷ parts.more =
    ap (λ all. set all n put) parts.is ∙ set-behind functions parts.more put in
    let after = set (inner begins).1.functions n put in
    let parted = (inner begins).1.functions in
    let stays : (mention : Mention) → Fits parted mention → Fits after mention =
    λ mention so.
    subst (λ all. Fits all mention) (sym is)
    (code-put mention.defines functions parts.more put mention.index
    (subst (λ all. Fits all mention) parts.is so)) in
    record {
      more = put ∷ parts.more;
      is = is;
      counted = λ i.
          let value = ap (mention_count i) (results n) in
          let split = count-append i (mentions_of_code put) rest in
          let own = ap (mention_count i) (codes a) in
          let one = parts.counted i in
          let next = one-more n i in
          let long = length-append functions (unfinished_code ∷ []) in
          let here_length : length (functions ++ unfinished_code ∷ []) ≡ suc n =
          omega (arith, long) in
          let here = ap (λ k. below k i) here_length in
          let end_length :
          length (functions ++ unfinished_code ∷ []) + length parts.more
          ≡ n + suc (length parts.more) = omega (arith, long) in
          let end = ap (λ k. below k i) end_length in
          omega (arith, value, split, own, one, next, here, end);
      value_fits = λ all.
          All-same (Fits after) _ _ (results n)
          (All-cons (Fits after) (record { defines = defines; index = n }) []
          (subst (λ all. is_code_of defines (get_or all n unfinished_code) ≡ true) (sym is)
          (subst (λ one. is_code_of defines one ≡ true)
          (sym (get_or-append_seam functions put parts.more unfinished_code)) (right a)))
          (All-nil (Fits after)));
      codes_fit = λ all.
          All-append (Fits after) (mentions_of_code put) rest
          (All-same (Fits after) _ _ (codes a)
          (All-weaker (Fits parted) (Fits after) stays (f a)
          (parts.value_fits (All-nil (Fits begins.functions)))))
          (All-weaker (Fits parted) (Fits after) stays rest
          (parts.codes_fit (All-nil (Fits begins.functions))));
    }

pub load-tells : (loaded : Load) → Tells (λ index. []) [] (load loaded)
load-tells loaded lists = record {
  more = [];
  is = sym (append-nil lists.functions);
  counted = λ i.
      let none_length : length lists.functions ≡ length lists.functions + 0 = omega arith in
      let none = ap (λ n. below n i) none_length in
      omega (arith, none);
  value_fits = λ all. All-nil (Fits lists.functions);
  codes_fit = λ all. All-nil (Fits lists.functions);
}
