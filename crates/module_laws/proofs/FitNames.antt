-- Names of repositories that a call is given are good.
use Rattle.std.proofs.Common.{◌≡◌, ℕ, true, List, [], ◌∷◌, Option, Some, None, Result, Ok}
use Rattle.std.proofs.Common.{Err}
use Rattle.std.proofs.Common.{IfOk, IsTrue}
use Rattle.std.proofs.lemmas.Bool.{cond_both}
use Rattle.std.proofs.lemmas.List.Elements.{All-append, All-cons, All-nil}
use Rattle.std.specs.Prelude.{All}
use Rattle.bz_base.specs.Names.{is_repository_name}
use Rattle.module_arguments.specs.NamePairs.{ReadPair, and_pair, both_of, named_after, pair_of}
use Rattle.module_arguments.specs.NamePairs.{pair_under, pairs_in, placed_after, value_checked}
use Rattle.module_arguments.specs.declared.name_pairs.NamePair.{NamePair}
use Rattle.module_arguments.specs.declared.objections.Objection.{Objection}
use Rattle.module_values.specs.TextLists.{text_at}
use Rattle.star_core.specs.Heaps.{HeapState}
use Rattle.star_core.specs.declared.values.NamedVal.{NamedVal}
use Rattle.star_core.specs.declared.values.Val.{Val}

-- both are names of repositories
abbrev pub IsPair : NamePair → Type 0
IsPair pair = IsTrue (is_repository_name pair.keyword) × IsTrue (is_repository_name pair.value)

checked : (keyword value : List ℕ)
    → is_repository_name keyword ≡ true
    → IfOk (value_checked keyword value) IsPair
checked keyword value good =
    cond_both (is_repository_name value) _ _ (λ (r : ReadPair). IfOk r IsPair)
    (λ other. (good, other)) (λ _. tt)

pair_fits : (detail keyword : List ℕ) (value : Option (List ℕ))
    → is_repository_name keyword ≡ true
    → IfOk (pair_of detail keyword value) IsPair
pair_fits detail keyword None good = tt
pair_fits detail keyword (Some value) good = checked keyword value good

under_fits : (heap : HeapState) (argument : NamedVal) → IfOk (pair_under heap argument) IsPair
under_fits heap argument =
    cond_both (is_repository_name argument.name) _ _ (λ (r : ReadPair). IfOk r IsPair)
    (λ good. pair_fits argument.name argument.name (text_at heap argument.val) good) (λ _. tt)

both_fit : (value : Option (List ℕ)) → IfOk (both_of value) IsPair
both_fit None = tt
both_fit (Some value) =
    cond_both (is_repository_name value) _ _ (λ (r : ReadPair). IfOk r IsPair)
    (λ good. (good, good)) (λ _. tt)

-- pairs that are good, or a refusal
abbrev AreFit : Result (List NamePair) Objection → Type 0
AreFit r = IfOk r (All IsPair)

and_fits : (pairs : List NamePair) (r : ReadPair)
    → All IsPair pairs
    → IfOk r IsPair
    → AreFit (and_pair pairs r)
and_fits pairs (Err reason) all one = tt
and_fits pairs (Ok pair) all one =
    All-append IsPair pairs (pair ∷ []) all (All-cons IsPair pair [] one (All-nil IsPair))

placed_fit : (heap : HeapState) (r : Result (List NamePair) Objection) (values : List Val)
    → AreFit r
    → AreFit (placed_after heap r values)
placed_fit heap (Err reason) values all = tt
placed_fit heap (Ok pairs) [] all = all
placed_fit heap (Ok pairs) (value ∷ more) all =
    placed_fit heap (and_pair pairs (both_of (text_at heap value))) more
    (and_fits pairs (both_of (text_at heap value)) all (both_fit (text_at heap value)))

named_fit : (heap : HeapState) (r : Result (List NamePair) Objection) (named : List NamedVal)
    → AreFit r
    → AreFit (named_after heap r named)
named_fit heap (Err reason) named all = tt
named_fit heap (Ok pairs) [] all = all
named_fit heap (Ok pairs) (argument ∷ more) all =
    named_fit heap (and_pair pairs (pair_under heap argument)) more
    (and_fits pairs (pair_under heap argument) all (under_fits heap argument))

-- the pairs of a call
pub pairs_fit : (heap : HeapState) (values : List Val) (named : List NamedVal)
    → IfOk (pairs_in heap values named) (All IsPair)
pairs_fit heap values named =
    named_fit heap (placed_after heap (Ok []) values) named
    (placed_fit heap (Ok []) values (All-nil IsPair))
