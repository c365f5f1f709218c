-- The pairs of a dictionary, one by one.
use Rattle.std.proofs.Common.{◌≡◌, ℕ, zero, suc, ◌+◌, ◌<◌, List, [], ◌∷◌, ◌++◌, length, map, take}
use Rattle.std.proofs.Common.{Some, None, ap, sym, arith, add-one}
use Rattle.std.proofs.lemmas.Option.{none-some, same_Some}
use Rattle.star_core.specs.Dicts.{Entry, pair_at}
use Rattle.star_core.specs.declared.dict.Pair.{Pair}

key_next : (entries : List Entry) (index : ℕ) (pair : Pair)
    → pair_at entries index ≡ Some pair
    → map (λ entry. entry.pair.key) (take (suc index) entries)
    ≡ map (λ entry. entry.pair.key) (take index entries) ++ pair.key ∷ []
key_next [] index pair is = absurd (none-some pair is)
key_next (entry ∷ entries) zero pair is =
    ap (λ one. one.key ∷ []) (same_Some entry.pair pair is)
key_next (entry ∷ entries) (suc index) pair is =
    ap (λ keys. entry.pair.key ∷ keys) (key_next entries index pair is)

-- one key more
pub one_more_key : (entries : List Entry) (index : ℕ) (pair : Pair)
    → pair_at entries index ≡ Some pair
    → map (λ entry. entry.pair.key) (take (index + 1) entries)
    ≡ map (λ entry. entry.pair.key) (take index entries) ++ pair.key ∷ []
one_more_key entries index pair is = rw (add-one index) (key_next entries index pair is)

-- an index within is that of a pair
pub pair_there : (entries : List Entry) (index : ℕ)
    → index < length entries
    → pair_at entries index ≡ None
    → ⊥
pair_there [] index within none = omega (arith, within)
pair_there (entry ∷ entries) zero within none = none-some entry.pair (sym none)
pair_there (entry ∷ entries) (suc index) within none =
    pair_there entries index (omega (arith, within)) none

next : (entries : List Entry) (index : ℕ) (pair : Pair)
    → pair_at entries index ≡ Some pair
    → map (λ entry. entry.pair) (take (suc index) entries)
    ≡ map (λ entry. entry.pair) (take index entries) ++ pair ∷ []
next [] index pair is = absurd (none-some pair is)
next (entry ∷ entries) zero pair is = ap (λ one. one ∷ []) (same_Some entry.pair pair is)
next (entry ∷ entries) (suc index) pair is =
    ap (λ pairs. entry.pair ∷ pairs) (next entries index pair is)

-- one pair more
pub one_more : (entries : List Entry) (index : ℕ) (pair : Pair)
    → pair_at entries index ≡ Some pair
    → map (λ entry. entry.pair) (take (index + 1) entries)
    ≡ map (λ entry. entry.pair) (take index entries) ++ pair ∷ []
one_more entries index pair is = rw (add-one index) (next entries index pair is)
