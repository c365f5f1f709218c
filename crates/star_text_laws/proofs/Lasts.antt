-- The last index is the greatest one: `the_last_index_is_the_greatest` and
-- `a_text_is_cut_at_the_last_place`.
use Rattle.std.proofs.Common.{◌≡◌, ℕ, suc, ◌+◌, ◌≤◌, ◌<◌, Bool, true, false, List, [], ◌∷◌, ◌++◌}
use Rattle.std.proofs.Common.{Option, Some, None, length, take, drop, refl, ap, sym, ◌∙◌, arith}
use Rattle.std.proofs.Common.{append_assoc, option_map, if◌then◌else◌}
use Rattle.std.specs.Option.{option_or}
use Rattle.std.proofs.lemmas.List.{length-append, length-take-le}
use Rattle.star_scalars.specs.Searches.{begins, last_index, parts_at}
use Rattle.star_text_laws.specs.Places.{IsGreatest, IsLast, IsPartedLast, StandsAt, StandsNowhere}
use Rattle.star_text_laws.proofs.Firsts.{at_front, empty_has_none, inside, none_behind}
use Rattle.star_text_laws.proofs.Firsts.{one_further, parts_round}

last_in_empty : (sub : List ℕ) (b : Bool)
    → begins [] sub ≡ b
    → IsLast sub [] (if b then Some 0 else None)
last_in_empty sub true is = record {
  stands = (at_front sub [] is).stands;
  greatest = λ other stands. omega (
    arith,
    ap length stands.parts,
    stands.place,
    length-append (stands.before ++ sub) stands.behind,
    length-append stands.before sub,
  );
}
last_in_empty sub false is =
    λ index stands. empty_has_none sub stands.before stands.behind is stands.parts

in_front_alone : (sub : List ℕ) (c : ℕ) (text before behind : List ℕ)
    → StandsNowhere sub text
    → c ∷ text ≡ before ++ sub ++ behind
    → length before ≤ 0
in_front_alone sub c text [] behind nowhere parts = omega arith
in_front_alone sub c text (d ∷ before) behind nowhere parts =
    absurd (nowhere (length before) (inside sub c d text before behind parts))

up_to : (sub : List ℕ) (c : ℕ) (text : List ℕ) (index : ℕ) (before behind : List ℕ)
    → IsGreatest sub index text
    → c ∷ text ≡ before ++ sub ++ behind
    → length before ≤ suc index
up_to sub c text index [] behind last parts = omega arith
up_to sub c text index (d ∷ before) behind last parts =
    let near = last.greatest (length before) (inside sub c d text before behind parts) in
    omega (arith, near)

last_behind : (sub : List ℕ) (c : ℕ) (text : List ℕ) (b : Bool) (found : Option ℕ)
    → begins (c ∷ text) sub ≡ b
    → IsLast sub text found
    → IsLast sub (c ∷ text) (option_or (option_map suc found) (if b then Some 0 else None))
last_behind sub c text b (Some index) is last = record {
  stands = one_further sub c text index last.stands;
  greatest = λ other stands.
      (let near = up_to sub c text index stands.before stands.behind last stands.parts in
      omega (arith, near, stands.place));
}
last_behind sub c text true None is last = record {
  stands = (at_front sub (c ∷ text) is).stands;
  greatest = λ other stands.
      (let near = in_front_alone sub c text stands.before stands.behind last stands.parts in
      omega (arith, near, stands.place));
}
last_behind sub c text false None is last =
    λ index stands. none_behind sub c text stands.before stands.behind is last stands.parts

pub last_greatest : (sub text : List ℕ) → IsLast sub text (last_index sub text)
last_greatest sub [] = last_in_empty sub (begins [] sub) refl
last_greatest sub (c ∷ text) =
    last_behind sub c text (begins (c ∷ text) sub) (last_index sub text) refl
    (last_greatest sub text)

pub greatest_parts : (sub : List ℕ) (index : ℕ) (text : List ℕ)
    → IsGreatest sub index text
    → text ≡ take index text ++ sub ++ drop (index + length sub) text
greatest_parts sub index text last =
    parts_round sub index text last.stands.before last.stands.behind last.stands.parts
    last.stands.place

-- a place behind a front is one of the whole
behind_a_front : (sub front text before behind : List ℕ) (rest : List ℕ)
    → text ≡ front ++ rest
    → rest ≡ before ++ sub ++ behind
    → StandsAt sub (length (front ++ before)) text
behind_a_front sub front text before behind rest whole parts = record {
  before = front ++ before;
  behind = behind;
  parts =
      whole
      ∙ ap (λ t. front ++ t) parts
      ∙ ap (λ t. front ++ t) (append_assoc before sub behind)
      ∙ sym (append_assoc front before (sub ++ behind))
      ∙ sym (append_assoc (front ++ before) sub behind);
  place = refl;
}

-- what stands behind the last place hasn't the text in it
greatest_clean : (sub : List ℕ) (index : ℕ) (text : List ℕ)
    → 0 < length sub
    → IsGreatest sub index text
    → (before behind : List ℕ)
    → length before ≡ index
    → text ≡ before ++ sub ++ behind
    → StandsNowhere sub behind
greatest_clean sub index text some last before behind place parts other stands =
    let near = last.greatest (length (before ++ sub ++ stands.before))
    (behind_a_front sub (before ++ sub) text stands.before stands.behind behind parts
    stands.parts) in
    absurd (omega (
      arith,
      some,
      near,
      place,
      length-append (before ++ sub) stands.before,
      length-append before sub,
    ))

take_long : (sub : List ℕ) (index : ℕ) (text : List ℕ)
    → IsGreatest sub index text
    → length (take index text) ≡ index
take_long sub index text last =
    length-take-le index text
    (omega (
      arith,
      ap length last.stands.parts,
      last.stands.place,
      length-append (last.stands.before ++ sub) last.stands.behind,
      length-append last.stands.before sub,
    ))

pub last_clean : (sub : List ℕ) (index : ℕ) (text : List ℕ)
    → 0 < length sub
    → IsGreatest sub index text
    → StandsNowhere sub (drop (index + length sub) text)
last_clean sub index text some last =
    greatest_clean sub index text some last (take index text) (drop (index + length sub) text)
    (take_long sub index text last) (greatest_parts sub index text last)

pub last_parted : (sub text : List ℕ) (found : Option ℕ)
    → 0 < length sub
    → IsLast sub text found
    → IsPartedLast sub text (parts_at (length sub) text found)
last_parted sub text None some last = last
last_parted sub text (Some index) some last = record {
  parts = greatest_parts sub index text last;
  nowhere = last_clean sub index text some last;
}

-- what stands before a place is shorter
pub before_short : (sub : List ℕ) (index : ℕ) (text : List ℕ)
    → 0 < length sub
    → IsGreatest sub index text
    → length (take index text) < length text
before_short sub index text some last =
    omega (
      arith,
      some,
      take_long sub index text last,
      ap length last.stands.parts,
      last.stands.place,
      length-append (last.stands.before ++ sub) last.stands.behind,
      length-append last.stands.before sub,
    )
