-- The first index is the least one: `the_first_index_is_the_least` and
-- `a_text_is_cut_at_the_first_place`.
use Rattle.std.proofs.Common.{◌≡◌, ℕ, suc, ◌+◌, ◌≤◌, ◌<◌, Bool, true, false, List, [], ◌∷◌, ◌++◌}
use Rattle.std.proofs.Common.{Option, Some, None, length, take, drop, refl, ap, sym, ◌∙◌, arith}
use Rattle.std.proofs.Common.{append_assoc, option_map, if◌then◌else◌}
use Rattle.std.proofs.Math.Seq.{drop-append_seam, take-append_seam}
use Rattle.std.proofs.lemmas.Bool.Decides.{Decides-eqb}
use Rattle.std.proofs.lemmas.List.{length-append, length-take, take-append-drop}
use Rattle.std.proofs.lemmas.Slice.Eq.{starts_is}
use Rattle.star_scalars.specs.Searches.{begins, first_index, parts_at}
use Rattle.star_text_laws.specs.Places.{IsFirst, IsLeast, IsParted, StandsAt, StandsNowhere}

abbrev pub rest : List ℕ → List ℕ
rest [] = []
rest (c ∷ text) = text

pub begins_so : (sub text : List ℕ) → begins text sub ≡ true → text ≡ sub ++ drop (length sub) text
begins_so sub text is = (starts_is Decides-eqb text sub (begins text sub) refl).0 is

differ : true ≡ false → ⊥
differ is = cc

pub begins_not : (sub text behind : List ℕ) → begins text sub ≡ false → text ≡ sub ++ behind → ⊥
begins_not sub text behind is parts =
    let stands = starts_is Decides-eqb text sub (begins text sub) refl in
    differ (sym (stands.1 behind parts) ∙ is)

-- the text stands at the front
pub at_front : (sub text : List ℕ) → begins text sub ≡ true → IsLeast sub 0 text
at_front sub text is = record {
  stands = record {
    before = [];
    behind = drop (length sub) text;
    parts = begins_so sub text is;
    place = refl;
  };
  least = λ other stands. omega arith;
}

pub empty_has_none : (sub before behind : List ℕ)
    → begins [] sub ≡ false
    → [] ≡ before ++ sub ++ behind
    → ⊥
empty_has_none sub [] behind is parts = begins_not sub [] behind is parts
empty_has_none sub (c ∷ before) behind is parts = absurd (omega (arith, ap length parts))

-- where it stands in a text behind a character, it stands in the text, but for the front
pub inside : (sub : List ℕ) (c d : ℕ) (text before behind : List ℕ)
    → c ∷ text ≡ (d ∷ before) ++ sub ++ behind
    → StandsAt sub (length before) text
inside sub c d text before behind parts =
    record { before = before; behind = behind; parts = ap rest parts; place = refl }

pub none_behind : (sub : List ℕ) (c : ℕ) (text before behind : List ℕ)
    → begins (c ∷ text) sub ≡ false
    → StandsNowhere sub text
    → c ∷ text ≡ before ++ sub ++ behind
    → ⊥
none_behind sub c text [] behind is nowhere parts = begins_not sub (c ∷ text) behind is parts
none_behind sub c text (d ∷ before) behind is nowhere parts =
    nowhere (length before) (inside sub c d text before behind parts)

least_behind : (sub : List ℕ) (c : ℕ) (text : List ℕ) (index : ℕ) (before behind : List ℕ)
    → begins (c ∷ text) sub ≡ false
    → IsLeast sub index text
    → c ∷ text ≡ before ++ sub ++ behind
    → suc index ≤ length before
least_behind sub c text index [] behind is first parts =
    absurd (begins_not sub (c ∷ text) behind is parts)
least_behind sub c text index (d ∷ before) behind is first parts =
    let far = first.least (length before) (inside sub c d text before behind parts) in
    omega (arith, far)

pub one_further : (sub : List ℕ) (c : ℕ) (text : List ℕ) (index : ℕ)
    → StandsAt sub index text
    → StandsAt sub (suc index) (c ∷ text)
one_further sub c text index stands = record {
  before = c ∷ stands.before;
  behind = stands.behind;
  parts = ap (λ t. c ∷ t) stands.parts;
  place = ap suc stands.place;
}

first_in_empty : (sub : List ℕ) (b : Bool)
    → begins [] sub ≡ b
    → IsFirst sub [] (if b then Some 0 else None)
first_in_empty sub true is = at_front sub [] is
first_in_empty sub false is =
    λ index stands. empty_has_none sub stands.before stands.behind is stands.parts

first_behind : (sub : List ℕ) (c : ℕ) (text : List ℕ) (b : Bool) (found : Option ℕ)
    → begins (c ∷ text) sub ≡ b
    → IsFirst sub text found
    → IsFirst sub (c ∷ text) (if b then Some 0 else option_map suc found)
first_behind sub c text true found is first = at_front sub (c ∷ text) is
first_behind sub c text false None is first =
    λ index stands. none_behind sub c text stands.before stands.behind is first stands.parts
first_behind sub c text false (Some index) is first = record {
  stands = one_further sub c text index first.stands;
  least = λ other stands.
      (let far = least_behind sub c text index stands.before stands.behind is first stands.parts in
      omega (arith, far, stands.place));
}

pub first_least : (sub text : List ℕ) → IsFirst sub text (first_index sub text)
first_least sub [] = first_in_empty sub (begins [] sub) refl
first_least sub (c ∷ text) =
    first_behind sub c text (begins (c ∷ text) sub) (first_index sub text) refl
    (first_least sub text)

-- the parts round a place
pub parts_round : (sub : List ℕ) (index : ℕ) (text before behind : List ℕ)
    → text ≡ before ++ sub ++ behind
    → length before ≡ index
    → text ≡ take index text ++ sub ++ drop (index + length sub) text
parts_round sub index text before behind parts place =
    parts ∙ (λ i. sym front i ++ sub ++ sym back i)
  where
    front : take index text ≡ before
    front =
        (λ i. take (sym place i) (parts i))
        ∙ ap (take (length before)) (append_assoc before sub behind)
        ∙ take-append_seam before (sub ++ behind)

    back : drop (index + length sub) text ≡ behind
    back =
        (λ i. drop (sym place i + length sub) (parts i))
        ∙ ap (λ n. drop n (before ++ sub ++ behind)) (sym (length-append before sub))
        ∙ drop-append_seam (before ++ sub) behind

pub least_parts : (sub : List ℕ) (index : ℕ) (text : List ℕ)
    → IsLeast sub index text
    → text ≡ take index text ++ sub ++ drop (index + length sub) text
least_parts sub index text first =
    parts_round sub index text first.stands.before first.stands.behind first.stands.parts
    first.stands.place

-- what stands before the first place hasn't the text in it
pub in_the_whole : (sub : List ℕ) (index : ℕ) (text before behind : List ℕ)
    → take index text ≡ before ++ sub ++ behind
    → StandsAt sub (length before) text
in_the_whole sub index text before behind parts = record {
  before = before;
  behind = behind ++ drop index text;
  parts =
      sym (take-append-drop index text)
      ∙ ap (λ t. t ++ drop index text) parts
      ∙ append_assoc (before ++ sub) behind (drop index text);
  place = refl;
}

long_enough : (sub : List ℕ) (index : ℕ) (text before behind : List ℕ)
    → take index text ≡ before ++ sub ++ behind
    → length before + length sub ≤ index
long_enough sub index text before behind parts =
    omega (
      arith,
      ap length parts,
      length-take index text,
      length-append (before ++ sub) behind,
      length-append before sub,
    )

pub least_clean : (sub : List ℕ) (index : ℕ) (text : List ℕ)
    → 0 < length sub
    → IsLeast sub index text
    → StandsNowhere sub (take index text)
least_clean sub index text some first other stands =
    let far = first.least (length stands.before)
    (in_the_whole sub index text stands.before stands.behind stands.parts) in
    let long = long_enough sub index text stands.before stands.behind stands.parts in
    absurd (omega (arith, some, far, long))

pub first_parted : (sub text : List ℕ) (found : Option ℕ)
    → 0 < length sub
    → IsFirst sub text found
    → IsParted sub text (parts_at (length sub) text found)
first_parted sub text None some first = first
first_parted sub text (Some index) some first = record {
  parts = least_parts sub index text first;
  nowhere = least_clean sub index text some first;
}
