-- A text leads to lacks path exactly where it has a NUL or leads above `/`.
use Rattle.std.proofs.Common.{◌≡◌, ◌≢◌, ℕ, suc, zero, ◌+◌, ◌-◌, ◌<◌, ◌↔◌, Bool, true, false, not}
use Rattle.std.proofs.Common.{◌&&◌, ◌||◌, cond, List, [], ◌∷◌, ◌++◌, length, take, count_by, Result}
use Rattle.std.proofs.Common.{Ok, Err, IsOk, IsTrue, refl, ap, sym, subst, ◌∙◌, arith, ◌⊎◌, inl}
use Rattle.std.proofs.Common.{inr, codes, bytes_eq, length-append, if◌then◌else◌}
use Rattle.std.proofs.lemmas.Bool.{cases_Bool, cond-true, cond-false, true≢false}
use Rattle.std.proofs.lemmas.List.Sums.{sum_by-cons}
use Rattle.std.proofs.Math.Dec.{eqb}
use Rattle.std.specs.List.{AllByRecursion}
use Rattle.bz_base.specs.Names.{is_segment}
use Rattle.bz_base.specs.NormalPaths.{Climbs, LeadsNowhere, LeavesRoot}
use Rattle.bz_base.specs.Paths.{above, bad_path, goes_up, has_nul, is_rooted, joined, resolved}
use Rattle.bz_base.specs.Paths.{segments_of, spelled, spelled_path, stays, stepped, walked}
use Rattle.bz_base.specs.declared.tree_path.BadPath.{BadPath}
use Rattle.bz_base.proofs.NormalNames.{Ends, nothing, last, above-last, ends}

-- each name is a proper one, as all are behind `/`
abbrev Proper : List (List ℕ) → Type 0
Proper names = AllByRecursion (λ name. goes_up name ≡ false) names

-- some front of the segments has more `..` than names, so many names before it counted too
pub record ClimbsFrom (before : ℕ) (segments : List (List ℕ)) : Type 0 where
  pub front : ℕ
  pub more : before + count_by is_segment (take front segments) < count_by goes_up
      (take front segments)

and-never : (t : Bool) → (t && false) ≡ false
and-never true = refl
and-never false = refl

stays-down : (segment : List ℕ) → stays segment ≡ true → goes_up segment ≡ false
stays-down [] stay = refl
stays-down (a ∷ []) stay = and-never (eqb a 46)
stays-down (a ∷ b ∷ rest) stay = absurd (true≢false (sym stay ∙ and-never (eqb a 46)))

stays-none : (segment : List ℕ) → stays segment ≡ true → is_segment segment ≡ false
stays-none segment stay = ap (λ t. not (t || goes_up segment)) stay

up-none : (segment : List ℕ)
    → stays segment ≡ false
    → goes_up segment ≡ true
    → is_segment segment ≡ false
up-none segment go up = ap (λ t. not (t || goes_up segment)) go ∙ ap (λ t. not (false || t)) up

name-one : (segment : List ℕ)
    → stays segment ≡ false
    → goes_up segment ≡ false
    → is_segment segment ≡ true
name-one segment go down = ap (λ t. not (t || goes_up segment)) go ∙ ap (λ t. not (false || t)) down

counted : (p : List ℕ → Bool) (segment : List ℕ) (segments : List (List ℕ))
    → p segment ≡ true
    → count_by p (segment ∷ segments) ≡ 1 + count_by p segments
counted p segment segments has =
    sum_by-cons (λ x. cond (p x) 1 0) segment segments
    ∙ ap (λ (n : ℕ). n + count_by p segments) (cond-true (p segment) 1 0 has)

uncounted : (p : List ℕ → Bool) (segment : List ℕ) (segments : List (List ℕ))
    → p segment ≡ false
    → count_by p (segment ∷ segments) ≡ count_by p segments
uncounted p segment segments lacks =
    let e : count_by p (segment ∷ segments)
    ≡ 0 + count_by p segments = sum_by-cons (λ x. cond (p x) 1 0) segment segments
    ∙ ap (λ (n : ℕ). n + count_by p segments) (cond-false (p segment) 1 0 lacks) in omega arith

-- ---- one more segment in front

climbs-stay : (k : ℕ) (s : List ℕ) (ss : List (List ℕ))
    → is_segment s ≡ false
    → goes_up s ≡ false
    → ClimbsFrom k ss
    → ClimbsFrom k (s ∷ ss)
climbs-stay k s ss lacks down h =
    let names = uncounted is_segment s (take h.front ss) lacks in
    let ups = uncounted goes_up s (take h.front ss) down in
    let more = h.more in
    record { front = suc h.front; more = omega arith }

climbs-up : (k : ℕ) (s : List ℕ) (ss : List (List ℕ))
    → is_segment s ≡ false
    → goes_up s ≡ true
    → ClimbsFrom k ss
    → ClimbsFrom (suc k) (s ∷ ss)
climbs-up k s ss lacks up h =
    let names = uncounted is_segment s (take h.front ss) lacks in
    let ups = counted goes_up s (take h.front ss) up in
    let more = h.more in
    record { front = suc h.front; more = omega arith }

climbs-name : (k : ℕ) (s : List ℕ) (ss : List (List ℕ))
    → is_segment s ≡ true
    → goes_up s ≡ false
    → ClimbsFrom (suc k) ss
    → ClimbsFrom k (s ∷ ss)
climbs-name k s ss has down h =
    let names = counted is_segment s (take h.front ss) has in
    let ups = uncounted goes_up s (take h.front ss) down in
    let more = h.more in
    record { front = suc h.front; more = omega arith }

climbs-at_once : (s : List ℕ) (ss : List (List ℕ))
    → is_segment s ≡ false
    → goes_up s ≡ true
    → ClimbsFrom 0 (s ∷ ss)
climbs-at_once s ss lacks up =
    let names = uncounted is_segment s [] lacks in
    let ups = counted goes_up s [] up in
    record { front = 1; more = omega arith }

stay-climbs : (k : ℕ) (s : List ℕ) (ss : List (List ℕ))
    → is_segment s ≡ false
    → goes_up s ≡ false
    → (n : ℕ)
    → k + count_by is_segment (take n (s ∷ ss)) < count_by goes_up (take n (s ∷ ss))
    → ClimbsFrom k ss
stay-climbs k s ss lacks down zero more = absurd (omega arith)
stay-climbs k s ss lacks down (suc n) more =
    let names = uncounted is_segment s (take n ss) lacks in
    let ups = uncounted goes_up s (take n ss) down in
    record { front = n; more = omega arith }

up-climbs : (k : ℕ) (s : List ℕ) (ss : List (List ℕ))
    → is_segment s ≡ false
    → goes_up s ≡ true
    → (n : ℕ)
    → suc k + count_by is_segment (take n (s ∷ ss)) < count_by goes_up (take n (s ∷ ss))
    → ClimbsFrom k ss
up-climbs k s ss lacks up zero more = absurd (omega arith)
up-climbs k s ss lacks up (suc n) more =
    let names = uncounted is_segment s (take n ss) lacks in
    let ups = counted goes_up s (take n ss) up in
    record { front = n; more = omega arith }

name-climbs : (k : ℕ) (s : List ℕ) (ss : List (List ℕ))
    → is_segment s ≡ true
    → goes_up s ≡ false
    → (n : ℕ)
    → k + count_by is_segment (take n (s ∷ ss)) < count_by goes_up (take n (s ∷ ss))
    → ClimbsFrom (suc k) ss
name-climbs k s ss has down zero more = absurd (omega arith)
name-climbs k s ss has down (suc n) more =
    let names = counted is_segment s (take n ss) has in
    let ups = uncounted goes_up s (take n ss) down in
    record { front = n; more = omega arith }

nothing-climbs : (k n : ℕ) → k + count_by is_segment (take n []) < count_by goes_up (take n []) → ⊥
nothing-climbs k zero more = omega arith
nothing-climbs k (suc n) more = omega arith

-- ---- one segment walked from `/`

proper-front : (front : List (List ℕ)) (x : List ℕ)
    → Proper (front ++ x ∷ [])
    → Proper front × (goes_up x ≡ false)
proper-front [] x h = (tt, h.0)
proper-front (y ∷ front) x h = let more = proper-front front x h.1 in ((h.0, more.0), more.1)

proper-added : (names : List (List ℕ)) (name : List ℕ)
    → goes_up name ≡ false
    → Proper names
    → Proper (names ++ name ∷ [])
proper-added [] name down h = (down, tt)
proper-added (first ∷ names) name down h = (h.0, proper-added names name down h.1)

length-added : (names : List (List ℕ)) (name : List ℕ)
    → length (names ++ name ∷ []) ≡ suc (length names)
length-added names name = let e = length-append names (name ∷ []) in omega arith

above-proper : (front : List (List ℕ)) (x : List ℕ)
    → goes_up x ≡ false
    → above true (front ++ x ∷ []) ≡ Ok front
above-proper front x down =
    above-last true front x
    ∙ ap (λ b. if not b then Ok front else (if true then Err bad_path else Ok ((front ++ x ∷ []) ++
    codes ".." ∷ []))) down

stepped-stay : (names : List (List ℕ)) (s : List ℕ)
    → stays s ≡ true
    → stepped true names s ≡ Ok names
stepped-stay names s stay = cond-true _ _ _ stay

stepped-up : (names : List (List ℕ)) (s : List ℕ)
    → stays s ≡ false
    → goes_up s ≡ true
    → stepped true names s ≡ above true names
stepped-up names s go up = cond-false _ _ _ go ∙ cond-true _ _ _ up

stepped-name : (names : List (List ℕ)) (s : List ℕ)
    → stays s ≡ false
    → goes_up s ≡ false
    → stepped true names s ≡ Ok (names ++ s ∷ [])
stepped-name names s go down = cond-false _ _ _ go ∙ cond-false _ _ _ down

-- ---- walks from `/`

abbrev Walk : List (List ℕ) → List (List ℕ) → Result (List (List ℕ)) BadPath
Walk names segments = walked true (Ok names) segments

-- what is shown of the segments that are left, behind whatever names
abbrev Further : List (List ℕ) → Type 0
Further segments =
    (names : List (List ℕ)) → Proper names
    → ((Walk names segments ≡ Err bad_path) → ClimbsFrom (length names) segments)
    × (ClimbsFrom (length names) segments → Walk names segments ≡ Err bad_path)

abbrev Both : List (List ℕ) → List ℕ → List (List ℕ) → Type 0
Both names s ss =
    ((Walk names (s ∷ ss) ≡ Err bad_path) → ClimbsFrom (length names) (s ∷ ss))
    × (ClimbsFrom (length names) (s ∷ ss) → Walk names (s ∷ ss) ≡ Err bad_path)

ok-err : {A E : Type 0} (a : A) (e : E) → (let r : Result A E = Ok a in r ≡ Err e) → ⊥
ok-err a e is = cc

stay-both : (names : List (List ℕ)) (s : List ℕ) (ss : List (List ℕ))
    → stays s ≡ true
    → Proper names
    → Further ss
    → Both names s ss
stay-both names s ss stay proper further =
    let step : Walk names (s ∷ ss)
    ≡ Walk names ss = ap (λ r. walked true r ss) (stepped-stay names s stay) in (
      λ e. climbs-stay _ s ss (stays-none s stay) (stays-down s stay)
          ((further names proper).0 (sym step ∙ e)),
      λ h. step ∙ (further names proper).1 (stay-climbs _ s ss (stays-none s stay) (stays-down s
          stay) h.front h.more),
    )

name-both : (names : List (List ℕ)) (s : List ℕ) (ss : List (List ℕ))
    → stays s ≡ false
    → goes_up s ≡ false
    → Proper names
    → Further ss
    → Both names s ss
name-both names s ss go down proper further =
    let longer = names ++ s ∷ [] in
    let step : Walk names (s ∷ ss)
    ≡ Walk longer ss = ap (λ r. walked true r ss) (stepped-name names s go down) in
    let rest = further longer (proper-added names s down proper) in
    let size = length-added names s in (
      λ e. climbs-name _ s ss (name-one s go down) down
          (subst (λ k. ClimbsFrom k ss) size (rest.0 (sym step ∙ e))),
      λ h. step ∙ rest.1 (subst (λ k. ClimbsFrom k ss) (sym size) (name-climbs _ s ss (name-one s go
          down) down h.front h.more)),
    )

up-both : (names : List (List ℕ))
    → Ends (List ℕ) names
    → (s : List ℕ) (ss : List (List ℕ))
    → stays s ≡ false
    → goes_up s ≡ true
    → Proper names
    → Further ss
    → Both names s ss
up-both [] nothing s ss go up proper further = (
  λ e. climbs-at_once s ss (up-none s go up) up,
  λ h. ap (λ r. walked true r ss) (stepped-up [] s go up),
)
up-both _ (last front x) s ss go up proper further =
    let parts = proper-front front x proper in
    let names = front ++ x ∷ [] in
    let step : Walk names (s ∷ ss)
    ≡ Walk front ss = ap (λ r. walked true r ss)
    (stepped-up names s go up ∙ above-proper front x parts.1) in
    let size = length-added front x in (
      λ e. subst (λ k. ClimbsFrom k (s ∷ ss)) (sym size)
          (climbs-up _ s ss (up-none s go up) up ((further front parts.0).0 (sym step ∙ e))),
      λ h. let less : ClimbsFrom (suc (length front)) (s ∷ ss) = subst
          (λ k. ClimbsFrom k (s ∷ ss)) size h in
          step ∙ (further front parts.0).1 (up-climbs _ s ss (up-none s go up) up less.front
          less.more),
    )

walk-both : (segments : List (List ℕ)) → Further segments
walk-both [] names proper =
    (λ e. absurd (ok-err names bad_path e), λ h. absurd (nothing-climbs _ h.front h.more))
walk-both (s ∷ ss) names proper = by (cases_Bool (stays s)) (cases_Bool (goes_up s)) (walk-both ss)
  where
    by : ((stays s ≡ true) ⊎ (stays s ≡ false))
        → ((goes_up s ≡ true) ⊎ (goes_up s ≡ false))
        → Further ss
        → Both names s ss
    by (inl stay) up further = stay-both names s ss stay proper further
    by (inr go) (inl up) further = up-both names (ends names) s ss go up proper further
    by (inr go) (inr down) further = name-both names s ss go down proper further

-- ---- walks from the workspace

either-ok : (front names : List (List ℕ)) (up : Bool)
    → IsOk (if not up then Ok front else (if false then Err bad_path else Ok (names ++ codes ".." ∷
    [])))
either-ok front names true = refl
either-ok front names false = refl

above-ended : (names : List (List ℕ)) → Ends (List ℕ) names → IsOk (above false names)
above-ended _ nothing = refl
above-ended _ (last front x) =
    subst (λ (r : Result (List (List ℕ)) BadPath). IsOk r) (sym (above-last false front x))
    (either-ok front (front ++ x ∷ []) (goes_up x))

stepped-ok : (names : List (List ℕ)) (s : List ℕ) → IsOk (stepped false names s)
stepped-ok names s = by (stays s) (goes_up s)
  where
    by : (stay up : Bool)
        → IsOk (if stay then Ok names else (if up then above false names else Ok (names ++ s ∷ [])))
    by true up = refl
    by false true = above-ended names (ends names)
    by false false = refl

walked-ok : (r : Result (List (List ℕ)) BadPath)
    → IsOk r
    → (segments : List (List ℕ))
    → IsOk (walked false r segments)
walked-ok (Err bad) ok segments = absurd (true≢false (sym ok))
walked-ok (Ok names) ok [] = refl
walked-ok (Ok names) ok (s ∷ ss) = walked-ok (stepped false names s) (stepped-ok names s) ss

-- ---- texts

walked-append : (rooted : Bool) (r : Result (List (List ℕ)) BadPath) (xs ys : List (List ℕ))
    → walked rooted (walked rooted r xs) ys ≡ walked rooted r (xs ++ ys)
walked-append rooted (Err bad) xs ys = refl
walked-append rooted (Ok names) [] ys = refl
walked-append rooted (Ok names) (x ∷ xs) ys = walked-append rooted (stepped rooted names x) xs ys

spelled-err : (rooted : Bool) (r : Result (List (List ℕ)) BadPath)
    → spelled_path rooted r ≡ Err bad_path
    → r ≡ Err bad_path
spelled-err rooted (Err bad) e = refl
spelled-err rooted (Ok names) e = absurd (ok-err (spelled rooted names) bad_path e)

climbs-of : (segments : List (List ℕ)) → ClimbsFrom 0 segments → Climbs segments
climbs-of segments h = let more = h.more in (h.front, omega arith)

of-climbs : (segments : List (List ℕ)) → Climbs segments → ClimbsFrom 0 segments
of-climbs segments h = let more = h.1 in record { front = h.0; more = omega arith }

resolved-climbs : (path text : List ℕ)
    → resolved true path text ≡ Err bad_path
    → Climbs (segments_of path ++ segments_of text)
unfolding resolved
resolved-climbs path text e =
    climbs-of _ ((walk-both (segments_of path ++ segments_of text) [] tt).0 (sym (walked-append true
    (Ok []) (segments_of path) (segments_of text)) ∙ spelled-err true _ e))

climbs-resolved : (path text : List ℕ)
    → Climbs (segments_of path ++ segments_of text)
    → resolved true path text ≡ Err bad_path
unfolding resolved
climbs-resolved path text h =
    ap (spelled_path true)
    (walked-append true (Ok []) (segments_of path) (segments_of text)
    ∙ (walk-both (segments_of path ++ segments_of text) [] tt).1 (of-climbs _ h))

alone-climbs : (text : List ℕ) → resolved true [] text ≡ Err bad_path → Climbs (segments_of text)
unfolding resolved
alone-climbs text e = climbs-of _ ((walk-both (segments_of text) [] tt).0 (spelled-err true _ e))

climbs-alone : (text : List ℕ) → Climbs (segments_of text) → resolved true [] text ≡ Err bad_path
unfolding resolved
climbs-alone text h = ap (spelled_path true)
    ((walk-both (segments_of text) [] tt).1 (of-climbs _ h))

relative-ok : (path text : List ℕ) → resolved false path text ≡ Err bad_path → ⊥
unfolding resolved
relative-ok path text e =
    let walks = walked-ok (walked false (Ok []) (segments_of path))
    (walked-ok (Ok []) refl (segments_of path)) (segments_of text) in
    let both : IsOk (let r : Result (List (List ℕ)) BadPath = Err bad_path in r) = subst
    (λ (r : Result (List (List ℕ)) BadPath). IsOk r) (spelled-err false _ e) walks in
    absurd (true≢false (sym both))

abbrev Joined : Bool → Bool → Bool → List ℕ → List ℕ → Result (List ℕ) BadPath
Joined nul rooted_text rooted_path path text = if nul then Err bad_path
    else (if rooted_text then resolved true [] text else resolved rooted_path path text)

leads-nowhere : (nul rooted_text rooted_path : Bool) (path text : List ℕ)
    → (Joined nul rooted_text rooted_path path text ≡ Err bad_path)
    → IsTrue nul ⊎ LeavesRoot rooted_text rooted_path path text
leads-nowhere true rooted_text rooted_path path text e = inl refl
leads-nowhere false true rooted_path path text e = inr (alone-climbs text e)
leads-nowhere false false true path text e = inr (resolved-climbs path text e)
leads-nowhere false false false path text e = absurd (relative-ok path text e)

nowhere-leads : (nul rooted_text rooted_path : Bool) (path text : List ℕ)
    → IsTrue nul ⊎ LeavesRoot rooted_text rooted_path path text
    → Joined nul rooted_text rooted_path path text ≡ Err bad_path
nowhere-leads true rooted_text rooted_path path text h = refl
nowhere-leads false rooted_text rooted_path path text (inl no_nul) = absurd
    (true≢false (sym no_nul))
nowhere-leads false true rooted_path path text (inr h) = climbs-alone text h
nowhere-leads false false true path text (inr h) = climbs-resolved path text h
nowhere-leads false false false path text (inr h) = absurd h

pub bad_path-nowhere : (path text : List ℕ)
    → (joined path text ≡ Err bad_path) ↔ LeadsNowhere path text
bad_path-nowhere path text = (
  leads-nowhere (has_nul text) (is_rooted text) (is_rooted path) path text,
  nowhere-leads (has_nul text) (is_rooted text) (is_rooted path) path text,
)
