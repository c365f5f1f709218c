-- The names of a path stay normal with each segment that is walked.
use Rattle.std.proofs.Common.{◌≡◌, ℕ, suc, ◌+◌, ◌-◌, ◌<◌, Bool, true, false, not, ◌&&◌, ◌||◌, List}
use Rattle.std.proofs.Common.{[], ◌∷◌, ◌++◌, length, take, slice_get, Option, Some, None, Result}
use Rattle.std.proofs.Common.{Ok, Err, IfOk, refl, ap, sym, subst, ◌∙◌, arith, ◌⊎◌, inl, inr, codes}
use Rattle.std.proofs.Common.{bytes_eq, length-append, if◌then◌else◌}
use Rattle.std.proofs.lemmas.Bool.{and_from, and_parts, cases_Bool, cond-true, cond-false}
use Rattle.std.proofs.lemmas.Bool.{not-false, not-true, not_from_false, true≢false}
use Rattle.std.proofs.lemmas.List.Folds.{list_all-append}
use Rattle.std.proofs.lemmas.List.Splits.{slice_split-cons_yes, slice_split-cons_no}
use Rattle.std.proofs.lemmas.List.{take_at}
use Rattle.std.proofs.lemmas.Option.{slice_get-get_or}
use Rattle.std.proofs.Math.Seq.{get_or-append_seam}
use Rattle.std.specs.List.{AllByRecursion, list_all, onto_first, slice_split}
use Rattle.std.proofs.Math.Dec.{eqb}
use Rattle.bz_text.proofs.CutLists.{Lacks}
use Rattle.bz_text.proofs.ListWalks.{AllByRecursion-append}
use Rattle.bz_base.specs.Names.{is_segment}
use Rattle.bz_base.specs.NormalPaths.{are_normal, are_relative}
use Rattle.bz_base.specs.Paths.{above, bad_path, goes_up, is_name, segments_of, stays, stepped}
use Rattle.bz_base.specs.Paths.{walked}
use Rattle.bz_base.specs.declared.tree_path.BadPath.{BadPath}

-- ---- lists by their last item

-- a list is empty, or has a last item behind a front
pub data Ends (A : Type 0) : List A → Type 0 where
  nothing : Ends A []
  last : (front : List A) (x : A) → Ends A (front ++ x ∷ [])

ends-longer : {A : Type 0} (x : A) (xs : List A) → Ends A xs → Ends A (x ∷ xs)
ends-longer x [] nothing = last [] x
ends-longer x _ (last front y) = last (x ∷ front) y

pub ends : {A : Type 0} (xs : List A) → Ends A xs
ends [] = nothing
ends (x ∷ xs) = ends-longer x xs (ends xs)

length-last : {A : Type 0} (front : List A) (x : A) → length (front ++ x ∷ []) - 1 ≡ length front
length-last front x = let e = length-append front (x ∷ []) in omega arith

pub take-front : {A : Type 0} (front : List A) (x : A)
    → take (length (front ++ x ∷ []) - 1) (front ++ x ∷ []) ≡ front
take-front front x = take_at front (x ∷ []) _ (sym (length-last front x))

pub get-last : {A : Type 0} (front : List A) (x : A)
    → slice_get (front ++ x ∷ []) (length (front ++ x ∷ []) - 1) ≡ Some x
get-last front x =
    let e = length-append front (x ∷ []) in
    ap (slice_get (front ++ x ∷ [])) (length-last front x)
    ∙ (slice_get-get_or (front ++ x ∷ []) (length front) x (omega arith)
    ∙ ap Some (get_or-append_seam front x [] x))

-- ---- one segment up

abbrev pub UpFrom : Bool → List (List ℕ) → List ℕ → Result (List (List ℕ)) BadPath
UpFrom rooted front x =
    if not (goes_up x) then Ok front
    else (if rooted then Err bad_path else Ok ((front ++ x ∷ []) ++ codes ".." ∷ []))

pub above-last : (rooted : Bool) (front : List (List ℕ)) (x : List ℕ)
    → above rooted (front ++ x ∷ []) ≡ UpFrom rooted front x
above-last rooted front x =
    let all = front ++ x ∷ [] in
    ap (λ o. if is_name o then Ok (take (length all - 1) all)
    else (if rooted then Err bad_path else Ok (all ++ codes ".." ∷ []))) (get-last front x)
    ∙ ap (λ names. if not (goes_up x) then Ok names else (if rooted then Err bad_path else Ok (all
    ++ codes ".." ∷ []))) (take-front front x)

-- ---- normal names

segment-goes_up : (name : List ℕ) → is_segment name ≡ true → goes_up name ≡ false
segment-goes_up name so = by (stays name) (goes_up name) so
  where
    by : (s u : Bool) → not (s || u) ≡ true → u ≡ false
    by true u h = absurd (true≢false (sym h))
    by false true h = absurd (true≢false (sym h))
    by false false h = refl

relative-segments : (names : List (List ℕ))
    → list_all is_segment names ≡ true
    → are_relative names ≡ true
relative-segments [] so = refl
relative-segments (name ∷ names) so =
    cond-false _ _ _ (segment-goes_up name (and_parts _ _ so).0) ∙ so

relative-added : (names : List (List ℕ)) (name : List ℕ)
    → is_segment name ≡ true
    → are_relative names ≡ true
    → are_relative (names ++ name ∷ []) ≡ true
relative-added [] name so h = relative-segments (name ∷ []) (and_from _ _ so refl)
relative-added (first ∷ names) name so h = by (cases_Bool (goes_up first))
    (relative-added names name so)
  where
    by : ((goes_up first ≡ true) ⊎ (goes_up first ≡ false))
        → (are_relative names ≡ true → are_relative (names ++ name ∷ []) ≡ true)
        → are_relative ((first ∷ names) ++ name ∷ []) ≡ true
    by (inl up) further = cond-true _ _ _ up ∙ further (sym (cond-true _ _ _ up) ∙ h)
    by (inr down) further =
        cond-false _ _ _ down
        ∙ (list_all-append is_segment (first ∷ names) (name ∷ [])
        ∙ and_from _ _ (sym (cond-false _ _ _ down) ∙ h) (and_from _ _ so refl))

relative-front : (names : List (List ℕ)) (name : List ℕ)
    → are_relative (names ++ name ∷ []) ≡ true
    → are_relative names ≡ true
relative-front [] name h = refl
relative-front (first ∷ names) name h = by (cases_Bool (goes_up first)) (relative-front names name)
  where
    by : ((goes_up first ≡ true) ⊎ (goes_up first ≡ false))
        → (are_relative (names ++ name ∷ []) ≡ true → are_relative names ≡ true)
        → are_relative (first ∷ names) ≡ true
    by (inl up) further = cond-true _ _ _ up ∙ further (sym (cond-true _ _ _ up) ∙ h)
    by (inr down) further =
        let all : list_all is_segment ((first ∷ names) ++ name ∷ [])
        ≡ true = sym (cond-false _ _ _ down) ∙ h in
        cond-false _ _ _ down
        ∙ (and_parts _ _ (sym (list_all-append is_segment (first ∷ names) (name ∷ [])) ∙ all)).0

-- behind `..` there may be one more
relative-up : (names : List (List ℕ)) (name : List ℕ)
    → goes_up name ≡ true
    → are_relative (names ++ name ∷ []) ≡ true
    → are_relative ((names ++ name ∷ []) ++ codes ".." ∷ []) ≡ true
relative-up [] name up h = cond-true _ _ _ up
relative-up (first ∷ names) name up h = by (cases_Bool (goes_up first)) (relative-up names name up)
  where
    by : ((goes_up first ≡ true) ⊎ (goes_up first ≡ false))
        → (are_relative (names ++ name ∷ []) ≡ true
        → are_relative ((names ++ name ∷ []) ++ codes ".." ∷ []) ≡ true)
        → are_relative (((first ∷ names) ++ name ∷ []) ++ codes ".." ∷ []) ≡ true
    by (inl first_up) further = cond-true _ _ _ first_up
        ∙ further (sym (cond-true _ _ _ first_up) ∙ h)
    by (inr down) further =
        let all : list_all is_segment ((first ∷ names) ++ name ∷ [])
        ≡ true = sym (cond-false _ _ _ down) ∙ h in
        let parts = and_parts _ _
        (sym (list_all-append is_segment (first ∷ names) (name ∷ [])) ∙ all) in
        let so : is_segment name ≡ true = (and_parts _ _ parts.1).0 in
        absurd (true≢false (sym up ∙ segment-goes_up name so))

pub normal-added : (rooted : Bool) (names : List (List ℕ)) (name : List ℕ)
    → is_segment name ≡ true
    → are_normal rooted names ≡ true
    → are_normal rooted (names ++ name ∷ []) ≡ true
normal-added true names name so h = list_all-append is_segment names (name ∷ [])
    ∙ and_from _ _ h (and_from _ _ so refl)
normal-added false names name so h = relative-added names name so h

pub normal-front : (rooted : Bool) (names : List (List ℕ)) (name : List ℕ)
    → are_normal rooted (names ++ name ∷ []) ≡ true
    → are_normal rooted names ≡ true
normal-front true names name h =
    (and_parts _ _ (sym (list_all-append is_segment names (name ∷ [])) ∙ h)).0
normal-front false names name h = relative-front names name h

-- ---- walks

-- normal names, none of them with a slash
pub record AreNames (rooted : Bool) (names : List (List ℕ)) : Type 0 where
  pub normal : are_normal rooted names ≡ true
  pub no_slash : AllByRecursion (Lacks 47) names

all-front : {A : Type 0} (P : A → Type 0) (front : List A) (x : A)
    → AllByRecursion P (front ++ x ∷ [])
    → AllByRecursion P front
all-front P [] x h = tt
all-front P (y ∷ front) x h = (h.0, all-front P front x h.1)

dots_lack : Lacks 47 (codes "..")
dots_lack = (refl, (refl, tt))

up-proper : (rooted : Bool) (front : List (List ℕ)) (x : List ℕ)
    → goes_up x ≡ false
    → AreNames rooted (front ++ x ∷ [])
    → IfOk (UpFrom rooted front x) (AreNames rooted)
up-proper rooted front x down so =
    subst (λ b. IfOk {E = BadPath} (if not b then Ok front else (if rooted then Err bad_path else Ok
    ((front ++ x ∷ []) ++ codes ".." ∷ []))) (AreNames rooted)) (sym down)
    (let names : AreNames rooted front = record {
      normal = normal-front rooted front x so.normal;
      no_slash = all-front
          (Lacks 47) front x so.no_slash;
    } in names)

up-dots : (rooted : Bool) (front : List (List ℕ)) (x : List ℕ)
    → goes_up x ≡ true
    → AreNames rooted (front ++ x ∷ [])
    → IfOk (UpFrom rooted front x) (AreNames rooted)
up-dots true front x up so = subst
    (λ b. IfOk {E = BadPath} (if not b then Ok front else Err bad_path) (AreNames true)) (sym up) tt
up-dots false front x up so =
    subst (λ b. IfOk {E = BadPath} (if not b then Ok front else Ok ((front ++ x ∷ []) ++ codes ".."
    ∷ [])) (AreNames false)) (sym up)
    (let names : AreNames false ((front ++ x ∷ []) ++ codes ".." ∷ []) = record {
      normal = relative-up front x up so.normal;
      no_slash = AllByRecursion-append (Lacks 47) (front ++ x ∷ []) (codes ".." ∷ []) so.no_slash
          (dots_lack, tt);
    } in names)

up-names : (rooted : Bool) (front : List (List ℕ)) (x : List ℕ)
    → AreNames rooted (front ++ x ∷ [])
    → IfOk (UpFrom rooted front x) (AreNames rooted)
up-names rooted front x so = elim (cases_Bool (goes_up x)) [
  | inl up ↦ up-dots rooted front x up so
  | inr down ↦ up-proper rooted front x down so
]

above-names : (rooted : Bool) (names : List (List ℕ))
    → Ends (List ℕ) names
    → AreNames rooted names
    → IfOk (above rooted names) (AreNames rooted)
above-names true [] nothing so = tt
above-names false [] nothing so = record { normal = refl; no_slash = (dots_lack, tt) }
above-names rooted _ (last front x) so =
    subst (λ r. IfOk r (AreNames rooted)) (sym (above-last rooted front x))
    (up-names rooted front x so)

pub stepped-names : (rooted : Bool) (names : List (List ℕ)) (segment : List ℕ)
    → Lacks 47 segment
    → AreNames rooted names
    → IfOk (stepped rooted names segment) (AreNames rooted)
stepped-names rooted names segment lacks so = by (cases_Bool (stays segment))
    (cases_Bool (goes_up segment))
  where
    by : ((stays segment ≡ true) ⊎ (stays segment ≡ false))
        → ((goes_up segment ≡ true) ⊎ (goes_up segment ≡ false))
        → IfOk (stepped rooted names segment) (AreNames rooted)
    by (inl stay) up = subst
        (λ s. IfOk (if s then Ok names else (if goes_up segment then above rooted names else Ok
        (names ++ segment ∷ []))) (AreNames rooted)) (sym stay) so
    by (inr go) (inl up) =
        subst (λ s. IfOk (if s then Ok names else (if goes_up segment then above rooted names else
        Ok (names ++ segment ∷ []))) (AreNames rooted)) (sym go)
        (subst (λ u. IfOk (if u then above rooted names else Ok (names ++ segment ∷ [])) (AreNames
        rooted)) (sym up) (above-names rooted names (ends names) so))
    by (inr go) (inr down) =
        subst (λ s. IfOk (if s then Ok names else (if goes_up segment then above rooted names else
        Ok (names ++ segment ∷ []))) (AreNames rooted)) (sym go)
        (subst (λ u. IfOk (if u then above rooted names else Ok (names ++ segment ∷ [])) (AreNames
        rooted)) (sym down)
        (record {
          normal = normal-added rooted names segment (segment-is go down) so.normal;
          no_slash = AllByRecursion-append (Lacks 47) names (segment ∷ []) so.no_slash (lacks, tt);
        }))
      where
        segment-is : stays segment ≡ false → goes_up segment ≡ false → is_segment segment ≡ true
        segment-is s u = ap (λ t. not (t || goes_up segment)) s ∙ not_from_false (goes_up segment) u

pub walked-names : (rooted : Bool) (names : List (List ℕ)) (segments : List (List ℕ))
    → AllByRecursion (Lacks 47) segments
    → AreNames rooted names
    → IfOk (walked rooted (Ok names) segments) (AreNames rooted)
walked-names rooted names [] lack so = so
walked-names rooted names (segment ∷ segments) lack so =
    further (stepped rooted names segment) (stepped-names rooted names segment lack.0 so)
    (λ more. walked-names rooted more segments lack.1)
  where
    further : (r : Result (List (List ℕ)) BadPath)
        → IfOk r (AreNames rooted)
        → ((more : List (List ℕ))
        → AreNames rooted more
        → IfOk (walked rooted (Ok more) segments) (AreNames rooted))
        → IfOk (walked rooted r segments) (AreNames rooted)
    further (Err bad) h rest = tt
    further (Ok more) h rest = rest more h

-- the segments of a text have no slash
pub segments-lack : (text : List ℕ) → AllByRecursion (Lacks 47) (segments_of text)
segments-lack [] = (tt, tt)
segments-lack (b ∷ bs) = by (cases_Bool (eqb b 47)) (segments-lack bs)
  where
    onto : eqb b 47 ≡ false
        → (parts : List (List ℕ))
        → AllByRecursion (Lacks 47) parts
        → AllByRecursion (Lacks 47) (onto_first b parts)
    onto e [] h = ((e, tt), tt)
    onto e (part ∷ parts) h = ((e, h.0), h.1)

    by : ((eqb b 47 ≡ true) ⊎ (eqb b 47 ≡ false))
        → AllByRecursion (Lacks 47) (segments_of bs)
        → AllByRecursion (Lacks 47) (segments_of (b ∷ bs))
    by (inl is) h = subst (AllByRecursion (Lacks 47))
        (sym (slice_split-cons_yes (λ x. eqb x 47) b bs is)) (tt, h)
    by (inr other) h = subst (AllByRecursion (Lacks 47))
        (sym (slice_split-cons_no (λ x. eqb x 47) b bs other)) (onto other (segments_of bs) h)
