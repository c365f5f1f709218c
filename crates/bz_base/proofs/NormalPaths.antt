-- A join is a normal path.
use Rattle.std.proofs.Common.{◌≡◌, ℕ, Bool, true, false, ◌&&◌, ◌||◌, List, [], ◌∷◌, ◌++◌, Option}
use Rattle.std.proofs.Common.{Some, None, Result, Ok, Err, IfOk, IsTrue, refl, ap, sym, subst, ◌∙◌}
use Rattle.std.proofs.Common.{codes, bytes_eq, append_assoc, if◌then◌else◌}
use Rattle.std.proofs.lemmas.Bool.{and_parts, cond-false, true≢false}
use Rattle.std.proofs.lemmas.List.{append-nil}
use Rattle.std.specs.List.{AllByRecursion, flat_map, list_all}
use Rattle.std.proofs.Math.Dec.{eqb}
use Rattle.bz_text.specs.Cuts.{behind}
use Rattle.bz_text.proofs.CutLists.{Lacks, behind-mark}
use Rattle.bz_text.proofs.CutParts.{parts_at-joined, parts_at-uncut}
use Rattle.bz_base.specs.Names.{is_segment}
use Rattle.bz_base.specs.NormalPaths.{are_normal, are_relative, is_normal, is_normal_from}
use Rattle.bz_base.specs.Paths.{bad_path, goes_up, has_nul, is_rooted, joined, names_joined}
use Rattle.bz_base.specs.Paths.{resolved, segments_of, spelled, spelled_path, stays, walked}
use Rattle.bz_base.specs.declared.tree_path.BadPath.{BadPath}
use Rattle.bz_base.proofs.NormalNames.{AreNames, segments-lack, walked-names}

-- the segments of joined names are those names
pub segments-joined : (name : List ℕ) (names : List (List ℕ))
    → AllByRecursion (Lacks 47) (name ∷ names)
    → segments_of (names_joined (name ∷ names)) ≡ name ∷ names
segments-joined name [] lack = ap segments_of (append-nil name) ∙ parts_at-uncut 47 name lack.0
segments-joined name (next ∷ names) lack =
    parts_at-joined 47 name (next ++ flat_map (λ further. 47 ∷ further) names) lack.0
    ∙ ap (λ parts. name ∷ parts) (segments-joined next names lack.1)

-- a name does not begin with a slash
behind-name : (name : List ℕ) (rest : List ℕ)
    → Lacks 47 name
    → bytes_eq name [] ≡ false
    → behind 47 (name ++ rest) ≡ None
behind-name [] rest lacks some = absurd (true≢false some)
behind-name (b ∷ bs) rest lacks some = cond-false _ _ _ lacks.0

some-up : (name : List ℕ) → goes_up name ≡ true → bytes_eq name [] ≡ false
some-up [] up = absurd (true≢false (sym up))
some-up (b ∷ bs) up = refl

some-segment : (name : List ℕ) → is_segment name ≡ true → bytes_eq name [] ≡ false
some-segment [] so = absurd (true≢false (sym so))
some-segment (b ∷ bs) so = refl

some-relative : (name : List ℕ) (names : List (List ℕ))
    → are_relative (name ∷ names) ≡ true
    → bytes_eq name [] ≡ false
some-relative name names so = by (goes_up name) refl so
  where
    by : (up : Bool)
        → goes_up name ≡ up
        → (if up then are_relative names else list_all is_segment (name ∷ names)) ≡ true
        → bytes_eq name [] ≡ false
    by true e h = some-up name e
    by false e h = some-segment name (and_parts _ _ h).0

-- the third way of being normal is enough
normal-by : (text : List ℕ) → is_normal_from (behind 47 text) text ≡ true → is_normal text ≡ true
unfolding is_normal
normal-by text so = ap (λ t. (bytes_eq text [] || bytes_eq text (codes "/")) || t) so
    ∙ always (bytes_eq text [] || bytes_eq text (codes "/"))
  where
    always : (t : Bool) → (t || true) ≡ true
    always true = refl
    always false = refl

pub spelled-normal : (rooted : Bool) (names : List (List ℕ))
    → AreNames rooted names
    → is_normal (spelled rooted names) ≡ true
unfolding is_normal
spelled-normal true [] so = refl
spelled-normal false [] so = refl
spelled-normal true (name ∷ names) so =
    normal-by (47 ∷ names_joined (name ∷ names))
    (ap (λ o. is_normal_from o (47 ∷ names_joined (name ∷ names)))
    (behind-mark 47 (names_joined (name ∷ names)))
    ∙ (ap (are_normal true) (segments-joined name names so.no_slash) ∙ so.normal))
spelled-normal false (name ∷ names) so =
    normal-by (names_joined (name ∷ names))
    (ap (λ o. is_normal_from o (names_joined (name ∷ names)))
    (behind-name name (flat_map (λ further. 47 ∷ further) names) so.no_slash.0
    (some-relative name names so.normal))
    ∙ (ap (are_normal false) (segments-joined name names so.no_slash) ∙ so.normal))

no_names : (rooted : Bool) → AreNames rooted []
no_names true = record { normal = refl; no_slash = tt }
no_names false = record { normal = refl; no_slash = tt }

walked-twice : (rooted : Bool) (r : Result (List (List ℕ)) BadPath) (text : List ℕ)
    → IfOk r (AreNames rooted)
    → IfOk (walked rooted r (segments_of text)) (AreNames rooted)
walked-twice rooted (Err bad) text h = tt
walked-twice rooted (Ok names) text h = walked-names rooted names (segments_of text)
    (segments-lack text) h

spelled_path-normal : (rooted : Bool) (r : Result (List (List ℕ)) BadPath)
    → IfOk r (AreNames rooted)
    → IfOk (spelled_path rooted r) (λ path. is_normal path ≡ true)
spelled_path-normal rooted (Err bad) h = tt
spelled_path-normal rooted (Ok names) h = spelled-normal rooted names h

resolved-normal : (rooted : Bool) (path text : List ℕ)
    → IfOk (resolved rooted path text) (λ path. is_normal path ≡ true)
unfolding resolved
resolved-normal rooted path text =
    spelled_path-normal rooted _
    (walked-twice rooted _ text (walked-twice rooted (Ok []) path (no_names rooted)))

pub joined-normal : (path text : List ℕ) → IfOk (joined path text) (λ path. is_normal path ≡ true)
joined-normal path text = by (has_nul text) (is_rooted text)
  where
    by : (nul rooted : Bool)
        → IfOk (if nul then Err bad_path else (if rooted then resolved true [] text else resolved
        (is_rooted path) path text)) (λ path. is_normal path ≡ true)
    by true rooted = tt
    by false true = resolved-normal true [] text
    by false false = resolved-normal (is_rooted path) path text

pub nothing-normal : (text : List ℕ) → text ≡ [] → is_normal text ≡ true
unfolding is_normal
nothing-normal text e = ap
    (λ path. (bytes_eq path [] || bytes_eq path (codes "/"))
    || is_normal_from (behind 47 path) path) e

pub walked-normal : (rooted : Bool) (path text : List ℕ) (start first names : List (List ℕ))
    (spelling : List ℕ)
    → start ≡ []
    → walked rooted (Ok start) (segments_of path) ≡ Ok first
    → walked rooted (Ok first) (segments_of text) ≡ Ok names
    → spelling ≡ spelled rooted names
    → is_normal spelling ≡ true
walked-normal rooted path text start first names spelling none e further is =
    let begins : AreNames rooted start = subst (λ (l : List (List ℕ)). AreNames rooted l) (sym none)
    (no_names rooted) in
    let front : AreNames rooted first = subst (λ r. IfOk r (AreNames rooted)) e
    (walked-twice rooted (Ok start) path begins) in
    let all : AreNames rooted names = subst (λ r. IfOk r (AreNames rooted)) further
    (walked-twice rooted (Ok first) text front) in
    ap is_normal is ∙ spelled-normal rooted names all
