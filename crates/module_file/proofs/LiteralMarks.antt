-- Texts that lack a mark, and how a text is cut at one.
use Rattle.std.proofs.Common.{◌≡◌, ℕ, ◌+◌, ◌==◌, Bool, true, false, List, [], ◌∷◌, ◌++◌, Option}
use Rattle.std.proofs.Common.{Some, None, Result, Ok, Err, refl, ap, inl, inr}
use Rattle.std.proofs.lemmas.Bool.{and_parts, cases_Bool, eq-eqb, eqb-true}
use Rattle.std.specs.List.{AllByRecursion, list_all, slice_split}
use Rattle.std.specs.Option.{option_map_or}
use Rattle.bz_version.specs.Scan.{fault_from, next_place, version_of}
use Rattle.bz_version.specs.Texts.{before, plus}
use Rattle.bz_version.specs.declared.scanner.Place.{Place}
use Rattle.bz_version.specs.declared.scanner.Place.TheVariants.{Start, ReleaseFirst, Release}
use Rattle.bz_version.specs.declared.scanner.Place.TheVariants.{PrereleaseFirst, Prerelease}
use Rattle.bz_version.specs.declared.scanner.Place.TheVariants.{BuildFirst, Build}
use Rattle.bz_version.specs.declared.versions.BadVersion.{BadVersion}
use Rattle.bz_base.specs.Names.{is_module_byte, is_module_name}
use Rattle.std.specs.Char.{is_ascii_lowercase}

-- the mark stands nowhere in the text
abbrev pub Lacks : ℕ → List ℕ → Type 0
Lacks mark text = AllByRecursion (λ b. (b == mark) ≡ false) text

pub Lacks-append : (mark : ℕ) (xs ys : List ℕ)
    → Lacks mark xs
    → Lacks mark ys
    → Lacks mark (xs ++ ys)
Lacks-append mark [] ys l m = m
Lacks-append mark (x ∷ xs) ys l m = (l.0, Lacks-append mark xs ys l.1 m)

-- a text without the mark is the one part
pub split-lacking : (mark : ℕ) (text : List ℕ)
    → Lacks mark text
    → slice_split (λ b. b == mark) text ≡ text ∷ []
split-lacking mark [] l = refl
split-lacking mark (b ∷ rest) l = rw (l.0, split-lacking mark rest l.1) refl

same_mark : (mark : ℕ) → (mark == mark) ≡ true
same_mark mark = eq-eqb mark mark refl

-- a text without the mark is the first part where the mark follows
pub split-at_mark : (mark : ℕ) (first rest : List ℕ)
    → Lacks mark first
    → slice_split (λ b. b == mark) (first ++ mark ∷ rest)
    ≡ first ∷ slice_split (λ b. b == mark) rest
split-at_mark mark [] rest l = rw (same_mark mark) refl
split-at_mark mark (b ∷ first) rest l = rw (l.0, split-at_mark mark first rest l.1) refl

-- bytes that pass a test differ from a mark that doesn't
differs : (p : ℕ → Bool) (mark b : ℕ) → p mark ≡ false → p b ≡ true → (b == mark) ≡ false
differs p mark b fails passes = elim (cases_Bool (b == mark)) [
  | inl same ↦ absurd (cc (ap p (eqb-true b mark same)))
  | inr other ↦ other
]

Lacks-from_list_all : (p : ℕ → Bool) (mark : ℕ) (text : List ℕ)
    → p mark ≡ false
    → list_all p text ≡ true
    → Lacks mark text
Lacks-from_list_all p mark [] fails all = tt
Lacks-from_list_all p mark (b ∷ rest) fails all =
    let parts = and_parts (p b) (list_all p rest) all in
    (differs p mark b fails parts.0, Lacks-from_list_all p mark rest fails parts.1)

-- a module name has name bytes only
pub Lacks-name : (mark : ℕ) (name : List ℕ)
    → is_module_byte mark ≡ false
    → is_module_name name ≡ true
    → Lacks mark name
Lacks-name mark [] fails named = tt
Lacks-name mark (b ∷ rest) fails named =
    Lacks-from_list_all is_module_byte mark (b ∷ rest) fails
    (and_parts (is_ascii_lowercase b) _ (and_parts _ _ named).0).1

-- no version goes on with the mark
abbrev pub StopsVersions : ℕ → Type 0
StopsVersions mark = (place : Place) → next_place place mark ≡ None

leads_on : (mark b : ℕ) (place next : Place)
    → StopsVersions mark
    → next_place place b ≡ Some next
    → (b == mark) ≡ false
leads_on mark b place next stops e = elim (cases_Bool (b == mark)) [
  | inl same ↦ absurd (cc (ap (next_place place) (eqb-true b mark same), stops place))
  | inr other ↦ other
]

Lacks-faultless : (mark : ℕ)
    → StopsVersions mark
    → (place : Place) (index : ℕ) (text : List ℕ)
    → fault_from place index text ≡ None
    → Lacks mark text
Lacks-faultless mark stops place index [] e = tt
Lacks-faultless mark stops place index (b ∷ rest) e =
    (elim (next_place place b) as
    (λ (o : Option Place). next_place place b ≡ o
    → option_map_or (λ next. fault_from next (index + 1) rest) o (Some index) ≡ None
    → Lacks mark (b ∷ rest)) [
      | None ↦ λ n e. absurd (cc e)
      | Some next ↦ λ n e.
          (leads_on mark b place next stops n, Lacks-faultless mark stops next (index + 1) rest e)
    ]) refl e

faultless : (text kept : List ℕ) → version_of text ≡ Ok kept → fault_from Start 0 text ≡ None
unfolding version_of
faultless text kept e =
    (elim (fault_from Start 0 text) as
    (λ (o : Option ℕ). option_map_or {U = Result (List ℕ) BadVersion}
    (λ place. Err (record { place = place })) o (Ok (before plus text)) ≡ Ok kept → o ≡ None) [
      | None ↦ λ e. refl
      | Some place ↦ λ e. absurd (cc e)
    ]) e

pub Lacks-version : (mark : ℕ) (text kept : List ℕ)
    → StopsVersions mark
    → version_of text ≡ Ok kept
    → Lacks mark text
Lacks-version mark text kept stops e = Lacks-faultless mark stops Start 0 text
    (faultless text kept e)

pub quote_stops : StopsVersions 34
quote_stops Start = refl
quote_stops ReleaseFirst = refl
quote_stops Release = refl
quote_stops PrereleaseFirst = refl
quote_stops Prerelease = refl
quote_stops BuildFirst = refl
quote_stops Build = refl

pub line_feed_stops : StopsVersions 10
line_feed_stops Start = refl
line_feed_stops ReleaseFirst = refl
line_feed_stops Release = refl
line_feed_stops PrereleaseFirst = refl
line_feed_stops Prerelease = refl
line_feed_stops BuildFirst = refl
line_feed_stops Build = refl
