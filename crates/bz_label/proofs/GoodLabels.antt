-- What a text means in a good home is a good label.
use Rattle.std.proofs.Common.{◌≡◌, ℕ, Bool, true, false, not, ◌&&◌, ◌||◌, List, [], ◌∷◌, ◌++◌}
use Rattle.std.proofs.Common.{Result, Ok, Err, Option, None, Some, IfOk, IfSome, IsTrue, bytes_eq}
use Rattle.std.proofs.Common.{refl, ap, ◌∙◌, sym, subst, ◌⊎◌, inl, inr, unwrap_or, if◌then◌else◌}
use Rattle.std.proofs.Common.{arith}
use Rattle.std.proofs.lemmas.Bool.{and_parts, and_from, cases_Bool, true≢false}
use Rattle.std.proofs.lemmas.List.Splits.{slice_split-cons_yes, slice_split-cons_no}
use Rattle.std.proofs.Math.Dec.{eqb}
use Rattle.std.proofs.lemmas.Bool.Decides.{nat_tests}
use Rattle.std.specs.List.{AllByRecursion, list_all, onto_first}
use Rattle.bz_text.specs.Answers.{Gives}
use Rattle.bz_text.specs.declared.memory.Miss.{Miss}
use Rattle.bz_text.proofs.CutLists.{Lacks}
use Rattle.bz_text.proofs.CutParts.{parts_at-uncut}
use Rattle.bz_base.specs.Labels.{IsLabel}
use Rattle.bz_base.specs.Names.{is_apparent, is_apparent_byte, is_canonical, is_canonical_byte}
use Rattle.bz_base.specs.Names.{is_label_byte, is_package, is_segment, is_segmented}
use Rattle.bz_base.specs.Paths.{segments_of}
use Rattle.bz_base.specs.declared.labels.Label.{Label}
use Rattle.bz_base.proofs.NormalNames.{segments-lack}
use Rattle.bz_label.specs.declared.label_text.LabelText.{LabelText}
use Rattle.bz_label.specs.declared.label_text.RepoPart.{RepoPart}
use Rattle.bz_label.specs.declared.label_text.RepoPart.TheVariants.{Home, Apparent, Canonical}
use Rattle.bz_label.specs.declared.resolution.LabelMiss.{LabelMiss}
use Rattle.bz_label.specs.Grammar as grammar
use Rattle.bz_label.specs.Grammar.{SpellsLabel, is_repo}
use Rattle.bz_label.specs.Mappings.{are_names, found}
use Rattle.bz_label.specs.Parts.{last_of, last_segment}
use Rattle.bz_label.specs.Resolution.{NamesRepo, Resolves, resolved}
use Rattle.bz_label.proofs.ResolvedLabels.{Gives-label}
use Rattle.bz_label.proofs.SpelledLabels.{Lacks-repo}

-- ---- names of a mapping

found-canonical : (pairs : List (List ℕ × List ℕ)) (apparent : List ℕ)
    → are_names pairs ≡ true
    → IfSome (found apparent pairs) (λ canonical. is_canonical canonical ≡ true)
found-canonical [] apparent good = tt
found-canonical (pair ∷ pairs) apparent good =
    by (bytes_eq apparent pair.0) (found-canonical pairs apparent (and_parts _ _ good).1)
  where
    by : (same : Bool)
        → IfSome (found apparent pairs) (λ canonical. is_canonical canonical ≡ true)
        → IfSome (if same then Some pair.1 else found apparent pairs)
        (λ canonical. is_canonical canonical ≡ true)
    by true further = (and_parts _ _ (and_parts _ _ good).0).1
    by false further = further

-- ---- bytes of names

-- a byte of a repository's name may stand in a label
canonical_byte-label_byte : (b : ℕ) → is_canonical_byte b ≡ true → is_label_byte b ≡ true
canonical_byte-label_byte b so = grind (arith, nat_tests)

canonical-label_bytes : (name : List ℕ)
    → is_canonical name ≡ true
    → list_all is_label_byte name ≡ true
canonical-label_bytes [] so = refl
canonical-label_bytes (b ∷ bs) so =
    and_from _ _ (canonical_byte-label_byte b (and_parts _ _ so).0)
    (canonical-label_bytes bs (and_parts _ _ so).1)

apparent-label_bytes : (name : List ℕ)
    → is_apparent name ≡ true
    → list_all is_label_byte name ≡ true
apparent-label_bytes [] so = refl
apparent-label_bytes (b ∷ bs) so =
    and_from _ _ (canonical_byte-label_byte b (or_left (and_parts _ _ so).0))
    (apparent-label_bytes bs (and_parts _ _ so).1)
  where
    or_left : is_apparent_byte b ≡ true → is_canonical_byte b ≡ true
    or_left e = ap (λ t. t || eqb b 43) e

-- ---- segments

-- what holds of each item of a list that is not empty holds of the last
last-holds : (P : List ℕ → Type 0) (segments : List (List ℕ)) (segment : List ℕ)
    → AllByRecursion P (segment ∷ segments)
    → P (last_of (segment ∷ segments))
last-holds P [] segment h = h.0
last-holds P (next ∷ segments) segment h = last-holds P segments next h.1

last-of_some : (P : List ℕ → Type 0) (segments : List (List ℕ))
    → AllByRecursion P segments
    → P []
    → P (last_of segments)
last-of_some P [] h none = none
last-of_some P (segment ∷ segments) h none = last-holds P segments segment h

segments-bytes : (text : List ℕ)
    → list_all is_label_byte text ≡ true
    → AllByRecursion (λ segment. list_all is_label_byte segment ≡ true) (segments_of text)
segments-bytes [] all = (refl, tt)
segments-bytes (b ∷ bs) all = by (cases_Bool (eqb b 47)) (segments-bytes bs (and_parts _ _ all).1)
  where
    onto : (parts : List (List ℕ))
        → AllByRecursion (λ segment. list_all is_label_byte segment ≡ true) parts
        → AllByRecursion (λ segment. list_all is_label_byte segment ≡ true) (onto_first b parts)
    onto [] h = (and_from _ _ (and_parts _ _ all).0 refl, tt)
    onto (part ∷ parts) h = (and_from _ _ (and_parts _ _ all).0 h.0, h.1)

    by : ((eqb b 47 ≡ true) ⊎ (eqb b 47 ≡ false))
        → AllByRecursion (λ segment. list_all is_label_byte segment ≡ true) (segments_of bs)
        → AllByRecursion (λ segment. list_all is_label_byte segment ≡ true) (segments_of (b ∷ bs))
    by (inl is) h = subst (AllByRecursion (λ segment. list_all is_label_byte segment ≡ true))
        (sym (slice_split-cons_yes (λ x. eqb x 47) b bs is)) (refl, h)
    by (inr other) h = subst (AllByRecursion (λ segment. list_all is_label_byte segment ≡ true))
        (sym (slice_split-cons_no (λ x. eqb x 47) b bs other)) (onto (segments_of bs) h)

all-each : (test : List ℕ → Bool) (segments : List (List ℕ))
    → list_all test segments ≡ true
    → AllByRecursion (λ segment. test segment ≡ true) segments
all-each test [] all = tt
all-each test (segment ∷ segments) all =
    ((and_parts _ _ all).0, all-each test segments (and_parts _ _ all).1)

-- one segment alone
pub alone-segmented : (name : List ℕ)
    → list_all is_label_byte name ≡ true
    → Lacks 47 name
    → is_segment name ≡ true
    → is_segmented name ≡ true
alone-segmented name bytes lacks so =
    and_from _ _ bytes (ap (list_all is_segment) (parts_at-uncut 47 name lacks) ∙ and_from _ _ so
    refl)

-- a list of segments begins with one
segments-some : (text : List ℕ)
    → (first : List ℕ) × (rest : List (List ℕ)) × (segments_of text ≡ first ∷ rest)
segments-some [] = ([], [], refl)
segments-some (b ∷ bs) =
    let tail = segments-some bs in
    elim (cases_Bool (eqb b 47)) [
      | inl is ↦ ([], segments_of bs, slice_split-cons_yes (λ x. eqb x 47) b bs is)
      | inr other ↦ (
        b ∷ tail.0,
        tail.1,
        slice_split-cons_no (λ x. eqb x 47) b bs other ∙ ap
            (onto_first b) tail.2,
      )
    ]

last-of : (P : List ℕ → Type 0) (text : List ℕ)
    → AllByRecursion P (segments_of text)
    → P (last_segment text)
last-of P text h =
    let some = segments-some text in
    subst (λ segments. P (last_of segments)) (sym some.2)
    (last-holds P some.1 some.0 (subst (AllByRecursion P) some.2 h))

last-segmented : (pkg : List ℕ) → is_segmented pkg ≡ true → is_segmented (last_segment pkg) ≡ true
last-segmented pkg so =
    alone-segmented (last_segment pkg)
    (last-of (λ segment. list_all is_label_byte segment ≡ true) pkg
    (segments-bytes pkg (and_parts _ _ so).0))
    (last-of (Lacks 47) pkg (segments-lack pkg))
    (last-of (λ segment. is_segment segment ≡ true) pkg
    (all-each is_segment (segments_of pkg) (and_parts _ _ so).1))

-- ---- parts

-- good parts of a label's text
record AreParts (parts : LabelText) : Type 0 where
  repo : is_repo parts.repo ≡ true
  in_package : IfSome parts.package (λ pkg. is_package pkg ≡ true)
  named : is_segmented parts.name ≡ true

segmented-package : (pkg : List ℕ) → is_segmented pkg ≡ true → is_package pkg ≡ true
segmented-package pkg so = ap (λ t. bytes_eq pkg [] || t) so ∙ always (bytes_eq pkg [])
  where
    always : (t : Bool) → (t || true) ≡ true
    always true = refl
    always false = refl

spelled-parts : (text : List ℕ) (parts : LabelText) → SpellsLabel text parts → AreParts parts
spelled-parts _ _ (grammar.named repo pkg name good packaged segmented) = record {
  repo = good;
  in_package = packaged;
  named = segmented;
}
spelled-parts _ _ (grammar.package_alone repo pkg good segmented) =
    record {
      repo = good;
      in_package = segmented-package pkg segmented;
      named = last-segmented pkg
          segmented;
    }
spelled-parts _ _ (grammar.apparent_alone name good segment) =
    record {
      repo = good;
      in_package = refl;
      named = alone-segmented name
          (apparent-label_bytes name good) (Lacks-repo (Apparent name) good).1 segment;
    }
spelled-parts _ _ (grammar.canonical_alone name good segment) =
    record {
      repo = good;
      in_package = refl;
      named = alone-segmented name
          (canonical-label_bytes name good) (Lacks-repo (Canonical name) good).1.1 segment;
    }
spelled-parts _ _ (grammar.at_home name segmented) = record {
  repo = refl;
  in_package = tt;
  named =
      segmented;
}
spelled-parts _ _ (grammar.bare name segmented unmarked) = record {
  repo = refl;
  in_package = tt;
  named = segmented;
}

-- ---- resolved labels

repo-good : (names : List (List ℕ × List ℕ)) (home : Label) (part : RepoPart) (repo : List ℕ)
    → are_names names ≡ true
    → is_canonical home.repo ≡ true
    → is_repo part ≡ true
    → NamesRepo names home part repo
    → is_canonical repo ≡ true
repo-good names home Home repo good at_home part is = ap is_canonical is ∙ at_home
repo-good names home (Canonical canonical) repo good at_home part is = ap is_canonical is ∙ part
repo-good names home (Apparent apparent) repo good at_home part is =
    subst (λ o. IfSome o (λ canonical. is_canonical canonical ≡ true)) is
    (found-canonical names apparent good)

package-good : (home : List ℕ) (pkg : Option (List ℕ))
    → is_package home ≡ true
    → IfSome pkg (λ one. is_package one ≡ true)
    → is_package (unwrap_or pkg home) ≡ true
package-good home None at_home so = at_home
package-good home (Some pkg) at_home so = so

resolves-good : (names : List (List ℕ × List ℕ)) (home : Label) (text : List ℕ) (label : Label)
    → are_names names ≡ true
    → IsLabel home
    → Resolves names home text label
    → IsLabel label
resolves-good names home text label good at_home so =
    let parts = spelled-parts text so.parts so.spelled in
    record {
      repo_stands = repo-good names home so.parts.repo label.repo good at_home.repo_stands
          parts.repo so.repository;
      package_stands = ap is_package so.in_package
          ∙ package-good home.package so.parts.package at_home.package_stands parts.in_package;
      name_stands = ap (λ t. t || (bytes_eq label.name [] && bytes_eq label.package []))
          (ap is_segmented so.named ∙ parts.named);
    }

if_good : (names : List (List ℕ × List ℕ)) (home : Label) (text : List ℕ)
    (r : Result Label (Miss LabelMiss))
    → are_names names ≡ true
    → IsLabel home
    → IfOk r (Resolves names home text)
    → IfOk r IsLabel
if_good names home text
    (Ok label) good at_home so = resolves-good names home text label good at_home so
if_good names home text (Err miss) good at_home so = tt

pub Gives-good : (names : List (List ℕ × List ℕ)) (home : Label) (text : List ℕ)
    (r : Result Label (Miss LabelMiss))
    → Gives (resolved names home text) r
    → are_names names ≡ true
    → IsLabel home
    → IfOk r IsLabel
Gives-good names home text r given good at_home = if_good names home text r good at_home
    (Gives-label names home text r given)

pub resolved-good : (names : List (List ℕ × List ℕ)) (home label : Label) (text : List ℕ)
    → are_names names ≡ true
    → IsLabel home
    → resolved names home text ≡ Ok label
    → IsLabel label
resolved-good names home label text good at_home is =
    let r : Result Label (Miss LabelMiss) = Ok label in Gives-good names home text r is good at_home
