-- What is read is what is spelled, and the place of a fault is the first after which no version can
-- follow.
use Rattle.std.proofs.Common.{◌≡◌, ℕ, zero, suc, ◌<◌, ◌≤◌, ◌+◌, true, false, List, [], ◌∷◌, ◌++◌}
use Rattle.std.proofs.Common.{take, Option, Some, None, Result, Ok, Err, refl, sym, ap, subst, ◌∙◌}
use Rattle.std.proofs.Common.{append_assoc, append-nil, arith, ◌↔◌, inl, inr}
use Rattle.std.proofs.lemmas.Bool.{both_ways, cases_order}
use Rattle.std.specs.Option.{option_map_or}
use Rattle.bz_version.proofs.Kept.{before-spelled, parts_of-written}
use Rattle.bz_version.proofs.Remains.{finishes_version}
use Rattle.bz_version.proofs.Runs.{fault_at, fault_from-finishes, finishes, finishes-append}
use Rattle.bz_version.proofs.Runs.{finishes-faultless, place_behind}
use Rattle.bz_version.proofs.Spelled.{spelled_finishes, version_finishes}
use Rattle.bz_version.specs.Grammar.{CanFollow, IsFault, IsVersion, Parts, Spells, written}
use Rattle.bz_version.specs.Precedence.{parts_of}
use Rattle.bz_version.specs.Scan.{fault_from, version_of}
use Rattle.bz_version.specs.Texts.{before, plus}
use Rattle.bz_version.specs.declared.scanner.Place.{Place}
use Rattle.bz_version.specs.declared.scanner.Place.TheVariants.{Start, ReleaseFirst, Release}
use Rattle.bz_version.specs.declared.scanner.Place.TheVariants.{PrereleaseFirst, Prerelease}
use Rattle.bz_version.specs.declared.scanner.Place.TheVariants.{BuildFirst, Build}
use Rattle.bz_version.specs.declared.versions.BadVersion.{BadVersion}

-- a text with which a version may end
completion : Place → List ℕ
completion Start = []
completion ReleaseFirst = 97 ∷ []
completion Release = []
completion PrereleaseFirst = 97 ∷ []
completion Prerelease = []
completion BuildFirst = 97 ∷ []
completion Build = []

completion_finishes : (place : Place) → finishes place (completion place) ≡ true
unfolding completion
completion_finishes Start = refl
completion_finishes ReleaseFirst = refl
completion_finishes Release = refl
completion_finishes PrereleaseFirst = refl
completion_finishes Prerelease = refl
completion_finishes BuildFirst = refl
completion_finishes Build = refl

can_follow : (text : List ℕ) (next : Place) → place_behind Start text ≡ Some next → CanFollow text
can_follow text next e = (
  completion next,
  finishes_version _
      (finishes-append Start text (completion next) ∙ rw e (completion_finishes next)),
)

cannot_follow : (text : List ℕ) → place_behind Start text ≡ None → CanFollow text → ⊥
cannot_follow text e c =
    let unfinished : finishes Start (text ++ c.0) ≡ false = finishes-append Start text c.0
    ∙ rw e refl in
    both_ways _ unfinished (version_finishes _ c.1)

fault_from-Some : (text : List ℕ) (fault : BadVersion)
    → version_of text ≡ Err fault
    → fault_from Start 0 text ≡ Some fault.place
unfolding version_of
fault_from-Some text fault e =
    (elim (fault_from Start 0 text) as
    (λ (o : Option ℕ). option_map_or {U = Result (List ℕ) BadVersion}
    (λ place. Err (record { place = place })) o (Ok (before 43 text)) ≡ Err fault
    → o ≡ Some fault.place) [
      | None ↦ λ e. absurd (cc e)
      | Some place ↦ λ e. let same : record { place = place }
          ≡ fault = cc e in ap (λ (f : BadVersion). Some f.place) same
    ]) e

fault_is_first : (text : List ℕ) (fault : BadVersion)
    → version_of text ≡ Err fault
    → IsFault text fault.place
fault_is_first text fault e =
    let f = fault_at Start 0 text fault.place (fault_from-Some text fault e) in
    let same : fault.place ≡ f.bytes = omega arith in
    let next : fault.place + 1 ≡ suc f.bytes = omega arith in
    record {
      within = omega arith;
      goes_on = rw same (can_follow _ f.next f.goes_on);
      stops = λ h. rw next (cannot_follow _ (f.stops (omega arith)));
      no_version = λ v. both_ways _ f.unfinished (version_finishes text v);
    }

fault_from-None : (text kept : List ℕ)
    → version_of text ≡ Ok kept
    → (fault_from Start 0 text ≡ None) × (before 43 text ≡ kept)
unfolding version_of
fault_from-None text kept e =
    (elim (fault_from Start 0 text) as
    (λ (o : Option ℕ). option_map_or {U = Result (List ℕ) BadVersion}
    (λ place. Err (record { place = place })) o (Ok (before 43 text)) ≡ Ok kept
    → (o ≡ None) × (before 43 text ≡ kept)) [
      | None ↦ λ e. (refl, cc e)
      | Some place ↦ λ e. absurd (cc e)
    ]) e

pub spelled_is_read : (text : List ℕ) (version : Parts) (build : List ℕ)
    → Spells text version build
    → (version_of text ≡ Ok (written version)) × (parts_of (written version) ≡ version)
unfolding version_of
spelled_is_read text version build s =
    let faultless = fault_from-finishes Start 0 text (spelled_finishes text version build s) in (
      rw (faultless, before-spelled text version build s) refl,
      parts_of-written text version build
          s,
    )

pub read_is_spelled : (text kept : List ℕ)
    → version_of text ≡ Ok kept
    → (build : List ℕ) × Spells text (parts_of kept) build × (kept ≡ written (parts_of kept))
read_is_spelled text kept e =
    let read = fault_from-None text kept e in
    let v = finishes_version text (finishes-faultless Start 0 text read.0) in
    let same : kept ≡ written v.0 = sym read.1 ∙ before-spelled text v.0 v.1 v.2 in
    let parts : parts_of kept ≡ v.0 = ap parts_of same ∙ parts_of-written text v.0 v.1 v.2 in
    (v.1, subst (λ (w : Parts). Spells text w v.1) (sym parts) v.2, same ∙ ap written (sym parts))

-- the text of a version is that of the version that is read from it
pub kept_is_read_again : (text kept : List ℕ)
    → version_of text ≡ Ok kept
    → version_of kept ≡ Ok kept
kept_is_read_again text kept e =
    let read = read_is_spelled text kept e in
    let spelled : Spells kept (parts_of kept) [] = record {
      release = read.1.release;
      prerelease = read.1.prerelease;
      build_bytes = tt;
      alone = λ none. ((read.1.alone none).0, refl);
      spelled = read.2 ∙ sym (append-nil (written (parts_of kept)));
    } in
    (spelled_is_read kept (parts_of kept) [] spelled).0 ∙ ap (λ (l : List ℕ). Ok l) (sym read.2)

-- the first bytes begin with fewer of them
take_fewer : (m n : ℕ) (text : List ℕ)
    → m ≤ n
    → (back : List ℕ) × (take n text ≡ take m text ++ back)
take_fewer zero n text h = (take n text, refl)
take_fewer (suc m) zero text h = absurd (omega arith)
take_fewer (suc m) (suc n) [] h = ([], refl)
take_fewer (suc m) (suc n) (b ∷ rest) h =
    let fewer = take_fewer m n rest (omega arith) in
    (fewer.0, ap (λ (l : List ℕ). b ∷ l) fewer.1)

-- where a version can follow, it can follow fewer bytes
can_follow_fewer : (m n : ℕ) (text : List ℕ)
    → m ≤ n
    → CanFollow (take n text)
    → CanFollow (take m text)
can_follow_fewer m n text h c =
    let fewer = take_fewer m n text h in (
      fewer.0 ++ c.0,
      subst IsVersion (ap (λ (l : List ℕ). l ++ c.0) fewer.1 ∙ append_assoc (take m
          text) fewer.0 c.0) c.1,
    )

no_earlier_fault : (text : List ℕ) (place other : ℕ)
    → IsFault text place
    → IsFault text other
    → place < other
    → ⊥
no_earlier_fault text place other f g h =
    let within = g.within in
    f.stops (omega arith) (can_follow_fewer (place + 1) other text (omega arith) g.goes_on)

-- a text has one fault
one_fault : (text : List ℕ) (place other : ℕ)
    → IsFault text place
    → IsFault text other
    → place ≡ other
one_fault text place other f g = elim (cases_order place other) [
  | inl same ↦ same
  | inr differ ↦ elim differ [
    | inl below ↦ absurd
        (no_earlier_fault text place other f g below)
    | inr above ↦ absurd
        (no_earlier_fault text other place g f above)
  ]
]

first_is_fault : (text : List ℕ) (fault : BadVersion)
    → IsFault text fault.place
    → version_of text ≡ Err fault
first_is_fault text fault f =
    (elim (version_of text) as
    (λ (r : Result (List ℕ) BadVersion). version_of text ≡ r → r ≡ Err fault) [
      | Ok kept ↦ λ e. let read = read_is_spelled text kept e in absurd
          (f.no_version (parts_of kept, read.0, read.1))
      | Err found ↦ λ e. let same = one_fault text found.place fault.place
          (fault_is_first text found e) f in
          λ i. Err (record { place = same i })
    ]) refl

pub fault_exact : (text : List ℕ) (fault : BadVersion)
    → (version_of text ≡ Err fault) ↔ IsFault text fault.place
fault_exact text fault = (fault_is_first text fault, first_is_fault text fault)

-- what a text without fault keeps is a version's text
pub faultless_is_kept : (text kept : List ℕ)
    → None ≡ fault_from Start 0 text
    → kept ≡ before plus text
    → version_of kept ≡ Ok kept
unfolding version_of
faultless_is_kept text kept faultless same = kept_is_read_again text kept
    (rw (← faultless, same) refl)
