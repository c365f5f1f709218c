-- What a resolved text tells of the grammar of labels and of the mapping.
use Rattle.std.proofs.Common.{◌≡◌, ℕ, List, Result, Ok, Err, Option, None, Some, IfOk, refl, subst}
use Rattle.std.proofs.Common.{◌∙◌, ap}
use Rattle.bz_text.specs.Answers.{Gives}
use Rattle.bz_base.specs.declared.labels.Label.{Label}
use Rattle.bz_text.specs.declared.memory.Miss.{Miss}
use Rattle.bz_text.specs.declared.memory.Miss.TheVariants.{OutOfMemory, Because}
use Rattle.bz_label.specs.declared.label_text.BadLabel.{BadLabel as BadText}
use Rattle.bz_label.specs.declared.label_text.LabelText.{LabelText}
use Rattle.bz_label.specs.declared.label_text.RepoPart.{RepoPart}
use Rattle.bz_label.specs.declared.label_text.RepoPart.TheVariants.{Home, Apparent, Canonical}
use Rattle.bz_label.specs.declared.resolution.LabelMiss.{LabelMiss}
use Rattle.bz_label.specs.declared.resolution.LabelMiss.TheVariants.{BadLabel, NotVisible}
use Rattle.bz_label.specs.Grammar.{SpellsLabel}
use Rattle.bz_label.specs.Mappings.{found}
use Rattle.bz_label.specs.Parts.{label_parts}
use Rattle.bz_label.specs.Resolution.{Hides, NamesRepo, Resolves, canonical_of, located, placed}
use Rattle.bz_label.specs.Resolution.{resolved, visible}
use Rattle.bz_label.proofs.SpelledLabels.{label_parts-spelled, label_parts-spells}

module _ (pairs : List (List ℕ × List ℕ)) (home : Label) (text : List ℕ) where
  canonical_of-names : (repo : RepoPart)
      → IfOk (canonical_of pairs home repo) (NamesRepo pairs home repo)
  canonical_of-names Home = refl
  canonical_of-names (Canonical canonical) = refl
  canonical_of-names (Apparent apparent) = by (found apparent pairs) refl
    where
      by : (r : Option (List ℕ))
          → found apparent pairs ≡ r
          → IfOk (visible apparent r) (λ repo. found apparent pairs ≡ Some repo)
      by None e = tt
      by (Some canonical) e = e

  placed-resolves : (parts : LabelText)
      → SpellsLabel text parts
      → (r : Result (List ℕ) LabelMiss)
      → IfOk r (NamesRepo pairs home parts.repo)
      → IfOk (placed home parts r) (Resolves pairs home text)
  placed-resolves parts spells (Err miss) h = tt
  placed-resolves parts spells
      (Ok repo) h = record
      { parts = parts; spelled = spells; repository = h; in_package = refl; named = refl }

  located-resolves : (r : Result LabelText BadText)
      → IfOk r (SpellsLabel text)
      → IfOk (located pairs home r) (Resolves pairs home text)
  located-resolves (Err bad) h = tt
  located-resolves (Ok parts) h = placed-resolves parts h (canonical_of pairs home parts.repo)
      (canonical_of-names parts.repo)

  located-hides : (r : Result LabelText BadText)
      → IfOk r (SpellsLabel text)
      → (apparent : List ℕ)
      → located pairs home r ≡ Err (NotVisible apparent)
      → Hides pairs text apparent
  located-hides (Err bad) h apparent e = absurd (cc)
  located-hides (Ok parts) h apparent e = by parts.repo refl e
    where
      hidden : (name : List ℕ)
          → parts.repo ≡ Apparent name
          → (r : Option (List ℕ))
          → found name pairs ≡ r
          → placed home parts (visible name r) ≡ Err (NotVisible apparent)
          → Hides pairs text apparent
      hidden name named (Some canonical) absent e = absurd (cc)
      hidden name named None absent e =
          let same : name ≡ apparent = cc in record {
            parts = parts;
            spelled = h;
            repository = named
                ∙ ap Apparent same;
            absent = subst (λ n. found n pairs ≡ None) same absent;
          }

      by : (repo : RepoPart)
          → parts.repo ≡ repo
          → placed home parts (canonical_of pairs home repo) ≡ Err (NotVisible apparent)
          → Hides pairs text apparent
      by Home named e = absurd (cc)
      by (Canonical canonical) named e = absurd (cc)
      by (Apparent name) named e = hidden name named (found name pairs) refl e

  located-bad : (r : Result LabelText BadText)
      → located pairs home r ≡ Err BadLabel
      → (parts : LabelText)
      → r ≡ Ok parts
      → ⊥
  located-bad (Err bad) e parts is = absurd (cc)
  located-bad (Ok given) e parts is = by given.repo e
    where
      hidden : (name : List ℕ) (r : Option (List ℕ))
          → placed home given (visible name r) ≡ Err BadLabel
          → ⊥
      hidden name (Some canonical) e = absurd (cc)
      hidden name None e = absurd (cc)

      by : (repo : RepoPart) → placed home given (canonical_of pairs home repo) ≡ Err BadLabel → ⊥
      by Home e = absurd (cc)
      by (Canonical canonical) e = absurd (cc)
      by (Apparent name) e = hidden name (found name pairs) e

  pub Gives-label : (r : Result Label (Miss LabelMiss))
      → Gives (resolved pairs home text) r
      → IfOk r (Resolves pairs home text)
  Gives-label (Ok label) e = subst (λ r. IfOk r (Resolves pairs home text)) e
      (located-resolves (label_parts text) (label_parts-spells text))
  Gives-label (Err miss) e = tt

  pub Gives-bad_label : (r : Result Label (Miss LabelMiss))
      → Gives (resolved pairs home text) r
      → r ≡ Err (Because BadLabel)
      → (parts : LabelText)
      → ¬ SpellsLabel text parts
  Gives-bad_label (Ok label) e is parts spells = absurd (cc)
  Gives-bad_label (Err OutOfMemory) e is parts spells = absurd (cc)
  Gives-bad_label (Err (Because miss)) e is parts spells =
      let bad : miss ≡ BadLabel = cc in
      located-bad (label_parts text) (e ∙ ap Err bad) parts (label_parts-spelled text parts spells)

  pub Gives-not_visible : (r : Result Label (Miss LabelMiss))
      → Gives (resolved pairs home text) r
      → (apparent : List ℕ)
      → r ≡ Err (Because (NotVisible apparent))
      → Hides pairs text apparent
  Gives-not_visible (Ok label) e apparent is = absurd (cc)
  Gives-not_visible (Err OutOfMemory) e apparent is = absurd (cc)
  Gives-not_visible (Err (Because miss)) e apparent is =
      let hidden : miss ≡ NotVisible apparent = cc in
      located-hides (label_parts text) (label_parts-spells text) apparent (e ∙ ap Err hidden)
