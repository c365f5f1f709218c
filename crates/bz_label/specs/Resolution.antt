-- What a label's text means in its home: Bazel's "Labels" and "External dependencies overview",
-- "Repository mapping".
use Rattle.std.specs.Prelude.{◌≡◌, ℕ, List, Result, Ok, Err, Option, None, Some, unwrap_or}
use Rattle.bz_base.specs.declared.labels.Label.{Label}
use Rattle.bz_label.specs.declared.label_text.BadLabel.{BadLabel as BadText}
use Rattle.bz_label.specs.declared.label_text.LabelText.{LabelText}
use Rattle.bz_label.specs.declared.label_text.RepoPart.{RepoPart}
use Rattle.bz_label.specs.declared.label_text.RepoPart.TheVariants.{Home, Apparent, Canonical}
use Rattle.bz_label.specs.declared.resolution.LabelMiss.{LabelMiss}
use Rattle.bz_label.specs.declared.resolution.LabelMiss.TheVariants.{BadLabel, NotVisible}
use Rattle.bz_label.specs.Grammar.{SpellsLabel}
use Rattle.bz_label.specs.Mappings.{found}
use Rattle.bz_label.specs.Parts.{label_parts}

abbrev pub visible : List ℕ → Option (List ℕ) → Result (List ℕ) LabelMiss
visible apparent None = Err (NotVisible apparent)
visible apparent (Some canonical) = Ok canonical

-- the canonical name of the repository that a label names
abbrev pub canonical_of : List (List ℕ × List ℕ) → Label → RepoPart → Result (List ℕ) LabelMiss
canonical_of pairs home Home = Ok home.repo
canonical_of pairs home (Apparent apparent) = visible apparent (found apparent pairs)
canonical_of pairs home (Canonical canonical) = Ok canonical

abbrev pub placed : Label → LabelText → Result (List ℕ) LabelMiss → Result Label LabelMiss
placed home parts (Err miss) = Err miss
placed home parts (Ok repo) =
    Ok (record { repo = repo; «package» = unwrap_or parts.package home.package; name = parts.name })

abbrev pub located : List (List ℕ × List ℕ)
    → Label
    → Result LabelText BadText
    → Result Label LabelMiss
located pairs home (Err bad) = Err BadLabel
located pairs home (Ok parts) = placed home parts (canonical_of pairs home parts.repo)

-- the label that a text means
abbrev pub resolved : List (List ℕ × List ℕ) → Label → List ℕ → Result Label LabelMiss
resolved pairs home text = located pairs home (label_parts text)

-- the repository part names this repository
abbrev pub NamesRepo : List (List ℕ × List ℕ) → Label → RepoPart → List ℕ → Type 0
NamesRepo pairs home Home repo = repo ≡ home.repo
NamesRepo pairs home (Apparent apparent) repo = found apparent pairs ≡ Some repo
NamesRepo pairs home (Canonical canonical) repo = repo ≡ canonical

-- the text is a label whose parts name this one; where it has no package, that is the home's
pub record Resolves (pairs : List (List ℕ × List ℕ)) (home : Label) (text : List ℕ)
    (label : Label) : Type 0 where
  pub parts : LabelText
  pub spelled : SpellsLabel text parts
  pub repository : NamesRepo pairs home parts.repo label.repo
  pub in_package : label.package ≡ unwrap_or parts.package home.package
  pub named : label.name ≡ parts.name

-- the text is a label whose apparent name the mapping lacks
pub record Hides (pairs : List (List ℕ × List ℕ)) (text apparent : List ℕ) : Type 0 where
  pub parts : LabelText
  pub spelled : SpellsLabel text parts
  pub repository : parts.repo ≡ Apparent apparent
  pub absent : found apparent pairs ≡ None
