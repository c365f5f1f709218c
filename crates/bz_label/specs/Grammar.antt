-- The grammar of labels: Bazel's "Labels".
use Rattle.std.specs.Prelude.{◌≡◌, ℕ, List, [], ◌∷◌, ◌++◌, Bool, true, None, Some, IsTrue}
use Rattle.bz_base.specs.Names.{is_apparent, is_canonical, is_package, is_segment, is_segmented}
use Rattle.bz_label.specs.declared.label_text.LabelText.{LabelText}
use Rattle.bz_label.specs.declared.label_text.RepoPart.{RepoPart}
use Rattle.bz_label.specs.declared.label_text.RepoPart.TheVariants.{Home, Apparent, Canonical}
use Rattle.bz_text.specs.Cuts.{behind}
use Rattle.bz_label.specs.Parts.{last_segment}

-- ['@@' Canonical | '@' Apparent]
abbrev pub repo_text : RepoPart → List ℕ
repo_text Home = []
repo_text (Apparent name) = 64 ∷ name
repo_text (Canonical name) = 64 ∷ 64 ∷ name

abbrev pub is_repo : RepoPart → Bool
is_repo Home = true
is_repo (Apparent name) = is_apparent name
is_repo (Canonical name) = is_canonical name

-- the text is a label of these parts
pub data SpellsLabel : List ℕ → LabelText → Type 0 where
  -- [Repository] '//' [Package] ':' Name
  named : (repo : RepoPart) (pkg name : List ℕ)
      → IsTrue (is_repo repo)
      → IsTrue (is_package pkg)
      → IsTrue (is_segmented name)
      → SpellsLabel (repo_text repo ++ 47 ∷ 47 ∷ (pkg ++ 58 ∷ name))
      (record { repo = repo; «package» = Some pkg; name = name })
  -- [Repository] '//' Package, whose last segment is the name
  package_alone : (repo : RepoPart) (pkg : List ℕ)
      → IsTrue (is_repo repo)
      → IsTrue (is_segmented pkg)
      → SpellsLabel (repo_text repo ++ 47 ∷ 47 ∷ pkg)
      (record { repo = repo; «package» = Some pkg; name = last_segment pkg })
  -- '@' Apparent
  apparent_alone : (name : List ℕ)
      → IsTrue (is_apparent name)
      → IsTrue (is_segment name)
      → SpellsLabel (64 ∷ name) (record { repo = Apparent name; «package» = Some []; name = name })
  -- '@@' Canonical
  canonical_alone : (name : List ℕ)
      → IsTrue (is_canonical name)
      → IsTrue (is_segment name)
      → SpellsLabel (64 ∷ 64 ∷ name)
      (record { repo = Canonical name; «package» = Some []; name = name })
  -- ':' Name
  at_home : (name : List ℕ)
      → IsTrue (is_segmented name)
      → SpellsLabel (58 ∷ name) (record { repo = Home; «package» = None; name = name })
  -- Name that does not begin with '@'; none begins with '/'
  bare : (name : List ℕ)
      → IsTrue (is_segmented name)
      → behind 64 name ≡ None
      → SpellsLabel name (record { repo = Home; «package» = None; name = name })
