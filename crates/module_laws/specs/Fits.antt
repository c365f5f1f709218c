-- What a parameter of each kind may be given: Bazel, "MODULE.bazel files".
use Rattle.std.specs.Prelude.{◌≢◌, ℕ, ◌≤◌, List, [], ◌∷◌, IsOk, IsTrue, All, Any, ⊤}
use Rattle.bz_base.specs.ModuleDeclarations.{IsRegistryOrNone, IsVersionText}
use Rattle.bz_base.specs.Paths.{joined}
use Rattle.module_arguments.specs.GivenValues.{is_name}
use Rattle.module_arguments.specs.declared.given_values.Given.{Given}
use Rattle.module_arguments.specs.declared.given_values.Given.TheVariants as given
use Rattle.module_arguments.specs.declared.parameters.Kind.{Kind}
use Rattle.module_arguments.specs.declared.parameters.Kind.TheVariants as kind
use Rattle.module_arguments.specs.declared.parameters.Parameter.{Parameter}
use Rattle.module_arguments.specs.declared.parameters.TextKind.{TextKind}
use Rattle.module_arguments.specs.declared.parameters.TextKind.TheVariants as text

-- a text of a kind
abbrev pub FitsText : TextKind → List ℕ → Type 0
FitsText text.Any value = ⊤
FitsText (text.Name names) value = IsTrue (is_name names value)
FitsText text.Version value = IsVersionText value
FitsText text.Registry value = IsRegistryOrNone value
FitsText text.Path value = IsOk (joined [] value)

-- versions of which two differ
abbrev pub AreVersions : List (List ℕ) → Type 0
AreVersions versions =
    All IsVersionText versions × Any (λ one. Any (λ other. one ≢ other) versions) versions

abbrev pub IsText : TextKind → Given → Type 0
IsText texts (given.Text value) = FitsText texts value
IsText texts (given.Texts values) = ⊥
IsText texts (given.Flag flag) = ⊥
IsText texts (given.Level level) = ⊥
IsText texts (given.Proxy usage) = ⊥
IsText texts given.Nothing = ⊥

abbrev pub IsTextOrNone : TextKind → Given → Type 0
IsTextOrNone texts (given.Text value) = FitsText texts value
IsTextOrNone texts (given.Texts values) = ⊥
IsTextOrNone texts (given.Flag flag) = ⊥
IsTextOrNone texts (given.Level level) = ⊥
IsTextOrNone texts (given.Proxy usage) = ⊥
IsTextOrNone texts given.Nothing = ⊤

abbrev pub IsVersions : Given → Type 0
IsVersions (given.Texts versions) = AreVersions versions
IsVersions (given.Text value) = ⊥
IsVersions (given.Flag flag) = ⊥
IsVersions (given.Level level) = ⊥
IsVersions (given.Proxy usage) = ⊥
IsVersions given.Nothing = ⊥

abbrev pub IsLevel : Given → Type 0
IsLevel (given.Level level) = level ≤ 2147483647
IsLevel (given.Text value) = ⊥
IsLevel (given.Texts values) = ⊥
IsLevel (given.Flag flag) = ⊥
IsLevel (given.Proxy usage) = ⊥
IsLevel given.Nothing = ⊥

-- what a parameter of a kind may be given; of some kinds nothing is asked
abbrev pub Fits : Kind → Given → Type 0
Fits (kind.Text texts) value = IsText texts value
Fits (kind.TextOrNone texts) value = IsTextOrNone texts value
Fits kind.Versions value = IsVersions value
Fits kind.Level value = IsLevel value
Fits kind.Texts value = ⊤
Fits kind.Flag value = ⊤
Fits kind.Unset value = ⊤
Fits kind.NoMaximum value = ⊤
Fits kind.Integer value = ⊤
Fits kind.Proxy value = ⊤

-- one value a parameter, each of which fits
abbrev pub AllFit : List Parameter → List Given → Type 0
AllFit [] [] = ⊤
AllFit [] (value ∷ values) = ⊥
AllFit (parameter ∷ parameters) [] = ⊥
AllFit (parameter ∷ parameters) (value ∷ values) =
    Fits parameter.kind value × AllFit parameters values
