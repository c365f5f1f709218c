-- A file that a text is to its dialect is well formed.
use Rattle.std.proofs.Common.{◌≡◌, List, ℕ, Option, Some, None, Result, Ok, Err, IfOk, refl, subst}
use Rattle.bz_text.specs.declared.memory.Miss.{Miss}
use Rattle.star_conditions.proofs.WellFormed.{resolved-well_formed}
use Rattle.star_trees.specs.WellFormed.{WellFormed}
use Rattle.star_trees.specs.declared.files.File.{File}
use Rattle.star_dialects.specs.declared.forms.Refused.{Refused}
use Rattle.star_parse.specs.Parses.{Parses, first_form, file_or_unbound, unless_refused}
use Rattle.star_parse.specs.declared.parse.ParseFault.{ParseFault}
use Rattle.star_scopes.specs.Files.{resolved}
use Rattle.star_scopes.specs.declared.dialects.Dialect.{Dialect}
use Rattle.star_scopes.specs.declared.unbound.Unbound.{Unbound}

file_or_unbound-file : (names : Result File Unbound) (file : File)
    → file_or_unbound names ≡ Ok file
    → names ≡ Ok file
file_or_unbound-file (Ok one) file is = subst
    (λ (result : Result File ParseFault). IfOk result
    (λ other. ◌≡◌ {A = Result File Unbound} (Ok one) (Ok other))) is refl
file_or_unbound-file (Err unbound) file is = absurd
    (subst (λ (result : Result File ParseFault). IfOk result (λ _. ⊥)) is tt)

-- a file comes only where no form is refused, and then it is the resolved one
allowed-file : (form : Option Refused) (names : Result File Unbound) (file : File)
    → unless_refused form names ≡ Ok file
    → names ≡ Ok file
allowed-file (Some refused) names file is = absurd
    (subst (λ (result : Result File ParseFault). IfOk result (λ _. ⊥)) is tt)
allowed-file None names file is = file_or_unbound-file names file is

pub parses_well_formed : (dialect : Dialect) (text : List ℕ)
    (result : Result File (Miss ParseFault)) → Parses dialect text result → IfOk result WellFormed
parses_well_formed dialect text (Ok file)
    (tree, spelled, is) = resolved-well_formed dialect text tree file spelled
    (allowed-file (first_form dialect tree.body) (resolved dialect tree.body) file is)
parses_well_formed dialect text (Err miss) parses = tt
