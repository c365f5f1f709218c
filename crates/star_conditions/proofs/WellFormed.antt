-- The files of spelled trees are well formed.
use Rattle.std.proofs.Common.{◌≡◌, ℕ, List, Ok}
use Rattle.star_conditions.proofs.Files.{resolved-functions, resolved-indexes, resolved-variables}
use Rattle.star_conditions.proofs.FilesFormed.{resolved-formed}
use Rattle.star_conditions.proofs.FilesNested.{resolved-nested}
use Rattle.star_trees.specs.WellFormed.{WellFormed}
use Rattle.star_trees.specs.declared.files.File.{File}
use Rattle.star_grammar.specs.Texts.{Spelled}
use Rattle.star_grammar.specs.declared.bare_statements.BareFile.{BareFile}
use Rattle.star_scopes.specs.Files.{resolved}
use Rattle.star_scopes.specs.declared.dialects.Dialect.{Dialect}

pub resolved-well_formed : (dialect : Dialect) (text : List ℕ) (tree : BareFile) (file : File)
    → Spelled text tree
    → resolved dialect tree.body ≡ Ok file
    → WellFormed file
resolved-well_formed dialect text tree file spelled is = record {
  indexes = resolved-indexes dialect tree.body file is;
  functions = resolved-functions dialect tree.body file is;
  variables = resolved-variables dialect tree.body file is;
  nested = resolved-nested dialect text tree file spelled is;
  forms = resolved-formed dialect text tree file spelled is;
}
