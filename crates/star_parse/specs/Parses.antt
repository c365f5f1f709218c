-- What a text is to each dialect: Bazel, ".bzl files" and "MODULE.bazel files".
use Rattle.std.specs.Prelude.{◌≡◌, ℕ, List, Option, Some, None, Result, Ok, Err}
use Rattle.bz_text.specs.Answers.{UnlessOutOfMemory}
use Rattle.bz_text.specs.declared.memory.Miss.{Miss}
use Rattle.star_trees.specs.declared.files.File.{File}
use Rattle.star_dialects.specs.declared.forms.Refused.{Refused}
use Rattle.star_dialects.specs.ExtensionFiles.{first_in_bzl}
use Rattle.star_dialects.specs.Forms.{form_text}
use Rattle.star_dialects.specs.ModuleFiles.{first_in_module}
use Rattle.star_grammar.specs.declared.bare_statements.BareFile.{BareFile}
use Rattle.star_grammar.specs.declared.bare_statements.BareStmt.{BareStmt}
use Rattle.star_grammar.specs.Texts.{Spelled}
use Rattle.star_lex.specs.declared.token.Token.{Token}
use Rattle.star_lex.specs.Tokens.{Lexes}
use Rattle.star_parse.specs.declared.parse.ParseFault.{ParseFault}
use Rattle.star_parse.specs.declared.parse.ParseFault.TheVariants.{Lex, Syntax, Dialect, Unbound}
use Rattle.star_scopes.specs.declared.dialects.Dialect as dialects
use Rattle.star_scopes.specs.declared.dialects.Dialect.TheVariants.{Extension, Module}
use Rattle.star_scopes.specs.declared.unbound.Unbound as unbounds
use Rattle.star_scopes.specs.Files.{resolved}

-- the first form of a file that its dialect refuses
abbrev pub first_form : dialects.Dialect → List BareStmt → Option Refused
first_form Extension body = first_in_bzl body
first_form Module body = first_in_module body

abbrev pub file_or_unbound : Result File unbounds.Unbound → Result File ParseFault
file_or_unbound (Ok file) = Ok file
file_or_unbound (Err unbound) = Err (Unbound unbound.line unbound.name)

abbrev pub unless_refused : Option Refused → Result File unbounds.Unbound → Result File ParseFault
unless_refused (Some refused) names = Err (Dialect refused.line (form_text refused.form))
unless_refused None names = file_or_unbound names

-- a tree in a dialect: the first form that is refused; where there is none the first name without a
-- binding; else the file with its names resolved
abbrev pub meaning_in : dialects.Dialect → List BareStmt → Result File ParseFault
meaning_in dialect body = unless_refused (first_form dialect body) (resolved dialect body)

-- the text spells a tree, which comes to this
abbrev pub IsMeaningOf : dialects.Dialect → List ℕ → Result File ParseFault → Type 0
IsMeaningOf dialect text what = (tree : BareFile) × Spelled text tree
    × (meaning_in dialect tree.body ≡ what)

-- Lex exactly where the text has no tokens, Syntax exactly where it has tokens and spells no tree,
-- else what its tree is in the dialect
abbrev pub IsFileOf : dialects.Dialect → List ℕ → Result File ParseFault → Type 0
IsFileOf dialect text (Ok file) = IsMeaningOf dialect text (Ok file)
IsFileOf dialect text (Err (Lex hint)) = (tokens : List Token) → Lexes text tokens → ⊥
IsFileOf dialect text (Err (Syntax hint)) =
    ((tokens : List Token) × Lexes text tokens) × ((tree : BareFile) → Spelled text tree → ⊥)
IsFileOf dialect text (Err (Dialect line form)) = IsMeaningOf dialect text (Err (Dialect line form))
IsFileOf dialect text (Err (Unbound line name)) = IsMeaningOf dialect text (Err (Unbound line name))

-- the same of a call that may run out of memory
abbrev pub Parses : dialects.Dialect → List ℕ → Result File (Miss ParseFault) → Type 0
Parses dialect text result = UnlessOutOfMemory (IsFileOf dialect text) result
