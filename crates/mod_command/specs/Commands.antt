-- The words of a call.
use Rattle.std.specs.Prelude.{ℕ, List, [], ◌∷◌, if◌then◌else◌, Option, Some, None, codes, bytes_eq}
use Rattle.mod_command.specs.declared.command.Command.{Command}
use Rattle.mod_command.specs.declared.command.Command.TheVariants.{Graph}

-- the command that a list of words spells: `graph` alone
abbrev pub command_of : List (List ℕ) → Option Command
command_of [] = None
command_of (word ∷ []) = if bytes_eq word (codes "graph") then Some Graph else None
command_of (word ∷ next ∷ words) = None
