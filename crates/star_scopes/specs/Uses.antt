-- Free names: those that no scope binds. Each stands once, in the order of its first use; the first
-- that has no meaning in the dialect is unbound.
use Rattle.std.specs.Prelude.{ℕ, List, [], ◌∷◌, Option, Some, None, Result, Ok, Err, if◌then◌else◌}
use Rattle.star_grammar.specs.declared.bare_expressions.BareName.{BareName}
use Rattle.star_trees.specs.Variables.{Names, scope_and_slot, with_binding}
use Rattle.star_scopes.specs.declared.dialects.Dialect.{Dialect}
use Rattle.star_scopes.specs.declared.unbound.Unbound.{Unbound}
use Rattle.star_scopes.specs.FreeNames.{has_free}

-- the free names so far, after some more uses; or the first use that is unbound
abbrev pub Uses : Type 0
Uses = Names → Result Names Unbound

abbrev pub then_uses : Result Names Unbound → Uses → Result Names Unbound
then_uses (Ok names) uses = uses names
then_uses (Err unbound) uses = Err unbound

infixl 10 ◌>>◌
abbrev pub ◌>>◌ : Uses → Uses → Uses
uses >> more = λ names. then_uses (uses names) more

abbrev pub no_use : Uses
no_use = λ names. Ok names

abbrev pub each_uses : List Uses → Uses
each_uses [] = no_use
each_uses (uses ∷ more) = uses >> each_uses more

-- the use of a name that no scope binds
abbrev pub free_use : Dialect → BareName → Uses
free_use dialect name = λ names.
    if has_free dialect name.name then Ok (with_binding names name.name)
    else Err (record { line = name.line; name = name.name })

abbrev pub use_found : Dialect → BareName → Option (ℕ × ℕ) → Uses
use_found dialect name (Some variable) = no_use
use_found dialect name None = free_use dialect name

-- the use of a name where some scopes stand round it
unfoldable pub name_uses : BareName → Dialect → List Names → Uses
name_uses name dialect scopes = use_found dialect name (scope_and_slot scopes name.name)
