-- Names as variables.
use Rattle.std.specs.Prelude.{ℕ, List, length, Option, Some, None}
use Rattle.star_trees.specs.declared.trees.Var.{Var}
use Rattle.star_trees.specs.Variables.{Names, scope_and_slot, slot_of}

-- a slot, or another where there is none
abbrev pub slot_or : Option ℕ → ℕ → ℕ
slot_or (Some slot) other = slot
slot_or None other = other

-- a variable by the scope and the slot of its name, or the free name
abbrev pub variable_at : Names → List Names → List ℕ → Option (ℕ × ℕ) → Var
variable_at free scopes name
    (Some (scope, slot)) = record { name = name; scope = scope; slot = slot }
variable_at free scopes name None = record {
  name = name;
  scope = length scopes;
  slot = slot_or
      (slot_of free name) (length free);
}

-- The variable that a name is where some scopes stand round it: that of the innermost which binds
-- it, else a free name, whose scope stands behind those.
unfoldable pub variable : Names → List Names → List ℕ → Var
variable free scopes name = variable_at free scopes name (scope_and_slot scopes name)
