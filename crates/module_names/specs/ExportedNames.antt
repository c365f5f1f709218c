-- Names that a file exports: Bazel, "Module extensions".
use Rattle.std.specs.Prelude.{ℕ, ◌==◌, Bool, false, ◌&&◌, not, List, [], ◌∷◌}
use Rattle.bz_base.specs.Names.{is_identifier}

-- the text begins with `_`, as names do that a file keeps for itself
abbrev pub is_private : List ℕ → Bool
is_private [] = false
is_private (b ∷ bs) = b == 95

-- an identifier that isn't private
abbrev pub is_exported_name : List ℕ → Bool
is_exported_name text = is_identifier text && not (is_private text)
