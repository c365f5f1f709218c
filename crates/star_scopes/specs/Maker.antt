-- What a step of making a tree gives and leaves.
use Rattle.std.specs.Prelude.{◌≡◌, Result, IfOk, OnOk}
use Rattle.bz_text.specs.declared.memory.OutOfMemory.{OutOfMemory}
use Rattle.star_scopes.specs.declared.lists.Lists.{Lists}
use Rattle.star_scopes.specs.declared.maker.Maker.{Maker}

-- the value that is made, and the functions and loads with it
abbrev pub Makes : {A : Type 0} → A × Lists → Result A OutOfMemory → Maker → Type 0
Makes wanted result maker = IfOk result (λ value. wanted ≡ (value, maker.lists))

-- the same free names, and the same scopes round the tree
abbrev pub Keeps : {A : Type 0} → Result A OutOfMemory → Maker → Maker → Type 0
Keeps result old new = OnOk result ((new.free ≡ old.free) × (new.scopes ≡ old.scopes))
