use Rattle.std.proofs.Common.{◌≡◌, ◌∷◌, ◌++◌, take, string_bytes, flat_map}
use Rattle.bz_base.proofs.tree_path.push_further.Given as goal

abbrev pub invariant-loop-name : goal.invariant-loop-name
invariant-loop-name l =
    string_bytes l.text ≡ string_bytes l.initial.text
    ++ flat_map (λ further. 47 ∷ further) (take l.name-index l.names)
