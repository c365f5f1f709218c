-- The root file's path.
use Rattle.std.proofs.Common.{◌≡◌, ℕ, List, [], Ok, codes, refl}
use Rattle.bz_base.specs.Paths.{joined, resolved}

pub joined-root_file : (here : List ℕ)
    → here ≡ []
    → joined here (codes "MODULE.bazel") ≡ Ok (codes "MODULE.bazel")
unfolding resolved
joined-root_file here e = rw e refl
