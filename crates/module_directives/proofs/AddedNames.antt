-- Names that come to a part, one behind another.
use Rattle.std.proofs.Common.{◌≡◌, ℕ, List, [], ◌∷◌, ◌++◌, refl}
use Rattle.bz_base.specs.declared.declarations.Part.{Part}
use Rattle.module_arguments.specs.declared.name_pairs.NamePair.{NamePair}
use Rattle.module_directives.specs.Parts.{addition_of, names_added, part_added}
use Rattle.module_directives.specs.declared.parts.Purpose.{Purpose}

-- one name more
pub one_name_more : (index : ℕ) (for : Purpose) (line : ℕ) (pairs : List NamePair) (pair : NamePair)
    (parts : List Part)
    → names_added index for line (pairs ++ pair ∷ []) parts
    ≡ part_added index (addition_of for line pair) (names_added index for line pairs parts)
one_name_more index for line [] pair parts = refl
one_name_more index for line (one ∷ pairs) pair parts =
    one_name_more index for line pairs pair (part_added index (addition_of for line one) parts)
