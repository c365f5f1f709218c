-- What comes to a usage keeps the parts of a file good.
use Rattle.std.proofs.Common.{◌≡◌, ℕ, zero, suc, List, [], ◌∷◌, Option, Some, None}
use Rattle.std.proofs.Common.{refl, subst, sym}
use Rattle.std.proofs.lemmas.List.Elements.{All-append, All-cons, All-head, All-nil, All-tail}
use Rattle.std.specs.Prelude.{All, slice_get}
use Rattle.bz_base.specs.ModuleDeclarations.{IsImport, IsPart, IsRepoChange, IsTag}
use Rattle.bz_base.specs.ModuleDeclarations.{IsUsage}
use Rattle.bz_base.specs.declared.declarations.Part.{Part}
use Rattle.bz_base.specs.declared.declarations.Part.TheVariants as part
use Rattle.bz_base.specs.declared.declarations.Usage.{Usage}
use Rattle.module_arguments.specs.declared.name_pairs.NamePair.{NamePair}
use Rattle.module_directives.specs.Parts.{addition_of, names_added, part_added, part_with}
use Rattle.module_directives.specs.Parts.{parts_with, usage_with}
use Rattle.module_directives.specs.declared.parts.Addition.{Addition}
use Rattle.module_directives.specs.declared.parts.Addition.TheVariants as addition
use Rattle.module_directives.specs.declared.parts.Purpose.{Purpose}
use Rattle.module_directives.specs.declared.parts.Purpose.TheVariants as purpose
use Rattle.module_laws.proofs.FitNames.{IsPair}

-- a good tag, import or change
abbrev pub IsAddition : Addition → Type 0
IsAddition (addition.Tag tag) = IsTag tag
IsAddition (addition.Import one) = IsImport one
IsAddition (addition.Change change) = IsRepoChange change

single : {X : Type 0} (P : X → Type 0) (x : X) → P x → All P (x ∷ [])
single P x h = All-cons P x [] h (All-nil P)

usage_keeps : (one : Addition) (usage : Usage)
    → IsAddition one
    → IsUsage usage
    → IsUsage (usage_with one usage)
usage_keeps (addition.Tag tag) usage good kept =
    record {
      exported = kept.exported;
      tags =
          All-append IsTag usage.tags (record tag { dev = usage.dev } ∷ []) kept.tags
          (single IsTag (record tag { dev = usage.dev })
          (record { class_named = good.class_named; attributes = good.attributes }));
      imports = kept.imports;
      changes = kept.changes;
    }
usage_keeps (addition.Import one) usage good kept =
    record {
      exported = kept.exported;
      tags = kept.tags;
      imports =
          All-append IsImport usage.imports (one ∷ []) kept.imports (single IsImport one good);
      changes = kept.changes;
    }
usage_keeps (addition.Change change) usage good kept =
    record {
      exported = kept.exported;
      tags = kept.tags;
      imports = kept.imports;
      changes =
          All-append IsRepoChange usage.changes (change ∷ []) kept.changes
          (single IsRepoChange change good);
    }

part_keeps : (one : Addition) (old : Part) → IsAddition one → IsPart old → IsPart (part_with one old)
part_keeps one (part.Usage usage) good kept = usage_keeps one usage good kept
part_keeps one (part.Declared declared) good kept = kept

behind_first : (index : ℕ) (one : Addition) (first : Part) (parts : List Part) (old : Option Part)
    → parts_with old (suc index) one (first ∷ parts) ≡ first ∷ parts_with old index one parts
behind_first index one first parts None = refl
behind_first index one first parts (Some old) = refl

pub part_added_keeps : (index : ℕ) (one : Addition) (parts : List Part)
    → IsAddition one
    → All IsPart parts
    → All IsPart (part_added index one parts)
part_added_keeps zero one [] good all = all
part_added_keeps (suc index) one [] good all = all
part_added_keeps zero one (first ∷ parts) good all =
    All-cons IsPart (part_with one first) parts
    (part_keeps one first good (All-head IsPart first parts all)) (All-tail IsPart first parts all)
part_added_keeps (suc index) one (first ∷ parts) good all =
    subst (All IsPart) (sym (behind_first index one first parts (slice_get parts index)))
    (All-cons IsPart first (part_added index one parts) (All-head IsPart first parts all)
    (part_added_keeps index one parts good (All-tail IsPart first parts all)))

name_good : (for : Purpose) (line : ℕ) (pair : NamePair)
    → IsPair pair
    → IsAddition (addition_of for line pair)
name_good purpose.Import line pair good = good
name_good (purpose.Change inject) line pair good = good

pub names_added_keep : (index : ℕ) (for : Purpose) (line : ℕ) (pairs : List NamePair)
    (parts : List Part)
    → All IsPair pairs
    → All IsPart parts
    → All IsPart (names_added index for line pairs parts)
names_added_keep index for line [] parts good all = all
names_added_keep index for line (pair ∷ pairs) parts good all =
    names_added_keep index for line pairs (part_added index (addition_of for line pair) parts)
    (All-tail IsPair pair pairs good)
    (part_added_keeps index (addition_of for line pair) parts
    (name_good for line pair (All-head IsPair pair pairs good)) all)
