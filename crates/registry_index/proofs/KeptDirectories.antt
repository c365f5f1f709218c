-- Base directories that were kept, beside those that a tree says.
use Rattle.std.proofs.Common.{◌≡◌, ℕ, Bool, true, false, if◌then◌else◌, List, [], ◌∷◌, ◌++◌}
use Rattle.std.proofs.Common.{Option, None, Some, Result, Ok, Err, All, refl, ap, sym, ◌∙◌, subst}
use Rattle.std.proofs.lemmas.List.Elements.{All-head, All-tail, All-push}
use Rattle.std.proofs.lemmas.Slice.Eq.{bytes_eq-Decides}
use Rattle.std.specs.Str.{bytes_eq}
use Rattle.bz_base.specs.Paths.{joined}
use Rattle.bz_base.specs.declared.module_key.Key.{Key}
use Rattle.bz_base.specs.declared.refusals.Refusal.{Refusal}
use Rattle.bz_base.specs.declared.tree_path.BadPath.{BadPath}
use Rattle.bz_tree.specs.Places.{Files}
use Rattle.bz_tree.specs.declared.tree.Found.{Found}
use Rattle.bz_tree.specs.declared.tree.Found.TheVariants.{Bytes, Large, Listing, Absent}
use Rattle.source_files.specs.SourceFiles.{base_in}
use Rattle.source_files.specs.declared.source_file.BadSource.{BadSource}
use Rattle.registry_index.specs.AskedFiles.{Asked, after_steps, followed, found_for, keep}
use Rattle.registry_index.specs.AskedFiles.{asks}
use Rattle.registry_index.specs.KeptBases.{AreKept}
use Rattle.registry_index.specs.Registries.{base_file, directory_of}
use Rattle.registry_index.specs.Sources.{base_below, base_found, base_from, base_or_read, base_read}
use Rattle.registry_index.specs.Sources.{base_said, directory_at, kept_base, source_of, source_read}
use Rattle.registry_index.specs.declared.asked_files.RegistryBase.{RegistryBase}

IsKept : Files → RegistryBase → Type 0
IsKept look base = (key : Key) → (base_read look base.registry key).answer ≡ Ok base.directory

-- what was kept of a registry is what the tree says of it
kept-said : (look : Files) (registry directory : List ℕ) (key : Key) (bases : List RegistryBase)
    → AreKept look bases
    → kept_base registry bases ≡ Some directory
    → (base_read look registry key).answer ≡ Ok directory
kept-said look registry directory key [] kept found = absurd (cc found)
kept-said look registry directory key (base ∷ bases) kept found =
    by (bytes_eq registry base.registry) refl found
    (kept-said look registry directory key bases
    (All-tail (λ one. (any : Key) → (base_read look one.registry any).answer ≡ Ok one.directory)
    base bases kept))
  where
    by : (t : Bool)
        → bytes_eq registry base.registry ≡ t
        → (if t then Some base.directory else kept_base registry bases) ≡ Some directory
        → (kept_base registry bases ≡ Some directory
        → (base_read look registry key).answer ≡ Ok directory)
        → (base_read look registry key).answer ≡ Ok directory
    by true same there further =
        ap (λ one. (base_read look one key).answer)
        ((bytes_eq-Decides registry base.registry).0 same)
        ∙ All-head
        (λ one. (any : Key) → (base_read look one.registry any).answer ≡ Ok one.directory) base bases
        kept key
        ∙ ap Ok (cc there)
    by false same there further = further there

same-answer : (look : Files) (registry : List ℕ) (key : Key) (kept : Option (List ℕ))
    → ((directory : List ℕ)
    → kept ≡ Some directory
    → (base_read look registry key).answer ≡ Ok directory)
    → (followed (base_or_read look registry key kept).steps
    (base_or_read look registry key kept).answer (source_read look registry key)).answer
    ≡ (followed (base_read look registry key).steps (base_read look registry key).answer
    (source_read look registry key)).answer
same-answer look registry key None said = refl
same-answer look registry key (Some directory) said =
    sym (ap (λ answer. (followed (base_read look registry key).steps answer
    (source_read look registry key)).answer) (said directory refl))

pub kept_bases-answer : (look : Files) (registry : List ℕ) (key : Key) (asked : Asked)
    → AreKept look asked.bases
    → (source_of look registry key asked.bases).answer ≡ (source_of look registry key []).answer
unfolding source_of
kept_bases-answer look registry key asked kept =
    same-answer look registry key (kept_base registry asked.bases)
    (λ directory found. kept-said look registry directory key asked.bases kept found)

-- the base directory doesn't depend on the module whose source is asked for
said-at : (key other : Key) (directory : List ℕ) (place : Result (List ℕ) BadPath)
    → directory_at key place ≡ Ok directory
    → directory_at other place ≡ Ok directory
said-at key other directory (Ok path) e = e
said-at key other directory (Err bad) e = absurd (cc e)

said-base : (key other : Key) (own directory : List ℕ)
    (said : Result (Option (List ℕ)) BadSource)
    → base_from key own said ≡ Ok directory
    → base_from other own said ≡ Ok directory
said-base key other own directory (Ok None) e = e
said-base key other own directory (Ok (Some base)) e = said-at key other directory
    (joined own base) e
said-base key other own directory (Err bad) e = absurd (cc e)

said-found : (registry : List ℕ) (key other : Key) (own directory : List ℕ) (found : Found)
    → base_found registry key own found ≡ Ok directory
    → base_found registry other own found ≡ Ok directory
said-found registry key other own directory (Bytes bytes) e = said-base key other own directory
    (base_in bytes) e
said-found registry key other own directory Large e = absurd (cc e)
said-found registry key other own directory (Listing names) e = e
said-found registry key other own directory Absent e = e

said-below : (registry : List ℕ) (key other : Key) (directory : List ℕ) (found : Found)
    (place : Result (List ℕ) BadPath)
    → base_below registry key found (directory_at key place) ≡ Ok directory
    → base_below registry other found (directory_at other place) ≡ Ok directory
said-below registry key other directory found (Ok own) e = said-found registry key other own
    directory found e
said-below registry key other directory found (Err bad) e = absurd (cc e)

said-other : (registry : List ℕ) (key other : Key) (directory : List ℕ) (found : Found)
    → base_said registry key found ≡ Ok directory
    → base_said registry other found ≡ Ok directory
unfolding base_said
said-other registry key other directory found e = said-below registry key other directory found
    (joined [] (directory_of registry)) e

read-kept : (look : Files) (registry directory : List ℕ) (key : Key)
    → base_said registry key (found_for look (base_file registry)) ≡ Ok directory
    → IsKept look (record { registry = registry; directory = directory })
unfolding base_read IsKept
read-kept look registry directory key said other =
    ap (λ answer. (followed [] answer (keep registry)).answer)
    (said-other registry key other directory (found_for look (base_file registry)) said)

-- what a source leaves is kept, by what the registry says of its base
read-leaves : (look : Files) (registry : List ℕ) (key : Key) (asked : Asked)
    (said : Result (List ℕ) Refusal)
    → base_said registry key (found_for look (base_file registry)) ≡ said
    → AreKept look asked.bases
    → AreKept look (after_steps look (followed (followed (asks (base_file registry) ∷ [])
    (Ok (found_for look (base_file registry))) (λ found. followed [] said (keep registry))).steps
    (followed [] said (keep registry)).answer (source_read look registry key)).steps asked).bases
unfolding source_read IsKept
read-leaves look registry key asked (Ok directory) e kept =
    All-push (λ one. (any : Key) → (base_read look one.registry any).answer ≡ Ok one.directory)
    asked.bases (record { registry = registry; directory = directory }) kept
    (read-kept look registry directory key e)
read-leaves look registry key asked (Err refusal) e kept = kept

source-leaves : (look : Files) (registry : List ℕ) (key : Key) (asked : Asked)
    (kept : Option (List ℕ))
    → AreKept look asked.bases
    → AreKept look (after_steps look (followed (base_or_read look registry key kept).steps
    (base_or_read look registry key kept).answer (source_read look registry key)).steps asked).bases
unfolding source_read base_read
source-leaves look registry key asked (Some directory) are_kept = are_kept
source-leaves look registry key asked None are_kept =
    read-leaves look registry key asked (base_said registry key (found_for look (base_file
    registry))) refl are_kept

pub kept_bases-left : (look : Files) (registry : List ℕ) (key : Key) (asked : Asked)
    → AreKept look asked.bases
    → AreKept look (after_steps look (source_of look registry key asked.bases).steps asked).bases
unfolding source_of
kept_bases-left look registry key asked are_kept =
    source-leaves look registry key asked (kept_base registry asked.bases) are_kept
